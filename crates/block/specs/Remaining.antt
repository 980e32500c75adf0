-- The items of a block of a written table, read one by one from its part. Assumes nothing.
use Rattle.std.specs.Prelude.{ℕ, ◌≤◌, ◌<◌, ◌≡◌, List, [], ◌∷◌, ◌++◌, ℤ, length}
use Rattle.std.proofs.Common.{arith, sym, ◌∙◌}
use Rattle.std.proofs.Math.Path.{ap, subst}
use Rattle.std.proofs.Math.Dec.{T}
use Rattle.std.proofs.Math.IntN.{nat_abs}
use Rattle.model.specs.Limits.{paper, comparison_in_range}
use Rattle.model.specs.Task.{written, Condition, Kind, assign, increase, decrease, Effect, Item, need, add, delete, condition, effect, Block}
use Rattle.model.specs.Command.{kind_code, items_bytes}
use Rattle.model.specs.Seen.{comparison_of, kind_of}
use Rattle.model.proofs.Theorems.Printing.Operands.{comparison_back, comparison_range, kind_back}
use Rattle.block.specs.Bytes.{At, at_length}
use Rattle.block.specs.Items.{Ranges, Left, Readable, readable, left_end, Followed, ConditionIs, EffectIs, ConditionFound, EffectFound, Found, behind, Next}
use Rattle.block.specs.Terms.{SumAt, terms_at, terms_read}
use Rattle.block.specs.declared.ItemAt.{ItemAt}
use Rattle.block.specs.declared.ItemAt.TheVariants.{Need, Add, Delete, Condition as ConditionAt, Effect as EffectAt, End}

-- ---- an item as it stands in a part

-- the item, or none at the block's end
unfoldable pub items_of : List ℕ → ItemAt → Block
items_of part (Need p next) = need p ∷ []
items_of part (Add p next) = add p ∷ []
items_of part (Delete p next) = delete p ∷ []
items_of part (ConditionAt o c from n next) = condition (record { terms = terms_at part from n; comparison = comparison_of o; bound = c }) ∷ []
items_of part (EffectAt kd v c from n next) = effect (record { kind = kind_of kd; var = v; terms = terms_at part from n; base = c }) ∷ []
items_of part End = []

-- what writing it needs
pub record ConditionWritable (part : List ℕ) (o : ℕ) (c : ℤ) (from n : ℕ) : Type 0 where
  pub sum : SumAt part from n
  -- the operator's number is in the range that reading lets pass
  pub comparison : T (comparison_in_range written o)
  pub bound : nat_abs c ≤ 1_000_000

pub record EffectWritable (part : List ℕ) (kd v : ℕ) (c : ℤ) (from n : ℕ) : Type 0 where
  pub sum : SumAt part from n
  pub kind : kd ≤ 2
  pub var : v < 16
  pub base : nat_abs c ≤ 1_000_000

abbrev pub Writable : List ℕ → ItemAt → Type 0
Writable part (Need p next) = p < 256
Writable part (Add p next) = p < 256
Writable part (Delete p next) = p < 256
Writable part (ConditionAt o c from n next) = ConditionWritable part o c from n
Writable part (EffectAt kd v c from n next) = EffectWritable part kd v c from n
Writable part End = Unit {0}

-- ---- the items that are left

pub record Remaining (part : List ℕ) (at : ℕ) (rest : Block) : Type 0 where
  pub props : ℕ
  pub vars : ℕ
  pub few_props : props ≤ 120
  pub few_vars : vars ≤ 16
  pub left : Left (record { form = written; props = props; vars = vars }) part at rest

pub remaining_readable : {part : List ℕ} {at : ℕ} {rest : Block} → Remaining part at rest → Readable part at
remaining_readable r = readable r.left

-- at the end there are none
pub remaining_none : {part : List ℕ} {at : ℕ} {rest : Block} → length part ≤ at → Remaining part at rest → rest ≡ []
remaining_none h r = left_end h r.left

-- the first of them, with what is left behind it
pub record FirstItem (part : List ℕ) (i : ItemAt) (rest : Block) : Type 0 where
  pub others : Block
  pub is : rest ≡ items_of part i ++ others
  pub left : Remaining part (behind i) others
  pub writable : Writable part i

kind_small : (k : Kind) → kind_code k ≤ 2
unfolding kind_code
kind_small assign = omega arith
kind_small increase = omega arith
kind_small decrease = omega arith

module _ {part : List ℕ} {at : ℕ} {rest : Block} (r : Remaining part at rest) where
  abbrev ranges : Ranges
  ranges = record { form = written; props = r.props; vars = r.vars }

  behind_it : {next : ℕ} {i : Item} (f : Followed ranges part next rest i) → Remaining part next f.others
  behind_it f = record { props = r.props; vars = r.vars; few_props = r.few_props; few_vars = r.few_vars; left = f.left }

  condition_is : {o : ℕ} {c : ℤ} {from n : ℕ} {q : Condition} → ConditionIs ranges part o c from n q → q ≡ record { terms = terms_at part from n; comparison = comparison_of o; bound = c }
  condition_is {q = q} d =
      let same : q.comparison ≡ comparison_of _ = sym (comparison_back q.comparison) ∙ ap comparison_of d.comparison in
      λ i. record { terms = sym (terms_read d.terms) i; comparison = same i; bound = d.bound i }

  effect_is : {kd v : ℕ} {c : ℤ} {from n : ℕ} {q : Effect} → q.var ≡ v → EffectIs ranges part kd c from n q → q ≡ record { kind = kind_of kd; var = v; terms = terms_at part from n; base = c }
  effect_is {q = q} e d =
      let same : q.kind ≡ kind_of _ = sym (kind_back q.kind) ∙ ap kind_of d.kind in
      λ i. record { kind = same i; var = e i; terms = sym (terms_read d.terms) i; base = d.base i }

  first_condition : (o : ℕ) (c : ℤ) (from n next : ℕ) → ConditionFound ranges part o c from n next rest → FirstItem part (ConditionAt o c from n next) rest
  unfolding items_of behind paper
  first_condition o c from n next f =
      record {
        others = f.followed.others;
        is = f.followed.is ∙ ap (λ (x : Condition). condition x ∷ f.followed.others) (condition_is f.is);
        left = behind_it f.followed;
        writable =
            record {
              sum = record { ranges = ranges; few = r.few_vars; ts = f.it.terms; terms = f.is.terms };
              comparison = subst (λ (m : ℕ). T (comparison_in_range written m)) f.is.comparison (comparison_range written f.it.comparison tt);
              bound = subst (λ (z : ℤ). nat_abs z ≤ 1_000_000) f.is.bound f.followed.ok.bound;
            };
      }

  first_effect : (kd v : ℕ) (c : ℤ) (from n next : ℕ) → EffectFound ranges part kd v c from n next rest → FirstItem part (EffectAt kd v c from n next) rest
  unfolding items_of behind paper
  first_effect kd v c from n next f =
      record {
        others = f.followed.others;
        is = f.followed.is ∙ ap (λ (x : Effect). effect x ∷ f.followed.others) (effect_is f.var f.is);
        left = behind_it f.followed;
        writable =
            record {
              sum = record { ranges = ranges; few = r.few_vars; ts = f.it.terms; terms = f.is.terms };
              kind = omega (arith, f.is.kind, kind_small f.it.kind);
              var = omega (arith, f.var, f.followed.ok.var, r.few_vars);
              base = subst (λ (z : ℤ). nat_abs z ≤ 1_000_000) f.is.base f.followed.ok.base;
            };
      }

  pub first_item : at < length part → (i : ItemAt) → Next part at i → FirstItem part i rest
  unfolding items_of behind
  first_item h i n = go i (n.found ranges rest r.left)
    where
      go : (j : ItemAt) → Found ranges part rest j → FirstItem part j rest
      go (Need p next) f = record { others = f.others; is = f.is; left = behind_it f; writable = omega (arith, f.ok, r.few_props) }
      go (Add p next) f = record { others = f.others; is = f.is; left = behind_it f; writable = omega (arith, f.ok, r.few_props) }
      go (Delete p next) f = record { others = f.others; is = f.is; left = behind_it f; writable = omega (arith, f.ok, r.few_props) }
      go (ConditionAt o c from n next) f = first_condition o c from n next f
      go (EffectAt kd v c from n next) f = first_effect kd v c from n next f
      go End f =
          absurd (unfold items_bytes in (omega (arith, at_length (subst (λ (b : Block). At part at (items_bytes b)) f r.left.bytes))))
