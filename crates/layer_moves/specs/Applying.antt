-- A layer in two arrays while the items of a block are taken in: propositions that are added, values that are raised.
-- Assumes nothing.
use Rattle.std.specs.Prelude.{ℕ, ◌<◌, ◌≡◌, Bool, true, false, cond, not, ◌||◌, T, eqb, ℤ, pos, get_or, set}
use Rattle.std.proofs.Common.{arith, ◌∙◌, eq-eqb, ne_eqb, get_or-set_same, get_or-set_other}
use Rattle.std.proofs.Math.Path.{refl, sym, ap, subst}
use mathlib.Core.List.{List, [], ◌∷◌}
use Rattle.std.proofs.Math.Option.{Option, none, some}
use Rattle.std.proofs.Math.ListN.{length, length-set}
use Rattle.std.proofs.Math.Decide.{ℕ_discrete}
use Rattle.model.specs.Lists.{any}
use Rattle.model.specs.Task.{normal, Effect, Item, need, add, delete, condition, effect, Block, is_add, adds, effect_on, clashes}
use Rattle.model.specs.Layer.{Value, Layer, highest, offered}
use Rattle.model.specs.Theorems.Reading.WellFormed.{Once}
use Rattle.model.proofs.Theorems.Laws.Booleans.{true_t, false_not}
use Rattle.model.specs.Theorems.Layers.Order.{◌⊑◌}
use Rattle.model.proofs.Theorems.Layers.Order.{⊑_trans, highest_left}
use Rattle.layer_memory.specs.Arrays.{Truths, Values, encoded_same, truths_same, values_same, effect_size}
use Rattle.layer_moves.specs.Raising.{IsRaised, highest_old}
use Rattle.block.specs.Items.{Ranges, Left, Followed, EffectFound}
use Rattle.block.specs.Sums.{Encoded, LayerRow}

-- ---- the items of a block, one by one

-- G is what the propositions are, F what the values are, once the items that are left are taken in
pub record Applying (k : Ranges) (part : List ℕ) (l : Layer) (G : ℕ → Bool) (F : ℕ → Value) (at : ℕ) (flags : List Bool) (row : List ℤ) : Type 0 where
  pub rest : Block
  pub left : Left k part at rest
  pub once : Once rest
  pub h : ℕ → Bool
  pub truths : Truths k.props flags h
  pub gains : (p : ℕ) → (h p || adds p rest) ≡ G p
  pub f : ℕ → Value
  pub values : Values effect_size k.vars row f
  pub above : (v : ℕ) → l.val v ⊑ f v
  pub raises : (v : ℕ) → highest (f v) (offered l v (effect_on v rest)) ≡ F v

pub applying_start :
    {k : Ranges} {part : List ℕ} {l : Layer} {h : ℕ → Bool} {f : ℕ → Value} {at : ℕ} {b : Block} {flags : List Bool} {row : List ℤ}
    → Left k part at b
    → Once b
    → Truths k.props flags h
    → Values effect_size k.vars row f
    → ((v : ℕ) → l.val v ⊑ f v)
    → Applying k part l (λ p. h p || adds p b) (λ v. highest (f v) (offered l v (effect_on v b))) at flags row
applying_start {h} {f} {b} left once t v a =
    record { rest = b; left = left; once = once; h = h; truths = t; gains = λ p. refl; f = f; values = v; above = a; raises = λ u. refl }

-- an item that neither adds a proposition nor changes a value
unfoldable pub inert : Item → Bool
inert (need p) = true
inert (add p) = false
inert (delete p) = true
inert (condition c) = true
inert (effect e) = false

inert_adds : (p : ℕ) (i : Item) (b : Block) → T (inert i) → adds p (i ∷ b) ≡ adds p b
unfolding inert adds any is_add
inert_adds p (need q) b t = refl
inert_adds p (add q) b t = absurd t
inert_adds p (delete q) b t = refl
inert_adds p (condition c) b t = refl
inert_adds p (effect e) b t = absurd t

inert_effect : (v : ℕ) (i : Item) (b : Block) → T (inert i) → effect_on v (i ∷ b) ≡ effect_on v b
unfolding inert effect_on
inert_effect v (need q) b t = refl
inert_effect v (add q) b t = absurd t
inert_effect v (delete q) b t = refl
inert_effect v (condition c) b t = refl
inert_effect v (effect e) b t = absurd t

add_adds : (p q : ℕ) (b : Block) → adds q (add p ∷ b) ≡ (eqb p q || adds q b)
unfolding adds any is_add
add_adds p q b = refl

effect_adds : (p : ℕ) (e : Effect) (b : Block) → adds p (effect e ∷ b) ≡ adds p b
unfolding adds any is_add
effect_adds p e b = refl

add_effect : (v p : ℕ) (b : Block) → effect_on v (add p ∷ b) ≡ effect_on v b
unfolding effect_on
add_effect v p b = refl

effect_here : (v : ℕ) (e : Effect) (b : Block) → e.var ≡ v → effect_on v (effect e ∷ b) ≡ some e
unfolding effect_on
effect_here v e b p = rw (eq-eqb e.var v p, effect_on) refl

effect_other : (v : ℕ) (e : Effect) (b : Block) → (e.var ≡ v → ⊥) → effect_on v (effect e ∷ b) ≡ effect_on v b
unfolding effect_on
effect_other v e b p = rw (ne_eqb e.var v p, effect_on) refl

-- "a move has one effect at most on a variable"
no_second : (v : ℕ) (e : Effect) (b : Block) → e.var ≡ v → T (not (any (clashes (effect e)) b)) → effect_on v b ≡ none
unfolding any clashes effect_on
no_second v e [] p t = refl
no_second v e (need q ∷ b) p t = no_second v e b p t
no_second v e (add q ∷ b) p t = no_second v e b p t
no_second v e (delete q ∷ b) p t = no_second v e b p t
no_second v e (condition c ∷ b) p t = no_second v e b p t
no_second v e (effect g ∷ b) p t = go (eqb e.var g.var) (ap (λ (u : ℕ). eqb u g.var) p) t (no_second v e b p)
  where
    flip : (a c : ℕ) → eqb a c ≡ false → eqb c a ≡ false
    flip a c h = ne_eqb c a (λ q. false_not h (true_t (eq-eqb a c (sym q))))

    go : (s : Bool) → s ≡ eqb v g.var → T (not (s || any (clashes (effect e)) b)) → (T (not (any (clashes (effect e)) b)) → effect_on v b ≡ none) → effect_on v (effect g ∷ b) ≡ none
    go true same u later = absurd u
    go false same u later = rw (flip v g.var (sym same), effect_on) (later u)

or_swap : (a b c : Bool) → ((a || b) || c) ≡ (b || (a || c))
or_swap true true c = refl
or_swap true false c = refl
or_swap false true c = refl
or_swap false false c = refl

module _ {k : Ranges} {part : List ℕ} {l : Layer} {G : ℕ → Bool} {F : ℕ → Value} {at : ℕ} {flags : List Bool} {row : List ℤ} (a : Applying k part l G F at flags row) where
  once_first : {i : Item} {o : Block} → a.rest ≡ i ∷ o → T (not (any (clashes i) o)) × Once o
  once_first e = subst Once e a.once

  pub applying_skip : {after : ℕ} {i : Item} → Followed k part after a.rest i → T (inert i) → Applying k part l G F after flags row
  applying_skip {after} {i} g t =
      record {
        rest = g.others;
        left = g.left;
        once = (once_first g.is).1;
        h = a.h;
        truths = a.truths;
        gains = λ p. ap (λ (x : Bool). a.h p || x) (sym (ap (adds p) g.is ∙ inert_adds p i g.others t)) ∙ a.gains p;
        f = a.f;
        values = a.values;
        above = a.above;
        raises = λ v. ap (λ (x : Option Effect). highest (a.f v) (offered l v x)) (sym (ap (effect_on v) g.is ∙ inert_effect v i g.others t)) ∙ a.raises v;
      }

  -- an added proposition
  pub applying_add : {after p : ℕ} → Followed k part after a.rest (add p) → Applying k part l G F after (set flags p true) row
  applying_add {after} {p} g =
      record {
        rest = g.others;
        left = g.left;
        once = (once_first g.is).1;
        h = λ q. eqb p q || a.h q;
        truths = record { long = omega (arith, length-set flags p true, a.truths.long); same = λ q h. marked q h (ℕ_discrete p q) };
        gains = λ q. or_swap (eqb p q) (a.h q) (adds q g.others) ∙ ap (λ (x : Bool). a.h q || x) (sym (ap (adds q) g.is ∙ add_adds p q g.others)) ∙ a.gains q;
        f = a.f;
        values = a.values;
        above = a.above;
        raises = λ v. ap (λ (x : Option Effect). highest (a.f v) (offered l v x)) (sym (ap (effect_on v) g.is ∙ add_effect v p g.others)) ∙ a.raises v;
      }
    where
      marked : (q : ℕ) → q < k.props → Dec (p ≡ q) → get_or (set flags p true) q false ≡ (eqb p q || a.h q)
      marked q h (yes e) =
          subst (λ (r : ℕ). get_or (set flags p true) r false ≡ (eqb p q || a.h q)) e
          (get_or-set_same flags p true false (omega (arith, a.truths.long, e)) ∙ sym (ap (λ (x : Bool). x || a.h q) (eq-eqb p q e)))
      marked q h (no e) =
          get_or-set_other flags p q true false (λ r. e (sym r)) ∙ a.truths.same q h ∙ sym (ap (λ (x : Bool). x || a.h q) (ne_eqb p q e))

  module _ {kind v : ℕ} {c : ℤ} {from n after : ℕ} (g : EffectFound k part kind v c from n after a.rest) where
    -- what the value of u becomes
    lifted : ℕ → Value
    lifted u = cond (eqb v u) (highest (a.f u) (offered l u (some g.it))) (a.f u)

    lifted_here : (u : ℕ) → v ≡ u → lifted u ≡ highest (a.f u) (offered l u (some g.it))
    unfolding lifted
    lifted_here u e = rw (eq-eqb v u e) refl

    lifted_other : (u : ℕ) → (v ≡ u → ⊥) → lifted u ≡ a.f u
    unfolding lifted
    lifted_other u e = rw (ne_eqb v u e) refl

    rest_is : a.rest ≡ effect g.it ∷ g.followed.others
    rest_is = g.followed.is

    -- a raised value
    pub applying_effect : {row' : List ℤ} → k.form ≡ normal → {old : List ℤ} → LayerRow k.vars old l.val → IsRaised part kind v c from n old row row' → Applying k part l G F after flags row'
    unfolding offered
    applying_effect {row'} form {old} old_row r =
        record {
          rest = g.followed.others;
          left = g.followed.left;
          once = (once_first rest_is).1;
          h = a.h;
          truths = a.truths;
          gains = λ p. ap (λ (x : Bool). a.h p || x) (sym (ap (adds p) rest_is ∙ effect_adds p g.it g.followed.others)) ∙ a.gains p;
          f = lifted;
          values =
              record {
                long = omega (arith, ap length r.is, length-set row v r.worth, a.values.long);
                each = λ u h. subst (λ (w : List ℤ). Encoded effect_size (lifted u) (get_or w u (pos 0))) (sym r.is) (each u h (ℕ_discrete v u));
              };
          above = λ u. up u (ℕ_discrete v u);
          raises = λ u. raised u (ℕ_discrete v u);
        }
      where
        each : (u : ℕ) → u < k.vars → Dec (v ≡ u) → Encoded effect_size (lifted u) (get_or (set row v r.worth) u (pos 0))
        each u h (yes e) =
            subst (λ (w : ℕ). Encoded effect_size (lifted w) (get_or (set row v r.worth) w (pos 0))) e
            (subst (Encoded effect_size (lifted v)) (sym (get_or-set_same row v r.worth (pos 0) (omega (arith, a.values.long, e))))
            (encoded_same (sym (lifted_here v refl)) (r.right k l after a.rest g (a.f v) form old_row (a.values.each v (omega (arith, e))))))
        each u h (no e) =
            subst (Encoded effect_size (lifted u)) (sym (get_or-set_other row v u r.worth (pos 0) (λ q. e (sym q)))) (encoded_same (sym (lifted_other u e)) (a.values.each u h))

        up : (u : ℕ) → Dec (v ≡ u) → l.val u ⊑ lifted u
        up u (yes e) = subst (λ (x : Value). l.val u ⊑ x) (sym (lifted_here u e)) (⊑_trans (a.above u) (highest_left (a.f u) (offered l u (some g.it))))
        up u (no e) = subst (λ (x : Value). l.val u ⊑ x) (sym (lifted_other u e)) (a.above u)

        raised : (u : ℕ) → Dec (v ≡ u) → highest (lifted u) (offered l u (effect_on u g.followed.others)) ≡ F u
        raised u (yes e) =
            ap (λ (o : Option Effect). highest (lifted u) (offered l u o)) (no_second u g.it g.followed.others (g.var ∙ e) (once_first rest_is).0)
            ∙ highest_old (up u (yes e))
            ∙ lifted_here u e
            ∙ ap (λ (o : Option Effect). highest (a.f u) (offered l u o)) (sym (ap (effect_on u) rest_is ∙ effect_here u g.it g.followed.others (g.var ∙ e)))
            ∙ a.raises u
        raised u (no e) =
            ap (λ (x : Value). highest x (offered l u (effect_on u g.followed.others))) (lifted_other u e)
            ∙ ap (λ (o : Option Effect). highest (a.f u) (offered l u o)) (sym (ap (effect_on u) rest_is ∙ effect_other u g.it g.followed.others (λ q. e (sym g.var ∙ q))))
            ∙ a.raises u

  -- at the end all items are taken in
  or_none : (x : Bool) → (x || false) ≡ x
  or_none true = refl
  or_none false = refl

  pub applying_truths : a.rest ≡ [] → Truths k.props flags G
  unfolding adds any
  applying_truths e = truths_same (λ p h. sym (or_none (a.h p)) ∙ ap (λ (b : Block). a.h p || adds p b) (sym e) ∙ a.gains p) a.truths

  pub applying_values : a.rest ≡ [] → Values effect_size k.vars row F
  unfolding effect_on offered
  applying_values e = values_same (λ v h. sym (highest_old (a.above v)) ∙ ap (λ (b : Block). highest (a.f v) (offered l v (effect_on v b))) (sym e) ∙ a.raises v) a.values
