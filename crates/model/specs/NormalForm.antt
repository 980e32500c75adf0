-- The normal form of a task and of a state (document 01, "Normal form").
-- Assumes nothing.
use Rattle.std.specs.Prelude.{ℕ, ◌+◌, ◌*◌, ◌/◌, ◌%◌, cond, List, [], ◌∷◌, ◌++◌, map, eqb, ℤ, pos, neg_ℤ, ◌+ℤ◌, ◌-ℤ◌}
use Rattle.std.specs.Int.Signed.{lt_z}
use Rattle.model.specs.Task.{Term, kept, Comparison, at_least, above, at_most, below, equal, Kind, assign, increase, decrease, Item, need, add, delete, condition, effect, Block, Task}
use Rattle.model.specs.Move.{State}

-- −S
unfoldable pub negated : List Term → List Term
negated [] = []
negated (t ∷ ts) = record { var = t.var; weight = neg_ℤ t.weight } ∷ negated ts

-- "Signed variable 2i is v_i and 2i+1 is −v_i. A weight w above 0 becomes w on 2i, below 0 becomes −w on 2i+1."
unfoldable pub signed_term : Term → Term
signed_term t =
    cond (lt_z (pos 0) t.weight)
    (record { var = 2 * t.var; weight = t.weight })
    (record { var = 2 * t.var + 1; weight = neg_ℤ t.weight })

-- the signed terms of a sum; of weight 0, "the normal form drops it"
unfoldable pub signed_sum : List Term → List Term
signed_sum ts = map signed_term (kept ts)

-- the normal condition S ≥ c
unfoldable pub least : List Term → ℤ → Item
least ts c = condition (record { terms = signed_sum ts; comparison = at_least; bound = c })

-- "Sum S: ≥ c stays; > c is S ≥ c+1; ≤ c is −S ≥ −c; < c is −S ≥ 1−c; = c is S ≥ c, then −S ≥ −c."
unfoldable pub normal_condition : Comparison → List Term → ℤ → Block
normal_condition at_least ts c = least ts c ∷ []
normal_condition above ts c = least ts (c +ℤ pos 1) ∷ []
normal_condition at_most ts c = least (negated ts) (neg_ℤ c) ∷ []
normal_condition below ts c = least (negated ts) (pos 1 -ℤ c) ∷ []
normal_condition equal ts c = least ts c ∷ least (negated ts) (neg_ℤ c) ∷ []

-- "Each effect on v_i is written on 2i, then mirrored on 2i+1."
unfoldable pub mirrored : Kind → ℕ → List Term → ℤ → Block
mirrored k v ts c =
    effect (record { kind = k; var = 2 * v; terms = signed_sum ts; base = c })
    ∷ effect (record { kind = k; var = 2 * v + 1; terms = signed_sum (negated ts); base = neg_ℤ c })
    ∷ []

-- "v −= e is v += −e."
unfoldable pub normal_effect : Kind → ℕ → List Term → ℤ → Block
normal_effect assign v ts c = mirrored assign v ts c
normal_effect increase v ts c = mirrored increase v ts c
normal_effect decrease v ts c = mirrored increase v (negated ts) (neg_ℤ c)

-- "All else keeps its order, deletes too."
unfoldable pub normal_item : Item → Block
normal_item (need p) = need p ∷ []
normal_item (add p) = add p ∷ []
normal_item (delete p) = delete p ∷ []
normal_item (condition c) = normal_condition c.comparison c.terms c.bound
normal_item (effect e) = normal_effect e.kind e.var e.terms e.base

unfoldable pub normal_block : Block → Block
normal_block [] = []
normal_block (i ∷ b) = normal_item i ++ normal_block b

unfoldable pub normal_task : Task → Task
normal_task k =
    record { props = k.props; vars = 2 * k.vars; moves = map normal_block k.moves; goal = normal_block k.goal }

-- the values of the signed variables
unfoldable pub normal_state : State → State
normal_state s =
    record { has = s.has; val = λ j. cond (eqb (j % 2) 0) (s.val (j / 2)) (neg_ℤ (s.val (j / 2))) }
