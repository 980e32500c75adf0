-- The plan: wants, the moves taken for them, counts and records (document 01, "Plan"); the helpful moves (document 02, request 6).
-- Assumes nothing.
use Rattle.std.specs.Prelude.{ℕ, zero, suc, ◌+◌, ◌-◌, ◌*◌, ◌^◌, ◌/◌, ◌%◌, max, Bool, true, false, cond, not, ◌&&◌, ◌||◌, List, [], ◌∷◌, ◌++◌, eqb, ℤ, pos, nat_abs, ◌-ℤ◌, length, replicate}
use Rattle.std.proofs.Math.Option.{Option, none, some}
use Rattle.integer.specs.Linear.{up, larger}
use Rattle.integer.specs.Ceiling.{ceiling}
use Rattle.model.specs.Lists.{any, first_from, fold_below}
use Rattle.model.specs.Task.{Term, Kind, assign, increase, decrease, Effect, Item, need, add, delete, condition, effect, Block, Task, adds, effect_on}
use Rattle.model.specs.Move.{State, sum, move_at}
use Rattle.model.specs.Layer.{Value, finite, unbounded, Layer, reaches, usable, layer_value, layer_at}

-- "keep wanted propositions and one target (the largest) a variable"
pub data Target : Type 0 where
  free : Target
  least : ℤ → Target

pub record Wants : Type 0 where
  pub props : ℕ → Bool
  pub target : ℕ → Target

unfoldable pub no_wants : Wants
no_wants = record { props = λ p. false; target = λ v. free }

unfoldable pub raise_target : Target → ℤ → Target
raise_target free z = least z
raise_target (least y) z = least (larger y z)

unfoldable pub want_prop : Wants → ℕ → Wants
want_prop w p = record { props = λ q. w.props q || eqb q p; target = w.target }

unfoldable pub want_value : Wants → ℕ → ℤ → Wants
want_value w v z =
    record { props = w.props; target = λ u. let old = w.target u in cond (eqb u v) (raise_target old z) old }

-- "layer values for finite and state values for other unbounded ones"
unfoldable pub low_value : Value → ℤ → ℤ
low_value (finite z) y = z
low_value unbounded y = y

unfoldable pub low : Layer → State → ℕ → ℤ
low l s v = low_value (l.val v) (s.val v)

-- "each finite variable's target is its layer value"
unfoldable pub want_finite : Layer → Wants → List Term → Wants
want_finite l w [] = w
want_finite l w (t ∷ ts) =
    elim (l.val t.var) [ finite z ↦ want_finite l (want_value w t.var z) ts | unbounded ↦ want_finite l w ts ]

-- "the lowest unbounded one": terms rise, so it is the first
unfoldable pub lowest_unbounded : Layer → List Term → Option Term
lowest_unbounded l [] = none
lowest_unbounded l (t ∷ ts) = elim (l.val t.var) [ finite z ↦ lowest_unbounded l ts | unbounded ↦ some t ]

-- "the rest": the terms but that one
unfoldable pub rest_terms : Layer → List Term → List Term
rest_terms l [] = []
rest_terms l (t ∷ ts) = elim (l.val t.var) [ finite z ↦ t ∷ rest_terms l ts | unbounded ↦ ts ]

-- the term's variable gets z/w rounded up, w its weight
unfoldable pub want_quotient : Wants → Option Term → ℤ → Wants
want_quotient w none z = w
want_quotient w (some t) z = want_value w t.var (ceiling z (nat_abs t.weight))

-- "To want "sum ≥ c" in layer t: each finite variable's target is its layer value; the lowest unbounded one, weight w, gets
-- (c − the rest)/w rounded up to a whole number, the rest using layer values for finite and state values for other unbounded ones."
unfoldable pub want_sum : Layer → State → Wants → List Term → ℤ → Wants
want_sum l s w ts c =
    want_quotient (want_finite l w ts) (lowest_unbounded l ts) (c -ℤ sum (low l s) (rest_terms l ts))

unfoldable pub want_item : Layer → State → Wants → Item → Wants
want_item l s w (need p) = want_prop w p
want_item l s w (condition c) = want_sum l s w c.terms c.bound
want_item l s w (add p) = w
want_item l s w (delete p) = w
want_item l s w (effect e) = w

-- want the conditions of a move or the goal
unfoldable pub want_block : Layer → State → Wants → Block → Wants
want_block l s w [] = w
want_block l s w (i ∷ b) = want_block l s (want_item l s w i) b

-- what one layer's wants come to: the wants of the layer below, and each move's count there, 0 if it is not taken
pub record Descent : Type 0 where
  pub wants : Wants
  pub count : ℕ → ℕ

-- "A move taken twice in a layer keeps its larger count."
unfoldable pub counted : (ℕ → ℕ) → ℕ → ℕ → ℕ → ℕ
counted f b n c = let old = f c in cond (eqb c b) (max old n) old

-- "take the first that adds the proposition"
unfoldable pub adder : Task → Layer → ℕ → Option ℕ
adder k l p = first_from (λ b. usable l (move_at k b) && adds p (move_at k b)) 0 (length k.moves)

-- "Want its conditions in t−1 .. Count: 1"
unfoldable pub take_adder : Task → Layer → State → Descent → Option ℕ → Descent
take_adder k l s d none = d
take_adder k l s d (some b) =
    record { wants = want_block l s d.wants (move_at k b); count = counted d.count b 1 }

-- "or whose effect on v has value ≥ target T (:=) or > 0 (+=)": what the value has to reach
unfoldable pub demand : Kind → ℤ → ℤ
demand assign z = z
demand increase z = pos 1
demand decrease z = pos 1

unfoldable pub achieves : Layer → ℤ → Option Effect → Bool
achieves l z none = false
achieves l z (some e) = reaches (layer_value l e) (demand e.kind z)

unfoldable pub achiever : Task → Layer → ℕ → ℤ → Option ℕ
achiever k l v z =
    first_from (λ b. usable l (move_at k b) && achieves l z (effect_on v (move_at k b))) 0 (length k.moves)

-- "d the value in t−1 if finite, else 1"
unfoldable pub step_size : Value → ℕ
step_size (finite z) = nat_abs z
step_size unbounded = 1

-- "Count: 1; for += (T − state value of v)/d rounded up" (never below 1, `Theorems.Plans.Solving`)
unfoldable pub runs : Kind → ℤ → ℤ → Value → ℕ
runs assign z y x = 1
runs increase z y x = up (ceiling (z -ℤ y) (step_size x))
runs decrease z y x = 1

-- "Want its conditions in t−1, and that value ≥ T (:=) or ≥ 1 (+=)."
unfoldable pub take_effect : Task → Layer → State → Descent → ℕ → ℤ → ℕ → Option Effect → Descent
take_effect k l s d v z b none = d
take_effect k l s d v z b (some e) =
    record {
      wants =
          want_sum l s (want_block l s d.wants (move_at k b)) e.terms
          (demand e.kind z -ℤ e.base);
      count = counted d.count b (runs e.kind z (s.val v) (layer_value l e));
    }

unfoldable pub take_achiever : Task → Layer → State → Descent → ℕ → ℤ → Option ℕ → Descent
take_achiever k l s d v z none = d
take_achiever k l s d v z (some b) = take_effect k l s d v z b (effect_on v (move_at k b))

-- "At layer t ≥ 1 what layer t−1 already has is carried down."
unfoldable pub carried_target : Value → Target → Target
carried_target x free = free
carried_target x (least z) = cond (reaches x z) (least z) free

unfoldable pub carried : Layer → Wants → Wants
carried l w =
    record { props = λ p. w.props p && l.has p; target = λ v. carried_target (l.val v) (w.target v) }

abbrev pub carried_down : Layer → Wants → Descent
carried_down l w = record { wants = carried l w; count = λ b. 0 }

-- "For any other, try the moves usable in t−1 in rising order"
unfoldable pub take_prop : Task → Layer → State → Wants → ℕ → Descent → Descent
take_prop k l s w p d =
    elim (w.props p && not (l.has p)) [ true ↦ take_adder k l s d (adder k l p) | false ↦ d ]

unfoldable pub take_target : Task → Layer → State → ℕ → Target → Descent → Descent
take_target k l s v free d = d
take_target k l s v (least z) d =
    elim (reaches (l.val v) z) [ true ↦ d | false ↦ take_achiever k l s d v z (achiever k l v z) ]

unfoldable pub take_value : Task → Layer → State → Wants → ℕ → Descent → Descent
take_value k l s w v d = take_target k l s v (w.target v) d

-- from the wants of layer t to layer l = t−1: what is carried, then the propositions, then the variables
unfoldable pub descend : Task → Layer → State → Wants → Descent
descend k l s w =
    fold_below (take_value k l s w) k.vars
    (fold_below (take_prop k l s w) k.props (carried_down l w))

-- "Record: 52, move (1 byte), count (8 bytes)", with the layer that the move is taken in
pub record Record : Type 0 where
  pub layer : ℕ
  pub move : ℕ
  pub count : ℕ

-- "layers rising, then moves": a layer's records, from move b on, n moves
unfoldable pub layer_records : ℕ → (ℕ → ℕ) → ℕ → ℕ → List Record
layer_records t count b zero = []
layer_records t count b (suc n) =
    elim (eqb (count b) 0) [
      | true ↦ layer_records t count (suc b) n
      | false ↦ record { layer = t; move = b; count = count b } ∷ layer_records t count (suc b) n
    ]

unfoldable pub records_from : Task → State → ℕ → Wants → List Record
records_from k s zero w = []
records_from k s (suc t) w =
    let d = descend k (layer_at k s t) s w in
    records_from k s t d.wants ++ layer_records t d.count 0 (length k.moves)

-- "From answer layer m down .. Begin with the goal in m."
unfoldable pub records : Task → State → ℕ → List Record
records k s m = records_from k s m (want_block (layer_at k s m) s no_wants k.goal)

-- what the bytes of a record say
abbrev pub move_and_count : Record → ℕ × ℕ
move_and_count r = (r.move, r.count)

-- "A plan's list is its records in order, each move written as many times in a row as its count."
unfoldable pub plan_list : List (ℕ × ℕ) → List ℕ
plan_list [] = []
plan_list ((move, count) ∷ rs) = replicate count move ++ plan_list rs

-- ---- the wants of each layer, on the walk of `records` (`Theorems.Plans.Records.records_down`)

-- n layers below the answer layer m: "Begin with the goal in m."
unfoldable pub wants_below : Task → State → ℕ → ℕ → Wants
wants_below k s m zero = want_block (layer_at k s m) s no_wants k.goal
wants_below k s m (suc n) = (descend k (layer_at k s (m - suc n)) s (wants_below k s m n)).wants

-- the wants of layer u, carried ones too, for an answer layer m not below it
unfoldable pub wants_at : Task → State → ℕ → ℕ → Wants
wants_at k s m u = wants_below k s m (m - u)

-- ---- helpful moves; l is layer 0, w the wants of layer 1

-- "whose effect reaches, by the test that Plan uses to take a move .., a target there that layer 0 did not"
unfoldable pub reaches_new : Layer → Target → Effect → Bool
reaches_new l free e = false
reaches_new l (least z) e = not (reaches (l.val e.var) z) && achieves l z (some e)

-- "adds a proposition first had and wanted at layer 1, or .."; where the move is usable, layer 1 has what it adds
unfoldable pub supports : Layer → Wants → Item → Bool
supports l w (need p) = false
supports l w (add p) = w.props p && not (l.has p)
supports l w (delete p) = false
supports l w (condition c) = false
supports l w (effect e) = reaches_new l (w.target e.var) e

-- "each move usable in layer 0 that .."
unfoldable pub helpful : Layer → Wants → Block → Bool
helpful l w b = usable l b && any (supports l w) b

-- "a 64-bit set .. bit b (of worth 2^b) for move b": the lowest bit for the first
unfoldable pub set_of : (Block → Bool) → List Block → ℕ
set_of f [] = 0
set_of f (b ∷ bs) = cond (f b) 1 0 + 2 * set_of f bs

-- is bit b of the set
unfoldable pub bit : ℕ → ℕ → Bool
bit n b = eqb ((n / 2 ^ b) % 2) 1

-- the set for answer layer m; "With answer layer 0 .. it is empty."
unfoldable pub helpful_moves : Task → State → ℕ → ℕ
helpful_moves k s zero = 0
helpful_moves k s (suc m) = set_of (helpful (layer_at k s 0) (wants_at k s (suc m) 1)) k.moves
