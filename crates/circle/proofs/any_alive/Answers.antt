-- `any_alive` meets its contract: `any` finds a variable that is alive exactly where there is one. Assumes nothing.
use Rattle.std.proofs.Common.{ℕ, zero, suc, ◌<◌, ◌≤◌, ◌≡◌, Bool, true, false, List, length, take, MatchBool, refl, sym, ◌∙◌, arith, rules, tests, length-take-le}
use Rattle.std.specs.List.{HoldsAt, AllWithin}
use Rattle.std.proofs.lemmas.Iterator.{cases_from_any, YieldsList-from_slice}
use Rattle.std.proofs.lemmas.List.{get_or-take}
use Rattle.model.specs.Lists.{any_below}
use Rattle.circle.specs.Pruning.{alive_at, some_found}
use Rattle.circle.proofs.any_alive.Goals as goal

none_below : (f : ℕ → Bool) (n : ℕ) → ((k : ℕ) → k < n → f k ≡ false) → any_below f n ≡ false
unfolding any_below
none_below f zero h = refl
none_below f (suc n) h = rw (none_below f n (λ k l. h k (omega arith)), h n (omega arith)) refl

found :
    (r : Bool) (alive : List Bool) (n : ℕ)
    → n ≤ length alive
    → MatchBool r
    ((k : ℕ) × (k < length (take n alive)) × HoldsAt (λ (x : Bool). x ≡ true) (take n alive) k)
    (AllWithin (λ (x : Bool). x ≡ false) (take n alive) 0 (length (take n alive)))
    → r ≡ any_below (alive_at alive) n
unfolding alive_at
found true alive n l h =
    let below : h.0 < n = omega (arith, h.1, length-take-le n alive l) in
    some_found (alive_at alive) n h.0 below (sym (get_or-take n alive h.0 false below) ∙ h.2 false)
found false alive n l h = sym (none_below (alive_at alive) n (λ k b. sym (get_or-take n alive k false b) ∙ h k false (omega arith) (omega (arith, length-take-le n alive l))))

pub returns : goal.returns
returns c =
    let xs = take c.args.n c.args.alive.now in
    found c.any.result c.args.alive.now c.args.n (omega arith)
    (cases_from_any _ _ _ (λ (x : Bool). x ≡ true) (λ (x : Bool). x ≡ false) c.any.ensures.ran (YieldsList-from_slice xs cc) (λ x q k. search (rules, tests)) (λ x q k. search (rules, tests)))
