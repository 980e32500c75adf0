-- `take_values` meets its contract. Assumes nothing.
use Prim.Native.Nat.{ℕ, ◌+◌, ◌^◌, ◌<◌, ◌≤◌}
use native.Mathlib.Omega.{arith}
use mathlib.Core.Path.{◌≡◌, refl, sym, ap, ◌∙◌}
use mathlib.Core.Bool.{false}
use lib.IntN.{ℤ, pos, nat_abs, ◌-ℤ◌}
use lib.ListN.{get_or}
use lib.Signed.{mag}
use mir.Syntax.{w64}
use mir.Val.{SFits, of_z, to_z}
use Rattle.integer.specs.Linear.{back, small_fits, op2_fits, op2_back, abs_sub}
use Rattle.model.specs.Layer.{reaches}
use Rattle.block.specs.Blocks.{effect_base}
use Rattle.achievers.specs.Search.{part_in, demand_by, demand_size}
use Rattle.taking.specs.Taking.{encoded_mag, move_wantable, move_small, no_achiever, effect_wantable, effect_above, achiever_taken}
use Rattle.targets.specs.Encoding.{is_free}
use Rattle.taking.specs.Descending.{values_start, values_end, value_room, start_room, target_size, value_is, old_is, old_size, value_free, value_had, value_take, takeable, achievable}
use Rattle.taking.proofs.take_values.Goals as goal

pub loop-v-init : goal.loop-v-init
loop-v-init c x = values_start x

pub offset_bounds-wanted-v : goal.offset_bounds-wanted-v
offset_bounds-wanted-v c = omega (arith, value_room c.requires c.loop-v-test.true)

pub bounds-wanted-v : goal.bounds-wanted-v
bounds-wanted-v c = value_room c.requires c.loop-v-test.true

pub loop-v-preserved-then-is_free : goal.loop-v-preserved-then-is_free
loop-v-preserved-then-is_free c x =
    let freed : c.is_free.result ≡ is_free (get_or c.args.wanted.now c.loop-v.v (pos 0)) = c.is_free.ensures ∙ ap is_free (back _ c.target-1.given) in
    value_free x c.loop-v-test.true (c.loop-v.invariant x) (sym freed ∙ c.if-is_free.true)

pub offset_bounds-start-v : goal.offset_bounds-start-v
offset_bounds-start-v c = omega (arith, start_room c.requires c.loop-v-test.true)

pub bounds-start-v : goal.bounds-start-v
bounds-start-v c = start_room c.requires c.loop-v-test.true

pub find_achiever-requires : goal.find_achiever-requires
find_achiever-requires c = achievable c.requires

pub loop-v-preserved-then-reaches : goal.loop-v-preserved-then-reaches
loop-v-preserved-then-reaches c x =
    let z = get_or c.args.wanted.now c.loop-v.v (pos 0) in
    let aimed : is_free z ≡ false = sym (c.is_free.ensures ∙ ap is_free (back z c.target-1.given)) ∙ c.if-is_free.false in
    let missed = value_is x c.loop-v-test.true _ (λ w e. c.reaches.ensures w (back _ c.x-1.given ∙ e) ∙ ap (reaches w) (back z c.target-1.given)) ∙ c.if-reaches.true in
    value_had x c.loop-v-test.true (c.loop-v.invariant x) aimed missed

pub loop-v-preserved-in_default : goal.loop-v-preserved-in_default
loop-v-preserved-in_default c x =
    let z = get_or c.args.wanted.now c.loop-v.v (pos 0) in
    let aimed : is_free z ≡ false = sym (c.is_free.ensures ∙ ap is_free (back z c.target-1.given)) ∙ c.if-is_free.false in
    let missed = value_is x c.loop-v-test.true _ (λ w e. c.reaches.ensures w (back _ c.x-1.given ∙ e) ∙ ap (reaches w) (back z c.target-1.given)) ∙ c.if-reaches.false in
    let none = rw (back z c.target-1.given) at (c.in_default.ensures (achievable x)) in
    value_take x c.loop-v-test.true (c.loop-v.invariant x) aimed missed (no_achiever (takeable x.scene (c.loop-v.invariant x).is) none)

pub runs-requires : goal.runs-requires
runs-requires c =
    let x = c.requires in
    let z = get_or c.args.wanted.now c.loop-v.v (pos 0) in
    let aimed : is_free z ≡ false = sym (c.is_free.ensures ∙ ap is_free (back z c.target-1.given)) ∙ c.if-is_free.false in
    let h = rw (back z c.target-1.given) at (c.in-Some.ensures (achievable x)) in
    let value = c.in-Some.a.value in
    rw (back z c.target-1.given, back _ c.old-1.given, back value (encoded_mag h.encoded))
    (omega (arith, target_size x c.loop-v-test.true aimed), old_size x c.loop-v-test.true, effect_above (takeable x.scene (c.loop-v.invariant x).is) h refl)

pub recount-requires : goal.recount-requires
recount-requires c =
    let x = c.requires in
    move_small (takeable x.scene (c.loop-v.invariant x).is) (c.in-Some.ensures (achievable x)).lt

pub part-part-requires : goal.part-part-requires
part-part-requires c = let x = c.requires in part_in x.scene.search (c.in-Some.ensures (achievable x)).lt

-- what is left for the sum of an effect
module _ (kd : ℕ) (z base d : ℤ) (told : d ≡ demand_by kd z) (small : nat_abs base ≤ 1000000) where
  needed_size : nat_abs (d -ℤ base) ≤ nat_abs z + 1000001
  needed_size = omega (arith, abs_sub d base, ap nat_abs told, demand_size kd z)

  module _ (p : mag d < 2 ^ 63) (h : nat_abs z + 1000001 < 2 ^ 63) where
    needed_fits : SFits w64 (to_z w64 (of_z w64 d) -ℤ to_z w64 (of_z w64 base))
    needed_fits = op2_fits ◌-ℤ◌ d base (record { sfits = p }) (small_fits base (omega arith)) (omega (arith, needed_size))

    needed_is : to_z w64 (of_z w64 (to_z w64 (of_z w64 d) -ℤ to_z w64 (of_z w64 base))) ≡ d -ℤ base
    needed_is = op2_back ◌-ℤ◌ d base (record { sfits = p }) (small_fits base (omega arith)) (omega (arith, needed_size))

pub overflow_sub-c : goal.overflow_sub-c
overflow_sub-c c =
    let x = c.requires in
    let z = get_or c.args.wanted.now c.loop-v.v (pos 0) in
    let aimed : is_free z ≡ false = sym (c.is_free.ensures ∙ ap is_free (back z c.target-1.given)) ∙ c.if-is_free.false in
    let h = rw (back z c.target-1.given) at (c.in-Some.ensures (achievable x)) in
    let told = rw (back z c.target-1.given) at c.demand.ensures in
    needed_fits c.in-Some.a.kind z c.in-Some.a.base c.demand.result told (effect_base h.effect) c.demand.type_inv (omega (arith, target_size x c.loop-v-test.true aimed))

pub want_block-wants-requires : goal.want_block-wants-requires
want_block-wants-requires c =
    let x = c.requires in
    move_wantable (takeable x.scene (c.loop-v.invariant x).is) (c.in-Some.ensures (achievable x)).lt c.part-part.ensures.0

pub want_sum-wants-requires : goal.want_sum-wants-requires
want_sum-wants-requires c =
    let x = c.requires in
    let z = get_or c.args.wanted.now c.loop-v.v (pos 0) in
    let aimed : is_free z ≡ false = sym (c.is_free.ensures ∙ ap is_free (back z c.target-1.given)) ∙ c.if-is_free.false in
    let h = rw (back z c.target-1.given) at (c.in-Some.ensures (achievable x)) in
    let small = effect_base h.effect in
    let told = rw (back z c.target-1.given) at c.demand.ensures in
    let size = target_size x c.loop-v-test.true aimed in
    let y = takeable x.scene (c.loop-v.invariant x).is in
    let e = c.part-part.ensures.0 in
    (effect_wantable y h e (c.want_block-wants.ensures (move_wantable y h.lt e)), rw (needed_is c.in-Some.a.kind z c.in-Some.a.base c.demand.result told small c.demand.type_inv (omega (arith, size))) (omega (arith, needed_size c.in-Some.a.kind z c.in-Some.a.base c.demand.result told small, size)))

pub loop-v-preserved : goal.loop-v-preserved
loop-v-preserved c x =
    let z = get_or c.args.wanted.now c.loop-v.v (pos 0) in
    let aimed : is_free z ≡ false = sym (c.is_free.ensures ∙ ap is_free (back z c.target-1.given)) ∙ c.if-is_free.false in
    let missed = value_is x c.loop-v-test.true _ (λ w e. c.reaches.ensures w (back _ c.x-1.given ∙ e) ∙ ap (reaches w) (back z c.target-1.given)) ∙ c.if-reaches.false in
    let h = rw (back z c.target-1.given) at (c.in-Some.ensures (achievable x)) in
    let small = effect_base h.effect in
    let told = rw (back z c.target-1.given) at c.demand.ensures in
    let size = target_size x c.loop-v-test.true aimed in
    let value = c.in-Some.a.value in
    let y = takeable x.scene (c.loop-v.invariant x).is in
    let e = c.part-part.ensures.0 in
    let block = c.want_block-wants.ensures (move_wantable y h.lt e) in
    value_take x c.loop-v-test.true (c.loop-v.invariant x) aimed missed
    (achiever_taken y h e block (old_is x c.loop-v-test.true) (ap (λ (y : ℤ). y -ℤ c.in-Some.a.base) told)
    (rw (needed_is c.in-Some.a.kind z c.in-Some.a.base c.demand.result told small c.demand.type_inv (omega (arith, size))) at (c.want_sum-wants.ensures (effect_wantable y h e block)))
    (rw (back z c.target-1.given, back _ c.old-1.given, back value (encoded_mag h.encoded)) at c.runs.ensures)
    c.recount.ensures)

pub returns : goal.returns
returns c x = values_end x c.loop-v.auto.v-end c.loop-v-test.false (c.loop-v.invariant x)
