use Rattle.std.proofs.Common.{◌≡◌, ◌+◌, ◌≤◌, length, ℤ, ◌-ℤ◌, nat_abs, sym, ap, ◌∙◌, add-one, arith, w64, to_z, of_z}
use Rattle.std.proofs.lemmas.Int.{ints}
use Rattle.std.proofs.lemmas.List.{length-take}
use Rattle.std.specs.NonZero.{non_zero_u32_get}
use Rattle.units.specs.FixedLists.{listed}
use Rattle.units.specs.Sums.{sum}
use Rattle.units.proofs.Fits.{small_back}
use Rattle.units.proofs.Rows.{over_write}
use Rattle.units.proofs.Totals.{sum_more}
use Rattle.sharing.specs.Fillings.{weight_at}
use Rattle.sharing.specs.Rules.{limit, part_down}
use Rattle.sharing.specs.Weighted.{upto}
use Rattle.sharing.proofs.Weighed.{upto_few}
use Rattle.sharing.proofs.running.RunningChargesMethod.give.Goals as goal

pub overflow_add-weight : goal.overflow_add-weight
overflow_add-weight c =
    let parts = listed c.args.weights.now.parts in
    omega (arith, upto_few (length parts) c.loop-k.k (weight_at parts) c.loop-k.weight (non_zero_u32_get c.fraction-own.result.whole) (omega (arith, length-take {A = ℤ})) c.loop-k.invariant.past c.fraction-own.ensures.whole)

pub invariant_of-part : goal.invariant_of-part
invariant_of-part c =
    let parts = listed c.args.weights.now.parts in
    let few = upto_few (length parts) c.loop-k.k (weight_at parts) c.loop-k.weight (non_zero_u32_get c.fraction-own.result.whole) (omega (arith, length-take {A = ℤ})) c.loop-k.invariant.past c.fraction-own.ensures.whole in
    record { at_most_all = omega arith; few = c.fraction-own.result.few }

-- what is written: the part up to here, less what was paid before
difference : (x y : ℤ) {z : ℤ} → z ≡ y → nat_abs x ≤ limit → nat_abs y ≤ limit → to_z w64 (of_z w64 (to_z w64 (of_z w64 x) -ℤ z)) ≡ x -ℤ y
difference x y e l m = omega (arith, ints)

pub loop-k-preserved : goal.loop-k-preserved
loop-k-preserved c =
    let parts = listed c.args.weights.now.parts in
    let k = c.loop-k.k in
    let more : c.loop-k.weight + c.fraction-own.result.parts ≡ sum (k + 1) (weight_at parts) = omega (arith, sum_more k (weight_at parts)) in
    let upto_is : c.part-upto.result.cents ≡ upto (length parts) (weight_at parts) c.args.amount.cents (k + 1) = c.part-upto.ensures ∙ (λ i. part_down c.args.amount.cents (more i) (c.fraction-own.ensures.whole i)) in
    let back = small_back c.part-upto.result.cents (omega (arith, c.part-upto.result.bound)) in
    let share = difference c.part-upto.result.cents c.loop-k.paid c.loop-k.paid-is c.part-upto.result.bound (omega (arith, ints))
    ∙ (λ i. (upto_is ∙ ap (upto (length parts) (weight_at parts) c.args.amount.cents) (add-one k)) i -ℤ (sym c.loop-k.paid-is ∙ c.loop-k.invariant.paid_is) i) in
    record {
      written = over_write _ _ _ k _ c.loop-k.invariant.written (omega arith) share;
      past = more;
      paid_is = back ∙ upto_is;
      few = rw back c.part-upto.result.bound;
    }
