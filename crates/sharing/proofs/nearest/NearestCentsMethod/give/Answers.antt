use Rattle.std.proofs.Common.{◌≡◌, ◌≤◌, Bool, true, false, cond, ltb, ℤ, pos, ◌+ℤ◌, nat_abs, ap, ◌∙◌, arith, w64, to_z, of_z}
use mir.Val.{bool_byte}
use Rattle.std.proofs.lemmas.Int.{ints}
use Rattle.units.proofs.Fits.{sum_back}
use Rattle.units.proofs.Rows.{over_write}
use Rattle.sharing.specs.Rules.{limit, part_down}
use Rattle.sharing.proofs.nearest.NearestCentsMethod.give.Goals as goal

-- a cent more where a test passes, as the code computes it
cent_more : (x z : ℤ) (t : Bool) → z ≡ pos (bool_byte t) → nat_abs x ≤ limit → to_z w64 (of_z w64 (to_z w64 (of_z w64 x) +ℤ to_z w64 (of_z w64 z))) ≡ x +ℤ cond t (pos 1) (pos 0)
cent_more x z true e l = sum_back x z (omega (arith, ints)) ∙ ap (λ y. x +ℤ y) e
cent_more x z false e l = sum_back x z (omega (arith, ints)) ∙ ap (λ y. x +ℤ y) e

pub loop-k-preserved : goal.loop-k-preserved
loop-k-preserved c =
    let part = c.part.ensures ∙ (λ i. part_down c.args.amount.cents (c.fraction.ensures.parts i) (c.fraction.ensures.whole i)) in
    over_write _ _ _ c.loop-k.k _ c.loop-k.invariant (omega arith) (
    cent_more c.part.result.cents c.from.result (ltb c.ahead.result c.odd_cents-odd.result) c.from.ensures c.part.result.bound
    ∙ (λ i. part i +ℤ cond (ltb (c.ahead.ensures i) (c.odd_cents-odd.ensures i)) (pos 1) (pos 0))
    )
