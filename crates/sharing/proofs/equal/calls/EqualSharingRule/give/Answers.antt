use Rattle.std.proofs.Common.{◌≡◌, suc, ℤ, ◌-ℤ◌, ap, ◌∙◌, arith, w64}
use Rattle.std.proofs.lemmas.Int.{to_z-of_z}
use Rattle.std.proofs.lemmas.List.{length-take}
use Rattle.std.specs.NonZero.{non_zero_u32_get}
use Rattle.units.specs.Sums.{sum}
use Rattle.units.proofs.Fits.{difference_back}
use Rattle.units.proofs.Rows.{over_write, over_front}
use Rattle.units.proofs.Totals.{sum_const}
use Rattle.sharing.specs.Rules.{part_down, within_limit}
use Rattle.sharing.specs.RunningLaws.{equal_lawful}
use Rattle.sharing.specs.Weighted.{running_share}
use Rattle.sharing.proofs.Shared.{given_shared}
use Rattle.sharing.proofs.equal.calls.EqualSharingRule.give.Goals as goal

pub loop-k-preserved : goal.loop-k-preserved
loop-k-preserved c =
    let owners = non_zero_u32_get c.args.self.now.owners in
    let k = c.loop-k.k in
    let after : c.of_first.result.parts ≡ sum (suc k) (λ _. 1) = omega (arith, sum_const k 1, length-take {A = ℤ}) in
    let before : c.of_first-in-loop-k.result.parts ≡ sum k (λ _. 1) = omega (arith, sum_const k 1, length-take {A = ℤ}) in
    let whole : non_zero_u32_get c.of_first.result.whole ≡ sum owners (λ _. 1) = omega (arith, sum_const owners 1, ap non_zero_u32_get c.of_first.ensures.whole) in
    let whole_before : non_zero_u32_get c.of_first-in-loop-k.result.whole ≡ sum owners (λ _. 1) = omega (arith, sum_const owners 1, ap non_zero_u32_get c.of_first-in-loop-k.ensures.whole) in
    let share = difference_back c.part.result.cents c.part-in-loop-k.result.cents (omega arith)
    ∙ (λ i. (c.part.ensures ∙ (λ j. part_down c.of-shared.result.cents (after j) (whole j))) i -ℤ (c.part-in-loop-k.ensures ∙ (λ j. part_down c.of-shared.result.cents (before j) (whole_before j))) i) in
    over_write _ _ _ k _ c.loop-k.invariant (omega arith) share

pub returns : goal.returns
returns c =
    let owners = non_zero_u32_get c.args.self.now.owners in
    let shared = c.of-shared.ensures ∙ ap within_limit (to_z-of_z w64 c.args.amount c.ranges.amount) in
    over_front _ c.args.row.now c.loop-k.share-items owners c.min-count.result c.loop-k.k c.loop-k.invariant (omega (arith, length-take {A = ℤ})) (omega arith)
    ∙ given_shared owners (λ _. 1) (running_share owners (λ _. 1)) (equal_lawful owners c.args.self.now.owners.ok) c.args.amount c.of-shared.result.cents c.args.row.now shared
