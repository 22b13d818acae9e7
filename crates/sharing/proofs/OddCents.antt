-- The owners above their rounded-down part, under a rule whose shares are off by less than 1: from the laws alone.
use Rattle.std.proofs.Common.{◌≡◌, ℕ, ◌*◌, ◌<◌, ◌≤◌, Bool, cond, ℤ, pos, ◌+ℤ◌, ◌-ℤ◌, ◌*ℤ◌, nat_abs, ◌≤ℤ◌, ap, arith}
use lib.Signed.{lt_z}
use borrow.Author.Differences.{ints}
use Rattle.std.proofs.lemmas.Bool.{cond_both}
use Rattle.units.specs.Sums.{total}
use Rattle.units.proofs.Totals.{total_ext, total_add, total_pos}
use Rattle.units.proofs.Firsts.{tally-sum}
use Rattle.units.proofs.Floors.{floor_near}
use Rattle.sharing.specs.Rules.{Rule, Lawful, limit, off, part_down}
use Rattle.sharing.specs.Laws.{rounded_up, OddCents}
use Rattle.sharing.specs.Parts.{odd_cents_are}

-- what is f or one more is one more where it is above f
one_more : (f s : ℤ) → f ≤ℤ s → s ≤ℤ (f +ℤ pos 1) → s ≡ f +ℤ pos (cond (lt_z f s) 1 0)
one_more f s low high = cond_both (lt_z f s) 1 0 (λ c. s ≡ f +ℤ pos c) (λ above. omega (arith, ints)) (λ level. omega (arith, ints))

module _ (r : Rule) (keeps : Lawful r) (exact : r.slack ≡ 1) (a : ℤ) (h : nat_abs a ≤ limit) where
  abbrev down : ℕ → ℤ
  down k = part_down a (r.numerator k) r.denominator

  abbrev up : ℕ → Bool
  up k = lt_z (down k) (r.share k a)

  share_is : (k : ℕ) → k < r.owners → r.share k a ≡ down k +ℤ pos (cond (up k) 1 0)
  share_is k l =
      let close : nat_abs (off r k a) < r.denominator = omega (arith, keeps.near a h k l, ap (λ s. s * r.denominator) exact) in
      let beside = floor_near r.denominator keeps.some_part (r.share k a) (a *ℤ pos (r.numerator k)) close in
      one_more (down k) (r.share k a) beside.0 beside.1

  rounded_up_is : a -ℤ total r.owners down ≡ pos (rounded_up r a)
  rounded_up_is =
      let shares = total_ext r.owners (λ k. r.share k a) (λ k. down k +ℤ pos (cond (up k) 1 0)) share_is in
      omega (arith, ints, keeps.adds_up a h, total_add r.owners down (λ k. pos (cond (up k) 1 0)), total_pos r.owners (λ k. cond (up k) 1 0), tally-sum r.owners up)

pub odd_cents : OddCents
odd_cents r keeps exact a h = odd_cents_are r.owners r.numerator r.denominator keeps.some_owner keeps.some_part keeps.whole a (rounded_up r a) (rounded_up_is r keeps exact a h)
