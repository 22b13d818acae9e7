-- Running charges keep the laws: neighbouring floors cancel, and a difference of two floors is off by less than 1.
use Rattle.std.specs.Prelude.{◌≡◌, ℕ, suc, ◌*◌, ◌<◌, ◌≤◌, ℤ, pos, ◌-ℤ◌, ◌*ℤ◌, unsigned_abs, refl}
use Rattle.std.proofs.Common.{ap, ◌∙◌, arith}
use Rattle.std.proofs.Math.IntN.{*ℤ-zero}
use Rattle.std.proofs.lemmas.Int.{ints}
use Rattle.units.specs.Sums.{total, sum}
use Rattle.units.specs.Floor.{floor}
use Rattle.units.proofs.Ring.{spread}
use Rattle.units.proofs.Totals.{total_telescope, sum_const}
use Rattle.units.proofs.Floors.{floor_le, floor_next, floor_zero, floor_multiple}
use Rattle.sharing.specs.Rules.{Lawful}
use Rattle.sharing.specs.Weighted.{upto, running, equal}
use Rattle.sharing.specs.Within.{lawful}
use Rattle.sharing.specs.WeightedLaws.{some_owner}

module _ (n : ℕ) (w : ℕ → ℕ) (part : 1 ≤ sum n w) where
  upto_none : (a : ℤ) → upto n w a 0 ≡ pos 0
  upto_none a = ap (λ z. floor z (sum n w)) (*ℤ-zero a) ∙ floor_zero (sum n w)

  upto_all : (a : ℤ) → upto n w a n ≡ a
  upto_all a = floor_multiple (sum n w) part a

  running_adds_up : (a : ℤ) → total n (λ k. upto n w a (suc k) -ℤ upto n w a k) ≡ a
  running_adds_up a = omega (arith, ints, total_telescope n (upto n w a), upto_none a, upto_all a)

  running_near : (a : ℤ) (k : ℕ) → unsigned_abs (((upto n w a (suc k) -ℤ upto n w a k) *ℤ pos (sum n w)) -ℤ (a *ℤ pos (w k))) < 1 * sum n w
  running_near a k =
      let d = sum n w in
      let now = a *ℤ pos (sum (suc k) w) in
      let past = a *ℤ pos (sum k w) in
      simp spread (omega (arith, ints, floor_le d part now, floor_next d part now, floor_le d part past, floor_next d part past))

  pub running_lawful : Lawful (running n w)
  running_lawful = lawful n w (sum n w) 1 _ (record {
    some_owner = some_owner n w part;
    some_part = part;
    whole = refl;
    adds_up = λ a _. running_adds_up a;
    near = λ a _ k _. running_near a k;
    slack_low = omega arith;
    slack_high = some_owner n w part;
  })

pub equal_lawful : (n : ℕ) → 1 ≤ n → Lawful (equal n)
equal_lawful n some = running_lawful n (λ _. 1) (omega (arith, sum_const n 1))
