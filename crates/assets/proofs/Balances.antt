-- The numbers of a balance.
use Rattle.std.proofs.Common.{◌≡◌, ◌*◌, ◌≤◌, Bool, true, false, cond, ℤ, pos, ◌-ℤ◌, ◌*ℤ◌, nat_abs, sym, ap, ◌∙◌, ap₂, ⊎_elim, mul-le-mul_left, arith}
use lib.IntN.{zero-*ℤ}
use lib.Signed.{lt_z}
use borrow.Author.Differences.{ints}
use Rattle.std.proofs.lemmas.Bool.{cases_eq, cases_lt, lt-ltb, le-ltb, cond-true, cond-false}
use Rattle.std.proofs.lemmas.Bool.Decides.{nat_tests}
use Rattle.units.specs.Floor.{floor}
use Rattle.units.proofs.Fits.{product_size}
use Rattle.units.proofs.Floors.{floor_bound, floor_zero}
use Rattle.assets.specs.Assets.{Side, surplus, larger, loss_at}
use Rattle.assets.specs.Sides.{Feeds, Apart, Feeding, surplus_of, larger_of}
use Rattle.assets.specs.declared.balance.Balance.{Balance}
use Rattle.assets.specs.declared.sides.Sides.{Sides}
use Rattle.assets.proofs.Estimates.{sent_more, taken_more, no_loss, loss_floor}

-- ---- how large they can be

module _ (x : Sides) where
  pub surplus_within : nat_abs (surplus_of x) ≤ (larger_of x).energy
  surplus_within = grind (arith, nat_tests, ints)

  pub surplus_small : nat_abs (surplus_of x) ≤ 3200000
  surplus_small = omega (arith, surplus_within, (larger_of x).few)

module _ (b : Balance) where
  abbrev pub difference_of : ℤ
  difference_of = (pos (larger_of b.sides).energy *ℤ pos b.boundary) -ℤ pos (larger_of b.sides).at_own

  difference_within : nat_abs difference_of ≤ 18000 * (larger_of b.sides).energy
  difference_within = omega (arith, ints, mul-le-mul_left (larger_of b.sides).energy b.high, (larger_of b.sides).light)

  pub difference_small : nat_abs difference_of ≤ 57600000000
  difference_small = omega (arith, difference_within, (larger_of b.sides).few)

  -- without a surplus the division gives 0 too
  nothing_lost : nat_abs (surplus_of b.sides) ≡ 0 → floor (surplus_of b.sides *ℤ difference_of) (larger_of b.sides).energy ≡ pos 0
  nothing_lost none =
      let zero : surplus_of b.sides ≡ pos 0 = omega (arith, ints) in
      ap (λ z. floor z (larger_of b.sides).energy) (ap (λ z. z *ℤ difference_of) zero ∙ zero-*ℤ difference_of) ∙ floor_zero (larger_of b.sides).energy

  -- the floor of a surplus times a difference is at most the difference in size
  pub loss_size : nat_abs (floor (surplus_of b.sides *ℤ difference_of) (larger_of b.sides).energy) ≤ 57600000000
  loss_size = ⊎_elim
      (λ none. omega (arith, ap nat_abs (nothing_lost none)))
      (λ some.
      let product = product_size (surplus_of b.sides) difference_of (larger_of b.sides).energy (nat_abs difference_of) (surplus_within b.sides) (omega arith) in
      omega (arith, floor_bound (larger_of b.sides).energy (omega (arith, surplus_within b.sides)) (surplus_of b.sides *ℤ difference_of) (nat_abs difference_of) (omega (arith, product)), difference_small))
      (cases_eq (nat_abs (surplus_of b.sides)) 0)

-- ---- they are those of the page

module _ (s t : Side) (b : Balance) (f : Feeding s t b.sides) where
  pub surplus_fed : surplus s t ≡ surplus_of b.sides
  surplus_fed = ap₂ (λ x y. x -ℤ y) f.senders_are.energy_is f.takers_are.energy_is

  pub larger_fed : Feeds (larger s t) (larger_of b.sides)
  larger_fed = ⊎_elim
      (λ l. let is = cond-true _ b.sides.senders b.sides.takers (lt-ltb b.sides.takers.energy b.sides.senders.energy l) in rw (sent_more s t _ _ f.senders_are.energy_is f.takers_are.energy_is l, is) f.senders_are)
      (λ l. let is = cond-false _ b.sides.senders b.sides.takers (le-ltb b.sides.takers.energy b.sides.senders.energy l) in rw (taken_more s t _ _ f.senders_are.energy_is f.takers_are.energy_is l, is) f.takers_are)
      (cases_lt b.sides.takers.energy b.sides.senders.energy)

  larger_apart : Apart (larger s t)
  larger_apart = either (lt_z (pos 0) (surplus s t))
    where
      either : (c : Bool) → Apart (cond c s t)
      either true = f.senders_apart
      either false = f.takers_apart

  pub loss_divided : loss_at s t b.boundary ≡ floor (surplus_of b.sides *ℤ difference_of b) (larger_of b.sides).energy
  loss_divided = ⊎_elim
      (λ none. no_loss s t _ _ f.senders_are.energy_is f.takers_are.energy_is b.boundary none ∙ sym (nothing_lost b (sym (ap nat_abs surplus_fed) ∙ none)))
      (λ some.
      let apart = larger_apart b.boundary ∙ ap₂ (λ x y. (x *ℤ pos b.boundary) -ℤ y) larger_fed.energy_is larger_fed.own_is in
      loss_floor s t _ _ f.senders_are.energy_is f.takers_are.energy_is b.boundary some
      ∙ (λ i. floor (surplus_fed i *ℤ apart i) (nat_abs (larger_fed.energy_is i))))
      (cases_eq (nat_abs (surplus s t)) 0)
