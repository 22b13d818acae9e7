-- Laws of `floor` and `rest`: z lies from floor z d times d up to, and not including, one more d.
use Rattle.std.proofs.Common.{◌≡◌, ℕ, suc, ◌+◌, ◌-◌, ◌*◌, ◌/◌, ◌%◌, ◌<◌, ◌≤◌, ℤ, pos, negsuc, ◌+ℤ◌, ◌-ℤ◌, ◌*ℤ◌, neg_ℤ, nat_abs, ◌≤ℤ◌, ◌<ℤ◌, sym, refl, ap, mod-lt, mul-le-mul_left, div-add-mod', arith}
use native.Mathlib.Nat.{zero-div}
use borrow.Author.Differences.{up, down, ints}
use Rattle.std.specs.Int.{int_div_euclid, int_rem_euclid}
use Rattle.units.specs.Floor.{floor, rest}
use Rattle.units.proofs.Ring.{*ℤ_distrib_right, *ℤ_cancel_lt, spread}

-- what `div_euclid` by a natural number gives
pub floor-div_euclid : (z : ℤ) (d : ℕ) → int_div_euclid z (pos d) ≡ floor z d
floor-div_euclid (pos a) d = refl
floor-div_euclid (negsuc a) d = refl

pub floor_zero : (d : ℕ) → floor (pos 0) d ≡ pos 0
floor_zero d = ap pos (zero-div d)

-- the laws of a divisor that is not 0
module _ (d : ℕ) (p : 0 < d) where
  pub floor_le : (z : ℤ) → (floor z d *ℤ pos d) ≤ℤ z
  floor_le (pos a) = omega (arith, ints, div-add-mod' a d)
  floor_le (negsuc a) = omega (arith, ints, div-add-mod' a d, mod-lt a p)

  pub floor_next : (z : ℤ) → z <ℤ (floor z d *ℤ pos d +ℤ pos d)
  floor_next (pos a) = omega (arith, ints, div-add-mod' a d, mod-lt a p)
  floor_next (negsuc a) = omega (arith, ints, div-add-mod' a d)

  pub floor_lt : (z : ℤ) → z <ℤ ((floor z d +ℤ pos 1) *ℤ pos d)
  floor_lt z = omega (arith, ints, *ℤ_distrib_right (floor z d) (pos 1) (pos d), floor_next z)

  -- q is at most the floor where q times d is at most z, and above it where that is above z
  pub floor_at_least : (q z : ℤ) → (q *ℤ pos d) ≤ℤ z → q ≤ℤ floor z d
  floor_at_least q z h = omega (arith, ints, *ℤ_cancel_lt q (floor z d +ℤ pos 1) d (omega (arith, ints, floor_lt z)))

  pub floor_below : (q z : ℤ) → z <ℤ (q *ℤ pos d) → floor z d <ℤ q
  floor_below q z h = *ℤ_cancel_lt (floor z d) q d (omega (arith, ints, floor_le z))

  pub floor_unique : (q z : ℤ) → (q *ℤ pos d) ≤ℤ z → z <ℤ ((q +ℤ pos 1) *ℤ pos d) → q ≡ floor z d
  floor_unique q z h k = omega (arith, ints, floor_at_least q z h, floor_below (q +ℤ pos 1) z k)

  -- ---- what is left

  pub floor_rest : (z : ℤ) → z ≡ floor z d *ℤ pos d +ℤ pos (rest z d)
  floor_rest z = omega (arith, ints, floor_le z)

  pub rest_lt : (z : ℤ) → rest z d < d
  rest_lt z = omega (arith, ints, floor_le z, floor_next z)

  -- a quotient with a remainder below d is the floor with the rest
  pub floor_rest_unique : (q z : ℤ) (r : ℕ) → z ≡ q *ℤ pos d +ℤ pos r → r < d → (q ≡ floor z d) × (r ≡ rest z d)
  floor_rest_unique q z r e l =
      let quotient : q ≡ floor z d = floor_unique q z (omega (arith, ints)) (simp spread (omega (arith, ints))) in
      let times = ap (λ x. x *ℤ pos d) quotient in
      (quotient, omega (arith, ints))

  pub rest-rem_euclid : (z : ℤ) → int_rem_euclid z (pos d) ≡ pos (rest z d)
  rest-rem_euclid (pos a) = ap pos (floor_rest_unique (pos (a / d)) (pos a) (a % d) (ap pos (sym (div-add-mod' a d))) (mod-lt a p)).1
  rest-rem_euclid (negsuc a) = ap pos (floor_rest_unique (negsuc (a / d)) (negsuc a) (d - 1 - a % d) (omega (arith, ints, div-add-mod' a d, mod-lt a p)) (omega arith)).1

  -- ---- sums and bounds

  pub floor_multiple : (k : ℤ) → floor (k *ℤ pos d) d ≡ k
  floor_multiple k = sym (floor_rest_unique k (k *ℤ pos d) 0 (omega (arith, ints)) p).0

  -- the floor of a sum is the sum of the floors, or one more
  pub floor_add : (x y : ℤ) → ((floor x d +ℤ floor y d) ≤ℤ floor (x +ℤ y) d) × (floor (x +ℤ y) d ≤ℤ (floor x d +ℤ floor y d +ℤ pos 1))
  floor_add x y =
      let low = floor_at_least (floor x d +ℤ floor y d) (x +ℤ y) (simp spread (omega (arith, ints, floor_le x, floor_le y))) in
      let high = floor_below (floor x d +ℤ floor y d +ℤ pos 2) (x +ℤ y) (simp spread (omega (arith, ints, floor_next x, floor_next y))) in
      (low, omega (arith, ints))

  pub floor_bound : (z : ℤ) (b : ℕ) → nat_abs z ≤ b * d → nat_abs (floor z d) ≤ b
  floor_bound z b h =
      let low = floor_at_least (neg_ℤ (pos b)) z (simp spread (omega (arith, ints))) in
      let high = floor_below (pos (b + 1)) z (omega (arith, ints)) in
      omega (arith, ints)

  -- what is less than d off z, in parts of d, is the floor or one more
  pub floor_near : (q z : ℤ) → nat_abs (q *ℤ pos d -ℤ z) < d → (floor z d ≤ℤ q) × (q ≤ℤ (floor z d +ℤ pos 1))
  floor_near q z h =
      let low = floor_at_least (q -ℤ pos 1) z (simp spread (omega (arith, ints))) in
      let high = floor_below (q +ℤ pos 1) z (simp spread (omega (arith, ints))) in
      (omega (arith, ints), omega (arith, ints))

  -- a part of z from none to all of it leaves no more than z
  pub floor_part : (z : ℤ) (q : ℕ) → q ≤ d → nat_abs (z -ℤ floor (z *ℤ pos q) d) ≤ nat_abs z
  floor_part (pos a) q l =
      let part = mul-le-mul_left a l in
      let low = floor_at_least (pos 0) (pos a *ℤ pos q) (omega (arith, ints)) in
      let high = floor_below (pos a +ℤ pos 1) (pos a *ℤ pos q) (simp spread (omega (arith, ints))) in
      omega (arith, ints)
  floor_part (negsuc a) q l =
      let part = mul-le-mul_left (suc a) l in
      let low = floor_at_least (negsuc a) (negsuc a *ℤ pos q) (omega (arith, ints)) in
      let high = floor_below (pos 1) (negsuc a *ℤ pos q) (omega (arith, ints)) in
      omega (arith, ints)

-- floor z d is read as `ints` reads an integer, for `omega (arith, ints, floor_is)`; at a numeral d that decides what is linear
pub floor_is : (z : ℤ) (d : ℕ) → 0 < d → (up (floor z d) * d + down z ≤ up z + down (floor z d) * d) × (up z + down (floor z d) * d < down z + up (floor z d) * d + d)
floor_is z d p = (omega (arith, ints, floor_le d p z), omega (arith, ints, floor_next d p z))

-- ---- money
