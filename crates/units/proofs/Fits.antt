-- When a number fits 64 bits.
use Rattle.std.proofs.Common.{◌≡◌, ℕ, ◌+◌, ◌*◌, ◌^◌, ◌<◌, ◌≤◌, ℤ, pos, ◌+ℤ◌, ◌-ℤ◌, ◌*ℤ◌, neg_ℤ, nat_abs, ◌∙◌, ap₂, mul-le-mul, arith, w64, SFits, to_z, of_z}
use borrow.Author.Differences.{ints}
use Rattle.std.proofs.lemmas.Int.{to_z-of_z, to_z_pos}
use Rattle.units.proofs.Ring.{nat_abs-*ℤ}

pub small_fits : (z : ℤ) → nat_abs z < 2 ^ 63 → SFits w64 z
small_fits z h = omega (arith, ints)

-- by way of 64 bits and back
pub small_back : (z : ℤ) → nat_abs z < 2 ^ 63 → to_z w64 (of_z w64 z) ≡ z
small_back z h = to_z-of_z w64 z (small_fits z h)

pub product_size : (a b : ℤ) (m n : ℕ) → nat_abs a ≤ m → nat_abs b ≤ n → nat_abs (a *ℤ b) ≤ m * n
product_size a b m n p q = rw (nat_abs-*ℤ a b) (mul-le-mul p q)

-- a product of two numbers that were cast or passed
module _ (a b x y : ℤ) (m n : ℕ) (p : a ≡ x) (q : b ≡ y) (small_x : nat_abs x ≤ m) (small_y : nat_abs y ≤ n) (fits : m * n < 2 ^ 63) where
  pub product_fits : SFits w64 (a *ℤ b)
  product_fits = rw (p, q) (small_fits (x *ℤ y) (omega (arith, product_size x y m n small_x small_y)))

  pub product_back : to_z w64 (of_z w64 (a *ℤ b)) ≡ x *ℤ y
  product_back = to_z-of_z w64 (a *ℤ b) product_fits ∙ ap₂ (λ s t. s *ℤ t) p q

-- what `-z` computes
module _ (z : ℤ) (h : nat_abs z < 2 ^ 63) where
  pub minus_fits : SFits w64 (pos 0 -ℤ to_z w64 (of_z w64 z))
  minus_fits = rw (small_back z h) (omega (arith, ints))

  pub minus_back : to_z w64 (of_z w64 (pos 0 -ℤ to_z w64 (of_z w64 z))) ≡ neg_ℤ z
  minus_back = to_z-of_z w64 _ minus_fits ∙ rw (small_back z h) (omega (arith, ints))

-- what `a + b` and `a - b` compute, of numbers in variables or from calls
module _ (a b : ℤ) (h : nat_abs a + nat_abs b < 2 ^ 63) where
  left_back : to_z w64 (of_z w64 a) ≡ a
  left_back = small_back a (omega arith)

  right_back : to_z w64 (of_z w64 b) ≡ b
  right_back = small_back b (omega arith)

  pub sum_fits : SFits w64 (to_z w64 (of_z w64 a) +ℤ to_z w64 (of_z w64 b))
  sum_fits = rw (left_back, right_back) (omega (arith, ints))

  pub sum_back : to_z w64 (of_z w64 (to_z w64 (of_z w64 a) +ℤ to_z w64 (of_z w64 b))) ≡ a +ℤ b
  sum_back = to_z-of_z w64 _ sum_fits ∙ ap₂ (λ x y. x +ℤ y) left_back right_back

  pub difference_fits : SFits w64 (to_z w64 (of_z w64 a) -ℤ to_z w64 (of_z w64 b))
  difference_fits = rw (left_back, right_back) (omega (arith, ints))

  pub difference_back : to_z w64 (of_z w64 (to_z w64 (of_z w64 a) -ℤ to_z w64 (of_z w64 b))) ≡ a -ℤ b
  difference_back = to_z-of_z w64 _ difference_fits ∙ ap₂ (λ x y. x -ℤ y) left_back right_back

-- what `-(n as i64)` computes
module _ (n : ℕ) (h : n < 2 ^ 63) where
  pub cast_back : to_z w64 n ≡ pos n
  cast_back = to_z_pos w64 n h

  pub minus_cast_fits : SFits w64 (pos 0 -ℤ to_z w64 n)
  minus_cast_fits = rw cast_back (omega (arith, ints))

  pub minus_cast_back : to_z w64 (of_z w64 (pos 0 -ℤ to_z w64 n)) ≡ neg_ℤ (pos n)
  minus_cast_back = to_z-of_z w64 _ minus_cast_fits ∙ rw cast_back (omega (arith, ints))

-- what `m as i64 - n as i64` computes
module _ (m n : ℕ) (p : m < 2 ^ 63) (q : n < 2 ^ 63) where
  pub casts_fit : SFits w64 (to_z w64 m -ℤ to_z w64 n)
  casts_fit = rw (cast_back m p, cast_back n q) (omega (arith, ints))

  pub casts_back : to_z w64 (of_z w64 (to_z w64 m -ℤ to_z w64 n)) ≡ pos m -ℤ pos n
  casts_back = to_z-of_z w64 _ casts_fit ∙ ap₂ (λ x y. x -ℤ y) (cast_back m p) (cast_back n q)

-- what `a + b - c` computes
module _ (a b c : ℤ) (h : nat_abs a + nat_abs b + nat_abs c < 2 ^ 63) where
  two_back : to_z w64 (of_z w64 (to_z w64 (of_z w64 a) +ℤ to_z w64 (of_z w64 b))) ≡ a +ℤ b
  two_back = sum_back a b (omega arith)

  third_back : to_z w64 (of_z w64 c) ≡ c
  third_back = small_back c (omega arith)

  pub three_fit : SFits w64 (to_z w64 (of_z w64 (to_z w64 (of_z w64 a) +ℤ to_z w64 (of_z w64 b))) -ℤ to_z w64 (of_z w64 c))
  three_fit = rw (two_back, third_back) (omega (arith, ints))

  pub three_back : to_z w64 (of_z w64 (to_z w64 (of_z w64 (to_z w64 (of_z w64 a) +ℤ to_z w64 (of_z w64 b))) -ℤ to_z w64 (of_z w64 c))) ≡ a +ℤ b -ℤ c
  three_back = to_z-of_z w64 _ three_fit ∙ ap₂ (λ x y. x -ℤ y) two_back third_back
