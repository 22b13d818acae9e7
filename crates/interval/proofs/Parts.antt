-- The parts of a word that is made from its parts, and a word from its parts again.
use Rattle.std.proofs.Common.{◌≡◌, ℕ, suc, ◌+◌, ◌-◌, ◌*◌, ◌/◌, ◌%◌, ◌^◌, ◌<◌, ◌≤◌, cond, ltb, ℤ, pos, negsuc, ◌-ℤ◌, ◌≤ℤ◌, ap, ◌∙◌, ⊎_elim, arith}
use Rattle.std.proofs.lemmas.Bool.{cond-true, cond-false, lt-ltb, le-ltb, cases_lt}
use Rattle.std.proofs.lemmas.Int.{ints}
use Rattle.interval.specs.Words.{kind, count, ordinal, signed, point, energy}
use Rattle.interval.specs.Spelling.{of_kind, in_24_bits}

module _ (k n : ℕ) (low : n < 2 ^ 28) where
  pub kind_of : kind (of_kind k n) ≡ k
  kind_of = omega arith

  pub count_of : count (of_kind k n) ≡ n
  count_of = omega arith

  pub ordinal_of : ordinal (of_kind k n) ≡ n / 2 ^ 24
  ordinal_of = omega arith

  pub signed_of : signed (of_kind k n) ≡ signed n
  signed_of = let e : of_kind k n % 2 ^ 24 ≡ n % 2 ^ 24 = omega arith in ap (λ m. cond (ltb m (2 ^ 23)) (pos m) (pos m -ℤ pos (2 ^ 24))) e

  pub point_of : point (of_kind k n) ≡ n / 2 ^ 20
  point_of = omega arith

  pub energy_of : energy (of_kind k n) ≡ n % 2 ^ 20
  energy_of = omega arith

signed_low : (n : ℕ) → n % 2 ^ 24 < 2 ^ 23 → signed n ≡ pos (n % 2 ^ 24)
signed_low n h = cond-true _ _ _ (lt-ltb (n % 2 ^ 24) (2 ^ 23) h)

signed_high : (n : ℕ) → 2 ^ 23 ≤ n % 2 ^ 24 → signed n ≡ negsuc (2 ^ 24 - suc (n % 2 ^ 24))
signed_high n h = cond-false _ _ _ (le-ltb (n % 2 ^ 24) (2 ^ 23) h) ∙ omega (arith, ints)

pub in_24_bits_signed : (n : ℕ) → in_24_bits (signed n) ≡ n % 2 ^ 24
in_24_bits_signed n = ⊎_elim
    (λ low. ap in_24_bits (signed_low n low))
    (λ high. ap in_24_bits (signed_high n high) ∙ omega arith)
    (cases_lt (n % 2 ^ 24) (2 ^ 23))

-- a number that fits
pub in_24_bits_lt : (z : ℤ) → negsuc 8388607 ≤ℤ z → z ≤ℤ pos 8388607 → in_24_bits z < 2 ^ 24
in_24_bits_lt (pos n) a b = omega (arith, ints)
in_24_bits_lt (negsuc n) a b = omega arith

pub signed_in_24_bits : (i : ℕ) (z : ℤ) → negsuc 8388607 ≤ℤ z → z ≤ℤ pos 8388607 → signed (i * 2 ^ 24 + in_24_bits z) ≡ z
signed_in_24_bits i (pos n) a b =
    let e : (i * 2 ^ 24 + n) % 2 ^ 24 ≡ n = omega (arith, ints) in
    signed_low (i * 2 ^ 24 + n) (omega (arith, ints)) ∙ ap pos e
signed_in_24_bits i (negsuc n) a b =
    let e : 2 ^ 24 - suc ((i * 2 ^ 24 + (2 ^ 24 - suc n)) % 2 ^ 24) ≡ n = omega (arith, ints) in
    signed_high (i * 2 ^ 24 + (2 ^ 24 - suc n)) (omega (arith, ints)) ∙ ap negsuc e
