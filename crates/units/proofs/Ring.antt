-- Laws of ℤ that the library lacks, and sets of laws that prove what is not linear. `omega (arith, ints)` proves what is linear by itself.
use Rattle.std.proofs.Common.{◌≡◌, ℕ, ◌+◌, ◌*◌, ◌<◌, ◌≤◌, ℤ, pos, negsuc, ◌+ℤ◌, ◌-ℤ◌, ◌*ℤ◌, neg_ℤ, nat_abs, ◌≤ℤ◌, ◌<ℤ◌, sym, refl, ap, ◌∙◌, mul-le-mul_right, mul-lt-mul_of_pos_right, arith}
use lib.IntN.{*ℤ_comm}
use lib.Signed.{clash_ℤ}
use Rattle.std.proofs.lemmas.Int.{by_lt_z}
use borrow.Author.Differences.{up, down, ints, same_in, same_out, sum_is_lem, product_is, neg_is, le_out, lt_out, below_in, at_most_in}

-- ---- the product

-- an equation of ℕ, times each part of an integer
module _ {m n : ℕ} (e : m ≡ n) (c : ℤ) where
  times : (m * up c ≡ n * up c) × (m * down c ≡ n * down c)
  times = (ap (λ k. k * up c) e, ap (λ k. k * down c) e)

up_product : (a b : ℤ) → up (a *ℤ b) ≡ up a * up b + down a * down b
up_product a b = (product_is a b).0

down_product : (a b : ℤ) → down (a *ℤ b) ≡ up a * down b + down a * up b
down_product a b = (product_is a b).1

pub *ℤ_assoc : (a b c : ℤ) → a *ℤ b *ℤ c ≡ a *ℤ (b *ℤ c)
*ℤ_assoc a b c = same_in _ _ (simp (up_product, down_product) (omega arith))

pub *ℤ_distrib_right : (a b c : ℤ) → (a +ℤ b) *ℤ c ≡ a *ℤ c +ℤ b *ℤ c
*ℤ_distrib_right a b c = omega (arith, ints, times (sum_is_lem a b) c)

pub neg_ℤ-*ℤ : (a b : ℤ) → neg_ℤ a *ℤ b ≡ neg_ℤ (a *ℤ b)
neg_ℤ-*ℤ a b = omega (arith, ints, times (neg_is a).0 b, times (neg_is a).1 b)

pub *ℤ-neg_ℤ : (a b : ℤ) → a *ℤ neg_ℤ b ≡ neg_ℤ (a *ℤ b)
*ℤ-neg_ℤ a b = omega (arith, ints, times (neg_is b).0 a, times (neg_is b).1 a)

pub *ℤ_distrib_right_sub : (a b c : ℤ) → (a -ℤ b) *ℤ c ≡ a *ℤ c -ℤ b *ℤ c
*ℤ_distrib_right_sub a b c = *ℤ_distrib_right a (neg_ℤ b) c ∙ ap (λ x. a *ℤ c +ℤ x) (neg_ℤ-*ℤ b c)

pub *ℤ_distrib_left : (a b c : ℤ) → a *ℤ (b +ℤ c) ≡ a *ℤ b +ℤ a *ℤ c
*ℤ_distrib_left a b c = omega (arith, ints, times (sum_is_lem b c) a)

pub *ℤ_left_comm : (a b c : ℤ) → a *ℤ (b *ℤ c) ≡ b *ℤ (a *ℤ c)
*ℤ_left_comm a b c = sym (*ℤ_assoc a b c) ∙ ap (λ x. x *ℤ c) (*ℤ_comm a b) ∙ *ℤ_assoc b a c

-- multiplies out: `simp spread (omega (arith, ints))` proves an equation or an order of degree two, with numerals too
pub ruleset spread = (*ℤ_distrib_left, *ℤ_distrib_right, neg_ℤ-*ℤ, *ℤ-neg_ℤ)

-- these, and the order of factors: `simp ring (omega (arith, sums))` proves one of any degree, if no numeral stands in a product
pub ruleset ring = (spread, *ℤ_assoc, *ℤ_comm, *ℤ_left_comm)

-- for `omega`, as `ints` but with each product left as it stands
pub ruleset sums = (same_in, same_out, sum_is_lem, neg_is, lt_out, le_out, below_in, at_most_in)

pub *ℤ_one_right : (a : ℤ) → a *ℤ pos 1 ≡ a
*ℤ_one_right a = omega (arith, ints)

-- ---- the sum, regrouped

-- ---- the size of a number

pub nat_abs-*ℤ : (a b : ℤ) → nat_abs (a *ℤ b) ≡ nat_abs a * nat_abs b
nat_abs-*ℤ (pos a) (pos b) = refl
nat_abs-*ℤ (pos a) (negsuc b) = omega (arith, ints)
nat_abs-*ℤ (negsuc a) (pos b) = omega (arith, ints)
nat_abs-*ℤ (negsuc a) (negsuc b) = refl

pub nat_abs-+ℤ : (a b : ℤ) → nat_abs (a +ℤ b) ≤ nat_abs a + nat_abs b
nat_abs-+ℤ a b = omega (arith, ints)

pub nat_abs--ℤ : (a b : ℤ) → nat_abs (a -ℤ b) ≤ nat_abs a + nat_abs b
nat_abs--ℤ a b = omega (arith, ints)

pub pos-nat_abs : (z : ℤ) → pos 0 ≤ℤ z → z ≡ pos (nat_abs z)
pos-nat_abs z h = omega (arith, ints)

-- ---- the order

pub *ℤ_mono : (a b : ℤ) (n : ℕ) → a ≤ℤ b → (a *ℤ pos n) ≤ℤ (b *ℤ pos n)
*ℤ_mono a b n h = omega (arith, ints, mul-le-mul_right n (le_out a b h))

pub *ℤ_mono_lt : (a b : ℤ) (n : ℕ) → 0 < n → a <ℤ b → (a *ℤ pos n) <ℤ (b *ℤ pos n)
*ℤ_mono_lt a b n p h = omega (arith, ints, mul-lt-mul_of_pos_right (lt_out a b h) p)

-- a positive factor is taken off both sides
pub *ℤ_cancel_lt : (a b : ℤ) (n : ℕ) → (a *ℤ pos n) <ℤ (b *ℤ pos n) → a <ℤ b
*ℤ_cancel_lt a b n h = by_lt_z a b (λ l. l) (λ l. clash_ℤ h (*ℤ_mono b a n l))

pub *ℤ_cancel_le : (a b : ℤ) (n : ℕ) → 0 < n → (a *ℤ pos n) ≤ℤ (b *ℤ pos n) → a ≤ℤ b
*ℤ_cancel_le a b n p h = by_lt_z b a (λ l. clash_ℤ (*ℤ_mono_lt b a n p l) h) (λ l. l)
