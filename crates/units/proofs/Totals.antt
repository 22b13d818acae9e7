-- Laws of `total` and `sum`, and of `when`.
use Rattle.std.proofs.Common.{◌≡◌, ℕ, zero, suc, ◌+◌, ◌*◌, ◌<◌, ◌≤◌, Bool, true, false, eqb, ℤ, pos, ◌+ℤ◌, ◌-ℤ◌, ◌*ℤ◌, neg_ℤ, nat_abs, sym, refl, ap, ◌∙◌, ⊎_elim, add-zero, add-suc, mul-zero, zero-mul, add-one, arith}
use lib.IntN.{zero-*ℤ, *ℤ-zero, +ℤ_idr}
use borrow.Author.Differences.{ints}
use Rattle.std.proofs.lemmas.Bool.{cases_eq, eq-eqb, ne_eqb}
use Rattle.units.specs.Sums.{total, sum, when}
use Rattle.units.proofs.Ring.{*ℤ_distrib_left, *ℤ_distrib_right}

-- ---- when

pub when_neg : (b : Bool) (x : ℤ) → when b (neg_ℤ x) ≡ neg_ℤ (when b x)
when_neg true x = refl
when_neg false x = refl

pub when_sub : (b : Bool) (x y : ℤ) → when b (x -ℤ y) ≡ when b x -ℤ when b y
when_sub true x y = refl
when_sub false x y = refl

pub when_scale : (b : Bool) (x c : ℤ) → when b (x *ℤ c) ≡ when b x *ℤ c
when_scale true x c = refl
when_scale false x c = sym (zero-*ℤ c)

pub when_size : (b : Bool) (x : ℤ) → nat_abs (when b x) ≤ nat_abs x
when_size true x = omega arith
when_size false x = omega arith

-- ---- total, summand by summand

pub total_ext : (n : ℕ) (f g : ℕ → ℤ) → ((k : ℕ) → k < n → f k ≡ g k) → total n f ≡ total n g
total_ext zero f g h = refl
total_ext (suc n) f g h = λ i. total_ext n f g (λ k l. h k (omega arith)) i +ℤ h n (omega arith) i

pub total_zero : (n : ℕ) → total n (λ _. pos 0) ≡ pos 0
total_zero zero = refl
total_zero (suc n) = omega (arith, ints, total_zero n)

pub total_add : (n : ℕ) (f g : ℕ → ℤ) → total n (λ k. f k +ℤ g k) ≡ total n f +ℤ total n g
total_add zero f g = refl
total_add (suc n) f g = omega (arith, ints, total_add n f g)

pub total_neg : (n : ℕ) (f : ℕ → ℤ) → total n (λ k. neg_ℤ (f k)) ≡ neg_ℤ (total n f)
total_neg zero f = refl
total_neg (suc n) f = omega (arith, ints, total_neg n f)

pub total_sub : (n : ℕ) (f g : ℕ → ℤ) → total n (λ k. f k -ℤ g k) ≡ total n f -ℤ total n g
total_sub n f g = total_add n f (λ k. neg_ℤ (g k)) ∙ ap (λ z. total n f +ℤ z) (total_neg n g)

pub total_scale : (n : ℕ) (f : ℕ → ℤ) (c : ℤ) → total n (λ k. f k *ℤ c) ≡ total n f *ℤ c
total_scale zero f c = sym (zero-*ℤ c)
total_scale (suc n) f c = ap (λ z. z +ℤ f n *ℤ c) (total_scale n f c) ∙ sym (*ℤ_distrib_right (total n f) (f n) c)

pub total_scale_left : (n : ℕ) (c : ℤ) (f : ℕ → ℤ) → total n (λ k. c *ℤ f k) ≡ c *ℤ total n f
total_scale_left zero c f = sym (*ℤ-zero c)
total_scale_left (suc n) c f = ap (λ z. z +ℤ c *ℤ f n) (total_scale_left n c f) ∙ sym (*ℤ_distrib_left c (total n f) (f n))

pub total_when : (n : ℕ) (b : Bool) (f : ℕ → ℤ) → total n (λ k. when b (f k)) ≡ when b (total n f)
total_when n true f = refl
total_when n false f = total_zero n

pub total_const : (n : ℕ) (z : ℤ) → total n (λ _. z) ≡ z *ℤ pos n
total_const zero z = sym (*ℤ-zero z)
total_const (suc n) z = omega (arith, ints, total_const n z)

-- takes a total of sums and multiples apart: `simp (ring, totals) (omega (arith, sums))`
pub ruleset totals = (total_zero, total_add, total_neg, total_scale, total_scale_left, total_when, total_const)

pub total_pos : (n : ℕ) (f : ℕ → ℕ) → total n (λ k. pos (f k)) ≡ pos (sum n f)
total_pos zero f = refl
total_pos (suc n) f = ap (λ z. z +ℤ pos (f n)) (total_pos n f)

pub total_swap : (m n : ℕ) (f : ℕ → ℕ → ℤ) → total m (λ j. total n (f j)) ≡ total n (λ k. total m (λ j. f j k))
total_swap zero n f = sym (total_zero n)
total_swap (suc m) n f = ap (λ z. z +ℤ total n (f m)) (total_swap m n f) ∙ sym (total_add n (λ k. total m (λ j. f j k)) (f m))

-- what is left of differences between neighbours
pub total_telescope : (n : ℕ) (f : ℕ → ℤ) → total n (λ k. f (suc k) -ℤ f k) ≡ f n -ℤ f 0
total_telescope zero f = omega (arith, ints)
total_telescope (suc n) f = omega (arith, ints, total_telescope n f)

-- ---- total, block by block

-- one more place, as a loop's step counts it
pub total_more : (n : ℕ) (f : ℕ → ℤ) → total (n + 1) f ≡ total n f +ℤ f n
total_more n f = ap (λ m. total m f) (add-one n)

pub total_split : (m n : ℕ) (f : ℕ → ℤ) → total (m + n) f ≡ total m f +ℤ total n (λ k. f (m + k))
total_split m zero f = rw (add-zero m) (sym (+ℤ_idr (total m f)))
total_split m (suc n) f = rw (add-suc m n) (omega (arith, ints, total_split m n f))

-- the first summand, and the others
pub total_first : (n : ℕ) (f : ℕ → ℤ) → total (suc n) f ≡ f 0 +ℤ total n (λ k. f (suc k))
total_first zero f = omega (arith, ints)
total_first (suc n) f = omega (arith, ints, total_first n f)

-- three blocks, as 48 = 8 + 8 + 32
pub total_split3 : (a b c : ℕ) (f : ℕ → ℤ) → total (a + b + c) f ≡ total a f +ℤ total b (λ k. f (a + k)) +ℤ total c (λ k. f (a + b + k))
total_split3 a b c f = total_split (a + b) c f ∙ ap (λ z. z +ℤ total c (λ k. f (a + b + k))) (total_split a b f)

-- ---- total, at one place

-- all summands but the one at i are 0
pub total_only : (n i : ℕ) (f : ℕ → ℤ) → i < n → ((k : ℕ) → k < n → (i ≡ k → ⊥) → f k ≡ pos 0) → total n f ≡ f i
total_only zero i f l h = absurd (omega arith)
total_only (suc n) i f l h = ⊎_elim
    (λ e.
    let rest = total_ext n f (λ _. pos 0) (λ k p. h k (omega arith) (omega arith)) ∙ total_zero n in
    let here = ap f e in
    omega (arith, ints))
    (λ e. omega (arith, ints, total_only n i f (omega arith) (λ k p. h k (omega arith)), h n (omega arith) e))
    (cases_eq i n)

pub total_pick : (n i : ℕ) (f : ℕ → ℤ) → i < n → total n (λ k. when (eqb i k) (f k)) ≡ f i
total_pick n i f l =
    total_only n i (λ k. when (eqb i k) (f k)) l (λ k p d. ap (λ t. when t (f k)) (ne_eqb i k d))
    ∙ ap (λ t. when t (f i)) (eq-eqb i i refl)

-- ---- total, bounded

-- the size of a total is at most the sum of the sizes
pub total_size : (n : ℕ) (f : ℕ → ℤ) → nat_abs (total n f) ≤ sum n (λ k. nat_abs (f k))
total_size zero f = omega arith
total_size (suc n) f = omega (arith, ints, total_size n f)

-- ---- sum

pub sum_ext : (n : ℕ) (f g : ℕ → ℕ) → ((k : ℕ) → k < n → f k ≡ g k) → sum n f ≡ sum n g
sum_ext zero f g h = refl
sum_ext (suc n) f g h = λ i. sum_ext n f g (λ k l. h k (omega arith)) i + h n (omega arith) i

pub sum_scale : (n : ℕ) (f : ℕ → ℕ) (c : ℕ) → sum n (λ k. f k * c) ≡ sum n f * c
sum_scale zero f c = sym (zero-mul c)
sum_scale (suc n) f c = omega (arith, sum_scale n f c)

pub sum_scale_left : (n : ℕ) (c : ℕ) (f : ℕ → ℕ) → sum n (λ k. c * f k) ≡ c * sum n f
sum_scale_left zero c f = sym (mul-zero c)
sum_scale_left (suc n) c f = omega (arith, sum_scale_left n c f)

pub sum_const : (n c : ℕ) → sum n (λ _. c) ≡ n * c
sum_const zero c = sym (zero-mul c)
sum_const (suc n) c = omega (arith, sum_const n c)

pub sum_more : (n : ℕ) (f : ℕ → ℕ) → sum (n + 1) f ≡ sum n f + f n
sum_more n f = ap (λ m. sum m f) (add-one n)

pub sum_split : (m n : ℕ) (f : ℕ → ℕ) → sum (m + n) f ≡ sum m f + sum n (λ k. f (m + k))
sum_split m zero f = rw (add-zero m) (sym (add-zero (sum m f)))
sum_split m (suc n) f = rw (add-suc m n) (omega (arith, sum_split m n f))

pub sum_first : (n : ℕ) (f : ℕ → ℕ) → sum (suc n) f ≡ f 0 + sum n (λ k. f (suc k))
sum_first zero f = omega arith
sum_first (suc n) f = omega (arith, sum_first n f)

pub sum_mono : (n : ℕ) (f g : ℕ → ℕ) → ((k : ℕ) → k < n → f k ≤ g k) → sum n f ≤ sum n g
sum_mono zero f g h = omega arith
sum_mono (suc n) f g h = omega (arith, sum_mono n f g (λ k l. h k (omega arith)), h n (omega arith))

-- less at one place is less in all
pub sum_mono_lt : (n i : ℕ) (f g : ℕ → ℕ) → i < n → f i < g i → ((k : ℕ) → k < n → f k ≤ g k) → sum n f < sum n g
sum_mono_lt zero i f g l lower h = absurd (omega arith)
sum_mono_lt (suc n) i f g l lower h = ⊎_elim
    (λ e. omega (arith, ap f e, ap g e, sum_mono n f g (λ k p. h k (omega arith))))
    (λ d. omega (arith, h n (omega arith), sum_mono_lt n i f g (omega arith) lower (λ k p. h k (omega arith))))
    (cases_eq i n)

pub sum_bound : (n : ℕ) (f : ℕ → ℕ) (b : ℕ) → ((k : ℕ) → k < n → f k ≤ b) → sum n f ≤ n * b
sum_bound n f b h = omega (arith, sum_mono n f (λ _. b) h, sum_const n b)

-- one summand is at most the sum
pub sum_place : (n i : ℕ) (f : ℕ → ℕ) → i < n → f i ≤ sum n f
sum_place zero i f l = absurd (omega arith)
sum_place (suc n) i f l = ⊎_elim (λ e. omega (arith, ap f e)) (λ d. omega (arith, sum_place n i f (omega arith))) (cases_eq i n)

pub total_bound : (n : ℕ) (f : ℕ → ℤ) (b : ℕ) → ((k : ℕ) → k < n → nat_abs (f k) ≤ b) → nat_abs (total n f) ≤ n * b
total_bound n f b h = omega (arith, total_size n f, sum_bound n (λ k. nat_abs (f k)) b h)
