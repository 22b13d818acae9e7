-- What stands where after an addition at one place.
use Rattle.std.proofs.Common.{◌≡◌, ℕ, ◌+◌, ◌*◌, ◌^◌, ◌<◌, ◌≤◌, eqb, List, length, get_or, ℤ, pos, ◌+ℤ◌, nat_abs, sym, refl, ap, ◌∙◌, ⊎_elim, mul-le-mul_right, arith}
use borrow.Author.Differences.{ints}
use Rattle.std.proofs.lemmas.List.{get_or-set_same, get_or-set_other, length-set}
use Rattle.std.proofs.lemmas.Bool.{cases_eq, eq-eqb, ne_eqb}
use Rattle.units.specs.Sums.{total, when}
use Rattle.transfers.specs.Sums.{added, Eight}
use Rattle.units.proofs.Totals.{total_more, total_bound}

pub get_or-added : (sums : List ℤ) (p : ℕ) (z : ℤ) (k : ℕ) → p < length sums → get_or (added sums p z) k (pos 0) ≡ get_or sums k (pos 0) +ℤ when (eqb p k) z
get_or-added sums p z k l = ⊎_elim
    (λ e. rw (← e, eq-eqb p p refl) (get_or-set_same sums p (get_or sums p (pos 0) +ℤ z) (pos 0) l))
    (λ d. get_or-set_other sums p k (get_or sums p (pos 0) +ℤ z) (pos 0) (λ e. d (sym e)) ∙ rw (ne_eqb p k d) (omega (arith, ints)))
    (cases_eq p k)

pub length-added : (sums : List ℤ) (p : ℕ) (z : ℤ) → length (added sums p z) ≡ length sums
length-added sums p z = length-set sums p (get_or sums p (pos 0) +ℤ z)

-- ---- a loop's turn, which adds z at place p to the sums of the first l summands

module _ (f : ℕ → ℕ → ℤ) (l p : ℕ) (z : ℤ) (xs : List ℤ) (so_far : Eight (λ k. total l (f k)) xs) (low : p < 8) (is : (k : ℕ) → f k l ≡ when (eqb p k) z) where
  pub added_step : Eight (λ k. total (l + 1) (f k)) (added xs p z)
  added_step = (
    length-added xs p z ∙ so_far.0,
    λ k q. get_or-added xs p z k (omega (arith, so_far.0)) ∙ omega (arith, ints, so_far.1 k q, is k, total_more l (f k)),
  )

  pub added_fits : (n b : ℕ) → l ≤ n → ((i : ℕ) → i ≤ l → nat_abs (f p i) ≤ b) → n * b + b < 2 ^ 63 → nat_abs (get_or xs p (pos 0)) + nat_abs z < 2 ^ 63
  added_fits n b few small fits =
      let here : f p l ≡ z = is p ∙ ap (λ t. when t z) (eq-eqb p p refl) in
      omega (arith, ap nat_abs (so_far.1 p low), total_bound l (f p) b (λ i q. small i (omega arith)), mul-le-mul_right b few, small l (omega arith), ap nat_abs here)
