-- Shares as the code computes them: an amount beyond the limit is shared as 0.
use Rattle.std.proofs.Common.{◌≡◌, ℕ, suc, ◌*◌, ◌<◌, ◌≤◌, Bool, true, false, cond, ◌&&◌, ltb, List, ◌∷◌, ℤ, pos, ◌-ℤ◌, ◌*ℤ◌, nat_abs, sym, refl, ap, ◌∙◌, ⊎_elim, lt_of_mul-lt-mul_right, arith, w64, SFits, to_z, of_z}
use lib.IntN.{zero-*ℤ}
use borrow.Author.Differences.{ints}
use Rattle.std.proofs.lemmas.Int.{to_z-of_z}
use Rattle.std.proofs.lemmas.Bool.{lt-ltb, le-leb, lt-leb, cases_lt, cond-true, cond-false}
use Rattle.units.specs.Sums.{sum}
use Rattle.units.specs.Rows.{over}
use Rattle.units.proofs.Fits.{small_back}
use Rattle.units.proofs.Ring.{nat_abs-*ℤ}
use Rattle.units.proofs.Rows.{over_first, over_ext}
use Rattle.sharing.specs.Rules.{Rule, Lawful, limit, shareable, part_down, within, within_limit, given}
use Rattle.sharing.specs.Weighted.{by_weight}
use Rattle.sharing.specs.Derogated.{at_most_all, first_share, derogated, derogated_share}
use Rattle.sharing.specs.Parts.{part_zero}
use Rattle.sharing.specs.Within.{within_is, within_no_amount}

within_limit_in : (a : ℤ) → nat_abs a ≤ limit → within_limit a ≡ a
within_limit_in a h = cond-true (shareable a) a (pos 0) (le-leb (nat_abs a) limit h)

within_limit_out : (a : ℤ) → limit < nat_abs a → within_limit a ≡ pos 0
within_limit_out a h = cond-false (shareable a) a (pos 0) (lt-leb (nat_abs a) limit h)

-- a share function that gives 0 of 0
within_shared : (n : ℕ) (share : ℕ → ℤ → ℤ) (k : ℕ) (a s : ℤ) → s ≡ within_limit a → k < n → share k (pos 0) ≡ pos 0 → share k s ≡ within n share k a
within_shared n share k a s shared l none = ap (share k) shared ∙ go (shareable a)
  where
    go : (t : Bool) → share k (cond t a (pos 0)) ≡ cond (ltb k n && t) (share k a) (pos 0)
    go true = ap (λ b. cond (b && true) (share k a) (pos 0)) (sym (lt-ltb k n l))
    go false = none ∙ ap (λ b. cond (b && false) (share k a) (pos 0)) (sym (lt-ltb k n l))

-- a rule by weights, given an amount within the limit, or 0
module _ (n : ℕ) (w : ℕ → ℕ) (share : ℕ → ℤ → ℤ) (keeps : Lawful (by_weight n w share)) where
  -- of no amount each owner gets 0: by the laws its share is less than a cent
  none : (k : ℕ) → k < n → share k (pos 0) ≡ pos 0
  none k l =
      let x = share k (pos 0) in
      let off : nat_abs ((x *ℤ pos (sum n w)) -ℤ pos 0) < 1 * sum n w = rw (within_is n share (pos 0) k (omega arith) l, zero-*ℤ (pos (w k))) at (keeps.near (pos 0) (omega arith) k l) in
      let few : nat_abs x < 1 = lt_of_mul-lt-mul_right (sum n w) {m = nat_abs x} {n = 1} (omega (arith, ints, nat_abs-*ℤ x (pos (sum n w)))) in
      omega (arith, ints)

  pub given_shared : (a s : ℤ) (row : List ℤ) → s ≡ within_limit a → over n (λ k. share k s) row ≡ given (by_weight n w share) a row
  given_shared a s row shared = over_ext n (λ k. share k s) (λ k. within n share k a) row (λ k l. within_shared n share k a s shared l (none k l))

-- ---- a derogation: the first share, and those of the rule below, which gives 0 of an amount beyond the limit

module _ (p : ℕ) (below : Rule) (keeps : Lawful below) (a : ℤ) where
  abbrev first : ℤ
  first = first_share p (within_limit a)

  derogated_first : first ≡ (derogated p below).share 0 a
  derogated_first = within_shared (suc below.owners) (derogated_share p below) 0 a (within_limit a) refl (omega arith) (part_zero (at_most_all p) 10000)

  derogated_rest : (k : ℕ) → k < below.owners → below.share k (a -ℤ first) ≡ (derogated p below).share (suc k) a
  derogated_rest k l = ⊎_elim
      (λ h. keeps.no_amount (a -ℤ first) k (omega (arith, ints, ap (first_share p) (within_limit_out a h), part_zero (at_most_all p) 10000)) ∙ sym (within_no_amount (suc below.owners) (derogated_share p below) a (suc k) h))
      (λ h. ap (λ z. below.share k (a -ℤ first_share p z)) (within_limit_in a h) ∙ sym (within_is (suc below.owners) (derogated_share p below) a (suc k) h (omega arith)))
      (cases_lt limit (nat_abs a))

  -- what the code writes: the first share, and then what the rule below gives
  pub given_derogated : (x : ℤ) (xs : List ℤ) → first ∷ given below (a -ℤ first) xs ≡ given (derogated p below) a (x ∷ xs)
  given_derogated x xs =
      (λ i. derogated_first i ∷ over_ext below.owners (λ k. below.share k (a -ℤ first)) (λ k. (derogated p below).share (suc k) a) xs derogated_rest i)
      ∙ sym (over_first below.owners (λ k. (derogated p below).share k a) x xs)

-- what the code computes of an amount a: r is what is shared of it, and x the first share
module _ (p : ℕ) (a r x : ℤ) (fits : SFits w64 a) (r_is : r ≡ within_limit (to_z w64 (of_z w64 a))) (x_is : x ≡ part_down r (at_most_all p) 10000) (x_small : nat_abs x ≤ limit) where
  a_back : to_z w64 (of_z w64 a) ≡ a
  a_back = to_z-of_z w64 a fits

  pub first_back : to_z w64 (of_z w64 x) ≡ first_share p (within_limit a)
  first_back = small_back x (omega arith) ∙ x_is ∙ ap (first_share p) (r_is ∙ ap within_limit a_back)

  rest_fits : SFits w64 (a -ℤ first_share p (within_limit a))
  rest_fits = ⊎_elim
      (λ h. omega (arith, ints, ap (first_share p) (within_limit_out a h), part_zero (at_most_all p) 10000))
      (λ h. omega (arith, ints, first_back, small_back x (omega arith)))
      (cases_lt limit (nat_abs a))

  pub left_back : to_z w64 (of_z w64 (to_z w64 (of_z w64 a) -ℤ to_z w64 (of_z w64 x))) ≡ a -ℤ first_share p (within_limit a)
  left_back = to_z-of_z w64 _ (rw (a_back, first_back) rest_fits) ∙ (λ i. a_back i -ℤ first_back i)
