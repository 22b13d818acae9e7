-- Places in an order. The rank of a place is how many places come before it; below every number up to n there are as many ranks as that number.
use Rattle.std.specs.Prelude.{◌≡◌, ℕ, zero, suc, ◌+◌, ◌-◌, ◌<◌, ◌≤◌, Bool, true, false, cond, ltb, ◌⊎◌, ◌≢◌, nat_lt, refl}
use Rattle.std.proofs.Common.{sym, ap, ◌∙◌, inl, inr, ⊎_elim, arith}
use Rattle.std.proofs.lemmas.Bool.{both_ways, lt-ltb, le-ltb, cases_lt, cases_Bool}
use Rattle.units.specs.Sums.{tally}
use Rattle.units.proofs.Firsts.{tally-sum}
use Rattle.units.proofs.Totals.{sum_mono, sum_mono_lt, sum_bound}

-- 1 where a test passes
abbrev pub one : Bool → ℕ
one t = cond t 1 0

one_le : (s t : Bool) → (s ≡ true → t ≡ true) → one s ≤ one t
one_le true t h = omega (arith, ap one (h refl))
one_le false t h = omega arith

-- ---- how many places pass a test

pub tally_mono : (n : ℕ) (p q : ℕ → Bool) → ((k : ℕ) → p k ≡ true → q k ≡ true) → tally n p ≤ tally n q
tally_mono n p q h = omega (arith, tally-sum n p, tally-sum n q, sum_mono n (λ k. one (p k)) (λ k. one (q k)) (λ k _. one_le (p k) (q k) (h k)))

tally_less : (n i : ℕ) (p q : ℕ → Bool) → i < n → p i ≡ false → q i ≡ true → ((k : ℕ) → p k ≡ true → q k ≡ true) → tally n p < tally n q
tally_less n i p q l fails passes h = omega (arith, tally-sum n p, tally-sum n q, sum_mono_lt n i (λ k. one (p k)) (λ k. one (q k)) l (omega (arith, ap one fails, ap one passes)) (λ k _. one_le (p k) (q k) (h k)))

tally_few : (n : ℕ) (p : ℕ → Bool) → tally n p ≤ n
tally_few n p = omega (arith, tally-sum n p, sum_bound n (λ k. one (p k)) 1 (λ k _. one_le (p k) true (λ _. refl)))

tally_ext : (n : ℕ) (p q : ℕ → Bool) → ((k : ℕ) → k < n → p k ≡ q k) → tally n p ≡ tally n q
tally_ext zero p q h = refl
tally_ext (suc n) p q h = λ i. tally_ext n p q (λ k l. h k (omega arith)) i + one (h n (omega arith) i)

-- two tests that pass together
same_test : (a b m n : ℕ) → (a < m → b < n) → (m ≤ a → n ≤ b) → nat_lt a m ≡ nat_lt b n
same_test a b m n h k = ⊎_elim (λ l. lt-ltb a m l ∙ sym (lt-ltb b n (h l))) (λ l. le-ltb a m l ∙ sym (le-ltb b n (k l))) (cases_lt a m)

-- ---- the order

-- a strict total order
pub record Order (sooner : ℕ → ℕ → Bool) : Type 0 where
  pub itself : (k : ℕ) → sooner k k ≡ false
  pub through : (i j k : ℕ) → sooner i j ≡ true → sooner j k ≡ true → sooner i k ≡ true
  pub either : (j k : ℕ) → (j ≢ k) → sooner j k ≡ false → sooner k j ≡ true

-- how many of the first n places come before k
abbrev pub rank : (ℕ → ℕ → Bool) → ℕ → ℕ → ℕ
rank sooner n k = tally n (λ j. sooner j k)

module _ (sooner : ℕ → ℕ → Bool) (order : Order sooner) where
  abbrev ranked : ℕ → ℕ → ℕ
  ranked = rank sooner

  one_way : (j k : ℕ) → sooner j k ≡ true → sooner k j ≡ false
  one_way j k h = ⊎_elim (λ g. absurd (both_ways (sooner j j) (order.itself j) (order.through j k j h g))) (λ g. g) (cases_Bool (sooner k j))

  -- what comes before i comes before whatever i comes before
  rank_le : (n i k : ℕ) → sooner i k ≡ true → ranked n i ≤ ranked n k
  rank_le n i k h = tally_mono n (λ j. sooner j i) (λ j. sooner j k) (λ j g. order.through j i k g h)

  rank_lt : (n i k : ℕ) → i < n → sooner i k ≡ true → ranked n i < ranked n k
  rank_lt n i k l h = tally_less n i (λ j. sooner j i) (λ j. sooner j k) l (order.itself i) h (λ j g. order.through j i k g h)

  -- one more place, n: the places after it move up by one
  moved : (n k : ℕ) → k < n → ((ranked n k < ranked n n) × (ranked (suc n) k ≡ ranked n k)) ⊎ ((ranked n n ≤ ranked n k) × (ranked (suc n) k ≡ ranked n k + 1))
  moved n k l = ⊎_elim
      (λ h. inl (rank_lt n k n l h, omega (arith, ap one (one_way k n h))))
      (λ h. let g = order.either k n (omega arith) h in inr (rank_le n n k g, omega (arith, ap one g)))
      (cases_Bool (sooner k n))

  -- so the places with a rank below m are those that had one below x: m itself, or one less where n has a rank below m
  others : (n m x : ℕ) → ((m ≤ ranked n n) × (x ≡ m)) ⊎ ((ranked n n < m) × (m ≡ x + 1)) → tally n (λ k. ltb (ranked (suc n) k) m) ≡ tally n (λ k. ltb (ranked n k) x)
  others n m x h = tally_ext n (λ k. ltb (ranked (suc n) k) m) (λ k. ltb (ranked n k) x) (λ k l. same_test (ranked (suc n) k) (ranked n k) m x (λ g. omega (arith, moved n k l)) (λ g. omega (arith, moved n k l)))

  pub ranks_below : (n m : ℕ) → m ≤ n → tally n (λ k. ltb (ranked n k) m) ≡ m
  ranks_below zero m l = omega arith
  ranks_below (suc n) m l =
      let last : ranked (suc n) n ≡ ranked n n = omega (arith, ap one (order.itself n)) in
      ⊎_elim
      (λ p. omega (arith, others n m (m - 1) (inr (p, omega arith)), ranks_below n (m - 1) (omega arith), ap one (lt-ltb (ranked (suc n) n) m (omega arith))))
      (λ p. omega (arith, others n m m (inl (p, refl)), ranks_below n m (omega (arith, tally_few n (λ j. sooner j n))), ap one (le-ltb (ranked (suc n) n) m (omega arith))))
      (cases_lt (ranked n n) m)
