-- Weights, and what they come to.
use Rattle.std.proofs.Common.{◌≡◌, ℕ, zero, suc, ◌+◌, ◌-◌, ◌<◌, ◌≤◌, Bool, cond, List, [], ◌∷◌, map, length, sum, sym, refl, ap, ◌∙◌, ⊎_elim, add-one, arith}
use Rattle.std.specs.List.{count_by, range_with_len}
use Rattle.std.proofs.lemmas.List.FromFn.{sum_by-map-range_with_len_more}
use Rattle.std.proofs.lemmas.List.{get_or_past}
use Rattle.std.proofs.lemmas.List.Sums.{sum_by-cons, sum-map}
use Rattle.std.proofs.lemmas.Bool.{cases_lt}
use Rattle.units.specs.Sums as places
use Rattle.units.proofs.Firsts.{tally-sum}
use Rattle.units.proofs.Totals.{sum_split, sum_first, sum_place}
use Rattle.sharing.specs.Fillings.{weight_at, all}

-- what all have is the sum of the list
pub all-sum : (weights : List ℕ) → all weights ≡ sum weights
all-sum [] = refl
all-sum (x ∷ xs) = sum_first (length xs) (weight_at (x ∷ xs)) ∙ ap (λ n. x + n) (all-sum xs) ∙ sym (sum_by-cons (λ n. n) x xs)

-- what one has is part of what all have
pub weight_few : (weights : List ℕ) (k : ℕ) → weight_at weights k ≤ all weights
weight_few weights k = ⊎_elim
    (λ l. sum_place (length weights) k (weight_at weights) l)
    (λ l. omega (arith, get_or_past weights k 0 l))
    (cases_lt k (length weights))

-- and so is m, what the places before k have, with what k has
pub upto_few : (n k : ℕ) (w : ℕ → ℕ) (m d : ℕ) → k < n → m ≡ places.sum k w → d ≡ places.sum n w → m + w k ≤ d
upto_few n k w m d l past all =
    let after : n ≡ suc k + (n - suc k) = omega arith in
    omega (arith, ap (λ j. places.sum j w) after, sum_split (suc k) (n - suc k) w)

-- ---- places as a list

pub sum_places : (n : ℕ) (f : ℕ → ℕ) → sum (map f (range_with_len 0 n)) ≡ places.sum n f
sum_places zero f = refl
sum_places (suc n) f =
    ap (λ m. sum (map f (range_with_len 0 m))) (sym (add-one n))
    ∙ sum_by-map-range_with_len_more (λ x. x) f 0 n n (omega arith)
    ∙ ap (λ m. m + f n) (sum_places n f)

pub count_places : (n : ℕ) (p : ℕ → Bool) → count_by p (range_with_len 0 n) ≡ places.tally n p
count_places n p = sym (sum-map (λ k. cond (p k) 1 0) (range_with_len 0 n)) ∙ sum_places n (λ k. cond (p k) 1 0) ∙ sym (tally-sum n p)
