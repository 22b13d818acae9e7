-- What chains of iterators find and count, in the words of places.
use Rattle.std.proofs.Common.{◌≡◌, ℕ, zero, suc, ◌+◌, ◌<◌, ◌≤◌, Bool, true, false, cond, ◌&&◌, List, [], ◌∷◌, ◌++◌, length, get_or, take, Some, None, Option, sym, refl, ap, ◌∙◌, nat_eq, ◌==◌, add-zero, add-one, arith}
use Rattle.std.specs.List.{list_all, range_with_len, count_by}
use Rattle.std.proofs.Math.Dec.{eqb-zero-suc, eqb-suc-suc}
use Rattle.std.specs.Option.{MatchOption, option_eq}
use Rattle.std.proofs.lemmas.List.{take_all}
use Rattle.std.proofs.lemmas.List.Folds.{list_all-append}
use Rattle.std.proofs.lemmas.List.Sums.{count_by_more_yes, count_by_more_no}
use Rattle.units.specs.Sums.{tally, every, first_failure}
use Rattle.units.proofs.Firsts.{first_failure_is}
use Rattle.register.specs.Contents.{Network}
use Rattle.register.specs.Fields.{numbered}
use Rattle.register.specs.declared.entry.Point.{Point}
use Rattle.register.specs.declared.entry.Dna.{Dna}
use Rattle.grid.specs.References.{no_point, no_dna, point_at, dna_at, point_feeds, dna_feeds, fed_by}

-- ---- all, over the numbers from 0 on

range_more : (a n m : ℕ) → a + n ≡ m → range_with_len a (suc n) ≡ range_with_len a n ++ (m ∷ [])
range_more a zero m e = ap (λ (k : ℕ). k ∷ []) (sym (add-zero a) ∙ e)
range_more a (suc n) m e = ap (λ xs. a ∷ xs) (range_more (a + 1) n m (omega arith))

and_true : (b : Bool) → (b && true) ≡ b
and_true true = refl
and_true false = refl

pub all_in_range : (test : ℕ → Bool) (n : ℕ) → list_all test (range_with_len 0 n) ≡ every n test
all_in_range test zero = refl
all_in_range test (suc n) =
    ap (list_all test) (range_more 0 n n (omega arith))
    ∙ list_all-append test (range_with_len 0 n) (n ∷ [])
    ∙ (λ i. all_in_range test n i && and_true (test n) i)

-- ---- find, over the numbers from 0 on

pub found_in_range : (n : ℕ) (test : ℕ → Bool) (r : Option ℕ)
    → MatchOption r ((k : ℕ) → 0 ≤ k → k < n → test k ≡ true) (λ i. (0 ≤ i) × (i < n) × (test i ≡ false) × ((k : ℕ) → 0 ≤ k → k < i → test k ≡ true))
    → r ≡ first_failure n test
found_in_range n test None h = sym (first_failure_is n test None (λ k l. h k (omega arith) l))
found_in_range n test (Some i) h = sym (first_failure_is n test (Some i) (h.1, h.2, λ k l. h.3 k (omega arith) l))

-- ---- filter and count

module _ {X : Type 0} (p : X → Bool) (xs : List X) (d : X) where
  tally_take : (k : ℕ) → k ≤ length xs → tally k (λ i. p (get_or xs i d)) ≡ count_by p (take k xs)
  tally_take zero l = refl
  tally_take (suc k) l = step (p (get_or xs k d)) refl (tally_take k (omega arith)) ∙ ap (λ j. count_by p (take j xs)) (add-one k)
    where
      step : (b : Bool) → p (get_or xs k d) ≡ b → tally k (λ i. p (get_or xs i d)) ≡ count_by p (take k xs) → tally k (λ i. p (get_or xs i d)) + cond b 1 0 ≡ count_by p (take (k + 1) xs)
      step true e h = omega (arith, count_by_more_yes p xs k d (omega arith) e)
      step false e h = omega (arith, count_by_more_no p xs k d (omega arith) e)

  pub tally_list : tally (length xs) (λ i. p (get_or xs i d)) ≡ count_by p xs
  tally_list = tally_take (length xs) (omega arith) ∙ ap (count_by p) (take_all (length xs) xs (omega arith))

-- a field that names asset n
pub named : (field n : ℕ) → (field == n + 1) ≡ option_eq nat_eq (numbered field) (Some n)
named zero n = rw add-one (eqb-zero-suc n)
named (suc d) n = rw add-one (eqb-suc-suc d n)

-- what the code counts
abbrev pub point_names : ℕ → Point → Bool
point_names n p = option_eq nat_eq (numbered p.dna) (Some n)

abbrev pub dna_names : ℕ → Dna → Bool
dna_names n d = option_eq nat_eq (numbered d.downstream) (Some n)

pub counts_fed_by : (net : Network) (n : ℕ) → count_by (point_names n) net.points + count_by (dna_names n) net.dnas ≡ fed_by net n
counts_fed_by net n = sym (λ t. (points ∙ tally_list (point_names n) net.points no_point) t + (dnas ∙ tally_list (dna_names n) net.dnas no_dna) t)
  where
    points : tally (length net.points) (point_feeds net n) ≡ tally (length net.points) (λ i. point_names n (get_or net.points i no_point))
    points t = tally (length net.points) (λ i. named (point_at net i).dna n t)

    dnas : tally (length net.dnas) (dna_feeds net n) ≡ tally (length net.dnas) (λ i. dna_names n (get_or net.dnas i no_dna))
    dnas t = tally (length net.dnas) (λ i. named (dna_at net i).downstream n t)
