-- Lists of figures: none yet, one more, and a whole run.
use Rattle.std.proofs.Common.{◌≡◌, ℕ, zero, suc, ◌+◌, ◌-◌, ◌<◌, ◌≤◌, false, ltb, ◌≢◌, List, ◌++◌, length, get_or, set, take, drop, replicate, ℤ, pos, ◌≤ℤ◌, None, Ok, Err, Result, sym, refl, ◌∙◌, subst, ⊎_elim, add-zero, arith, below_more}
use Rattle.units.specs.declared.refusal.Refusal.{Refusal}
use Rattle.units.specs.Refusals.{told}
use Rattle.std.proofs.lemmas.List.{length-set, get_or-set_same, get_or-set_other, set_past, get_or-take, get_or_past, get_or-drop, get_or_append_left, get_or-append_right, length-take, length-take-le, length-append, length-drop}
use Rattle.std.proofs.lemmas.Bool.{cases_eq, cases_lt, ltb-true}
use Rattle.register.specs.Contents.{Network}
use Rattle.interval.specs.Ranges.{Between, Upto}
use Rattle.interval.specs.Words.{fault, closes, word, signed}
use Rattle.interval.specs.Steps.{figure_fault, Figured, FiguresOrFault, ReadsOn, Reached, ReadFigures}
use Rattle.interval.proofs.Order.{required, stopped, reached_more}

pub blank : {A : Type 0} (d : A) (n k : ℕ) → get_or (replicate n d) k d ≡ d
blank d zero k = refl
blank d (suc n) zero = refl
blank d (suc n) (suc k) = blank d n k

-- what holds of each place and of v holds of each place with v at i
pub every_set : {A : Type 0} (P : A → Type 0) (d : A) (xs : List A) (i : ℕ) (v : A) → P v → ((k : ℕ) → P (get_or xs k d)) → (k : ℕ) → P (get_or (set xs i v) k d)
every_set P d xs i v pv h k =
    ⊎_elim
    (λ (lt : i < length xs).
    ⊎_elim
    (λ (e : k ≡ i). subst (λ j. P (get_or (set xs i v) j d)) (sym e) (subst P (sym (get_or-set_same xs i v d lt)) pv))
    (λ (ne : k ≡ i → ⊥). subst P (sym (get_or-set_other xs i k v d ne)) (h k))
    (cases_eq k i))
    (λ (past : length xs ≤ i). subst (λ ys. P (get_or ys k d)) (sym (set_past xs i v past)) (h k))
    (cases_lt i (length xs))

pub upto_set : (high : ℕ) (xs : List ℕ) (i v : ℕ) → v ≤ high → Upto high xs → Upto high (set xs i v)
upto_set high xs i v a h = every_set (λ x. x ≤ high) 0 xs i v a h

pub between_set : (low high : ℤ) (xs : List ℤ) (i : ℕ) (v : ℤ) → low ≤ℤ v → v ≤ℤ high → Between low high xs → Between low high (set xs i v)
between_set low high xs i v a b h = every_set (λ x. (low ≤ℤ x) × (x ≤ℤ high)) (pos 0) xs i v (a, b) h

-- what holds of each place, and of the value beyond the end, holds in each part
pub every_take : {A : Type 0} (P : A → Type 0) (d : A) (n : ℕ) (xs : List A) → P d → ((k : ℕ) → P (get_or xs k d)) → (k : ℕ) → P (get_or (take n xs) k d)
every_take P d n xs base h k =
    ⊎_elim
    (λ (l : k < n). subst P (sym (get_or-take n xs k d l)) (h k))
    (λ (l : n ≤ k). subst P (sym (get_or_past (take n xs) k d (omega (arith, length-take n xs)))) base)
    (cases_lt k n)

-- no figure yet, in the first places of zeros
pub figured_none : (ws : List ℕ) (start size k : ℕ) (low high : ℤ) → size ≤ 8 → low ≤ℤ pos 0 → pos 0 ≤ℤ high
    → Figured ws start 0 k low high size (take size (replicate 8 (pos 0)))
figured_none ws start size k low high few a b = record {
  room = length-take-le size (replicate 8 (pos 0)) few;
  passed = λ i h. absurd (omega (arith, h));
  ranged = every_take (λ z. (low ≤ℤ z) × (z ≤ℤ high)) (pos 0) size (replicate 8 (pos 0)) (a, b)
      (λ i. subst (λ z. (low ≤ℤ z) × (z ≤ℤ high)) (sym (blank (pos 0) 8 i)) (a, b));
  said = λ i h. absurd (omega (arith, h));
}

-- all n figures, and zeros behind them
pub figured_all : (ws : List ℕ) (start n k : ℕ) (low high : ℤ) (xs : List ℤ) → n ≤ 8 → low ≤ℤ pos 0 → pos 0 ≤ℤ high
    → Figured ws start n k low high n xs → Figured ws start n k low high 8 (xs ++ drop n (replicate 8 (pos 0)))
figured_all ws start n k low high xs few a b h =
    let zeros = replicate 8 (pos 0) in
    record {
      room = length-append xs (drop n zeros) ∙ omega (arith, h.room, length-drop n zeros);
      passed = h.passed;
      ranged = λ i. ⊎_elim
          (λ (l : i < n). subst (λ z. (low ≤ℤ z) × (z ≤ℤ high)) (sym (get_or_append_left xs (drop n zeros) (pos 0) i (omega (arith, h.room)))) (h.ranged i))
          (λ (l : n ≤ i). subst (λ z. (low ≤ℤ z) × (z ≤ℤ high))
          (sym (get_or-append_right xs (drop n zeros) n i (pos 0) h.room l ∙ get_or-drop n zeros (i - n) (pos 0) ∙ blank (pos 0) 8 (n + (i - n)))) (a, b))
          (cases_lt i n);
      said = λ i l. get_or_append_left xs (drop n zeros) (pos 0) i (omega (arith, h.room)) ∙ h.said i l;
    }

-- one figure more
pub figured_more : (ws : List ℕ) (start i k : ℕ) (low high : ℤ) (size : ℕ) (xs : List ℤ) (z : ℤ) → Figured ws start i k low high size xs → i < size
    → figure_fault ws start k low high i ≡ None → z ≡ signed (word ws (start + i)) → low ≤ℤ z → z ≤ℤ high
    → Figured ws start (i + 1) k low high size (set xs i z)
figured_more ws start i k low high size xs z h small e s a b =
    let lt : i < length xs = omega (arith, h.room) in
    record {
      room = length-set xs i z ∙ h.room;
      passed = below_more (λ j. figure_fault ws start k low high j ≡ None) i h.passed e;
      ranged = between_set low high xs i z a b h.ranged;
      said = below_more (λ j. get_or (set xs i z) j (pos 0) ≡ signed (word ws (start + j))) i
          (λ j l. let ne : j ≢ i = omega arith in get_or-set_other xs i j z (pos 0) ne ∙ h.said j l)
          (get_or-set_same xs i z (pos 0) lt ∙ s);
    }

-- the reader after a run of figures, where each word has to be a figure
module _ (net : Network) (ws : List ℕ) (start k : ℕ) (low high : ℤ) where
  abbrev pub Due : ℕ → Type 0
  Due i = (fault net ws (start + i) ≡ figure_fault ws start k low high i) × (closes net ws (start + i) ≡ false)

  reached_run : (n : ℕ) → Reached net ws start → ((i : ℕ) → i < n → Due i) → ((i : ℕ) → i < n → figure_fault ws start k low high i ≡ None)
      → Reached net ws (start + n)
  reached_run zero h due passed = subst (Reached net ws) (sym (add-zero start)) h
  reached_run (suc n) h due passed =
      let before = reached_run n h (λ i l. due i (omega arith)) (λ i l. passed i (omega arith)) in
      let here = passed n (omega arith) in
      let at : start + n + 1 ≡ start + suc n = omega arith in
      subst (Reached net ws) at
      (reached_more net ws (start + n) before (ltb-true (start + n) (length ws) (required (ltb (start + n) (length ws)) _ _ here).0) ((due n (omega arith)).0 ∙ here) (due n (omega arith)).1)

  pub run_read : (n : ℕ) → Reached net ws start
      → ((i : ℕ) → i < n → Due i)
      → (r : Result (List ℤ) Refusal) → FiguresOrFault r ws start n k low high
      → ReadsOn r net ws (λ xs. ReadFigures net ws start n k low high xs)
  run_read n h due (Ok xs) f = record { reached = reached_run n h due f.passed; figured = f }
  run_read n h due (Err e) f =
      stopped net ws (start + f.0) (told e) (reached_run f.0 h (λ i l. due i (omega (arith, f.1))) f.2) ((due f.0 f.1).0 ∙ f.3)
