-- Segments that rise, and the loss along them.
use Rattle.std.specs.Prelude.{◌≡◌, ℕ, ◌+◌, ◌-◌, ◌*◌, ◌<◌, ◌≤◌, min, true, List, [], ◌∷◌, ◌++◌, length, drop, slice_index_or, refl}
use Rattle.std.proofs.Common.{ap, ◌∙◌, mul-le-mul_right, arith}
use Rattle.std.proofs.lemmas.List.{drop_more, drop_all}
use native.Mathlib.Numerals.{unary_clauses}
use Rattle.losses.specs.declared.curve.Segment.{Segment}
use Rattle.losses.specs.Books.{along}
use Rattle.losses.specs.Fillings.{segment, may_follow, rising, last_end}

-- ---- segments that are added

rising_push : (low : ℕ) (xs : List Segment) (x : Segment) → rising low xs ≡ true → may_follow (last_end low xs) x ≡ true → rising low (xs ++ (x ∷ [])) ≡ true
rising_push low [] x h k = grind arith
rising_push low (s ∷ xs) x h k = grind (arith, rising_push s.upper xs x)

pub rising_fit : (xs : List Segment) (u s : ℕ) → rising 0 xs ≡ true → last_end 0 xs < u → u ≤ 200000 → s ≤ 10000 → rising 0 (xs ++ (segment u s ∷ [])) ≡ true
rising_fit xs u s h above small part = rising_push 0 xs (segment u s) h (grind arith)

pub last_end_at : (low : ℕ) (xs : List Segment) (d : Segment) → 0 < length xs → (slice_index_or xs (length xs - 1) d).upper ≡ last_end low xs
last_end_at low [] d l = absurd (omega arith)
last_end_at low (s ∷ []) d l = refl
last_end_at low (s ∷ t ∷ xs) d l = simp unary_clauses (simp unary_clauses at (last_end_at s.upper (t ∷ xs) d (omega arith)))

-- ---- the loss along them

pub along_le : (low : ℕ) (xs : List Segment) (size : ℕ) → rising low xs ≡ true → along low xs size ≤ 10000 * (size - low)
along_le low [] size h = omega arith
along_le low (s ∷ []) size h = let steep : s.slope ≤ 10000 = grind arith in mul-le-mul_right (size - low) steep
along_le low (s ∷ t ∷ more) size h =
    let steep : s.slope ≤ 10000 = grind arith in
    let above : low < s.upper = grind arith in
    let rest : rising s.upper (t ∷ more) ≡ true = grind arith in
    omega (arith, mul-le-mul_right (min size s.upper - low) steep, along_le s.upper (t ∷ more) size rest)

along_first : (low : ℕ) (s : Segment) (more : List Segment) (last : Segment) (size : ℕ)
    → along low (s ∷ (more ++ (last ∷ []))) size ≡ s.slope * (min size s.upper - low) + along s.upper (more ++ (last ∷ [])) size
along_first low s [] last size = refl
along_first low s (t ∷ more) last size = refl

-- the step of a loop over the segments before the last one
pub along_step : (low k : ℕ) (xs : List Segment) (last : Segment) (size : ℕ) (d : Segment) → k < length xs
    → along low (drop k xs ++ (last ∷ [])) size ≡ (slice_index_or xs k d).slope * (min size (slice_index_or xs k d).upper - low) + along (slice_index_or xs k d).upper (drop (k + 1) xs ++ (last ∷ [])) size
along_step low k xs last size d l = ap (λ ys. along low (ys ++ (last ∷ [])) size) (drop_more xs k d l) ∙ along_first low (slice_index_or xs k d) (drop (k + 1) xs) last size

-- its end
pub along_last : (low k : ℕ) (xs : List Segment) (last : Segment) (size : ℕ) → length xs ≤ k → along low (drop k xs ++ (last ∷ [])) size ≡ last.slope * (size - low)
along_last low k xs last size l = ap (λ ys. along low (ys ++ (last ∷ [])) size) (drop_all k xs l)
