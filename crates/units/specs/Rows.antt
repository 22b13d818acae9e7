-- Rows that are written place by place.
use Rattle.std.specs.Prelude.{ℕ, min, List, ◌++◌, length, take, drop}
use Rattle.units.specs.Sums.{tabulate}

-- the row with f 0, f 1, .. at its first n places, as far as it goes, and its other places as they were
abbrev pub over : {A : Type 0} → ℕ → (ℕ → A) → List A → List A
over n f row = tabulate (min n (length row)) f ++ drop n row

-- the same from place `at` on
abbrev pub over_from : {A : Type 0} → ℕ → ℕ → (ℕ → A) → List A → List A
over_from at n f row = take at row ++ over n f (drop at row)
