-- Numbers that keep within a bound.
use Rattle.std.specs.Prelude.{ℕ, ◌≤◌, List, ℤ, pos, slice_index_or, unsigned_abs}

abbrev pub Small : ℕ → List ℤ → Type 0
Small bound zs = (k : ℕ) → unsigned_abs (slice_index_or zs k (pos 0)) ≤ bound
