-- Sums that are kept place by place.
use Rattle.std.specs.Prelude.{◌≡◌, ℕ, ◌<◌, List, length, ℤ, pos, ◌+ℤ◌, slice_index_or, slice_set}

-- z added at place p
abbrev pub added : List ℤ → ℕ → ℤ → List ℤ
added sums p z = slice_set sums p (slice_index_or sums p (pos 0) +ℤ z)

-- the eight values f 0 to f 7
abbrev pub Eight : (ℕ → ℤ) → List ℤ → Type 0
Eight f xs = (length xs ≡ 8) × ((k : ℕ) → k < 8 → slice_index_or xs k (pos 0) ≡ f k)
