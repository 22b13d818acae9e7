-- The laws of the definitions that every other crate builds on.
use Rattle.std.specs.Prelude.{◌≡◌, ℕ, ◌+◌, ◌<◌, ◌≤◌, Bool, true, false, List, length, ℤ, pos, ◌+ℤ◌, ◌*ℤ◌, Some, None, Option, slice_index_or}
use Rattle.units.specs.Floor.{floor, rest}
use Rattle.units.specs.Sums.{total, tabulate, first_failure}
use Rattle.units.specs.Rows.{over}

abbrev pub RingLaw : Type 0
RingLaw = (a b c : ℤ) → (a *ℤ (b +ℤ c) ≡ a *ℤ b +ℤ a *ℤ c) × (a *ℤ b *ℤ c ≡ a *ℤ (b *ℤ c))

-- a quotient with a remainder below the divisor is the floor with the rest, and no other
abbrev pub FloorLaw : Type 0
FloorLaw = (d : ℕ) → 0 < d → (z q : ℤ) (r : ℕ) →
    ((z ≡ floor z d *ℤ pos d +ℤ pos (rest z d)) × (rest z d < d))
    × (z ≡ q *ℤ pos d +ℤ pos r → r < d → (q ≡ floor z d) × (r ≡ rest z d))

abbrev pub TotalLaw : Type 0
TotalLaw = (m n : ℕ) (f : ℕ → ℤ) (g : ℕ → ℕ → ℤ) →
    (total (m + n) f ≡ total m f +ℤ total n (λ k. f (m + k)))
    × (total m (λ j. total n (g j)) ≡ total n (λ k. total m (λ j. g j k)))

abbrev pub TabulateLaw : Type 0
TabulateLaw = (n : ℕ) (f : ℕ → ℤ) →
    (length (tabulate n f) ≡ n) × ((k : ℕ) (d : ℤ) → k < n → slice_index_or (tabulate n f) k d ≡ f k)

-- None: the test passes at every place below n. Some k: k is the lowest place where it fails.
abbrev pub Finds : ℕ → (ℕ → Bool) → Option ℕ → Type 0
Finds n test None = (k : ℕ) → k < n → test k ≡ true
Finds n test (Some k) = (k < n) × (test k ≡ false) × ((j : ℕ) → j < k → test j ≡ true)

abbrev pub FirstLaw : Type 0
FirstLaw = (n : ℕ) (test : ℕ → Bool) → Finds n test (first_failure n test)

abbrev pub OverLaw : Type 0
OverLaw = (n : ℕ) (f : ℕ → ℤ) (row : List ℤ) (k : ℕ) (d : ℤ) → k < length row →
    (k < n → slice_index_or (over n f row) k d ≡ f k) × (n ≤ k → slice_index_or (over n f row) k d ≡ slice_index_or row k d)
