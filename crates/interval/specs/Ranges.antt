-- The ranges of an interval's figures. Beyond the end of a list each place counts as 0, which is in range.
use Rattle.std.specs.Prelude.{ℕ, ◌^◌, ◌≤◌, List, ℤ, pos, negsuc, ◌≤ℤ◌, slice_index, slice_index_or}

-- an interval's number in the month has 28 bits
abbrev pub number_limit : ℕ
number_limit = 2 ^ 28

-- prices in cents per MWh
abbrev pub lowest_price : ℤ
lowest_price = negsuc 99999

abbrev pub highest_price : ℤ
highest_price = pos 2000000

-- flows and energies in kWh
abbrev pub lowest_flow : ℤ
lowest_flow = negsuc 199999

abbrev pub highest_flow : ℤ
highest_flow = pos 200000

abbrev pub highest_energy : ℕ
highest_energy = 200000

-- every place is in the range
abbrev pub Between : ℤ → ℤ → List ℤ → Type 0
Between low high xs = (k : ℕ) → (low ≤ℤ slice_index_or xs k (pos 0)) × (slice_index_or xs k (pos 0) ≤ℤ high)

abbrev pub Upto : ℕ → List ℕ → Type 0
Upto high xs = (k : ℕ) → slice_index xs k ≤ high
