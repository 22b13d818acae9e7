-- The rules by weights: running charges, equal parts and nearest cents.
use Rattle.std.specs.Prelude.{ℕ, suc, Bool, cond, ◌&&◌, ◌||◌, ℤ, pos, ◌+ℤ◌, ◌-ℤ◌, ◌==◌, nat_lt, unsigned_abs}
use Rattle.units.specs.Sums.{total, sum, tally}
use Rattle.sharing.specs.Rules.{Rule, part_down, part_rest, within}

-- the weights are the numerators, and a share is off by less than a cent
abbrev pub by_weight : ℕ → (ℕ → ℕ) → (ℕ → ℤ → ℤ) → Rule
by_weight owners weight share = record {
  owners = owners;
  numerator = weight;
  denominator = sum owners weight;
  slack = 1;
  share = within owners share;
}

-- what falls to the owners before place k together, rounded down
abbrev pub upto : ℕ → (ℕ → ℕ) → ℤ → ℕ → ℤ
upto owners weight a k = part_down a (sum k weight) (sum owners weight)

-- each owner gets what falls to it and those before it, less what falls to those before it
abbrev pub running_share : ℕ → (ℕ → ℕ) → ℕ → ℤ → ℤ
running_share owners weight k a = upto owners weight a (suc k) -ℤ upto owners weight a k

abbrev pub running : ℕ → (ℕ → ℕ) → Rule
running owners weight = by_weight owners weight (running_share owners weight)

abbrev pub equal : ℕ → Rule
equal owners = running owners (λ _. 1)

-- the part of one place, rounded down, and what that leaves
abbrev pub down : ℕ → (ℕ → ℕ) → ℤ → ℕ → ℤ
down owners weight a k = part_down a (weight k) (sum owners weight)

abbrev pub remainder : ℕ → (ℕ → ℕ) → ℤ → ℕ → ℕ
remainder owners weight a k = part_rest a (weight k) (sum owners weight)

-- the cents that rounding each part down leaves
abbrev pub odd_cents : ℕ → (ℕ → ℕ) → ℤ → ℕ
odd_cents owners weight a = unsigned_abs (a -ℤ total owners (down owners weight a))

-- place j, which leaves x, comes before place k, which leaves y, for an odd cent: x is more, or as much and j the lower place
abbrev pub goes_first : ℕ → ℕ → ℕ → ℕ → Bool
goes_first x j y k = nat_lt y x || (y == x && nat_lt j k)

abbrev pub sooner : (ℕ → ℕ) → ℕ → ℕ → Bool
sooner left j k = goes_first (left j) j (left k) k

-- the owners before place k for an odd cent
abbrev pub ahead : ℕ → (ℕ → ℕ) → ℤ → ℕ → ℕ
ahead owners weight a k = tally owners (λ j. sooner (remainder owners weight a) j k)

-- each part is rounded down, and the odd cents go to those who come first, one each
abbrev pub nearest_share : ℕ → (ℕ → ℕ) → ℕ → ℤ → ℤ
nearest_share owners weight k a = down owners weight a k +ℤ cond (nat_lt (ahead owners weight a k) (odd_cents owners weight a)) (pos 1) (pos 0)

abbrev pub nearest : ℕ → (ℕ → ℕ) → Rule
nearest owners weight = by_weight owners weight (nearest_share owners weight)
