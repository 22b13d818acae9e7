-- What a rule may be filled with.
use Rattle.std.specs.Prelude.{ℕ, Bool, cond, ◌&&◌, ℤ, List, length, Some, None, Option, nat_le, slice_index}
use Rattle.units.specs.Sums.{sum}
use Rattle.sharing.specs.Rules.{Rule}
use Rattle.sharing.specs.Weighted.{by_weight, running, nearest}

-- the weight of a place
abbrev pub weight_at : List ℕ → ℕ → ℕ
weight_at weights k = slice_index weights k

-- what the weights come to
abbrev pub all : List ℕ → ℕ
all weights = sum (length weights) (weight_at weights)

abbrev pub from_to : ℕ → ℕ → ℕ → Bool
from_to low high n = nat_le low n && nat_le n high

-- owners are fit from 1 to 64; the place of an unfit number is 0
abbrev pub unfit_owners : ℕ → Option ℕ
unfit_owners n = cond (from_to 1 64 n) None (Some 0)

-- weights are fit if they are 1 to 16 and come to 1 to 1,000,000; the place of unfit ones is their number
abbrev pub unfit_weights : List ℕ → Option ℕ
unfit_weights weights = cond (from_to 1 16 (length weights) && from_to 1 1000000 (all weights)) None (Some (length weights))

-- what goes by the number of owners and their weights, at a list of these
abbrev pub of_weights : {A : Type 0} → (ℕ → (ℕ → ℕ) → A) → List ℕ → A
of_weights f weights = f (length weights) (weight_at weights)

-- the rules by a list of weights
abbrev pub by_weights : (ℕ → (ℕ → ℕ) → ℕ → ℤ → ℤ) → List ℕ → Rule
by_weights share = of_weights (λ n w. by_weight n w (share n w))

abbrev pub running_of : List ℕ → Rule
running_of = of_weights running

abbrev pub nearest_of : List ℕ → Rule
nearest_of = of_weights nearest
