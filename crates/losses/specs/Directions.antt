-- The numbers of the directions.
use Rattle.std.specs.Prelude.{◌≡◌, ℕ, cond, Some, None, Ok, Err, Option, Result, ◌==◌}
use Rattle.losses.specs.declared.direction.Direction.{Direction}
use Rattle.losses.specs.declared.direction.Direction.TheVariants.{FromRegion1, FromRegion2}
use Rattle.losses.specs.declared.direction.NoDirection.{NoDirection}

abbrev pub number : Direction → ℕ
number FromRegion1 = 0
number FromRegion2 = 1

-- the direction that has a number
abbrev pub numbered : ℕ → Option Direction
numbered n = cond (n == 0) (Some FromRegion1) (cond (n == 1) (Some FromRegion2) None)

-- a number gives the direction that has it, if there is one
abbrev pub Names : ℕ → Result Direction NoDirection → Type 0
Names n (Ok direction) = numbered n ≡ Some direction
Names n (Err e) = numbered n ≡ None
