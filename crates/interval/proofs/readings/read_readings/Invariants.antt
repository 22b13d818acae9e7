use Rattle.std.proofs.Common.{◌≡◌, ◌+◌, map}
use Rattle.interval.specs.Views.{sent_of, taken_of}
use Rattle.grid.specs.Views.{of_grid}
use Rattle.interval.specs.Words.{readings_from, least_rank}
use Rattle.interval.specs.Steps.{Reached, ReadReadings}
use Rattle.interval.proofs.readings.read_readings.Given as goal

abbrev pub invariant-loop-i : goal.invariant-loop-i
invariant-loop-i l =
    (l.from ≡ readings_from (of_grid l.grid))
    × Reached (of_grid l.grid) l.words (l.from + l.i)
    × (l.least ≡ least_rank (of_grid l.grid) l.words (l.from + l.i))
    × ReadReadings (of_grid l.grid) l.words (l.from + l.i) (map sent_of l.readings) (map taken_of l.readings)
