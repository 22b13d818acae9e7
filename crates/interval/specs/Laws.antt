-- A list of words is read exactly if it begins with the words of some figures in range, and it says these figures and no others.
use Rattle.std.specs.Prelude.{◌≡◌, ℕ, ◌≤◌, List, length, take}
use Rattle.units.specs.Refusals.{done}
use Rattle.register.specs.Contents.{Network}
use Rattle.grid.specs.declared.grid.Grid.{Grid}
use Rattle.grid.specs.Views.{of_grid}
use Rattle.interval.specs.Figures.{Figures}
use Rattle.interval.specs.Words.{read, figures}
use Rattle.interval.specs.Spelling.{InRange, Spells}
use Rattle.interval.specs.Views.{of_interval}
use Rattle.interval.specs.declared.interval.Interval.{Interval}

-- as many regions, links and points as a register may hold
pub record Enterable (net : Network) : Type 0 where
  pub regions : net.regions ≤ 8
  pub links : length net.links ≤ 8
  pub points : length net.points ≤ 128

-- what is read are the words of the figures that the words say
abbrev pub ReadIsSpelled : Type 0
ReadIsSpelled = (net : Network) (ws : List ℕ) (n : ℕ) → read net ws ≡ done n
    → (n ≤ length ws) × Spells net (take n ws) (figures net (take n ws))

-- the words of figures are read, whatever follows them, and say these figures
abbrev pub SpelledIsRead : Type 0
SpelledIsRead = (net : Network) → Enterable net → (ws : List ℕ) (n : ℕ) (figs : Figures) → n ≤ length ws → Spells net (take n ws) figs
    → (read net ws ≡ done n) × (figs ≡ figures net (take n ws))

-- all figures in range have words
abbrev pub AllAreSpelled : Type 0
AllAreSpelled = (net : Network) (figs : Figures) → InRange net figs → (ws : List ℕ) × Spells net ws figs

-- the figures of an interval of the code are in range, so that they have words
abbrev pub IntervalsInRange : Type 0
IntervalsInRange = (g : Grid) (t : Interval) → InRange (of_grid g) (of_interval g t)
