-- What is metered: the entries of a grid and the figures of an interval.
use Rattle.register.specs.Contents.{Network}
use Rattle.grid.specs.Checks.{of_checked}
use Rattle.interval.specs.Figures.{Figures}
use Rattle.interval.specs.Views.{of_interval}
use Rattle.interval.specs.declared.metered.Metered.{Metered}

abbrev pub network_of : Metered → Network
network_of m = of_checked m.grid.now

abbrev pub figures_of : Metered → Figures
figures_of m = of_interval m.grid.now.grid m.interval.now
