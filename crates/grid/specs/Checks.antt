-- The entries of a grid whose references hold.
use Rattle.register.specs.Contents.{Network}
use Rattle.grid.specs.Views.{of_grid}
use Rattle.grid.specs.declared.checked.Checked.{Checked}

abbrev pub of_checked : Checked → Network
of_checked g = of_grid g.grid
