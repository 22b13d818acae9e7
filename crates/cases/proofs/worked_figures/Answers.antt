use mathlib.Core.Path.{refl}
use Rattle.interval.specs.Words.{read, read_on, fault, closes}
use Rattle.cases.proofs.worked_figures.Goals as goal

pub returns : goal.returns
unfolding read read_on fault closes
returns c = record {
  reading = record { used = refl; miscounted = refl };
  one_link = record { entry = refl; exit = refl; residue = refl; backward = refl; importer = refl; exporter = refl };
  one_corridor = record { residue = refl; forward = refl; credited = refl };
  losses = record { first = refl; second = refl; back = refl };
  shares = record { thirds = refl; owed_thirds = refl; derogation = refl };
}
