use Rattle.std.proofs.Common.{length}
use Rattle.interval.specs.Figures.{sent_at, taken_at}
use Rattle.interval.specs.Metered.{network_of, figures_of}
use Rattle.assets.proofs.Feeding.{points_fed}
use Rattle.assets.proofs.asset.of_points.Given as goal

abbrev pub invariant-loop-point : goal.invariant-loop-point
invariant-loop-point l = points_fed (network_of l.metered) (sent_at (figures_of l.metered)) (taken_at (figures_of l.metered)) (length l.yielded) l.sides
