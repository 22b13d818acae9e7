use Rattle.interval.specs.Metered.{network_of, figures_of}
use Rattle.transfers.specs.Carries.{SumsOf}
use Rattle.transfers.proofs.links.Links.interchange.Given as goal

abbrev pub invariant-loop-link : goal.invariant-loop-link
invariant-loop-link g l = SumsOf (network_of l.self.metered) (figures_of l.self.metered) (g.B.LossBook.meaning l.self.book.now) l.link l.sums
