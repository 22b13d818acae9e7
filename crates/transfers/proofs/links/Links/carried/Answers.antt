use Rattle.std.proofs.Common.{◌-ℤ◌, ◌∙◌, ap₂}
use Rattle.grid.proofs.Places.{grid_holds}
use Rattle.interval.specs.Metered.{network_of, figures_of}
use Rattle.transfers.proofs.Laws.{exit_outward, lost_in_link}
use Rattle.transfers.proofs.links.Links.carried.Goals as goal

pub returns-then-link-len-clause-loss : goal.returns-then-link-len-clause-loss
returns-then-link-len-clause-loss g c =
    let m = c.args.self.now.metered in
    let is = c.carried_at.ensures in
    ap₂ (λ x y. x -ℤ y) is.entry_is is.exit_is
    ∙ lost_in_link (network_of m) (figures_of m) (g.B.LossBook.meaning c.args.self.now.book.now) (grid_holds m.grid.now) c.args.link

pub returns-then-link-len-clause-outward : goal.returns-then-link-len-clause-outward
returns-then-link-len-clause-outward g c =
    let m = c.args.self.now.metered in
    rw c.carried_at.ensures.exit_is (exit_outward (network_of m) (figures_of m) (g.B.LossBook.meaning c.args.self.now.book.now) (g.met.B.LossBook.bounded c.args.self.now.book.now) c.args.link)
