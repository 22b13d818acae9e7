use Rattle.std.proofs.Common.{ap}
use Rattle.transfers.proofs.LinkSums.{carries, answered}
use Rattle.transfers.proofs.links.Links.residue.Goals as goal

pub residue_of-requires : goal.residue_of-requires
residue_of-requires g c =
    let e = answered _ _ _ c.in_ok-c.ensures.value in
    carries c.args.self.now.metered (g.B.LossBook.meaning c.args.self.now.book.now) (g.met.B.LossBook.bounded c.args.self.now.book.now) c.args.link c.in_ok-c.c
    (ap (λ k. k.exporter) e) (ap (λ k. k.importer) e) (ap (λ k. k.entry) e) (ap (λ k. k.exit) e)
