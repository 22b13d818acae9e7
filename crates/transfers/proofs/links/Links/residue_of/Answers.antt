use Rattle.std.proofs.Common.{◌≤◌, nat_abs, ap, ◌∙◌, arith}
use borrow.Author.Differences.{ints}
use Rattle.units.proofs.Fits.{small_back, difference_fits, difference_back}
use Rattle.units.proofs.Ring.{nat_abs--ℤ}
use Rattle.transfers.proofs.LinkSums.{residue_is}
use Rattle.transfers.proofs.links.Links.residue_of.Goals as goal

sizes : (g : _) (c : goal.After-worth-2 g) → (nat_abs c.worth.result ≤ 8000000000000000) × (nat_abs c.worth-2.result ≤ 8000000000000000)
sizes g c =
    let is = c.requires in
    let out = ap nat_abs (small_back c.args.c.now.exit (omega arith)) in
    let came = ap nat_abs (small_back c.args.c.now.entry (omega arith)) in
    (omega (arith, c.worth.ensures.small), omega (arith, c.worth-2.ensures.small))

pub returns : goal.returns
returns g c =
    let is = c.requires in
    let small = sizes g c in
    let back = difference_back c.worth.result c.worth-2.result (omega arith) in
    record {
      value =
          back ∙ residue_is c.args.self.now.metered (g.B.LossBook.meaning c.args.self.now.book.now) c.args.link c.args.c.now is _ _ _ _
          (small_back c.args.c.now.exit (omega arith)) (small_back c.args.c.now.entry (omega arith)) c.worth.ensures.value c.worth-2.ensures.value;
      small = omega (arith, ap nat_abs back, nat_abs--ℤ c.worth.result c.worth-2.result);
    }
