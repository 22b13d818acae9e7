use Rattle.std.proofs.Common.{◌≡◌, min, ◌-ℤ◌, nat_abs, ap, ◌∙◌, ap₂, arith}
use borrow.Author.Differences.{ints}
use Rattle.std.proofs.lemmas.Int.{to_z-of_z}
use Rattle.transfers.specs.Ends.{entering, leaving, exporting}
use Rattle.transfers.proofs.Ends.{ends_differ, leaving_outward}
use Rattle.transfers.proofs.transfer.transfer.Goals as goal

pub returns : goal.returns
returns c =
    let fits = c.ranges.flow in
    let size = nat_abs c.args.flow in
    let part = exporting c.args.flow (min c.args.part1 10000) in
    let entry = simp to_z-of_z at c.ends.ensures.entry in
    let exit = simp to_z-of_z at c.ends.ensures.exit in
    let small = simp to_z-of_z at c.ends.ensures.part in
    let lost_is : c.min.result ≡ min c.args.loss size = omega (arith, ints) in
    let entry_is = entry ∙ ap (entering part size) lost_is in
    let exit_is = exit ∙ ap (leaving part size) lost_is in
    record {
      entry = entry_is;
      exit = exit_is;
      lost = ap₂ (λ x y. x -ℤ y) entry_is exit_is ∙ ends_differ part size (min c.args.loss size) small;
      outward = rw exit_is (leaving_outward part size (min c.args.loss size) (omega arith));
    }
