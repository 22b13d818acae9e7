use Rattle.std.proofs.Common.{◌≡◌, ℕ, List, length, ℤ, pos, ◌∙◌, subst, arith}
use Rattle.std.proofs.lemmas.List.{get_or_default}
use Rattle.units.specs.Sums.{tabulate}
use Rattle.units.proofs.Tabulate.{tabulate_is}
use Rattle.units.proofs.Totals.{total_ext}
use Rattle.grid.proofs.Places.{grid_holds}
use Rattle.transfers.specs.Carries.{SumsOf}
use Rattle.interval.specs.Metered.{network_of, figures_of}
use Rattle.transfers.specs.Links.{net_export, corridor_residue, corridor_flow}
use Rattle.transfers.proofs.Laws.{exports_are_losses}
use Rattle.transfers.specs.Sums.{Eight}
use Rattle.transfers.proofs.links.Links.interchange.Goals as goal

listed : (f : ℕ → ℤ) (xs : List ℤ) → Eight f xs → xs ≡ tabulate 8 f
listed f xs h = tabulate_is 8 f xs h.0 (λ k d l. get_or_default xs k d (pos 0) (omega (arith, h.0)) ∙ h.1 k l)

pub returns : goal.returns
returns g c =
    let m = c.args.self.now.metered in
    let all : c.loop-link.link ≡ length (network_of m).links = omega arith in
    let loss = g.B.LossBook.meaning c.args.self.now.book.now in
    let fig = figures_of m in
    let sums = subst (λ n. SumsOf (network_of m) fig loss n c.loop-link.sums) all c.loop-link.invariant in
    let exports = listed (net_export (network_of m) fig loss) c.loop-link.sums.exports sums.exports in
    record {
      exports = exports;
      residues = listed (corridor_residue (network_of m) fig loss) c.loop-link.sums.residues sums.residues;
      flows = listed (corridor_flow (network_of m) fig) c.loop-link.sums.flows sums.flows;
      losses = total_ext 8 _ _ sums.exports.1 ∙ exports_are_losses (network_of m) fig loss (grid_holds m.grid.now);
    }
