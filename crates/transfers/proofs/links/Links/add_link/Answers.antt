use Rattle.std.proofs.Common.{◌≡◌, ℕ, length, get_or, ℤ, pos, nat_abs, ap, ◌∙◌, ap₂, arith, lit<, w32, w64}
use borrow.Author.Differences.{ints}
use Rattle.std.proofs.lemmas.Int.{to_z-of_z}
use Rattle.units.proofs.Fits.{small_back, minus_back}
use Rattle.grid.proofs.Places.{grid_holds}
use Rattle.interval.specs.Figures.{flow}
use Rattle.interval.specs.Metered.{network_of, figures_of}
use Rattle.interval.proofs.Small.{flows_small}
use Rattle.transfers.specs.Links.{link_residue}
use Rattle.transfers.specs.Sums.{added, Eight}
use Rattle.transfers.proofs.Bounds.{ranged, link_residue_size}
use Rattle.transfers.proofs.LinkSums.{export_so_far, import_so_far, export_step, corridor_low, corridor_step, corridor_fits}
use Rattle.transfers.proofs.links.Links.add_link.Goals as goal

-- a list that equals one with the sums has the sums
moved : (f : ℕ → ℤ) (xs ys : _) → xs ≡ ys → Eight f ys → Eight f xs
moved f xs ys e h = (ap length e ∙ h.0, λ k p. ap (λ zs. get_or zs k (pos 0)) e ∙ h.1 k p)

pub add_at-requires : goal.add_at-requires
add_at-requires g c =
    let m = c.args.self.now.metered in
    let loss = g.B.LossBook.meaning c.args.self.now.book.now in
    let b = g.met.B.LossBook.bounded c.args.self.now.book.now in
    let is = c.carried_at-c.ensures in
    let so_far = export_so_far m loss b c.args.link c.carried_at-c.result is c.args.sums.now.exports c.requires.before.exports (omega arith) _ is.exporter_low in
    record { low = is.exporter_low; fits = omega (arith, ints) }

pub add_at-requires-2 : goal.add_at-requires-2
add_at-requires-2 g c =
    let m = c.args.self.now.metered in
    let loss = g.B.LossBook.meaning c.args.self.now.book.now in
    let b = g.met.B.LossBook.bounded c.args.self.now.book.now in
    let is = c.carried_at-c.ensures in
    let so_far = import_so_far m loss b c.args.link c.carried_at-c.result is c.args.sums.now.exports c.requires.before.exports (omega arith) in
    let sums = c.add_at.ensures ∙ ap (added c.args.sums.now.exports c.carried_at-c.result.exporter) (small_back c.carried_at-c.result.entry (omega arith)) in
    let there = ap (λ xs. nat_abs (get_or xs c.carried_at-c.result.importer (pos 0))) sums in
    record { low = is.importer_low; fits = omega (arith, ints) }

pub add_at-requires-3 : goal.add_at-requires-3
add_at-requires-3 g c =
    let m = c.args.self.now.metered in
    let net = network_of m in
    let loss = g.B.LossBook.meaning c.args.self.now.book.now in
    let b = g.met.B.LossBook.bounded c.args.self.now.book.now in
    let is = small_back c.residue_of-residue.result (omega arith) ∙ c.residue_of-residue.ensures.value in
    let at = ap (λ e. e.corridor) c.entry_at-corridor.ensures in
    record {
      low = corridor_low net (grid_holds m.grid.now) (link_residue net (figures_of m) loss) c.args.link (omega arith) _ at _ is c.args.sums.now.residues c.requires.before.residues;
      fits = corridor_fits net (grid_holds m.grid.now) (link_residue net (figures_of m) loss) c.args.link (omega arith) _ at _ is c.args.sums.now.residues c.requires.before.residues 16000000000000000 (link_residue_size net (figures_of m) loss (grid_holds m.grid.now) (ranged m loss b)) (lit< tt);
    }

pub add_at-requires-4 : goal.add_at-requires-4
add_at-requires-4 g c =
    let m = c.args.self.now.metered in
    let net = network_of m in
    let is = to_z-of_z w64 c.from-flow.result (record { sfits = c.from-flow.type_inv }) ∙ c.from-flow.ensures ∙ to_z-of_z w32 c.flow_over.result (record { sfits = c.flow_over.type_inv }) ∙ c.flow_over.ensures.value in
    let at = ap (λ e. e.corridor) c.entry_at-corridor.ensures in
    record {
      low = corridor_low net (grid_holds m.grid.now) (flow (figures_of m)) c.args.link (omega arith) _ at _ is c.args.sums.now.flows c.requires.before.flows;
      fits = corridor_fits net (grid_holds m.grid.now) (flow (figures_of m)) c.args.link (omega arith) _ at _ is c.args.sums.now.flows c.requires.before.flows 200000 (flows_small m) (lit< tt);
    }

pub returns : goal.returns
returns g c =
    let m = c.args.self.now.metered in
    let net = network_of m in
    let i = c.args.link in
    let loss = g.B.LossBook.meaning c.args.self.now.book.now in
    let b = g.met.B.LossBook.bounded c.args.self.now.book.now in
    let is = c.carried_at-c.ensures in
    let sums = c.add_at.ensures ∙ ap (added c.args.sums.now.exports c.carried_at-c.result.exporter) (small_back c.carried_at-c.result.entry (omega arith)) in
    let after = c.add_at-2.ensures ∙ ap₂ (λ xs z. added xs c.carried_at-c.result.importer z) sums (minus_back c.carried_at-c.result.exit (omega arith)) in
    let residue_is = small_back c.residue_of-residue.result (omega arith) ∙ c.residue_of-residue.ensures.value in
    let flow_is = to_z-of_z w64 c.from-flow.result (record { sfits = c.from-flow.type_inv }) ∙ c.from-flow.ensures ∙ to_z-of_z w32 c.flow_over.result (record { sfits = c.flow_over.type_inv }) ∙ c.flow_over.ensures.value in
    let at = ap (λ e. e.corridor) c.entry_at-corridor.ensures in
    record {
      exports = moved _ _ _ after (export_step m loss b i c.carried_at-c.result is c.args.sums.now.exports c.requires.before.exports (omega arith));
      residues = moved _ _ _ c.add_at-3.ensures (corridor_step net (grid_holds m.grid.now) (link_residue net (figures_of m) loss) i (omega arith) _ at _ residue_is c.args.sums.now.residues c.requires.before.residues);
      flows = moved _ _ _ c.add_at-4.ensures (corridor_step net (grid_holds m.grid.now) (flow (figures_of m)) i (omega arith) _ at _ flow_is c.args.sums.now.flows c.requires.before.flows);
    }
