use Rattle.std.proofs.Common.{◌≡◌, ℕ, min, ℤ, pos, nat_abs, sym, ap, ◌∙◌, ap₂, arith, w32, w64, SFits, to_z, of_z, rules}
use lib.Signed.{lt_z}
use Rattle.std.proofs.lemmas.Int.{to_z-of_z}
use Rattle.std.proofs.lemmas.Bool.{cond-true, cond-false}
use Rattle.grid.specs.References.{corridor_at, link_at}
use Rattle.grid.proofs.Places.{link_part, grid_holds}
use Rattle.losses.specs.Books.{Losses}
use Rattle.interval.specs.Figures.{flow}
use Rattle.interval.specs.Metered.{network_of, figures_of}
use Rattle.interval.specs.declared.metered.Metered.{Metered}
use Rattle.transfers.specs.Ends.{entering, leaving, exporting}
use Rattle.transfers.proofs.LinkSums.{carries}
use Rattle.transfers.proofs.links.Links.carried_at.Goals as goal
use Rattle.transfers.proofs.links.Links.carried_at.Goals.{then-flow-gt0, else-flow-gt0}

-- an end of link l, as code computes it from the flow z, the part and the loss r that it reads
end_as : (m : Metered) (l : ℕ) (end : ℕ → ℕ → ℕ → ℤ) (loss : Losses) (z : ℤ) (part r : ℕ) (x : ℤ) → SFits w64 x
    → z ≡ flow (figures_of m) l → part ≡ (link_at (network_of m) l).part1 → r ≡ loss l z
    → x ≡ end (exporting z (min part 10000)) (nat_abs z) r
    → to_z w64 (of_z w64 x) ≡ end (exporting (flow (figures_of m) l) (link_at (network_of m) l).part1) (nat_abs (flow (figures_of m) l)) (loss l (flow (figures_of m) l))
end_as m l end loss z part r x fits z_is part_is r_is e =
    let whole : min part 10000 ≡ (link_at (network_of m) l).part1 = rw part_is (omega (arith, link_part (network_of m) (grid_holds m.grid.now) l)) in
    to_z-of_z w64 x fits ∙ e ∙ ap (end _ _) r_is ∙ ap₂ (λ y p. end (exporting y p) (nat_abs y) (loss l y)) z_is whole

pub returns : goal.returns
returns g c =
    let m = c.args.self.now.metered in
    let loss = g.B.LossBook.meaning c.args.self.now.book.now in
    let b = g.met.B.LossBook.bounded c.args.self.now.book.now in
    let i = c.args.link in
    let entered = c.entry_at-entered.ensures in
    let corridor = c.entry_at-corridor.ensures ∙ ap (λ e. corridor_at (network_of m) e.corridor) entered in
    let flow_is = to_z-of_z w32 c.flow_over-flow.result (record { sfits = c.flow_over-flow.type_inv }) ∙ c.flow_over-flow.ensures.value in
    let part_is = ap (λ e. e.part1) entered in
    let entry = end_as m i entering loss _ _ _ _ (search rules) flow_is part_is c.loss.ensures c.ends-entry.ensures.entry in
    let exit = end_as m i leaving loss _ _ _ _ (search rules) flow_is part_is c.loss.ensures c.ends-entry.ensures.exit in
    elim c.if-flow-gt0.branch [
      | then-flow-gt0 w ↦
          let way = ap (lt_z (pos 0)) (sym flow_is) ∙ w.if-flow-gt0.true in
          carries m loss b i _
          (ap (λ t. t.0) w.exporter-is ∙ ap (λ k. k.region1) corridor ∙ sym (cond-true _ _ _ way))
          (ap (λ t. t.1) w.exporter-is ∙ ap (λ k. k.region2) corridor ∙ sym (cond-true _ _ _ way))
          entry exit
      | else-flow-gt0 w ↦
          let way = ap (lt_z (pos 0)) (sym flow_is) ∙ w.if-flow-gt0.false in
          carries m loss b i _
          (ap (λ t. t.0) w.exporter-is ∙ ap (λ k. k.region2) corridor ∙ sym (cond-false _ _ _ way))
          (ap (λ t. t.1) w.exporter-is ∙ ap (λ k. k.region1) corridor ∙ sym (cond-false _ _ _ way))
          entry exit
    ]
