-- One asset more, and all of them.
use Rattle.std.proofs.Common.{◌≡◌, ℕ, zero, suc, ◌+◌, ◌-◌, ◌<◌, ◌≤◌, List, length, get_or, set, map, ℤ, pos, ◌*ℤ◌, nat_abs, sym, refl, ap, ◌∙◌, subst, ⊎_elim, arith, length-set}
use Rattle.std.proofs.lemmas.List.{get_or_default, get_or-set_same, get_or-set_other, length-map, map-set}
use Rattle.std.proofs.lemmas.Bool.{cases_eq, cases_lt, eq-eqb, ne_eqb, cond-true, cond-false}
use Rattle.std.proofs.lemmas.Bool.Decides.{nat_tests}
use Rattle.units.specs.Sums.{tabulate}
use Rattle.units.specs.Refusals.{done, turned_down, refused}
use Rattle.units.specs.declared.refusal.Layer.TheVariants.{Network as InNetwork}
use Rattle.units.proofs.Tabulate.{tabulate_is}
use Rattle.register.specs.Contents.{Network}
use Rattle.grid.specs.References.{Holds, dna_at}
use Rattle.grid.proofs.References.{dna_entry}
use Rattle.interval.specs.Figures.{Figures, price, sent_at, taken_at}
use Rattle.assets.specs.Assets.{senders, takers, above_0, below_0, worked_flows, flow_with, dna_flow, dna_loss, dna_residue, of_dna, estimates}
use Rattle.assets.specs.Laws.{Estimated, AssetEstimated}
use Rattle.assets.specs.Estimates.{flows_in, Estimates, flows_from, found_from, Worked}
use Rattle.assets.specs.Views.{flow_of, loss_of, residue_of}
use Rattle.assets.specs.declared.estimate.Estimate.{Estimate}
use Rattle.assets.proofs.Sizes.{side_energy}
use Rattle.assets.proofs.Estimates.{estimated}
use Rattle.assets.proofs.Worked.{stays, one_more, loss_is, flow_of_all, none_too_large, too_large_at}

-- each asset's loss and flow are as the published formulas have them
pub all_estimated : (net : Network) (fig : Figures) → Holds net → (d : ℕ) → d < length net.dnas → AssetEstimated net fig d
all_estimated net fig h d low =
    let sent = side_energy net (sent_at fig) (λ m. above_0 (dna_flow net fig m)) d in
    let taken = side_energy net (taken_at fig) (λ m. below_0 (dna_flow net fig m)) d in
    let formulas = estimated (senders net fig (dna_flow net fig) d) (takers net fig (dna_flow net fig) d) _ _ sent taken (dna_at net d).boundary (omega (arith, (dna_entry net h d low).boundary_low)) in
    subst (λ z. Estimated (senders net fig (dna_flow net fig) d) (takers net fig (dna_flow net fig) d) (dna_at net d).boundary (dna_loss net fig d) z) (sym (flow_of_all net fig h d low)) formulas

-- ---- one asset more

-- a value at one place, and the others as they were
kept : (v : Estimate → ℤ) (f f' : ℕ → ℤ) (found : List Estimate) (d : ℕ) (e : Estimate) → d < length found → ((k : ℕ) → get_or (map v found) k (pos 0) ≡ f k)
    → v e ≡ f' d → ((k : ℕ) → (k ≡ d → ⊥) → f k ≡ f' k) → (k : ℕ) → get_or (map v (set found d e)) k (pos 0) ≡ f' k
kept v f f' found d e low is here others k =
    ap (λ xs. get_or xs k (pos 0)) (map-set v found d e)
    ∙ ⊎_elim
    (λ same. ap (λ j. get_or (set (map v found) d (v e)) j (pos 0)) same ∙ get_or-set_same (map v found) d (v e) (pos 0) (omega (arith, length-map found v)) ∙ here ∙ ap f' (sym same))
    (λ other. get_or-set_other (map v found) d k (v e) (pos 0) other ∙ is k ∙ others k other)
    (cases_eq k d)

-- that all flows are small
kept_small : (found : List Estimate) (d : ℕ) (e : Estimate) → d < length found → ((k : ℕ) → nat_abs (flows_in found k) ≤ 200000) → nat_abs e.flow ≤ 200000
    → (k : ℕ) → nat_abs (flows_in (set found d e) k) ≤ 200000
kept_small found d e low small here k =
    let at = ap (λ xs. get_or xs k (pos 0)) (map-set flow_of found d e) in
    ⊎_elim
    (λ same. omega (arith, here, ap nat_abs (at ∙ ap (λ j. get_or (set (map flow_of found) d e.flow) j (pos 0)) same ∙ get_or-set_same (map flow_of found) d e.flow (pos 0) (omega (arith, length-map found flow_of)))))
    (λ other. omega (arith, small k, ap nat_abs (at ∙ get_or-set_other (map flow_of found) d k e.flow (pos 0) other)))
    (cases_eq k d)

module _ (net : Network) (fig : Figures) (d : ℕ) (low : d < length net.dnas) where
  found_here : (f : ℕ → ℤ) → f d ≡ found_from net d f d
  found_here f = grind (arith, nat_tests)

  found_others : (f : ℕ → ℤ) (k : ℕ) → (k ≡ d → ⊥) → found_from net (d + 1) f k ≡ found_from net d f k
  found_others f k other = grind (arith, nat_tests)

  module _ (found : List Estimate) (before : Worked net fig (d + 1) found) where
    pub worked_more : Holds net → d < 8 → (e : Estimate) → Estimates net fig (flows_from net fig (d + 1)) d e → Worked net fig d (set found d e)
    worked_more h few e is =
        let room : d < length found = omega (arith, before.slots) in
        let loss : e.loss ≡ dna_loss net fig d = is.loss_is ∙ sym (loss_is net fig h d low) in
        record {
          slots = length-set found d e ∙ before.slots;
          flows = kept flow_of (flows_from net fig (d + 1)) (flows_from net fig d) found d e room before.flows
              (is.flow_is ∙ sym (one_more net fig d d low ∙ cond-true _ _ _ (eq-eqb d d refl)))
              (λ k other. sym (one_more net fig d k low ∙ cond-false _ _ _ (ne_eqb k d other)));
          small = kept_small found d e room before.small is.flow_small;
          losses = kept loss_of (found_from net (d + 1) (dna_loss net fig)) (found_from net d (dna_loss net fig)) found d e room before.losses
              (loss ∙ found_here (dna_loss net fig))
              (found_others (dna_loss net fig));
          residues = kept residue_of (found_from net (d + 1) (dna_residue net fig)) (found_from net d (dna_residue net fig)) found d e room before.residues
              (is.residue_is ∙ ap (λ z. z *ℤ price fig (dna_at net d).region) (sym is.loss_is ∙ loss) ∙ found_here (dna_residue net fig))
              (found_others (dna_residue net fig));
        }

    -- an asset whose flow is too large, where those above it are not
    pub refused_at : 200000 < nat_abs (flow_with net fig (flows_from net fig (d + 1)) d) → turned_down (refused 9 InNetwork d) ≡ estimates net fig
    refused_at large =
        let here : dna_flow net fig d ≡ flow_with net fig (flows_from net fig (d + 1)) d = stays net fig d d (omega arith) (omega arith) ∙ one_more net fig d d low ∙ cond-true _ _ _ (eq-eqb d d refl) in
        let first = too_large_at net fig (length net.dnas) d low (omega (arith, ap nat_abs here))
        (λ k p q. omega (arith, before.small k, ap nat_abs (before.flows k ∙ sym (stays net fig (d + 1) k (omega arith) (omega arith))))) in
        rw (first, estimates) refl

-- ---- the answer

module _ (net : Network) (fig : Figures) where
  beyond : (w k : ℕ) → w ≤ length net.dnas → length net.dnas ≤ k → worked_flows net fig w k ≡ pos 0
  beyond zero k fits past = refl
  beyond (suc w) k fits past = cond-false _ _ _ (ne_eqb k (length net.dnas - suc w) (omega arith)) ∙ beyond w k (omega arith) past

  module _ (found : List Estimate) (is : Worked net fig 0 found) where
    listed : (v : Estimate → ℤ) (f g : ℕ → ℤ) → ((k : ℕ) → get_or (map v found) k (pos 0) ≡ f k) → ((k : ℕ) → f k ≡ g k) → map v found ≡ tabulate 8 g
    listed v f g at same =
        let slots = length-map found v ∙ is.slots in
        tabulate_is 8 g (map v found) slots (λ k c l. get_or_default (map v found) k c (pos 0) (omega (arith, slots)) ∙ at k ∙ same k)

    flows_all : (k : ℕ) → flows_from net fig 0 k ≡ of_dna net (dna_flow net fig) k
    flows_all k = ⊎_elim
        (λ l. let worked = stays net fig 0 k (omega arith) (omega arith) in grind (arith, nat_tests))
        (λ l. let none = beyond (length net.dnas - 0) k (omega arith) l in grind (arith, nat_tests))
        (cases_lt k (length net.dnas))

    found_all : (f : ℕ → ℤ) (k : ℕ) → found_from net 0 f k ≡ of_dna net f k
    found_all f k = grind (arith, nat_tests)

    pub done_all : done (record { flows = map flow_of found; losses = map loss_of found; residues = map residue_of found }) ≡ estimates net fig
    done_all =
        let none = none_too_large net fig (length net.dnas) (λ k l. omega (arith, is.small k, ap nat_abs (is.flows k ∙ sym (stays net fig 0 k (omega arith) (omega arith))))) in
        let flows = listed flow_of (flows_from net fig 0) (of_dna net (dna_flow net fig)) is.flows flows_all in
        let losses = listed loss_of (found_from net 0 (dna_loss net fig)) (of_dna net (dna_loss net fig)) is.losses (found_all (dna_loss net fig)) in
        let residues = listed residue_of (found_from net 0 (dna_residue net fig)) (of_dna net (dna_residue net fig)) is.residues (found_all (dna_residue net fig)) in
        rw (none, estimates) (λ i. done (record { flows = flows i; losses = losses i; residues = residues i }))
