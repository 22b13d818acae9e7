-- Assets that are worked from the highest number down.
use Rattle.std.proofs.Common.{◌≡◌, ℕ, zero, suc, ◌+◌, ◌-◌, ◌<◌, ◌≤◌, Bool, true, false, cond, eqb, leb, length, ℤ, pos, ◌+ℤ◌, nat_abs, Some, None, Option, sym, refl, ap, ◌∙◌, ap₂, ⊎_elim, add-zero, add-suc, add-one, arith}
use Rattle.std.proofs.lemmas.Bool.{cases_eq, eq-eqb, ne_eqb, eqb-true, le-leb, lt-leb, cond-true, cond-false}
use Rattle.units.specs.Sums.{total, when}
use Rattle.units.proofs.Totals.{total_ext}
use Rattle.register.specs.Contents.{Network}
use Rattle.register.specs.Fields.{factor}
use Rattle.grid.specs.References.{Holds, point_at, dna_at, point_feeds, dna_feeds}
use Rattle.grid.proofs.References.{dna_entry}
use Rattle.interval.specs.Figures.{Figures, sent_at, taken_at}
use Rattle.assets.specs.Estimates.{flows_from}
use Rattle.assets.specs.Assets.{above_0, below_0, side, senders, takers, loss_at, flow_at, loss_with, flow_with, worked_flows, dna_flow, dna_loss, flow_too_large}

module _ (net : Network) (fig : Figures) where
  -- ---- one asset more

  worked_stays : (w j k : ℕ) → length net.dnas - w ≤ k → w + j ≤ length net.dnas → worked_flows net fig (w + j) k ≡ worked_flows net fig w k
  worked_stays w zero k high fits = ap (λ n. worked_flows net fig n k) (add-zero w)
  worked_stays w (suc j) k high fits =
      ap (λ n. worked_flows net fig n k) (add-suc w j)
      ∙ cond-false _ _ _ (ne_eqb k (length net.dnas - suc (w + j)) (omega arith))
      ∙ worked_stays w j k high (omega arith)

  -- what is worked stays
  pub stays : (first k : ℕ) → first ≤ k → first ≤ length net.dnas → dna_flow net fig k ≡ flows_from net fig first k
  stays first k high fits =
      let w = length net.dnas - first in
      let all : length net.dnas ≡ w + first = omega arith in
      ap (λ n. worked_flows net fig n k) all ∙ worked_stays w first k (omega arith) (omega arith)

  not_worked : (w k : ℕ) → w ≤ length net.dnas → k < length net.dnas - w → worked_flows net fig w k ≡ pos 0
  not_worked zero k fits low = refl
  not_worked (suc w) k fits low = cond-false _ _ _ (ne_eqb k (length net.dnas - suc w) (omega arith)) ∙ not_worked w k (omega arith) (omega arith)

  pub unworked : (first k : ℕ) → first ≤ length net.dnas → k < first → flows_from net fig first k ≡ pos 0
  unworked first k fits low = not_worked (length net.dnas - first) k (omega arith) (omega arith)

  pub one_more : (d k : ℕ) → d < length net.dnas → flows_from net fig d k ≡ cond (eqb k d) (flow_with net fig (flows_from net fig (d + 1)) d) (flows_from net fig (d + 1) k)
  one_more d k low =
      let more : length net.dnas - d ≡ suc (length net.dnas - (d + 1)) = omega arith in
      let place : length net.dnas - suc (length net.dnas - (d + 1)) ≡ d = omega arith in
      ap (λ n. worked_flows net fig n k) more
      ∙ ap (λ j. cond (eqb k j) (flow_with net fig (flows_from net fig (d + 1)) j) (flows_from net fig (d + 1) k)) place

  -- ---- the first flow that is too large

  pub none_too_large : (n : ℕ) → ((k : ℕ) → k < n → nat_abs (dna_flow net fig k) ≤ 200000) → flow_too_large net fig n ≡ None
  none_too_large zero h = refl
  none_too_large (suc n) h =
      ap (λ b. elim b [ true ↦ flow_too_large net fig n | false ↦ Some n ]) (le-leb _ _ (h n (omega arith))) ∙ none_too_large n (λ k l. h k (omega arith))

  pub too_large_at : (n d : ℕ) → d < n → 200000 < nat_abs (dna_flow net fig d) → ((k : ℕ) → d < k → k < n → nat_abs (dna_flow net fig k) ≤ 200000) → flow_too_large net fig n ≡ Some d
  too_large_at zero d l large h = absurd (omega arith)
  too_large_at (suc n) d l large h = ⊎_elim
      (λ e. let big : 200000 < nat_abs (dna_flow net fig n) = omega (arith, ap (λ k. nat_abs (dna_flow net fig k)) e) in step false (lt-leb _ _ big) ∙ ap Some (sym e))
      (λ e. step true (le-leb _ _ (h n (omega arith) (omega arith))) ∙ too_large_at n d (omega arith) large (λ k p q. h k p (omega arith)))
      (cases_eq d n)
    where
      step : (t : Bool) → leb (nat_abs (dna_flow net fig n)) 200000 ≡ t → ◌≡◌ {A = Option ℕ} (flow_too_large net fig (suc n)) (elim t [ true ↦ flow_too_large net fig n | false ↦ Some n ])
      step t e = ap (λ b. elim b [ true ↦ flow_too_large net fig n | false ↦ Some n ]) e

  -- ---- all that is upstream of an asset is worked before it

  module _ (h : Holds net) (d : ℕ) (low : d < length net.dnas) where
    same_side : (at_point : ℕ → ℕ) (part : ℤ → ℕ) (weight : ℕ → ℕ → ℤ) → side net at_point (λ m. part (dna_flow net fig m)) d weight ≡ side net at_point (λ m. part (flows_from net fig (d + 1) m)) d weight
    same_side at_point part weight =
        ap (λ z. total (length net.points) (λ i. when (point_feeds net d i) (weight (at_point i) (factor (point_at net i)))) +ℤ z)
        (total_ext (length net.dnas) _ _ (λ m l. same m l (dna_feeds net d m) refl))
      where
        same : (m : ℕ) → m < length net.dnas → (b : Bool) → dna_feeds net d m ≡ b → when b (weight (part (dna_flow net fig m)) (dna_at net m).boundary) ≡ when b (weight (part (flows_from net fig (d + 1) m)) (dna_at net m).boundary)
        same m l false e = refl
        same m l true e =
            let names : (dna_at net m).downstream ≡ suc d = eqb-true _ _ e ∙ add-one d in
            let above = ((dna_entry net h m l).downstream d names).0 in
            ap (λ z. weight (part z) (dna_at net m).boundary) (stays (d + 1) m (omega (arith, above)) (omega arith))

    pub same_senders : senders net fig (dna_flow net fig) d ≡ senders net fig (flows_from net fig (d + 1)) d
    same_senders i weight = same_side (sent_at fig) above_0 weight i

    pub same_takers : takers net fig (dna_flow net fig) d ≡ takers net fig (flows_from net fig (d + 1)) d
    same_takers i weight = same_side (taken_at fig) below_0 weight i

    pub loss_is : dna_loss net fig d ≡ loss_with net fig (flows_from net fig (d + 1)) d
    loss_is = ap₂ (λ s t. loss_at s t (dna_at net d).boundary) same_senders same_takers

    -- each flow follows from the flows of the assets directly upstream
    pub flow_is : dna_flow net fig d ≡ flow_with net fig (flows_from net fig (d + 1)) d
    flow_is = stays d d (omega arith) (omega arith) ∙ one_more d d low ∙ cond-true _ _ _ (eq-eqb d d refl)

    pub flow_of_all : dna_flow net fig d ≡ flow_with net fig (dna_flow net fig) d
    flow_of_all = flow_is ∙ sym (ap₂ (λ s t. flow_at s t (dna_at net d).boundary) same_senders same_takers)
