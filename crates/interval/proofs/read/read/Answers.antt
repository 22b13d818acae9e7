use Rattle.std.proofs.Common.{◌≡◌, ℕ, ◌+◌, List, length, take, ℤ, Ok, Err, Result, sym, refl, ◌∙◌, subst, arith}
use Rattle.std.proofs.lemmas.Result.{err_from_is_err_and}
use Rattle.grid.specs.declared.grid.Grid.{Grid}
use Rattle.grid.specs.Views.{of_grid}
use Rattle.units.proofs.FixedLists.{listed_few}
use Rattle.units.specs.declared.refusal.Refusal.{Refusal}
use Rattle.units.specs.Refusals.{Refused, turned_down}
use Rattle.interval.specs.Ranges.{lowest_price, highest_price, lowest_flow, highest_flow}
use Rattle.interval.specs.Words.{read, price_kind, flow_kind}
use Rattle.interval.specs.Spelling.{Spells, Unspelled}
use Rattle.interval.specs.Steps.{Figured, Reached, FiguresOrFault, ReadsOn, ReadFigures}
use Rattle.interval.proofs.Order.{fault_first, fault_price, fault_flow, open_before, reached_none, stopped}
use Rattle.interval.proofs.Filled.{run_read}
use Rattle.interval.proofs.Whole.{reached_first, figures_are}
use Rattle.interval.proofs.Says.{says}
use Rattle.interval.proofs.Spelled.{refused_unspelled}
use Rattle.interval.proofs.read.read.Goals as goal

unspelled : (g : Grid) (ws : List ℕ) (r : Refused) → read (of_grid g) ws ≡ turned_down r → Unspelled (of_grid g) ws
unspelled g ws r e =
    refused_unspelled (of_grid g) (record { regions = omega arith; links = listed_few g.links; points = listed_few g.points }) ws r e

-- the reader after the prices, and after the flows
after_prices : (g : Grid) (ws : List ℕ) → Reached (of_grid g) ws 1
    → (r : Result (List ℤ) Refusal) → FiguresOrFault r ws 1 g.region_count price_kind lowest_price highest_price
    → ReadsOn r (of_grid g) ws (λ xs. ReadFigures (of_grid g) ws 1 g.region_count price_kind lowest_price highest_price xs)
after_prices g ws h r f =
    let net = of_grid g in
    run_read net ws 1 price_kind lowest_price highest_price g.region_count h (λ i l. (fault_price net ws i l, open_before net ws (1 + i) (omega arith))) r f

after_flows : (g : Grid) (ws : List ℕ) (n : ℕ) → n ≡ length (of_grid g).links → Reached (of_grid g) ws (1 + g.region_count)
    → (r : Result (List ℤ) Refusal) → FiguresOrFault r ws (1 + g.region_count) n flow_kind lowest_flow highest_flow
    → ReadsOn r (of_grid g) ws (λ xs. ReadFigures (of_grid g) ws (1 + g.region_count) n flow_kind lowest_flow highest_flow xs)
after_flows g ws n all h r f =
    let net = of_grid g in
    run_read net ws (1 + net.regions) flow_kind lowest_flow highest_flow n h
    (λ i l. (fault_flow net ws i (omega arith), open_before net ws (1 + net.regions + i) (omega arith))) r f

pub returns-in_err-number : goal.returns-in_err-number
returns-in_err-number c =
    let g = c.args.grid.now in
    let ws = c.args.words.now in
    let p = err_from_is_err_and c.from_residual.result c.from_residual.ensures.1 in
    let e = stopped (of_grid g) ws 0 _ (reached_none (of_grid g) ws) (fault_first (of_grid g) ws ∙ c.in_err-number.ensures) in
    rw (p.1, p.2) (record { answers = cc; says = tt; spelled = unspelled g ws _ e })

pub returns-in_err-prices : goal.returns-in_err-prices
returns-in_err-prices c =
    let g = c.args.grid.now in
    let ws = c.args.words.now in
    let p = err_from_is_err_and c.from_residual-in_err-prices.result c.from_residual-in_err-prices.ensures.1 in
    let n = c.in_ok-number.ensures in
    let e = after_prices g ws (reached_first (of_grid g) ws n.1.0 n.0) (Err c.in_err-prices.field-0.0) c.in_err-prices.ensures in
    rw (p.1, p.2) (record { answers = cc; says = tt; spelled = unspelled g ws _ e })

pub returns-in_err-flows : goal.returns-in_err-flows
returns-in_err-flows c =
    let g = c.args.grid.now in
    let ws = c.args.words.now in
    let p = err_from_is_err_and c.from_residual-in_err-flows.result c.from_residual-in_err-flows.ensures.1 in
    let n = c.in_ok-number.ensures in
    let prices = after_prices g ws (reached_first (of_grid g) ws n.1.0 n.0) (Ok c.in_ok-prices.prices) c.in_ok-prices.ensures in
    let e = after_flows g ws c.len.result c.len.ensures prices.reached (Err c.in_err-flows.field-0.0) c.in_err-flows.ensures in
    rw (p.1, p.2) (record { answers = cc; says = tt; spelled = unspelled g ws _ e })

pub read_readings-requires : goal.read_readings-requires
read_readings-requires c =
    let g = c.args.grid.now in
    let ws = c.args.words.now in
    let n = c.in_ok-number.ensures in
    let prices = after_prices g ws (reached_first (of_grid g) ws n.1.0 n.0) (Ok c.in_ok-prices.prices) c.in_ok-prices.ensures in
    subst (λ n. Reached (of_grid g) ws (1 + g.region_count + n)) c.len.ensures (after_flows g ws c.len.result c.len.ensures prices.reached (Ok c.in_ok-flows.flows) c.in_ok-flows.ensures).reached

pub returns-in_err-readings : goal.returns-in_err-readings
returns-in_err-readings c =
    let g = c.args.grid.now in
    let ws = c.args.words.now in
    let p = err_from_is_err_and c.from_residual-in_err-readings.result c.from_residual-in_err-readings.ensures.1 in
    let e = c.in_err-readings.ensures in
    rw (p.1, p.2) (record { answers = cc; says = tt; spelled = unspelled g ws _ e })

pub returns : goal.returns
returns c =
    let grid = c.args.grid.now in
    let ws = c.args.words.now in
    let used = c.in_ok-readings.used in
    let n = c.in_ok-number.ensures in
    let h = c.in_ok-readings.ensures in
    let flows = subst (λ n. Figured ws (1 + grid.region_count) n flow_kind lowest_flow highest_flow 8 c.in_ok-flows.flows) c.len.ensures c.in_ok-flows.ensures in
    let same = figures_are (of_grid grid) ws used h.inside _ _ _ _ _ _ _
    lowest_price highest_price lowest_flow highest_flow refl refl (omega arith) (listed_few grid.links) (listed_few grid.points) h.past n.1.1
    c.in_ok-prices.ensures flows h.readings in
    record {
      answers = sym h.answered;
      says = same;
      spelled = subst (Spells (of_grid grid) (take used ws)) (sym same) (says (of_grid grid) ws used h.answered).1;
    }
