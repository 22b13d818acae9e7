use Rattle.std.proofs.Common.{◌≡◌, ◌+◌, ◌-◌, ◌<◌, length, nat_abs, ap, subst, arith}
use Rattle.std.proofs.lemmas.Result.{err_from_is_err_and}
use Rattle.units.proofs.FixedLists.{listed_few}
use Rattle.grid.proofs.Places.{grid_holds}
use Rattle.interval.specs.Figures.{sent_at, taken_at}
use Rattle.interval.specs.Metered.{network_of, figures_of}
use Rattle.assets.specs.Assets.{above_0, below_0}
use Rattle.assets.specs.Estimates.{upstream_of, Worked, FedFrom}
use Rattle.assets.proofs.Sizes.{side_apart}
use Rattle.assets.proofs.Whole.{all_estimated, worked_more, refused_at, done_all}
use Rattle.assets.proofs.assets.Assets.of.Goals as goal
use Rattle.assets.proofs.assets.Assets.of.Goals.{After-index-sides-number}

-- the assets worked so far, counted from the one below them
before : (c : After-index-sides-number) → Worked (network_of c.args.metered.now) (figures_of c.args.metered.now) (c.loop-number.number - 1 + 1) c.loop-number.found × FedFrom c.args.metered.now (c.loop-number.number - 1 + 1) c.loop-number.sides
before c =
    let next : c.loop-number.number ≡ c.loop-number.number - 1 + 1 = omega arith in
    let i = c.loop-number.invariant in
    (subst (λ n. Worked (network_of c.args.metered.now) (figures_of c.args.metered.now) n c.loop-number.found) next i.0, subst (λ n. FedFrom c.args.metered.now n c.loop-number.sides) next i.1)

few : (c : After-index-sides-number) → c.loop-number.number - 1 < 8
few c = omega (arith, listed_few c.args.metered.now.grid.now.grid.dnas)

pub estimate-requires : goal.estimate-requires
estimate-requires c =
    let m = c.args.metered.now in
    let fig = figures_of m in
    let d = c.loop-number.number - 1 in
    let b = (goal.at.estimate-requires c).After-index-sides-number in
    let fed = (before b).1.each d (few b) _ in
    record {
      senders_are = fed.0;
      takers_are = fed.1;
      senders_apart = side_apart (network_of m) (sent_at fig) (λ k. above_0 (upstream_of m d k)) d;
      takers_apart = side_apart (network_of m) (taken_at fig) (λ k. below_0 (upstream_of m d k)) d;
    }

pub returns-in_err-estimate-clause-value : goal.returns-in_err-estimate-clause-value
returns-in_err-estimate-clause-value c =
    let m = c.args.metered.now in
    let p = err_from_is_err_and c.from_residual.result c.from_residual.ensures.1 in
    let refusal = c.in_err-estimate.ensures.refusal_is in
    let low : c.loop-number.number - 1 < length (network_of m).dnas = omega arith in
    rw (p.1, p.2, refusal) (refused_at (network_of m) (figures_of m) (c.loop-number.number - 1) low c.loop-number.found (before (goal.at.returns-in_err-estimate-clause-value c).After-index-sides-number).0 c.in_err-estimate.ensures.large)

pub returns-in_err-estimate-clause-estimated : goal.returns-in_err-estimate-clause-estimated
returns-in_err-estimate-clause-estimated c = all_estimated (network_of c.args.metered.now) (figures_of c.args.metered.now) (grid_holds c.args.metered.now.grid.now)

pub pass_on-requires-clause-fed : goal.pass_on-requires-clause-fed
pass_on-requires-clause-fed c = (before (goal.at.pass_on-requires-clause-fed c).After-index-sides-number).1

pub pass_on-requires-clause-small : goal.pass_on-requires-clause-small
pass_on-requires-clause-small c k = let w = (before (goal.at.pass_on-requires-clause-small c).After-index-sides-number).0 in omega (arith, w.small k, ap nat_abs (w.flows k))

pub loop-number-preserved : goal.loop-number-preserved
loop-number-preserved c =
    let m = c.args.metered.now in
    let b = (goal.at.loop-number-preserved c).After-index-sides-number in
    let low : c.loop-number.number - 1 < length (network_of m).dnas = omega arith in
    (worked_more (network_of m) (figures_of m) (c.loop-number.number - 1) low c.loop-number.found (before b).0 (grid_holds m.grid.now) (few b) c.in_ok-estimate.estimate c.in_ok-estimate.ensures, c.pass_on.ensures)

pub returns-clause-value : goal.returns-clause-value
returns-clause-value c =
    let net = network_of c.args.metered.now in
    let fig = figures_of c.args.metered.now in
    let end : c.loop-number.number ≡ 0 = omega arith in
    done_all net fig c.loop-number.found (subst (λ n. Worked net fig n c.loop-number.found) end c.loop-number.invariant.0)

pub returns-clause-estimated : goal.returns-clause-estimated
returns-clause-estimated c = all_estimated (network_of c.args.metered.now) (figures_of c.args.metered.now) (grid_holds c.args.metered.now.grid.now)
