use Rattle.std.proofs.Common.{◌≡◌, ◌≤◌, ℤ, ◌*ℤ◌, nat_abs, Some, ap, ◌∙◌, ap₂, arith, lit<, w32, w64, to_z, of_z}
use Rattle.std.proofs.lemmas.Int.{to_z-of_z}
use Rattle.std.proofs.lemmas.Result.{err_from_is_err_and}
use Rattle.units.proofs.Fits.{small_back, product_fits, product_back, product_size}
use Rattle.register.specs.declared.entry.Dna.{Dna}
use Rattle.grid.proofs.Places.{grid_holds, dna_boundary}
use Rattle.interval.specs.Figures.{price}
use Rattle.interval.specs.Metered.{network_of, figures_of}
use Rattle.assets.specs.Assets.{senders, takers, flow_at, flow_with, loss_at}
use Rattle.assets.specs.Estimates.{upstream_of}
use Rattle.assets.proofs.Limits.{limited, at_some, at_none, refusal_is, narrow}
use Rattle.assets.proofs.asset.Asset.estimate.Goals as goal
use Rattle.assets.proofs.asset.Asset.estimate.Goals.{After-flow, After-from-price}

pub invariant_of-balance : goal.invariant_of-balance
invariant_of-balance c =
    let m = c.args.self.now.metered in
    record { high = omega (arith, ap (λ (e : Dna). e.boundary) c.entry_at-dna.ensures, dna_boundary (network_of m) (grid_holds m.grid.now) c.args.self.now.number) }

abbrev flow_of : After-flow → ℤ
flow_of c = flow_with (network_of c.args.self.now.metered) (figures_of c.args.self.now.metered) (upstream_of c.args.self.now.metered c.args.self.now.number) c.args.self.now.number

flow_is : (c : After-flow) → c.flow.result ≡ limited (flow_of c)
flow_is c =
    let net = network_of c.args.self.now.metered in
    let fig = figures_of c.args.self.now.metered in
    let d = c.args.self.now.number in
    let s = senders net fig (upstream_of c.args.self.now.metered c.args.self.now.number) d in
    let t = takers net fig (upstream_of c.args.self.now.metered c.args.self.now.number) d in
    c.flow.ensures s t c.requires ∙ ap (λ (e : Dna). limited (flow_at s t e.boundary)) c.entry_at-dna.ensures

pub returns-in_err-flow : goal.returns-in_err-flow
returns-in_err-flow c =
    let p = err_from_is_err_and c.from_residual.result c.from_residual.ensures.1 in
    rw (p.1, p.2) (record {
      refusal_is = refusal_is c.flow.result _ _ c.in_err-flow.ensures.value c.in_err-flow.ensures.ok_part;
      large = at_none (flow_of (goal.at.returns-in_err-flow c).After-flow) c.flow.result (flow_is (goal.at.returns-in_err-flow c).After-flow) c.in_err-flow.ensures.ok_part;
    })

loss_back : (c : After-from-price) → to_z w64 (of_z w64 c.loss-loss.result) ≡ c.loss-loss.result
loss_back c = small_back c.loss-loss.result (omega (arith, c.loss-loss.ensures.small))

price_back : (c : After-from-price) → to_z w64 (of_z w64 c.from-price.result) ≡ c.price_in.result
price_back c = to_z-of_z w64 c.from-price.result (record { sfits = c.from-price.type_inv }) ∙ c.from-price.ensures ∙ to_z-of_z w32 c.price_in.result (record { sfits = c.price_in.type_inv })

product : (c : After-from-price) → to_z w64 (of_z w64 (to_z w64 (of_z w64 c.loss-loss.result) *ℤ to_z w64 (of_z w64 c.from-price.result))) ≡ c.loss-loss.result *ℤ c.price_in.result
product c = product_back _ _ _ _ 57600000000 2000000 (loss_back c) (price_back c) c.loss-loss.ensures.small c.price_in.ensures.small (lit< tt)

pub overflow_mul-result : goal.overflow_mul-result
overflow_mul-result c = product_fits _ _ _ _ 57600000000 2000000 (loss_back c) (price_back c) c.loss-loss.ensures.small c.price_in.ensures.small (lit< tt)

found : (c : After-flow) (y : ℤ) → c.flow.result ≡ Some y → (y ≡ flow_of c) × (nat_abs y ≤ 200000)
found c y = at_some (flow_of c) c.flow.result (flow_is c) y

pub invariant_of-result : goal.invariant_of-result
invariant_of-result c =
    record {
      residue_small = omega (arith, ap nat_abs (product c), product_size c.loss-loss.result c.price_in.result 57600000000 2000000 c.loss-loss.ensures.small c.price_in.ensures.small);
    }

pub returns : goal.returns
returns c =
    let net = network_of c.args.self.now.metered in
    let fig = figures_of c.args.self.now.metered in
    let d = c.args.self.now.number in
    let p = (goal.at.returns c).After-from-price in
    let s = senders net fig (upstream_of c.args.self.now.metered c.args.self.now.number) d in
    let t = takers net fig (upstream_of c.args.self.now.metered c.args.self.now.number) d in
    let f = found (goal.at.returns c).After-flow c.in_ok-flow.flow c.in_ok-flow.ensures.ok_part in
    let loss = c.loss-loss.ensures.value s t c.requires ∙ ap (λ (e : Dna). loss_at s t e.boundary) c.entry_at-dna.ensures in
    record {
      flow_is = narrow c.in_ok-flow.flow f.1 ∙ f.0;
      flow_small = omega (arith, ap nat_abs (narrow c.in_ok-flow.flow f.1), f.1);
      loss_is = loss_back p ∙ loss;
      residue_is = product p ∙ ap₂ (λ x y. x *ℤ y) loss (c.price_in.ensures.value ∙ ap (λ (e : Dna). price fig e.region) c.entry_at-dna.ensures);
    }
