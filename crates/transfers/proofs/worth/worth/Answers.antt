use Rattle.std.proofs.Common.{◌≡◌, ◌*ℤ◌, nat_abs, ap, ◌∙◌, arith, lit<, w32, w64, to_z, of_z}
use Rattle.std.proofs.lemmas.Int.{to_z-of_z}
use Rattle.units.proofs.Fits.{product_fits, product_back, product_size}
use Rattle.transfers.proofs.worth.worth.Goals as goal

units_is : (c : goal.After-from) → to_z w64 (of_z w64 c.args.units) ≡ c.args.units
units_is c = to_z-of_z w64 c.args.units c.ranges.units

price_is : (c : goal.After-from) → to_z w64 (of_z w64 c.from.result) ≡ c.price_in.result
price_is c = to_z-of_z w64 c.from.result (record { sfits = c.from.type_inv }) ∙ c.from.ensures ∙ to_z-of_z w32 c.price_in.result (record { sfits = c.price_in.type_inv })

pub overflow_mul-result : goal.overflow_mul-result
overflow_mul-result c = product_fits _ _ _ _ 1000000000000 2000000 (units_is c) (price_is c) c.requires c.price_in.ensures.small (lit< tt)

pub returns : goal.returns
returns c =
    let back = product_back _ _ _ _ 1000000000000 2000000 (units_is c) (price_is c) c.requires c.price_in.ensures.small (lit< tt) in
    record {
      value = back ∙ ap (λ p. c.args.units *ℤ p) c.price_in.ensures.value;
      small = omega (arith, ap nat_abs back, product_size c.args.units c.price_in.result (nat_abs c.args.units) 2000000 (omega arith) c.price_in.ensures.small);
    }
