use Rattle.std.proofs.Common.{◌≡◌, ◌*ℤ◌, nat_abs, sym, ap, ◌∙◌, ap₂, arith, lit<, w64, to_z, of_z}
use Rattle.std.specs.NonZero.{non_zero_u32_get}
use Rattle.units.specs.Floor.{floor}
use Rattle.units.proofs.Fits.{small_back, product_fits, product_back}
use Rattle.assets.specs.Sides.{surplus_of, larger_of}
use Rattle.assets.specs.declared.feed.Feed.{Feed}
use Rattle.assets.proofs.Balances.{difference_of, surplus_small, difference_small, loss_divided, loss_size}
use Rattle.assets.proofs.balance.Balance.loss.Goals as goal
use Rattle.assets.proofs.balance.Balance.loss.Goals.{After-difference}

surplus_is : (c : After-difference) → to_z w64 (of_z w64 c.surplus.result) ≡ surplus_of c.args.self.sides
surplus_is c = ap (λ z. to_z w64 (of_z w64 z)) c.surplus.ensures ∙ small_back (surplus_of c.args.self.sides) (omega (arith, surplus_small c.args.self.sides))

difference_is : (c : After-difference) → to_z w64 (of_z w64 c.difference.result) ≡ difference_of c.args.self
difference_is c = ap (λ z. to_z w64 (of_z w64 z)) c.difference.ensures ∙ small_back (difference_of c.args.self) (omega (arith, difference_small c.args.self))

pub overflow_mul-surplus : goal.overflow_mul-surplus
overflow_mul-surplus c =
    let b = c.args.self in
    product_fits _ _ (surplus_of b.sides) (difference_of b) 3200000 57600000000 (surplus_is c) (difference_is c) (surplus_small b.sides) (difference_small b) (lit< tt)

quotient : (c : After-difference)
    → floor (to_z w64 (of_z w64 (to_z w64 (of_z w64 c.surplus.result) *ℤ to_z w64 (of_z w64 c.difference.result)))) (non_zero_u32_get c.in-Some.gross)
    ≡ floor (surplus_of c.args.self.sides *ℤ difference_of c.args.self) (larger_of c.args.self.sides).energy
quotient c =
    let b = c.args.self in
    ap₂ floor
    (product_back _ _ (surplus_of b.sides) (difference_of b) 3200000 57600000000 (surplus_is c) (difference_is c) (surplus_small b.sides) (difference_small b) (lit< tt))
    (c.in-Some.ensures ∙ ap (λ (x : Feed). x.energy) c.larger.ensures)

pub returns-in-Some : goal.returns-in-Some
returns-in-Some c =
    let b = c.args.self in
    let size = loss_size b in
    let is = c.floor.ensures ∙ quotient (goal.at.returns-in-Some c).After-difference in
    let back : to_z w64 (of_z w64 c.floor.result) ≡ floor (surplus_of b.sides *ℤ difference_of b) (larger_of b.sides).energy = ap (λ z. to_z w64 (of_z w64 z)) is ∙ small_back _ (omega (arith, size)) in
    record {
      value = λ sent taken f. back ∙ sym (loss_divided sent taken b f);
      small = omega (arith, ap nat_abs back, size);
    }
