use Rattle.std.proofs.Common.{◌≡◌, ℕ, ◌<◌, ◌≤◌, ℤ, pos, ◌*ℤ◌, nat_abs, sym, ap, ◌∙◌, subst, arith, w64, to_z, of_z}
use Rattle.std.specs.NonZero.{non_zero_u32_get}
use Rattle.units.specs.Floor.{floor}
use Rattle.units.proofs.Fits.{small_back}
use Rattle.sharing.specs.Rules.{limit, part_down}
use Rattle.sharing.specs.Parts.{part_size, times_back}
use Rattle.sharing.proofs.amount.Shareable.part.Goals as goal

-- z is what the code divides
module _ (a b z : ℤ) (n d : ℕ) (cast : b ≡ pos n) (small : nat_abs a ≤ limit) (some : 0 < d) (part : n ≤ d) (few : d ≤ 1000000) (is : z ≡ floor (to_z w64 (of_z w64 (to_z w64 (of_z w64 a) *ℤ to_z w64 (of_z w64 b)))) d) where
  value : z ≡ part_down a n d
  value = is ∙ ap (λ y. floor y d) (times_back a n b cast small (omega arith))

  bound : nat_abs z ≤ limit
  bound = subst (λ y. nat_abs y ≤ limit) (sym value) (part_size a n d limit some small part)

  back : to_z w64 (of_z w64 z) ≡ z
  back = small_back z (omega (arith, bound))

pub invariant_of-result : goal.invariant_of-result
invariant_of-result c =
    let part = c.args.fraction in
    let size = bound c.args.self.cents c.from.result c.floor.result part.parts (non_zero_u32_get part.whole) c.from.ensures c.args.self.bound part.whole.ok part.at_most_all part.few c.floor.ensures in
    record { bound = rw (small_back c.floor.result (omega arith)) size }

pub returns : goal.returns
returns c =
    let part = c.args.fraction in
    back c.args.self.cents c.from.result c.floor.result part.parts (non_zero_u32_get part.whole) c.from.ensures c.args.self.bound part.whole.ok part.at_most_all part.few c.floor.ensures
    ∙ value c.args.self.cents c.from.result c.floor.result part.parts (non_zero_u32_get part.whole) c.from.ensures c.args.self.bound part.whole.ok part.at_most_all part.few c.floor.ensures
