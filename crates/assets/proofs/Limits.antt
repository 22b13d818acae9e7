-- A flow that is refused where it is too large.
use Rattle.std.proofs.Common.{◌≡◌, ◌<◌, ◌≤◌, cond, leb, ℤ, nat_abs, Some, None, Option, Err, Result, arith, w32, to_z, of_z}
use Rattle.std.proofs.lemmas.Int.{ints, to_z-of_z}
use Rattle.std.specs.Option.{ok_or}
use Rattle.units.specs.declared.refusal.Refusal.{Refusal}
use Rattle.std.proofs.lemmas.Bool.Decides.{nat_tests}

abbrev pub limited : ℤ → Option ℤ
limited z = cond (leb (nat_abs z) 200000) (Some z) None

module _ (z : ℤ) (o : Option ℤ) (is : o ≡ limited z) where
  pub at_some : (y : ℤ) → o ≡ Some y → (y ≡ z) × (nat_abs y ≤ 200000)
  at_some y e = grind (arith, nat_tests)

  pub at_none : o ≡ None → 200000 < nat_abs z
  at_none e = grind (arith, nat_tests)

pub refusal_is : (o : Option ℤ) (e f : Refusal) → ◌≡◌ {A = Result ℤ Refusal} (Err f) (ok_or o e) → o ≡ None → f ≡ e
refusal_is None e f is none = cc
refusal_is (Some z) e f is none = absurd (cc)

pub narrow : (z : ℤ) → nat_abs z ≤ 200000 → to_z w32 (of_z w32 z) ≡ z
narrow z small = to_z-of_z w32 z (omega (arith, ints))
