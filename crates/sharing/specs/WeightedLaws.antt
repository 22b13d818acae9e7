-- A rule by weights keeps the laws if its shares do for all weights that come to something.
use Rattle.std.specs.Prelude.{ℕ, zero, suc, ◌≤◌, length, ℤ}
use Rattle.std.proofs.Common.{arith}
use Rattle.units.specs.Sums.{sum}
use Rattle.sharing.specs.Rules.{Lawful}
use Rattle.sharing.specs.Weighted.{by_weight}
use Rattle.sharing.specs.Fillings.{weight_at}
use Rattle.sharing.specs.Views.{weighted_by}
use Rattle.sharing.specs.declared.weighted.Weighted.{Weighted}
use Rattle.units.specs.FixedLists.{listed}

-- weights that come to something have an owner
pub some_owner : (n : ℕ) (w : ℕ → ℕ) → 1 ≤ sum n w → 1 ≤ n
some_owner zero w part = absurd (omega arith)
some_owner (suc n) w part = omega arith

pub weighted_lawful : {M : Type 0} (share : ℕ → (ℕ → ℕ) → ℕ → ℤ → ℤ) → ((n : ℕ) (w : ℕ → ℕ) → 1 ≤ sum n w → Lawful (by_weight n w (share n w))) → (s : Weighted M) → Lawful (weighted_by share s)
weighted_lawful share keeps s =
    let weights = listed s.weights.parts in
    keeps (length weights) (weight_at weights) (omega (arith, s.weights.sound, s.weights.total.ok))
