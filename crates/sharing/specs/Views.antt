-- What the rules that the code holds mean.
use Rattle.std.specs.NonZero.{non_zero_u32_get}
use Rattle.std.specs.Prelude.{ℕ, ℤ}
use Rattle.units.specs.FixedLists.{listed}
use Rattle.sharing.specs.declared.derogation.Derogation.{Derogation}
use Rattle.sharing.specs.declared.equal.Equal.{Equal}
use Rattle.sharing.specs.declared.weighted.Weighted.{Weighted}
use Rattle.sharing.specs.declared.nearest.NearestCents.{NearestCents}
use Rattle.sharing.specs.declared.running.RunningCharges.{RunningCharges}
use Rattle.sharing.specs.Rules.{Rule}
use Rattle.sharing.specs.Weighted.{equal}
use Rattle.sharing.specs.Derogated.{derogated}
use Rattle.sharing.specs.Fillings.{by_weights, running_of, nearest_of}

-- a derogation, by what its rule below means
abbrev pub derogated_by : {R : Type 0} → (R → Rule) → Derogation R → Rule
derogated_by meaning s = derogated s.part (meaning s.below)

abbrev pub equal_by : Equal → Rule
equal_by s = equal (non_zero_u32_get s.owners)

-- a rule by weights, by how its method shares
abbrev pub weighted_by : {M : Type 0} → (ℕ → (ℕ → ℕ) → ℕ → ℤ → ℤ) → Weighted M → Rule
weighted_by share s = by_weights share (listed s.weights.parts)

-- by running charges and by nearest cents
abbrev pub running_by : Weighted RunningCharges → Rule
running_by s = running_of (listed s.weights.parts)

abbrev pub nearest_by : Weighted NearestCents → Rule
nearest_by s = nearest_of (listed s.weights.parts)
