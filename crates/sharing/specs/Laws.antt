-- What follows from the laws of a rule alone.
use Rattle.std.specs.Prelude.{◌≡◌, ℕ, ◌-◌, ◌*◌, ◌≤◌, ℤ, int_lt, unsigned_abs}
use Rattle.units.specs.Sums.{sum, tally}
use Rattle.sharing.specs.Rules.{Rule, Lawful, limit, part_down, part_rest}

-- the owners that get more than their exact part rounded down
abbrev pub rounded_up : Rule → ℤ → ℕ
rounded_up r a = tally r.owners (λ k. int_lt (part_down a (r.numerator k) r.denominator) (r.share k a))

-- Under a rule of slack 1 they are at most one fewer than the owners, and exactly as many as the cents that the rests come to.
abbrev pub OddCents : Type 0
OddCents = (r : Rule) → Lawful r → r.slack ≡ 1 → (a : ℤ) → unsigned_abs a ≤ limit →
    (rounded_up r a ≤ r.owners - 1)
    × (rounded_up r a * r.denominator ≡ sum r.owners (λ k. part_rest a (r.numerator k) r.denominator))
