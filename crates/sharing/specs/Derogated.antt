-- A derogation: one owner gets its part first, and a rule shares the rest.
use Rattle.std.specs.Prelude.{ℕ, zero, suc, ◌-◌, ◌*◌, min, ℤ, ◌-ℤ◌}
use Rattle.sharing.specs.Rules.{Rule, part_down, within}

-- a part in ten-thousandths; more than all counts as all
abbrev pub at_most_all : ℕ → ℕ
at_most_all p = min p 10000

-- what place 0 gets
abbrev pub first_share : ℕ → ℤ → ℤ
first_share p a = part_down a (at_most_all p) 10000

-- the rule below shares the rest among the places after 0
abbrev pub derogated_share : ℕ → Rule → ℕ → ℤ → ℤ
derogated_share p below zero a = first_share p a
derogated_share p below (suc k) a = below.share k (a -ℤ first_share p a)

abbrev pub derogated_numerator : ℕ → Rule → ℕ → ℕ
derogated_numerator p below zero = at_most_all p * below.denominator
derogated_numerator p below (suc k) = (10000 - at_most_all p) * below.numerator k

abbrev pub derogated : ℕ → Rule → Rule
derogated p below = record {
  owners = suc below.owners;
  numerator = derogated_numerator p below;
  denominator = 10000 * below.denominator;
  slack = suc below.slack;
  share = within (suc below.owners) (derogated_share p below);
}
