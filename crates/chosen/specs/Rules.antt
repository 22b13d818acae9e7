-- What a chosen sharing rule means.
use Rattle.sharing.specs.Rules.{Rule}
use Rattle.sharing.specs.Views.{equal_by, running_by, nearest_by, derogated_by}
use Rattle.chosen.specs.declared.rule.AnyRule.{AnyRule}
use Rattle.chosen.specs.declared.rule.AnyRule.TheVariants.{Equal, Running, Nearest}
use Rattle.chosen.specs.declared.rule.Pile.{Pile}
use Rattle.chosen.specs.declared.rule.Pile.TheVariants.{Plain, Once, Twice}

abbrev pub rule_of : AnyRule → Rule
rule_of (Equal rule) = equal_by rule
rule_of (Running rule) = running_by rule
rule_of (Nearest rule) = nearest_by rule

abbrev pub pile_of : Pile → Rule
pile_of (Plain rule) = rule_of rule
pile_of (Once rule) = derogated_by rule_of rule
pile_of (Twice rule) = derogated_by (derogated_by rule_of) rule
