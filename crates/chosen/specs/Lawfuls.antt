-- Every chosen rule keeps the laws of a rule.
use Rattle.std.specs.NonZero.{non_zero_u32_get}
use Rattle.sharing.specs.Rules.{Lawful}
use Rattle.sharing.specs.Weighted.{running_share, nearest_share}
use Rattle.sharing.specs.WeightedLaws.{weighted_lawful}
use Rattle.sharing.specs.RunningLaws.{running_lawful, equal_lawful}
use Rattle.sharing.specs.NearestLaws.{nearest_lawful}
use Rattle.sharing.specs.DerogatedLaws.{derogated_lawful}
use Rattle.chosen.specs.Rules.{rule_of, pile_of}
use Rattle.chosen.specs.declared.rule.AnyRule.{AnyRule}
use Rattle.chosen.specs.declared.rule.AnyRule.TheVariants.{Equal, Running, Nearest}
use Rattle.chosen.specs.declared.rule.Pile.{Pile}
use Rattle.chosen.specs.declared.rule.Pile.TheVariants.{Plain, Once, Twice}

pub rule_lawful : (s : AnyRule) → Lawful (rule_of s)
rule_lawful (Equal rule) = equal_lawful (non_zero_u32_get rule.owners) rule.owners.ok
rule_lawful (Running rule) = weighted_lawful running_share running_lawful rule
rule_lawful (Nearest rule) = weighted_lawful nearest_share nearest_lawful rule

pub pile_lawful : (s : Pile) → Lawful (pile_of s)
pile_lawful (Plain rule) = rule_lawful rule
pile_lawful (Once rule) = derogated_lawful rule.part (rule_of rule.below) (rule_lawful rule.below)
pile_lawful (Twice rule) = derogated_lawful rule.part _ (derogated_lawful rule.below.part (rule_of rule.below.below) (rule_lawful rule.below.below))
