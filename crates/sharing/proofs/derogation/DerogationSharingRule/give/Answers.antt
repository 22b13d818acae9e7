use Rattle.std.proofs.Common.{◌≡◌, ◌∷◌, sym, ap, ◌∙◌, rules}
use Rattle.std.specs.NonZero.{non_zero_u32_get}
use Rattle.sharing.specs.Derogated.{derogated, at_most_all}
use Rattle.sharing.specs.Rules.{given, part_down}
use Rattle.sharing.proofs.Shared.{first_back, left_back, given_derogated}
use Rattle.sharing.proofs.derogation.DerogationSharingRule.give.Goals as goal

pub returns-in-Some : goal.returns-in-Some
returns-in-Some g c =
    let self = c.args.self.now in
    let amount = c.args.amount in
    let below = g.R.SharingRule.meaning self.below in
    let whole : non_zero_u32_get c.unwrap.result ≡ 10000 = search rules in
    let share : c.part-share.result.cents ≡ part_down c.of.result.cents (at_most_all self.part) 10000 = c.part-share.ensures ∙ (λ i. part_down c.of.result.cents (c.min.ensures i) (whole i)) in
    let first = first_back self.part amount c.of.result.cents c.part-share.result.cents c.ranges.amount c.of.ensures share c.part-share.result.bound in
    let left = left_back self.part amount c.of.result.cents c.part-share.result.cents c.ranges.amount c.of.ensures share c.part-share.result.bound in
    (λ i. first i ∷ (c.give.ensures ∙ ap (λ z. given below z c.in-Some.others.now) left) i)
    ∙ given_derogated self.part below (g.met.R.SharingRule.lawful self.below) amount c.in-Some.first.now c.in-Some.others.now
    ∙ ap (given (derogated self.part below) amount) (sym c.in-Some.ensures.cases.0)
