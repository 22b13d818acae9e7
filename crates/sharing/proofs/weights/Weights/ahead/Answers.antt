use Rattle.std.proofs.Common.{ℕ, length, ap, ◌∙◌, arith, rules, tests}
use Rattle.std.proofs.lemmas.Iterator.{YieldsList-from_range}
use Rattle.std.proofs.lemmas.Iterator.Consumers.{YieldsList-from_filter, count_from_yields_List}
use Rattle.std.proofs.lemmas.List.Sums.{length-filter}
use Rattle.std.specs.List.{range_with_len}
use Rattle.units.specs.FixedLists.{listed}
use Rattle.units.specs.Sums.{tally}
use Rattle.sharing.specs.Fillings.{weight_at}
use Rattle.sharing.specs.Weighted.{remainder, sooner}
use Rattle.sharing.proofs.Weighed.{count_places}
use Rattle.sharing.proofs.weights.Weights.ahead.Goals as goal

pub returns : goal.returns
returns c =
    let parts = listed c.args.self.now.parts in
    let left = remainder (length parts) (weight_at parts) c.args.amount.cents in
    let first = λ (j : ℕ). sooner left j c.args.k in
    count_from_yields_List c.filter-before.result c.count.result c.count.ensures.ran (YieldsList-from_filter _ first (YieldsList-from_range 0 c.owners.result c.owners.result (cc) (omega arith)) c.filter-before.ensures.closure (λ x r q k. search (rules, tests)))
    ∙ length-filter first (range_with_len 0 c.owners.result)
    ∙ count_places c.owners.result first
    ∙ ap (λ n. tally n first) c.owners.ensures.value
