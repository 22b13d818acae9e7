use Rattle.std.proofs.Common.{◌≡◌, true, false, length, ap, ◌∙◌, rules}
use Rattle.std.proofs.lemmas.Iterator.{first_from_Range}
use Rattle.units.specs.Sums.{first_failure}
use Rattle.grid.specs.Views.{of_grid}
use Rattle.grid.proofs.Chains.{found_in_range}
use Rattle.grid.proofs.grid.Grid.first_failure.Goals as goal

pub returns-clause-value : goal.returns-clause-value
returns-clause-value g c =
    let test = g.E.Referring.holds (of_grid c.args.self.now) in
    let found = first_from_Range _ _ _ _ (λ i. test i ≡ false) (λ i. test i ≡ true) c.find.ensures.ran (λ x q k. search rules) (λ x q k. search rules) in
    found_in_range _ test _ found ∙ ap (λ xs. first_failure (length xs) test) c.entered.ensures.value
