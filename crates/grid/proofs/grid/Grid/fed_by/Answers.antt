use Rattle.std.proofs.Common.{◌≡◌, ◌+◌, ◌∙◌, rules}
use Rattle.std.specs.List.{count_by}
use Rattle.grid.specs.Views.{of_grid}
use Rattle.grid.proofs.Chains.{point_names, dna_names, counts_fed_by}
use Rattle.grid.proofs.grid.Grid.fed_by.Goals as goal

pub returns : goal.returns
returns c =
    let net = of_grid c.args.self.now in
    let points : c.count.result ≡ count_by (point_names c.args.n) net.points = search rules in
    let dnas : c.count-2.result ≡ count_by (dna_names c.args.n) net.dnas = search rules in
    (λ t. points t + dnas t) ∙ counts_fed_by net c.args.n
