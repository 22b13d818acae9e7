use Rattle.std.proofs.Common.{◌≡◌, ◌<◌, Some, length, rules, arith}
use Rattle.losses.specs.Directions.{numbered}
use Rattle.losses.specs.Table.{filled_here}
use Rattle.losses.proofs.segments.Segments.fill.Goals as goal

pub returns-clause-after : goal.returns-clause-after
returns-clause-after c =
    let curves = c.args.self.now.curves in
    let named : numbered c.args.direction ≡ Some c.in_ok-direction.direction = search rules in
    let inside : c.index.result < length curves = omega arith in
    filled_here curves c.index.result c.index-self-index.result inside c.args.link c.args.direction c.args.upper c.args.slope c.in_ok-direction.direction c.add.new.self (omega arith) named c.index.ensures.at c.add.ensures.after
