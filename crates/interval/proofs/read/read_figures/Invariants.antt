use Rattle.interval.specs.Kinds.{number}
use Rattle.interval.specs.Steps.{Figured}
use Rattle.interval.proofs.read.read_figures.Given as goal

abbrev pub invariant-loop-i : goal.invariant-loop-i
invariant-loop-i l = Figured l.words l.start l.i (number l.form.kind) l.form.low l.form.high l.n l.figure-items
