-- Credits and net exports as lists.
use Rattle.std.specs.Prelude.{List, ℤ}
use Rattle.residue.specs.declared.credit.Credits.{Credits}

abbrev pub of_credits : Credits → List ℤ × List ℤ
of_credits c = (c.pots, c.nets)
