use Rattle.interval.proofs.Named.{same}
use Rattle.interval.proofs.part.Word.is.Goals as goal

pub returns : goal.returns
returns c = rw (c.eq.ensures, c.kind.ensures) (same _ c.args.of)
