use Rattle.sharing.proofs.OddCents.{odd_cents}
use Rattle.sharing.proofs.laws.laws_hold.Goals as goal

pub returns : goal.returns
returns c = odd_cents
