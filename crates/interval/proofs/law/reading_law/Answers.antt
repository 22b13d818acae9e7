use Rattle.interval.proofs.Says.{says}
use Rattle.interval.proofs.Spelled.{spelled_is_read, all_are_spelled}
use Rattle.interval.proofs.Whole.{intervals_in_range}
use Rattle.interval.proofs.law.reading_law.Goals as goal

pub returns : goal.returns
returns c = record { accepted = says; written = spelled_is_read; every = all_are_spelled; intervals = intervals_in_range }
