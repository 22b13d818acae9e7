-- The sign of a residue, and its number.
use Rattle.std.specs.Prelude.{ℕ, ℤ, pos, negsuc}
use Rattle.transfers.specs.declared.sign.Sign.{Sign}
use Rattle.transfers.specs.declared.sign.Sign.TheVariants.{PaidOut, Recovered}

abbrev pub sign : ℤ → Sign
sign (pos n) = PaidOut
sign (negsuc n) = Recovered

abbrev pub number : Sign → ℕ
number PaidOut = 0
number Recovered = 1
