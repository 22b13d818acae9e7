-- Money: ten million grains make a cent, and an amount comes to a number of grains.
use Rattle.std.specs.Prelude.{ℕ, ◌^◌, Bool, cond, ℤ, pos, negsuc, ◌+ℤ◌, ◌*ℤ◌, Some, None, Option, nat_lt}
use Rattle.units.specs.Floor.{floor, rest}
use Rattle.units.specs.declared.amount.Amount.{Amount}

abbrev pub grains_per_cent : ℕ
grains_per_cent = 10000000

abbrev pub in_grains : ℤ → ℤ
in_grains cents = cents *ℤ pos grains_per_cent

-- the whole cents of so many grains, rounded down, and the grains beside them
abbrev pub whole_cents : ℤ → ℤ
whole_cents z = floor z grains_per_cent

abbrev pub odd_grains : ℤ → ℕ
odd_grains z = rest z grains_per_cent

-- what cents and grains come to, in grains
abbrev pub row : ℤ → ℕ → ℤ
row cents grains = in_grains cents +ℤ pos grains

-- what an amount comes to, in grains
abbrev pub worth : Amount → ℤ
worth a = row a.cents a.grains

-- the number fits a signed word of 64 bits
abbrev pub fits_64 : ℤ → Bool
fits_64 (pos n) = nat_lt n (2 ^ 63)
fits_64 (negsuc n) = nat_lt n (2 ^ 63)

-- cents and grains make an amount if the grains are less than a cent
abbrev pub checked : ℤ → ℕ → Option ℤ
checked cents grains = cond (nat_lt grains grains_per_cent) (Some (row cents grains)) None

-- so many grains make an amount if their whole cents fit
abbrev pub held : ℤ → Option ℤ
held z = cond (fits_64 (whole_cents z)) (Some z) None
