-- Division that rounds toward minus infinity.
use Rattle.std.specs.Prelude.{ℕ, ◌/◌, ℤ, pos, negsuc, ◌-ℤ◌, ◌*ℤ◌, unsigned_abs}

-- z divided by d, rounded toward minus infinity
abbrev pub floor : ℤ → ℕ → ℤ
floor (pos a) d = pos (a / d)
floor (negsuc a) d = negsuc (a / d)

-- what is left of z, from 0 to d - 1
abbrev pub rest : ℤ → ℕ → ℕ
rest z d = unsigned_abs (z -ℤ (floor z d *ℤ pos d))
