-- What enters a link at its exporting end and leaves it at its importing end.
use Rattle.std.specs.Prelude.{ℕ, ◌+◌, ◌-◌, ◌*◌, cond, ℤ, pos, ◌-ℤ◌, int_lt}

-- the ten-thousandths of the loss that the exporting region bears, where region 1 bears part1
abbrev pub exporting : ℤ → ℕ → ℕ
exporting flow part1 = cond (int_lt (pos 0) flow) part1 (10000 - part1)

-- node units that enter at the exporting region, and that leave at the importing one, at a flow of this size,
-- where the exporting region bears `part` ten-thousandths of the loss and the importing one the rest
abbrev pub entering : ℕ → ℕ → ℕ → ℤ
entering part size loss = pos (10000 * size + part * loss)

abbrev pub leaving : ℕ → ℕ → ℕ → ℤ
leaving part size loss = pos (10000 * size) -ℤ pos ((10000 - part) * loss)
