-- What a fixed list holds.
use Rattle.std.specs.Prelude.{ℕ, List, take}
use Rattle.units.specs.declared.fixed_list.FixedList.{FixedList}

abbrev pub listed : {T : Type 0} {N : ℕ} → FixedList T N → List T
listed l = take l.count l.items
