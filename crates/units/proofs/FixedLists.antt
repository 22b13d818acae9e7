-- A fixed list holds at most as many items as it has slots.
use Rattle.std.proofs.Common.{ℕ, ◌≤◌, length, arith}
use Rattle.std.proofs.lemmas.List.{length-take}
use Rattle.units.specs.FixedLists.{listed}
use Rattle.units.specs.declared.fixed_list.FixedList.{FixedList}

pub listed_few : {T : Type 0} {N : ℕ} (l : FixedList T N) → length (listed l) ≤ N
listed_few l = omega (arith, l.few, length-take l.count l.items)
