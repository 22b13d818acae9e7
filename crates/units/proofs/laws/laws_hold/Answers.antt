use Rattle.units.proofs.Ring.{*ℤ_distrib_left, *ℤ_assoc}
use Rattle.units.proofs.Floors.{floor_rest, rest_lt, floor_rest_unique}
use Rattle.units.proofs.Totals.{total_split, total_swap}
use Rattle.units.proofs.Tabulate.{length-tabulate, get_or-tabulate}
use Rattle.units.proofs.Firsts.{first_failure_finds}
use Rattle.units.proofs.Rows.{over_below, over_above}
use Rattle.units.proofs.laws.laws_hold.Goals as goal

pub returns : goal.returns
returns c = record {
  ring = λ a b d. (*ℤ_distrib_left a b d, *ℤ_assoc a b d);
  floors = λ d p z q r. ((floor_rest d p z, rest_lt d p z), floor_rest_unique d p q z r);
  totals = λ m n f g. (total_split m n f, total_swap m n g);
  lists = λ n f. (length-tabulate n f, get_or-tabulate n f);
  firsts = first_failure_finds;
  rows = λ n f row k d l. ((λ b. over_below n f row k d b l), (λ b. over_above n f row k d b l));
}
