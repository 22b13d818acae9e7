-- A roll: what it holds, and what one more entry answers and makes of that.
use Rattle.std.specs.Prelude.{ℕ, Bool, cond, ◌&&◌, List, [], ◌∷◌, ◌++◌, length, take, drop, Some, None, Option, nat_lt}
use Rattle.units.specs.Refusals.{refused, Answer, done, turned_down}
use Rattle.units.specs.declared.refusal.Layer.TheVariants.{Register}
use Rattle.register.specs.declared.roll.Roll.{Roll}

-- the entries, in the order in which they came, and how many the memory has room for
pub record Held (E : Type 0) : Type 0 where
  pub entries : List E
  pub room : ℕ

abbrev pub held : {E : Type 0} {entry : _} → Roll E entry → Held E
held roll = record { entries = take roll.count roll.slots.now; room = length roll.slots.now }

abbrev pub empty : {E : Type 0} → ℕ → Held E
empty room = record { entries = []; room = room }

abbrev pub size : {E : Type 0} → Held E → ℕ
size h = length h.entries

-- one more entry goes in, where `most` is the greatest number of entries of the kind
abbrev pub open_to : {E : Type 0} → ℕ → Held E → Bool
open_to most h = nat_lt (size h) most && nat_lt (size h) h.room

-- the answer to an entry whose first field out of range is given
abbrev pub enter_answer : {E : Type 0} → Option ℕ → ℕ → Held E → Answer ℕ
enter_answer (Some field) most h = turned_down (refused 11 Register field)
enter_answer None most h = cond (open_to most h) (done (size h)) (turned_down (refused 10 Register (size h)))

abbrev pub after_enter : {E : Type 0} → Option ℕ → ℕ → Held E → E → Held E
after_enter (Some field) most h e = h
after_enter None most h e = cond (open_to most h) (record { entries = h.entries ++ (e ∷ []); room = h.room }) h

-- the entries at the front of a slice, as far as it goes
abbrev pub copied : {E : Type 0} → List E → List E → List E
copied entries out = take (length out) entries ++ drop (length entries) out
