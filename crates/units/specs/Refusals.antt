-- The refusal table, and what a call answers.
use Rattle.std.specs.Prelude.{ℕ, List, ◌++◌, Some, None, Ok, Err, codes, decimal, Option, Result}
use Rattle.units.specs.declared.refusal.Layer.{Layer}
use Rattle.units.specs.declared.refusal.Layer.TheVariants.{Words, Month, Register, Network, Making, Payout}
use Rattle.units.specs.declared.refusal.Refusal.{Refusal}
use Rattle.units.specs.declared.refusal.Refusal.TheVariants.{WordMissing, KindNotAllowed, OutOfRange, OutOfOrder, WrongCount, NotNext, MonthFull, BrokenReference, FlowTooLarge, RollFull, FieldOutOfRange, Unfit, NoSuchPot, NotWhole, AlreadyPaid, TooManyOwners, SumTooLarge, RowTooShort}

-- a refusal as a caller reads it
pub record Refused : Type 0 where
  pub number : ℕ
  pub layer : Layer
  pub place : ℕ

abbrev pub refused : ℕ → Layer → ℕ → Refused
refused n l p = record { number = n; layer = l; place = p }

abbrev pub told : Refusal → Refused
told (WordMissing n) = refused 1 Words n
told (KindNotAllowed i) = refused 2 Words i
told (OutOfRange i) = refused 3 Words i
told (OutOfOrder i) = refused 4 Words i
told (WrongCount i) = refused 5 Words i
told (NotNext n) = refused 6 Month n
told (MonthFull n) = refused 7 Month n
told (BrokenReference p) = refused 8 Register p
told (FlowTooLarge d) = refused 9 Network d
told (RollFull n) = refused 10 Register n
told (FieldOutOfRange f) = refused 11 Register f
told (Unfit p) = refused 12 Making p
told (NoSuchPot p) = refused 13 Payout p
told (NotWhole n) = refused 14 Month n
told (AlreadyPaid p) = refused 15 Payout p
told TooManyOwners = refused 16 Payout 65
told (SumTooLarge p) = refused 17 Payout p
told (RowTooShort n) = refused 18 Payout n

abbrev pub name : Layer → List ℕ
name Words = codes "words"
name Month = codes "month"
name Register = codes "register"
name Network = codes "network"
name Making = codes "making"
name Payout = codes "payout"

-- a refusal as it is printed
abbrev pub line : Refused → List ℕ
line r = codes "refused " ++ (decimal r.number ++ (codes " " ++ (name r.layer ++ (codes " " ++ decimal r.place))))

-- a call's answer: what it gives, or why it is refused
pub data Answer (A : Type 0) : Type 0 where
  done : A → Answer A
  turned_down : Refused → Answer A

abbrev pub answer : {A : Type 0} → Result A Refusal → Answer A
answer (Ok a) = done a
answer (Err e) = turned_down (told e)

-- the answer to a filling of a book or a rule, by its first unfit parameter
abbrev pub filling : Option ℕ → Answer (Unit {0})
filling None = done tt
filling (Some p) = turned_down (refused 12 Making p)

-- what a filling leaves: a refused one changes nothing
abbrev pub unless : {A : Type 0} → Option ℕ → A → A → A
unless None new old = new
unless (Some p) new old = old
