-- For the reader's functions and loops alone: how far they have come, and what they hold there.
use Rattle.std.specs.Prelude.{◌≡◌, ℕ, suc, ◌+◌, ◌-◌, ◌<◌, ◌≤◌, List, length, ℤ, pos, Some, None, Ok, Err, Option, Result, slice_index, slice_index_or}
use Rattle.units.specs.declared.refusal.Refusal.{Refusal}
use Rattle.units.specs.Refusals.{Refused, told, done, turned_down}
use Rattle.register.specs.Contents.{Network}
use Rattle.interval.specs.Ranges.{highest_energy, Between, Upto}
use Rattle.interval.specs.Words.{read, read_on, present, figure, from_to, word, sent_kind, taken_kind, signed, reading_of, readings_from}

-- a call on one word: it passes and P holds of the result, or its refusal is told
abbrev pub Passes : {A : Type 0} → Result A Refusal → Option Refused → (A → Type 0) → Type 0
Passes (Ok x) o P = (o ≡ None) × P x
Passes (Err e) o P = o ≡ Some (told e)

-- ---- a run of figures of kind k from index `start` on

-- the refusal of the word of figure i
abbrev pub figure_fault : List ℕ → ℕ → ℕ → ℤ → ℤ → ℕ → Option Refused
figure_fault ws start k low high i = present ws (start + i) (figure k i (from_to low high) (start + i) (word ws (start + i)))

-- the first n words pass, and xs, of `size` places, has their figures
pub record Figured (ws : List ℕ) (start n k : ℕ) (low high : ℤ) (size : ℕ) (xs : List ℤ) : Type 0 where
  pub room : length xs ≡ size
  pub passed : (i : ℕ) → i < n → figure_fault ws start k low high i ≡ None
  pub ranged : Between low high xs
  pub said : (i : ℕ) → i < n → slice_index_or xs i (pos 0) ≡ signed (word ws (start + i))

-- a call on n words: they pass, or the first refusal is told
abbrev pub FiguresOrFault : Result (List ℤ) Refusal → List ℕ → ℕ → ℕ → ℕ → ℤ → ℤ → Type 0
FiguresOrFault (Ok xs) ws start n k low high = Figured ws start n k low high 8 xs
FiguresOrFault (Err e) ws start n k low high =
    (i : ℕ) × (i < n) × ((j : ℕ) → j < i → figure_fault ws start k low high j ≡ None) × (figure_fault ws start k low high i ≡ Some (told e))

-- ---- the words of an interval

-- a call on several words: P holds of the result, or the first refusal of the words is told
abbrev pub ReadsOn : {A : Type 0} → Result A Refusal → Network → List ℕ → (A → Type 0) → Type 0
ReadsOn (Ok x) net ws P = P x
ReadsOn (Err e) net ws P = read net ws ≡ turned_down (told e)

-- the words before index j pass, and none closes
pub record Reached (net : Network) (ws : List ℕ) (j : ℕ) : Type 0 where
  pub inside : j ≤ length ws
  pub same : read net ws ≡ read_on net ws (suc (length ws) - j) j

-- the words before and in a run of n figures pass, and xs has these figures
pub record ReadFigures (net : Network) (ws : List ℕ) (start n k : ℕ) (low high : ℤ) (xs : List ℤ) : Type 0 where
  pub reached : Reached net ws (start + n)
  pub figured : Figured ws start n k low high 8 xs

-- the two lists have the readings of the first n words
pub record ReadReadings (net : Network) (ws : List ℕ) (n : ℕ) (sent taken : List ℕ) : Type 0 where
  pub sent_room : length sent ≡ 128
  pub taken_room : length taken ≡ 128
  pub sent_ranged : Upto highest_energy sent
  pub taken_ranged : Upto highest_energy taken
  pub sent_said : (p : ℕ) → slice_index sent p ≡ reading_of net ws n sent_kind p
  pub taken_said : (p : ℕ) → slice_index taken p ≡ reading_of net ws n taken_kind p

-- all words of the interval pass, and the two lists have its readings
pub record ReadWhole (net : Network) (ws : List ℕ) (used : ℕ) (sent taken : List ℕ) : Type 0 where
  pub answered : read net ws ≡ done used
  pub inside : used ≤ length ws
  pub past : readings_from net < used
  pub readings : ReadReadings net ws used sent taken
