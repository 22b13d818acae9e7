-- An interval as words of 32 bits: what may stand at each index, and what the words say.
use Rattle.std.specs.Prelude.{ℕ, zero, suc, ◌+◌, ◌-◌, ◌*◌, ◌/◌, ◌%◌, ◌^◌, Bool, true, false, cond, ◌&&◌, ◌||◌, List, length, ℤ, pos, ◌-ℤ◌, Some, None, Option, ◌==◌, int_le, nat_le, nat_lt, slice_index}
use Rattle.units.specs.Sums.{tabulate}
use Rattle.units.specs.declared.refusal.Layer.TheVariants.{Words}
use Rattle.units.specs.Refusals.{Refused, refused, Answer, done, turned_down}
use Rattle.register.specs.Contents.{Network}
use Rattle.interval.specs.Ranges.{lowest_price, highest_price, lowest_flow, highest_flow, highest_energy}
use Rattle.interval.specs.Figures.{Figures}

-- ---- the parts of a word
-- the top four bits
abbrev pub kind : ℕ → ℕ
kind w = w / 2 ^ 28

-- the kinds: a word that opens the interval, a price, a flow, energy sent out, energy taken in, a word that closes it
abbrev pub opening_kind : ℕ
opening_kind = 1

abbrev pub price_kind : ℕ
price_kind = 2

abbrev pub flow_kind : ℕ
flow_kind = 3

abbrev pub sent_kind : ℕ
sent_kind = 4

abbrev pub taken_kind : ℕ
taken_kind = 5

abbrev pub closing_kind : ℕ
closing_kind = 6

-- the low 28 bits: an interval's number, a count of words
abbrev pub count : ℕ → ℕ
count w = w % 2 ^ 28

-- the number of a region or a link
abbrev pub ordinal : ℕ → ℕ
ordinal w = w / 2 ^ 24 % 16

-- a price or a flow: the low 24 bits in two's complement
abbrev pub signed : ℕ → ℤ
signed w = let n = w % 2 ^ 24 in cond (nat_lt n (2 ^ 23)) (pos n) (pos n -ℤ pos (2 ^ 24))

abbrev pub point : ℕ → ℕ
point w = w / 2 ^ 20 % 256

abbrev pub energy : ℕ → ℕ
energy w = w % 2 ^ 20

-- readings rise by point, and at one point sent comes before taken
abbrev pub rank : ℕ → ℕ
rank w = 2 * point w + kind w

abbrev pub word : List ℕ → ℕ → ℕ
word ws j = slice_index ws j

-- ---- what refuses a word w at index j: tests in their order, each with its refusal
abbrev pub require : Bool → Refused → Option Refused → Option Refused
require true r rest = rest
require false r rest = Some r

-- word j is needed
abbrev pub present : List ℕ → ℕ → Option Refused → Option Refused
present ws j rest = require (nat_lt j (length ws)) (refused 1 Words (length ws)) rest

abbrev pub from_to : ℤ → ℤ → ℤ → Bool
from_to low high z = int_le low z && int_le z high

-- as the first word
abbrev pub opening : ℕ → ℕ → Option Refused
opening j w = require (kind w == opening_kind) (refused 2 Words j) None

-- as the figure of region or link i, a word of kind k
abbrev pub figure : ℕ → ℕ → (ℤ → Bool) → ℕ → ℕ → Option Refused
figure k i in_range j w =
    require (kind w == k) (refused 2 Words j)
    (require (ordinal w == i) (refused 4 Words j)
    (require (in_range (signed w)) (refused 3 Words j) None))

-- as a reading of one of the points, whose rank is at least `least`
abbrev pub reading : ℕ → ℕ → ℕ → ℕ → Option Refused
reading points least j w =
    require (kind w == sent_kind || kind w == taken_kind) (refused 2 Words j)
    (require (nat_le least (rank w)) (refused 4 Words j)
    (require (nat_lt (point w) points && nat_le (energy w) highest_energy) (refused 3 Words j) None))

-- as the closing word
abbrev pub closing : ℕ → ℕ → Option Refused
closing j w = require (count w == j) (refused 5 Words j) None

-- as a word after the figures
abbrev pub late : ℕ → ℕ → ℕ → ℕ → Option Refused
late points least j w = cond (kind w == closing_kind) (closing j w) (reading points least j w)

-- ---- the order of words
-- the index of the first reading, or of the closing word where there is no reading
abbrev pub readings_from : Network → ℕ
readings_from net = 1 + net.regions + length net.links

-- the least rank that a reading at index j may have
abbrev pub least_rank : Network → List ℕ → ℕ → ℕ
least_rank net ws j = cond (nat_le j (readings_from net)) 0 (suc (rank (word ws (j - 1))))

-- as word j of an interval
abbrev pub by_index : Network → List ℕ → ℕ → ℕ → Option Refused
by_index net ws j w =
    cond (j == 0) (opening j w)
    (cond (nat_le j net.regions) (figure price_kind (j - 1) (from_to lowest_price highest_price) j w)
    (cond (nat_lt j (readings_from net)) (figure flow_kind (j - 1 - net.regions) (from_to lowest_flow highest_flow) j w)
    (late (length net.points) (least_rank net ws j) j w)))

-- the refusal of word j, if it is refused where all words before it are not
unfoldable pub fault : Network → List ℕ → ℕ → Option Refused
fault net ws j = present ws j (by_index net ws j (word ws j))

-- word j ends the interval
unfoldable pub closes : Network → List ℕ → ℕ → Bool
closes net ws j = nat_le (readings_from net) j && kind (word ws j) == closing_kind

-- the answer at word j, from its refusal, whether it closes, and the answer of the words after it
abbrev pub answer_at : ℕ → Option Refused → Bool → Answer ℕ → Answer ℕ
answer_at j (Some r) closed rest = turned_down r
answer_at j None true rest = done (suc j)
answer_at j None false rest = rest

-- how many words the interval has, or the first refusal, from index j on where `left` words may be looked at
unfoldable pub read_on : Network → List ℕ → ℕ → ℕ → Answer ℕ
read_on net ws zero j = turned_down (refused 1 Words (length ws))
read_on net ws (suc left) j = answer_at j (fault net ws j) (closes net ws j) (read_on net ws left (suc j))

-- how many words the interval has that ws begins with, or the first refusal
unfoldable pub read : Network → List ℕ → Answer ℕ
read net ws = read_on net ws (suc (length ws)) 0

-- ---- what the words say
-- word j is a reading of kind k for point p
abbrev pub reads : Network → List ℕ → ℕ → ℕ → ℕ → Bool
reads net ws k p j = nat_le (readings_from net) j && (kind (word ws j) == k && point (word ws j) == p)

-- the energy that the last of the first n words to be a reading of kind k for point p gives: 0 where there is none
unfoldable pub reading_of : Network → List ℕ → ℕ → ℕ → ℕ → ℕ
reading_of net ws zero k p = 0
reading_of net ws (suc n) k p = cond (reads net ws k p n) (energy (word ws n)) (reading_of net ws n k p)

-- ws are the words of one interval and no more
unfoldable pub figures : Network → List ℕ → Figures
figures net ws = record {
  number = count (word ws 0);
  prices = tabulate net.regions (λ r. signed (word ws (1 + r)));
  flows = tabulate (length net.links) (λ l. signed (word ws (1 + net.regions + l)));
  sent = tabulate (length net.points) (reading_of net ws (length ws) sent_kind);
  taken = tabulate (length net.points) (reading_of net ws (length ws) taken_kind);
}
