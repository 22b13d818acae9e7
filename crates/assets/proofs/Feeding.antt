-- Turns of the loop that adds up what feeds each asset.
use Rattle.std.proofs.Common.{◌≡◌, ℕ, zero, suc, ◌+◌, ◌*◌, ◌<◌, ◌≤◌, Bool, true, false, List, length, get_or, set, Some, None, Option, ◌==◌, ℤ, pos, ◌+ℤ◌, nat_eq, sym, refl, ap, ◌∙◌, ap₂, subst, ⊎_elim, arith, length-set}
use borrow.Author.Differences.{ints}
use Rattle.std.specs.Option.{option_eq}
use Rattle.std.proofs.lemmas.List.{get_or-set_same, get_or-set_other}
use Rattle.std.proofs.lemmas.Bool.{cases_eq, eq-eqb, ne_eqb}
use Rattle.units.specs.Sums.{when}
use Rattle.units.proofs.Totals.{total_more}
use Rattle.register.specs.Contents.{Network}
use Rattle.register.specs.Fields.{factor, numbered}
use Rattle.grid.specs.References.{Holds, point_at, dna_at, point_feeds}
use Rattle.grid.proofs.Chains.{named}
use Rattle.grid.proofs.Places.{grid_holds}
use Rattle.grid.proofs.References.{point_entry, dna_entry}
use Rattle.interval.specs.Metered.{network_of}
use Rattle.interval.specs.declared.metered.Metered.{Metered}
use Rattle.assets.specs.Assets.{Side, energy, at_own}
use Rattle.assets.specs.Sides.{Added, Feeds, Both, Fed, and_more, from_points}
use Rattle.assets.specs.declared.feed.Feed.{Feed}
use Rattle.assets.specs.declared.sides.Sides.{Sides}
use Rattle.assets.proofs.Sizes.{counted, total_counted, points_room}

module _ (base : Side) (test : ℕ → Bool) (e own : ℕ → ℕ) (i : ℕ) (x : Feed) (is : Feeds (and_more base test e own i) x) where
  more : (weight : ℕ → ℕ → ℤ) (b : Bool) → test i ≡ b → and_more base test e own (i + 1) weight ≡ and_more base test e own i weight +ℤ when b (weight (e i) (own i))
  more weight b t =
      let step = total_more i (λ k. when (test k) (weight (e k) (own k))) in
      let here = ap (λ c. when c (weight (e i) (own i))) t in
      omega (arith, ints, step, here)

  -- an energy that does not count
  passed_over : test i ≡ false → Feeds (and_more base test e own (i + 1)) x
  passed_over t = record {
    energy_is = let m = more energy false t in omega (arith, ints, is.energy_is);
    own_is = let m = more at_own false t in omega (arith, ints, is.own_is);
  }

  -- one that counts
  one_added : test i ≡ true → (x' : Feed) (n f : ℕ) → n ≡ e i → f ≡ own i → Added x n f x' → Feeds (and_more base test e own (i + 1)) x'
  one_added t x' n f n_is f_is added = record {
    energy_is = let m = more energy true t in omega (arith, ints, is.energy_is, added.energy_more);
    own_is =
        let m = more at_own true t in
        let product = ap₂ (λ p q. p * q) n_is f_is in
        omega (arith, ints, is.own_is, added.own_more);
  }

  -- room for it
  room : test i ≡ true → (b : ℕ) → base energy ≡ pos b → b + counted (i + 1) test e ≤ 3200000 → x.energy + e i ≤ 3200000
  room t b base_is few =
      let m = more energy true t in
      let all = total_counted (i + 1) test e in
      omega (arith, ints, is.energy_is)

-- ---- the same of the points that feed asset d

module _ (net : Network) (at_point : ℕ → ℕ) (d i : ℕ) (x : Feed) (is : Feeds (from_points net at_point d i) x) where
  point_over : point_feeds net d i ≡ false → Feeds (from_points net at_point d (i + 1)) x
  point_over = passed_over (λ weight. pos 0) (point_feeds net d) at_point (λ k. factor (point_at net k)) i x is

  point_added : point_feeds net d i ≡ true → (x' : Feed) (n f : ℕ) → n ≡ at_point i → f ≡ factor (point_at net i) → Added x n f x' → Feeds (from_points net at_point d (i + 1)) x'
  point_added = one_added (λ weight. pos 0) (point_feeds net d) at_point (λ k. factor (point_at net k)) i x is

-- the room in the sums of an asset that is entered
pub point_room : (m : Metered) (d : ℕ) → d < length (network_of m).dnas → (at_point : ℕ → ℕ) → ((i : ℕ) → at_point i ≤ 200000) → (i : ℕ) (x : Feed)
    → i < length (network_of m).points → Feeds (from_points (network_of m) at_point d i) x → point_feeds (network_of m) d i ≡ true → x.energy + at_point i ≤ 3200000
point_room m d low at_point points i x l is t =
    let net = network_of m in
    room (λ weight. pos 0) (point_feeds net d) at_point (λ k. factor (point_at net k)) i x is t 0 refl
    (omega (arith, points_room net (grid_holds m.grid.now) at_point points d low (i + 1) (omega arith)))

-- ---- the asset that an entry names

pub numbered_some : (field a : ℕ) → numbered field ≡ Some a → field ≡ suc a
numbered_some zero a e = absurd (cc)
numbered_some (suc n) a e = let same : n ≡ a = cc in ap suc same

pub entered_named : (net : Network) → Holds net → (i : ℕ) → i < length net.points → (a : ℕ) → numbered (point_at net i).dna ≡ Some a → a < length net.dnas
entered_named net h i l a names = ((point_entry net h i l).asset a (numbered_some (point_at net i).dna a names)).0

pub downstream_named : (net : Network) → Holds net → (i : ℕ) → i < length net.dnas → (a : ℕ) → numbered (dna_at net i).downstream ≡ Some a → a < i
downstream_named net h i l a names = ((dna_entry net h i l).downstream a (numbered_some (dna_at net i).downstream a names)).0

-- which asset an entry feeds
pub numbered_feeds : (field : ℕ) (o : Option ℕ) → numbered field ≡ o → (d : ℕ) → (field == d + 1) ≡ option_eq nat_eq o (Some d)
numbered_feeds field o names d = named field d ∙ ap (λ p. option_eq nat_eq p (Some d)) names

pub feeds_named : (net : Network) (i a : ℕ) → numbered (point_at net i).dna ≡ Some a → point_feeds net a i ≡ true
feeds_named net i a names = numbered_feeds (point_at net i).dna (Some a) names a ∙ eq-eqb a a refl

-- ---- one place of eight sums is written

-- what holds of each place of a list, where one is written
each_set : {A : Type 0} (P Q : ℕ → A → Type 0) (xs : List A) (a : ℕ) (y : A) → a < length xs → Q a y
    → ((d : ℕ) → (d ≡ a → ⊥) → (x : A) → P d x → Q d x)
    → (d : ℕ) (none : A) → P d (get_or xs d none) → Q d (get_or (set xs a y) d none)
each_set P Q xs a y low here others d none is = ⊎_elim
    (λ same. subst (Q d) (sym (ap (λ j. get_or (set xs a y) j none) same ∙ get_or-set_same xs a y none low)) (subst (λ j. Q j y) (sym same) here))
    (λ other. subst (Q d) (sym (get_or-set_other xs a d y none other)) (others d other (get_or xs d none) is))
    (cases_eq d a)

pub fed_set : (s t s' t' : ℕ → Side) (xs : List Sides) (a : ℕ) (y : Sides) → Fed s t xs → a < 8 → Both (s' a) (t' a) y
    → ((d : ℕ) → d < 8 → (d ≡ a → ⊥) → (x : Sides) → Both (s d) (t d) x → Both (s' d) (t' d) x)
    → Fed s' t' (set xs a y)
fed_set s t s' t' xs a y is low here others = record {
  slots = length-set xs a y ∙ is.slots;
  each = λ d l none. each_set (λ k x. k < 8 → Both (s k) (t k) x) (λ k x. k < 8 → Both (s' k) (t' k) x) xs a y (omega (arith, is.slots)) (λ _. here)
      (λ k other x both few. others k few other x (both few)) d none (λ few. is.each d few none) l;
}

pub fed_same : (s t s' t' : ℕ → Side) (xs : List Sides) → Fed s t xs → ((d : ℕ) → d < 8 → (x : Sides) → Both (s d) (t d) x → Both (s' d) (t' d) x) → Fed s' t' xs
fed_same s t s' t' xs is same = record { slots = is.slots; each = λ d l none. same d l (get_or xs d none) (is.each d l none) }

-- ---- one point more

abbrev pub points_fed : Network → (ℕ → ℕ) → (ℕ → ℕ) → ℕ → List Sides → Type 0
points_fed net at_sent at_taken i = Fed (λ d. from_points net at_sent d i) (λ d. from_points net at_taken d i)

module _ (net : Network) (at_sent at_taken : ℕ → ℕ) (i : ℕ) (xs : List Sides) (is : points_fed net at_sent at_taken i xs) where
  over : (d : ℕ) → point_feeds net d i ≡ false → (x : Sides) → Both (from_points net at_sent d i) (from_points net at_taken d i) x → Both (from_points net at_sent d (i + 1)) (from_points net at_taken d (i + 1)) x
  over d out x both = (point_over net at_sent d i x.senders both.0 out, point_over net at_taken d i x.takers both.1 out)

  -- of no asset
  pub of_none : numbered (point_at net i).dna ≡ None → points_fed net at_sent at_taken (i + 1) xs
  of_none none = fed_same _ _ _ _ xs is (λ d _ x both. over d (numbered_feeds (point_at net i).dna None none d) x both)

  -- of asset a
  pub of_one : (a : ℕ) → numbered (point_at net i).dna ≡ Some a → a < 8 → (x y : Sides) → ((none : Sides) → x ≡ get_or xs a none)
      → (sent taken f : ℕ) → sent ≡ at_sent i → taken ≡ at_taken i → f ≡ factor (point_at net i)
      → Added x.senders sent f y.senders → Added x.takers taken f y.takers → points_fed net at_sent at_taken (i + 1) (set xs a y)
  of_one a names low x y read sent taken f sent_is taken_is f_is sent_added taken_added =
      let before = subst (Both (from_points net at_sent a i) (from_points net at_taken a i)) (sym (read x)) (is.each a low x) in
      fed_set _ _ _ _ xs a y is low (
        point_added net at_sent a i x.senders before.0 (feeds a ∙ eq-eqb a a refl) y.senders sent f sent_is f_is sent_added,
        point_added net at_taken a i x.takers before.1 (feeds a ∙ eq-eqb a a refl) y.takers taken f taken_is f_is taken_added,
      )
      (λ d _ other z both. over d (feeds d ∙ ne_eqb a d (λ e. other (sym e))) z both)
    where
      feeds : (d : ℕ) → point_feeds net d i ≡ nat_eq a d
      feeds = numbered_feeds (point_at net i).dna (Some a) names
