-- What an asset passes on to the one downstream.
use Rattle.std.proofs.Common.{◌≡◌, ℕ, ◌+◌, ◌*◌, ◌<◌, ◌≤◌, Bool, true, false, length, ℤ, pos, ◌+ℤ◌, ◌-ℤ◌, nat_abs, sym, refl, ap, ◌∙◌, ap₂, ⊎_elim, arith}
use borrow.Author.Differences.{ints}
use Rattle.std.proofs.lemmas.Bool.{cases_eq, eq-eqb, ne_eqb, cond-true, cond-false}
use Rattle.units.specs.Sums.{total, when}
use Rattle.units.proofs.Totals.{total_ext, total_zero, total_sub, total_only}
use Rattle.register.specs.Contents.{Network}
use Rattle.grid.specs.References.{Holds, dna_at, dna_feeds}
use Rattle.interval.specs.Figures.{Figures}
use Rattle.assets.specs.Assets.{Side, energy, at_own, side, flow_with}
use Rattle.assets.specs.Sides.{Added, Feeds, from_points}
use Rattle.assets.specs.Estimates.{flows_from}
use Rattle.assets.specs.declared.feed.Feed.{Feed}
use Rattle.assets.proofs.Sizes.{side_energy, assets_room}
use Rattle.assets.proofs.Worked.{unworked, one_more}

when_zero : (b : Bool) → when b (pos 0) ≡ pos 0
when_zero true = refl
when_zero false = refl

-- another summand at one place
total_change : (n i : ℕ) (f g : ℕ → ℤ) → i < n → ((k : ℕ) → k < n → (i ≡ k → ⊥) → g k ≡ f k) → total n g ≡ total n f +ℤ (g i -ℤ f i)
total_change n i f g l h = omega (arith, ints, total_sub n g f, total_only n i (λ k. g k -ℤ f k) l (λ k p d. omega (arith, ints, h k p d)))

-- one side of asset k, by the part of a flow that counts there; a flow of 0 counts nothing
module _ (net : Network) (fig : Figures) (at_point : ℕ → ℕ) (part : ℤ → ℕ) (none : part (pos 0) ≡ 0) where
  abbrev pub side_from : ℕ → ℕ → Side
  side_from first k = side net at_point (λ m. part (flows_from net fig first m)) k

  -- no energy, no weight
  nothing_there : (weight : ℕ → ℕ → ℤ) → ((own : ℕ) → weight 0 own ≡ pos 0) → (b : Bool) (z : ℤ) (own : ℕ) → z ≡ pos 0 → when b (weight (part z) own) ≡ pos 0
  nothing_there weight nothing b z own e = ap (λ n. when b (weight n own)) (ap part e ∙ none) ∙ ap (when b) (nothing own) ∙ when_zero b

  energy_nothing : (own : ℕ) → energy 0 own ≡ pos 0
  energy_nothing own = refl

  own_nothing : (own : ℕ) → at_own 0 own ≡ pos 0
  own_nothing own = omega (arith, ints)

  -- before any asset is worked, the points are all that counts
  points_alone : (weight : ℕ → ℕ → ℤ) → ((own : ℕ) → weight 0 own ≡ pos 0) → (k : ℕ) → side_from (length net.dnas) k weight ≡ from_points net at_point k (length net.points) weight
  points_alone weight nothing k =
      let zeros = total_ext (length net.dnas) (λ m. when (dna_feeds net k m) (weight (part (flows_from net fig (length net.dnas) m)) (dna_at net m).boundary)) (λ _. pos 0)
      (λ m l. nothing_there weight nothing (dna_feeds net k m) (flows_from net fig (length net.dnas) m) (dna_at net m).boundary (unworked net fig (length net.dnas) m (omega arith) l)) in
      omega (arith, ints, zeros, total_zero (length net.dnas))

  pub begun : (k : ℕ) (x : Feed) → Feeds (from_points net at_point k (length net.points)) x → Feeds (side_from (length net.dnas) k) x
  begun k x is = record {
    energy_is = points_alone energy energy_nothing k ∙ is.energy_is;
    own_is = points_alone at_own own_nothing k ∙ is.own_is;
  }

  module _ (d : ℕ) (low : d < length net.dnas) where
    abbrev pub flow_passed : ℤ
    flow_passed = flow_with net fig (flows_from net fig (d + 1)) d

    step : (weight : ℕ → ℕ → ℤ) → ((own : ℕ) → weight 0 own ≡ pos 0) → (k : ℕ) (b : Bool) → dna_feeds net k d ≡ b
        → side_from d k weight ≡ side_from (d + 1) k weight +ℤ when b (weight (part flow_passed) (dna_at net d).boundary)
    step weight nothing k b is = omega (arith, ints, total_change (length net.dnas) d old new low elsewhere, before, after)
      where
        old : ℕ → ℤ
        old m = when (dna_feeds net k m) (weight (part (flows_from net fig (d + 1) m)) (dna_at net m).boundary)

        new : ℕ → ℤ
        new m = when (dna_feeds net k m) (weight (part (flows_from net fig d m)) (dna_at net m).boundary)

        elsewhere : (m : ℕ) → m < length net.dnas → (d ≡ m → ⊥) → new m ≡ old m
        elsewhere m l other = ap (λ z. when (dna_feeds net k m) (weight (part z) (dna_at net m).boundary)) (one_more net fig d m low ∙ cond-false _ _ _ (ne_eqb m d (λ e. other (sym e))))

        before : old d ≡ pos 0
        before = nothing_there weight nothing (dna_feeds net k d) (flows_from net fig (d + 1) d) (dna_at net d).boundary (unworked net fig (d + 1) d (omega arith) (omega arith))

        after : new d ≡ when b (weight (part flow_passed) (dna_at net d).boundary)
        after =
            ap (λ z. when (dna_feeds net k d) (weight (part z) (dna_at net d).boundary)) (one_more net fig d d low ∙ cond-true _ _ _ (eq-eqb d d refl))
            ∙ ap (λ c. when c (weight (part flow_passed) (dna_at net d).boundary)) is

    -- an asset that is not the one downstream
    pub not_fed : (k : ℕ) (x : Feed) → dna_feeds net k d ≡ false → Feeds (side_from (d + 1) k) x → Feeds (side_from d k) x
    not_fed k x out is = record {
      energy_is = let s = step energy energy_nothing k false out in omega (arith, ints, is.energy_is);
      own_is = let s = step at_own own_nothing k false out in omega (arith, ints, is.own_is);
    }

    -- the one downstream
    pub more_fed : (k : ℕ) (x y : Feed) (e own : ℕ) → dna_feeds net k d ≡ true → Feeds (side_from (d + 1) k) x → e ≡ part flow_passed → own ≡ (dna_at net d).boundary → Added x e own y → Feeds (side_from d k) y
    more_fed k x y e own fed is e_is own_is added = record {
      energy_is = let s = step energy energy_nothing k true fed in omega (arith, ints, is.energy_is, added.energy_more);
      own_is =
          let s = step at_own own_nothing k true fed in
          let product : e * own ≡ part flow_passed * (dna_at net d).boundary = ap₂ (λ p q. p * q) e_is own_is in
          omega (arith, ints, is.own_is, added.own_more, product);
    }

    -- room for it
    pub room_downstream : Holds net → ((i : ℕ) → at_point i ≤ 200000) → ((m : ℕ) → part (flows_from net fig d m) ≤ 200000) → (k : ℕ) → k < length net.dnas → (x : Feed)
        → dna_feeds net k d ≡ true → Feeds (side_from (d + 1) k) x → x.energy + part flow_passed ≤ 3200000
    room_downstream h points small k entered x fed is =
        let s = step energy energy_nothing k true fed in
        let all = side_energy net at_point (λ m. part (flows_from net fig d m)) k in
        omega (arith, ints, is.energy_is, assets_room net h at_point points k entered (λ m. part (flows_from net fig d m)) small (length net.dnas) (omega arith))

-- the flows stay small
pub small_from : (net : Network) (fig : Figures) (d : ℕ) → d < length net.dnas → ((k : ℕ) → nat_abs (flows_from net fig (d + 1) k) ≤ 200000)
    → nat_abs (flow_with net fig (flows_from net fig (d + 1)) d) ≤ 200000 → (k : ℕ) → nat_abs (flows_from net fig d k) ≤ 200000
small_from net fig d low small here k = ⊎_elim
    (λ same. omega (arith, here, ap nat_abs (one_more net fig d k low ∙ cond-true _ _ _ (eq-eqb k d same))))
    (λ other. omega (arith, small k, ap nat_abs (one_more net fig d k low ∙ cond-false _ _ _ (ne_eqb k d other))))
    (cases_eq k d)
