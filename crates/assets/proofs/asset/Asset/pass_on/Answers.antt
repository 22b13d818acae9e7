use Rattle.std.proofs.Common.{◌≡◌, ℕ, ◌<◌, ◌≤◌, length, nat_abs, Some, nat_eq, sym, refl, ap, ◌∙◌, arith}
use Rattle.std.proofs.lemmas.Bool.{eq-eqb, ne_eqb}
use Rattle.units.proofs.FixedLists.{listed_few}
use Rattle.register.specs.Fields.{numbered}
use Rattle.register.specs.declared.entry.Dna.{Dna}
use Rattle.grid.specs.References.{dna_at, dna_feeds}
use Rattle.grid.proofs.Places.{grid_holds, dna_boundary}
use Rattle.interval.specs.Figures.{sent_at, taken_at}
use Rattle.interval.specs.Metered.{network_of, figures_of}
use Rattle.interval.proofs.Small.{sent_small, taken_small}
use Rattle.assets.specs.Assets.{above_0, below_0}
use Rattle.assets.specs.Estimates.{flows_from}
use Rattle.assets.proofs.Feeding.{downstream_named, numbered_feeds, fed_same, fed_set}
use Rattle.assets.proofs.Passing.{not_fed, more_fed, room_downstream, small_from}
use Rattle.assets.proofs.Readings.{above_small, below_small}
use Rattle.assets.proofs.asset.Asset.pass_on.Goals as goal
use Rattle.assets.proofs.asset.Asset.pass_on.Goals.{After-below}

-- the asset downstream, if any
names : (c : After-below) → numbered (dna_at (network_of c.args.self.now.metered) c.args.self.now.number).downstream ≡ c.below.result
names c = sym (c.below.ensures ∙ ap (λ (e : Dna). numbered e.downstream) c.entry_at-dna.ensures)

lower : (c : After-below) (a : ℕ) → c.below.result ≡ Some a → a < c.args.self.now.number
lower c a is = downstream_named (network_of c.args.self.now.metered) (grid_holds c.args.self.now.metered.grid.now) c.args.self.now.number c.args.self.now.entered a (names c ∙ is)

slot : (c : After-below) (a : ℕ) → c.below.result ≡ Some a → a < 8
slot c a is = omega (arith, lower c a is, c.args.self.now.entered, listed_few c.args.self.now.metered.grid.now.grid.dnas)

feeds : (c : After-below) (a : ℕ) → c.below.result ≡ Some a → (k : ℕ) → dna_feeds (network_of c.args.self.now.metered) k c.args.self.now.number ≡ nat_eq a k
feeds c a is = numbered_feeds (dna_at (network_of c.args.self.now.metered) c.args.self.now.number).downstream (Some a) (names c ∙ is)

-- the flows with this one are small
small : (c : After-below) (k : ℕ) → nat_abs (flows_from (network_of c.args.self.now.metered) (figures_of c.args.self.now.metered) c.args.self.now.number k) ≤ 200000
small c =
    let e = c.requires.estimated in
    small_from (network_of c.args.self.now.metered) (figures_of c.args.self.now.metered) c.args.self.now.number c.args.self.now.entered c.requires.small
    (omega (arith, e.flow_small, ap nat_abs e.flow_is))

pub listed : goal.listed
listed c = omega (arith, slot (goal.at.listed c).After-below c.in-Some.below c.in-Some.is, c.requires.fed.slots)

pub bounds-sides-below : goal.bounds-sides-below
bounds-sides-below c = slot (goal.at.bounds-sides-below c).After-below c.in-Some.below c.in-Some.is

pub add-requires-clause-sent_room : goal.add-requires-clause-sent_room
add-requires-clause-sent_room c =
    let m = c.args.self.now.metered in
    let net = network_of m in
    let fig = figures_of m in
    let d = c.args.self.now.number in
    let a = c.in-Some.below in
    let b = (goal.at.add-requires-clause-sent_room c).After-below in
    let flow = c.sent.ensures ∙ ap above_0 c.requires.estimated.flow_is in
    let low : a < length net.dnas = omega (arith, lower b a c.in-Some.is, c.args.self.now.entered) in
    omega (
      arith,
      flow,
      room_downstream net fig (sent_at fig) above_0 refl d c.args.self.now.entered (grid_holds m.grid.now) (sent_small m) (above_small (flows_from net fig d) (small b))
          a low _ (feeds b a c.in-Some.is a ∙ eq-eqb a a refl) (c.requires.fed.each a (slot b a c.in-Some.is) c.index-sides-below.result).0,
    )

pub add-requires-clause-taken_room : goal.add-requires-clause-taken_room
add-requires-clause-taken_room c =
    let m = c.args.self.now.metered in
    let net = network_of m in
    let fig = figures_of m in
    let d = c.args.self.now.number in
    let a = c.in-Some.below in
    let b = (goal.at.add-requires-clause-taken_room c).After-below in
    let flow = c.taken.ensures ∙ ap below_0 c.requires.estimated.flow_is in
    let low : a < length net.dnas = omega (arith, lower b a c.in-Some.is, c.args.self.now.entered) in
    omega (
      arith,
      flow,
      room_downstream net fig (taken_at fig) below_0 refl d c.args.self.now.entered (grid_holds m.grid.now) (taken_small m) (below_small (flows_from net fig d) (small b))
          a low _ (feeds b a c.in-Some.is a ∙ eq-eqb a a refl) (c.requires.fed.each a (slot b a c.in-Some.is) c.index-sides-below.result).1,
    )

pub add-requires-clause-own : goal.add-requires-clause-own
add-requires-clause-own c =
    let m = c.args.self.now.metered in
    omega (arith, c.from.ensures, ap (λ (e : Dna). e.boundary) c.entry_at-dna.ensures, dna_boundary (network_of m) (grid_holds m.grid.now) c.args.self.now.number)

pub returns-in-Some : goal.returns-in-Some
returns-in-Some c =
    let m = c.args.self.now.metered in
    let net = network_of m in
    let fig = figures_of m in
    let d = c.args.self.now.number in
    let low = c.args.self.now.entered in
    let a = c.in-Some.below in
    let b = (goal.at.returns-in-Some c).After-below in
    let before = c.requires.fed.each a (slot b a c.in-Some.is) c.index-sides-below.result in
    let fed = feeds b a c.in-Some.is a ∙ eq-eqb a a refl in
    let own = c.from.ensures ∙ ap (λ (e : Dna). e.boundary) c.entry_at-dna.ensures in
    let flow = c.requires.estimated.flow_is in
    fed_set _ _ _ _ c.args.sides.now a c.add.new.self c.requires.fed (slot b a c.in-Some.is) (
      more_fed net fig (sent_at fig) above_0 refl d low a _ _ _ _ fed before.0 (c.sent.ensures ∙ ap above_0 flow) own c.add.ensures.senders,
      more_fed net fig (taken_at fig) below_0 refl d low a _ _ _ _ fed before.1 (c.taken.ensures ∙ ap below_0 flow) own c.add.ensures.takers,
    )
    (λ k _ other x both.
    let out = feeds b a c.in-Some.is k ∙ ne_eqb a k (λ e. other (sym e)) in
    (not_fed net fig (sent_at fig) above_0 refl d low k x.senders out both.0, not_fed net fig (taken_at fig) below_0 refl d low k x.takers out both.1))

pub returns-in_default : goal.returns-in_default
returns-in_default c =
    let m = c.args.self.now.metered in
    let net = network_of m in
    let fig = figures_of m in
    let d = c.args.self.now.number in
    let low = c.args.self.now.entered in
    let b = (goal.at.returns-in_default c).After-below in
    fed_same _ _ _ _ c.args.sides.now c.requires.fed
    (λ k _ x both.
    let out = numbered_feeds (dna_at net d).downstream _ (names b ∙ c.in_default.is) k in
    (not_fed net fig (sent_at fig) above_0 refl d low k x.senders out both.0, not_fed net fig (taken_at fig) below_0 refl d low k x.takers out both.1))
