use Rattle.std.proofs.Common.{rules, ◌≡◌, ℕ, ◌<◌, length, get_or, Some, sym, refl, ap, ◌∙◌, subst, arith}
use Rattle.std.proofs.lemmas.List.{length_push, get_or_default}
use Rattle.std.proofs.lemmas.Slice.Zip.{zip_turn, zip_end}
use Rattle.units.proofs.FixedLists.{listed_few}
use Rattle.register.specs.Fields.{factor, numbered}
use Rattle.register.specs.declared.entry.Point.{Point}
use Rattle.grid.specs.References.{no_point, point_at}
use Rattle.grid.proofs.Places.{grid_holds, factor_high}
use Rattle.interval.specs.Figures.{sent_at, taken_at}
use Rattle.interval.specs.Metered.{network_of, figures_of}
use Rattle.interval.specs.declared.interval.Reading.{Reading}
use Rattle.interval.proofs.Small.{sent_small, taken_small}
use Rattle.assets.specs.Assets.{above_0, below_0}
use Rattle.assets.proofs.Feeding.{feeds_named, entered_named, point_room, points_fed, fed_same, of_none, of_one}
use Rattle.assets.proofs.Passing.{begun}
use Rattle.assets.proofs.Readings.{sent_read, taken_read}
use Rattle.assets.proofs.asset.of_points.Goals as goal
use Rattle.assets.proofs.asset.of_points.Goals.{After-asset}

turn : (c : After-asset)
    → (length c.loop-point.yielded < length (network_of c.args.metered.now).points)
    × (length c.loop-point.yielded < length c.args.metered.now.interval.now.readings)
    × ((d : Point) → c.in-Some.point.now ≡ get_or (network_of c.args.metered.now).points (length c.loop-point.yielded) d)
    × ((d : Reading) → c.in-Some.reading.now ≡ get_or c.args.metered.now.interval.now.readings (length c.loop-point.yielded) d)
turn c =
    zip_turn (network_of c.args.metered.now).points c.args.metered.now.interval.now.readings c.loop-point.yielded
    c.into_iter-point-iterator.result c.loop-point.point-iterator c.next.new.self c.next.result (cc) (cc) c.loop-point.yielded_by (c.in-Some.point, c.in-Some.reading) c.in-Some.is c.next.ensures.steps

-- the asset that the point names, if any
names : (c : After-asset) → numbered (point_at (network_of c.args.metered.now) (length c.loop-point.yielded)).dna ≡ c.asset.result
names c = sym (c.asset.ensures ∙ ap (λ (p : Point). numbered p.dna) ((turn c).2 no_point))

named_low : (c : After-asset) (a : ℕ) → c.asset.result ≡ Some a → a < length (network_of c.args.metered.now).dnas
named_low c a is = entered_named (network_of c.args.metered.now) (grid_holds c.args.metered.now.grid.now) (length c.loop-point.yielded) (turn c).0 a (names c ∙ is)

named_slot : (c : After-asset) (a : ℕ) → c.asset.result ≡ Some a → a < 8
named_slot c a is = omega (arith, named_low c a is, listed_few c.args.metered.now.grid.now.grid.dnas)

own : (c : After-asset) → factor c.in-Some.point.now ≡ factor (point_at (network_of c.args.metered.now) (length c.loop-point.yielded))
own c = ap factor ((turn c).2 no_point)

sent : (c : After-asset) → c.in-Some.reading.now.sent ≡ sent_at (figures_of c.args.metered.now) (length c.loop-point.yielded)
sent c = let t = turn c in sent_read c.args.metered.now (length c.loop-point.yielded) t.0 t.1 c.in-Some.reading.now t.3

taken : (c : After-asset) → c.in-Some.reading.now.taken ≡ taken_at (figures_of c.args.metered.now) (length c.loop-point.yielded)
taken c = let t = turn c in taken_read c.args.metered.now (length c.loop-point.yielded) t.0 t.1 c.in-Some.reading.now t.3

pub offset_bounds-sides-asset : goal.offset_bounds-sides-asset
offset_bounds-sides-asset c = let low = named_slot (goal.at.offset_bounds-sides-asset c).After-asset c.in-Some-asset.asset c.in-Some-asset.is in search rules

pub listed : goal.listed
listed c = omega (arith, named_slot (goal.at.listed c).After-asset c.in-Some-asset.asset c.in-Some-asset.is, c.loop-point.invariant.slots)

pub bounds-sides-asset : goal.bounds-sides-asset
bounds-sides-asset c = named_slot (goal.at.bounds-sides-asset c).After-asset c.in-Some-asset.asset c.in-Some-asset.is

pub add-requires-clause-sent_room : goal.add-requires-clause-sent_room
add-requires-clause-sent_room c =
    let m = c.args.metered.now in
    let a = c.in-Some-asset.asset in
    let i = length c.loop-point.yielded in
    let e = (goal.at.add-requires-clause-sent_room c).After-asset in
    let is = c.loop-point.invariant.each a (named_slot e a c.in-Some-asset.is) c.index-sides-asset.result in
    omega (arith, sent e, point_room m a (named_low e a c.in-Some-asset.is) (sent_at (figures_of m)) (sent_small m) i _ (turn e).0 is.0 (feeds_named (network_of m) i a (names e ∙ c.in-Some-asset.is)))

pub add-requires-clause-taken_room : goal.add-requires-clause-taken_room
add-requires-clause-taken_room c =
    let m = c.args.metered.now in
    let a = c.in-Some-asset.asset in
    let i = length c.loop-point.yielded in
    let e = (goal.at.add-requires-clause-taken_room c).After-asset in
    let is = c.loop-point.invariant.each a (named_slot e a c.in-Some-asset.is) c.index-sides-asset.result in
    omega (arith, taken e, point_room m a (named_low e a c.in-Some-asset.is) (taken_at (figures_of m)) (taken_small m) i _ (turn e).0 is.1 (feeds_named (network_of m) i a (names e ∙ c.in-Some-asset.is)))

pub add-requires-clause-own : goal.add-requires-clause-own
add-requires-clause-own c =
    let m = c.args.metered.now in
    omega (arith, own (goal.at.add-requires-clause-own c).After-asset, c.factor.ensures, factor_high (network_of m) (grid_holds m.grid.now) (length c.loop-point.yielded))

pub loop-point-preserved-in-Some-asset : goal.loop-point-preserved-in-Some-asset
loop-point-preserved-in-Some-asset c =
    let m = c.args.metered.now in
    let a = c.in-Some-asset.asset in
    let e = (goal.at.loop-point-preserved-in-Some-asset c).After-asset in
    let more = length_push c.loop-point.yielded (c.in-Some.point, c.in-Some.reading) in
    rw more (
    of_one (network_of m) (sent_at (figures_of m)) (taken_at (figures_of m)) (length c.loop-point.yielded) c.loop-point.sides c.loop-point.invariant
    a (names e ∙ c.in-Some-asset.is) (named_slot e a c.in-Some-asset.is)
    (get_or c.loop-point.sides a c.index-sides-asset.result) c.add.new.self (λ none. get_or_default c.loop-point.sides a _ none (omega (arith, named_slot e a c.in-Some-asset.is, c.loop-point.invariant.slots)))
    _ _ _ (sent e) (taken e) (c.factor.ensures ∙ own e) c.add.ensures.senders c.add.ensures.takers
    )

pub loop-point-preserved : goal.loop-point-preserved
loop-point-preserved c =
    let m = c.args.metered.now in
    let e = (goal.at.loop-point-preserved c).After-asset in
    let more = length_push c.loop-point.yielded (c.in-Some.point, c.in-Some.reading) in
    rw more (of_none (network_of m) (sent_at (figures_of m)) (taken_at (figures_of m)) (length c.loop-point.yielded) c.loop-point.sides c.loop-point.invariant (names e ∙ c.in_default.is))

pub returns : goal.returns
returns c =
    let net = network_of c.args.metered.now in
    let fig = figures_of c.args.metered.now in
    let readings = c.args.metered.now.interval.now.readings in
    let end = zip_end net.points readings c.loop-point.yielded c.into_iter-point-iterator.result c.loop-point.point-iterator c.next.new.self c.next.result (cc) (cc) c.loop-point.yielded_by c.in-None.is c.next.ensures.steps in
    let all : length c.loop-point.yielded ≡ length net.points = omega (arith, end, c.args.metered.now.interval.now.reading_slots, listed_few c.args.metered.now.grid.now.grid.points) in
    let fed = subst (λ n. points_fed net (sent_at fig) (taken_at fig) n c.loop-point.sides) all c.loop-point.invariant in
    fed_same _ _ _ _ c.loop-point.sides fed (λ d _ x both. (begun net fig (sent_at fig) above_0 refl d x.senders both.0, begun net fig (taken_at fig) below_0 refl d x.takers both.1))
