use Rattle.std.proofs.Common.{◌≡◌, ◌^◌, ◌*◌, ◌≤◌, ◌/◌, length, map, sum, sym, refl, ap, ◌∙◌, mul-div_cancel, mul-le-mul, arith, rules, tests}
use Rattle.std.proofs.lemmas.Iterator.{YieldsList-from_range, YieldsList-from_map}
use Rattle.std.proofs.lemmas.Iterator.Consumers.{fits_from_yields_list, sum_from_yields_List}
use Rattle.std.specs.List.{range_with_len}
use Rattle.units.specs.FixedLists.{listed}
use Rattle.units.specs.Sums as places
use Rattle.sharing.specs.Fillings.{all, weight_at}
use Rattle.sharing.specs.NearestLaws.{odd_rests}
use Rattle.sharing.specs.Parts.{rests_few}
use Rattle.sharing.specs.Weighted.{remainder, odd_cents}
use Rattle.sharing.specs.WeightedLaws.{some_owner}
use Rattle.sharing.proofs.Weighed.{sum_places}
use Rattle.sharing.proofs.weights.Weights.odd_cents.Goals as goal

pub sum-rests-requires-clause-fits : goal.sum-rests-requires-clause-fits
sum-rests-requires-clause-fits c =
    let weights = c.args.self.now in
    let parts = listed weights.parts in
    let left = remainder (length parts) (weight_at parts) c.args.amount.cents in
    let part : 1 ≤ all parts = omega (arith, weights.sound, weights.total.ok) in
    let few = rests_few (length parts) (weight_at parts) (all parts) (some_owner (length parts) (weight_at parts) part) part refl c.args.amount.cents in
    let owners : length parts ≤ 16 = omega arith in
    let bound : all parts ≤ 1000000 = omega (arith, weights.sound, weights.bound) in
    let most : length parts * all parts ≤ 16 * 1000000 = mul-le-mul owners bound in
    let same = sum_places c.owners.result left ∙ ap (λ n. places.sum n left) c.owners.ensures.value in
    let fits : sum (map left (range_with_len 0 c.owners.result)) ≤ 16 * 1000000 = omega (arith, same, few) in
    fits_from_yields_list c.map.result (2 ^ 64) (YieldsList-from_map _ left (YieldsList-from_range 0 c.owners.result c.owners.result (cc) (omega arith)) c.map.ensures.closure (λ x r q k. search (rules, tests))) (omega arith)

pub returns : goal.returns
returns c =
    let weights = c.args.self.now in
    let parts = listed weights.parts in
    let left = remainder (length parts) (weight_at parts) c.args.amount.cents in
    let part : 1 ≤ all parts = omega (arith, weights.sound, weights.total.ok) in
    let rests = sum_from_yields_List c.map.result c.sum-rests.result c.sum-rests.ensures.ran (YieldsList-from_map _ left (YieldsList-from_range 0 c.owners.result c.owners.result (cc) (omega arith)) c.map.ensures.closure (λ x r q k. search (rules, tests))) ∙ sum_places c.owners.result left ∙ ap (λ n. places.sum n left) c.owners.ensures.value in
    let odd = odd_rests (length parts) (weight_at parts) (some_owner (length parts) (weight_at parts) part) part c.args.amount.cents in
    let total : c.from.result ≡ all parts = omega (arith, weights.sound) in
    (λ i. (rests ∙ sym odd.1) i / total i) ∙ mul-div_cancel (odd_cents (length parts) (weight_at parts) c.args.amount.cents) part
