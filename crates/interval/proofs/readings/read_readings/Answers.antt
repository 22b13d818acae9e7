use Rattle.std.proofs.Common.{◌≡◌, ◌+◌, ◌-◌, ◌<◌, ◌≤◌, true, false, eqb, length, None, sym, refl, ap, ◌∙◌, arith}
use Rattle.std.proofs.lemmas.List.{length-drop}
use Rattle.std.proofs.lemmas.Result.{err_from_is_err_and}
use Rattle.units.proofs.FixedLists.{listed_few}
use Rattle.grid.specs.Views.{of_grid}
use Rattle.interval.specs.Words.{fault, readings_from, closing_kind, closing, reading, kind, word, rank}
use Rattle.interval.proofs.Order.{fault_after, fault_missing, late_closing, late_reading, closes_after, least_none, least_more, stopped, ended, reached_more}
use Rattle.interval.proofs.Metering.{word_from, readings_start, readings_more, readings_end, reading_passed}
use Rattle.interval.proofs.readings.read_readings.Goals as goal

pub loop-i-init : goal.loop-i-init
loop-i-init c =
    let net = of_grid c.args.grid.now in
    let ws = c.args.words.now in
    let from = c.readings_from-from.ensures in
    let at : c.readings_from-from.result + 0 ≡ readings_from net = omega (arith, from) in
    rw (at, from) (refl, c.requires, sym (least_none net ws), readings_start net ws)

pub returns-in_err-check_closing : goal.returns-in_err-check_closing
returns-in_err-check_closing c =
    let grid = c.args.grid.now in
    let net = of_grid grid in
    let ws = c.args.words.now in
    let from = c.readings_from-from.result in
    let i = c.loop-i.i in
    let j = from + i in
    let inv = c.loop-i.invariant in
    let lt : j < length ws = omega (arith, length-drop from ws) in
    let w = word_from ws from (length ws - from) i (omega arith) in
    let after : readings_from net ≤ j = omega (arith, inv.0) in
    let six : eqb (kind (word ws j)) closing_kind ≡ true = ap (λ b. eqb (kind b) closing_kind) (sym w) ∙ sym c.is-closes.ensures ∙ c.if-closes.true in
    let p = err_from_is_err_and c.from_residual.result c.from_residual.ensures.1 in
    rw (p.1, p.2) (stopped net ws j _ inv.1 (fault_after net ws j c.len-points.result c.loop-i.least after (sym c.len-points.ensures) inv.2 ∙ late_closing net ws j c.len-points.result c.loop-i.least lt six ∙ ap (closing j) (sym w) ∙ c.in_err-check_closing.ensures))

pub returns-then-closes : goal.returns-then-closes
returns-then-closes c =
    let grid = c.args.grid.now in
    let net = of_grid grid in
    let ws = c.args.words.now in
    let from = c.readings_from-from.result in
    let i = c.loop-i.i in
    let j = from + i in
    let inv = c.loop-i.invariant in
    let lt : j < length ws = omega (arith, length-drop from ws) in
    let w = word_from ws from (length ws - from) i (omega arith) in
    let after : readings_from net ≤ j = omega (arith, inv.0) in
    let six : eqb (kind (word ws j)) closing_kind ≡ true = ap (λ b. eqb (kind b) closing_kind) (sym w) ∙ sym c.is-closes.ensures ∙ c.if-closes.true in
    let none : fault net ws j ≡ None = fault_after net ws j c.len-points.result c.loop-i.least after (sym c.len-points.ensures) inv.2 ∙ late_closing net ws j c.len-points.result c.loop-i.least lt six ∙ ap (closing j) (sym w) ∙ c.in_ok-check_closing.ensures.0 in
    record {
      answered = ended net ws j inv.1 none (closes_after net ws j after ∙ six);
      inside = omega arith;
      past = omega arith;
      readings = readings_end net ws j _ _ inv.3 six;
    }

pub returns-in_err-check_reading : goal.returns-in_err-check_reading
returns-in_err-check_reading c =
    let grid = c.args.grid.now in
    let net = of_grid grid in
    let ws = c.args.words.now in
    let from = c.readings_from-from.result in
    let i = c.loop-i.i in
    let j = from + i in
    let inv = c.loop-i.invariant in
    let lt : j < length ws = omega (arith, length-drop from ws) in
    let w = word_from ws from (length ws - from) i (omega arith) in
    let after : readings_from net ≤ j = omega (arith, inv.0) in
    let unclosed : eqb (kind (word ws j)) closing_kind ≡ false = ap (λ b. eqb (kind b) closing_kind) (sym w) ∙ sym c.is-closes.ensures ∙ c.if-closes.false in
    let p = err_from_is_err_and c.from_residual-in_err-check_reading.result c.from_residual-in_err-check_reading.ensures.1 in
    rw (p.1, p.2) (stopped net ws j _ inv.1 (fault_after net ws j c.len-points.result c.loop-i.least after (sym c.len-points.ensures) inv.2 ∙ late_reading net ws j c.len-points.result c.loop-i.least lt unclosed ∙ ap (reading c.len-points.result c.loop-i.least j) (sym w) ∙ c.in_err-check_reading.ensures))

pub loop-i-preserved : goal.loop-i-preserved
loop-i-preserved c =
    let grid = c.args.grid.now in
    let net = of_grid grid in
    let ws = c.args.words.now in
    let from = c.readings_from-from.result in
    let i = c.loop-i.i in
    let j = from + i in
    let inv = c.loop-i.invariant in
    let lt : j < length ws = omega (arith, length-drop from ws) in
    let w = word_from ws from (length ws - from) i (omega arith) in
    let after : readings_from net ≤ j = omega (arith, inv.0) in
    let unclosed : eqb (kind (word ws j)) closing_kind ≡ false = ap (λ b. eqb (kind b) closing_kind) (sym w) ∙ sym c.is-closes.ensures ∙ c.if-closes.false in
    let passed = late_reading net ws j c.len-points.result c.loop-i.least lt unclosed ∙ ap (reading c.len-points.result c.loop-i.least j) (sym w) ∙ c.in_ok-check_reading.ensures.0 in
    let none : fault net ws j ≡ None = fault_after net ws j c.len-points.result c.loop-i.least after (sym c.len-points.ensures) inv.2 ∙ passed in
    let is = reading_passed ws c.len-points.result c.loop-i.least j passed unclosed in
    let more = readings_more net ws j _ _ inv.3 c.len-points.result c.loop-i.least (omega (arith, listed_few grid.points, c.len-points.ensures)) after is in
    let next : j + 1 ≡ from + (i + 1) = omega arith in
    rw (← next, c.store.ensures.sent, c.store.ensures.taken, w) (
      inv.0,
      reached_more net ws j inv.1 lt none (closes_after net ws j after ∙ unclosed),
      ap (λ n. n + 1) (c.rank-least.ensures ∙ ap rank w) ∙ sym (least_more net ws j after),
      more,
    )

pub returns : goal.returns
returns c =
    let net = of_grid c.args.grid.now in
    let ws = c.args.words.now in
    let from = c.readings_from-from.result in
    stopped net ws (from + c.loop-i.i) _ c.loop-i.invariant.1 (fault_missing net ws (from + c.loop-i.i) (omega (arith, length-drop from ws)))
