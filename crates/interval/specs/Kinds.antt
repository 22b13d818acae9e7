-- The kinds of words by their numbers.
use Rattle.std.specs.Prelude.{ℕ, cond, Some, None, Option, ◌==◌}
use Rattle.interval.specs.Words.{opening_kind, price_kind, flow_kind, sent_kind, taken_kind, closing_kind}
use Rattle.interval.specs.declared.kind.Kind.{Kind}
use Rattle.interval.specs.declared.kind.Kind.TheVariants.{Opening, Price, Flow, Sent, Taken, Closing}

abbrev pub number : Kind → ℕ
number Opening = opening_kind
number Price = price_kind
number Flow = flow_kind
number Sent = sent_kind
number Taken = taken_kind
number Closing = closing_kind

-- the kind of a number
abbrev pub named : ℕ → Option Kind
named n =
    cond (n == opening_kind) (Some Opening)
    (cond (n == price_kind) (Some Price)
    (cond (n == flow_kind) (Some Flow)
    (cond (n == sent_kind) (Some Sent)
    (cond (n == taken_kind) (Some Taken)
    (cond (n == closing_kind) (Some Closing) None)))))
