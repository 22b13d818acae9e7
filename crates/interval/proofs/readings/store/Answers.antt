use Rattle.std.proofs.Common.{◌≡◌, true, false, eqb, set, map, sym, refl, ◌∙◌, ap₂}
use Rattle.std.proofs.lemmas.Bool.{cond-true, cond-false}
use Rattle.std.proofs.lemmas.List.{map-set}
use Rattle.std.proofs.Math.Seq.{map-set_same}
use Rattle.interval.specs.Views.{sent_of, taken_of}
use Rattle.interval.specs.Words.{kind, sent_kind}
use Rattle.interval.proofs.readings.store.Goals as goal

pub returns-then-is : goal.returns-then-is
returns-then-is c =
    let xs = c.args.readings.now in
    let is : eqb (kind c.args.word.0) sent_kind ≡ true = sym c.is.ensures ∙ c.if-is.true in
    record {
      sent = map-set sent_of xs _ _ ∙ ap₂ (set (map sent_of xs)) c.point-point.ensures c.energy.ensures ∙ sym (cond-true _ _ _ is);
      taken = map-set_same taken_of xs _ _ c.index-readings-point.result refl ∙ sym (cond-true _ _ _ is);
    }

pub returns-else-is : goal.returns-else-is
returns-else-is c =
    let xs = c.args.readings.now in
    let is : eqb (kind c.args.word.0) sent_kind ≡ false = sym c.is.ensures ∙ c.if-is.false in
    record {
      sent = map-set_same sent_of xs _ _ c.index-readings-point-else-is.result refl ∙ sym (cond-false _ _ _ is);
      taken = map-set taken_of xs _ _ ∙ ap₂ (set (map taken_of xs)) c.point-point.ensures c.energy-else-is.ensures ∙ sym (cond-false _ _ _ is);
    }
