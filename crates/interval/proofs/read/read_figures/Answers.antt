use Rattle.std.proofs.Common.{◌≡◌, subst, arith, w32, SFits, rules}
use Rattle.std.proofs.lemmas.Int.{to_z-of_z}
use Rattle.interval.specs.Kinds.{number}
use Rattle.interval.specs.Steps.{Figured}
use Rattle.interval.proofs.Filled.{figured_none, figured_more, figured_all}
use Rattle.interval.proofs.read.read_figures.Goals as goal

pub loop-i-init : goal.loop-i-init
loop-i-init c = figured_none c.args.words.now c.args.start c.args.n (number c.args.form.kind) c.args.form.low c.args.form.high c.requires.few c.args.form.below c.args.form.above

pub loop-i-preserved : goal.loop-i-preserved
loop-i-preserved c =
    let z = c.in_ok-figure.field-0 in
    let fit : SFits w32 z = search rules in
    let h = c.in_ok-figure.ensures in
    simp to_z-of_z (figured_more c.args.words.now c.args.start c.loop-i.i (number c.args.form.kind) c.args.form.low c.args.form.high c.args.n c.loop-i.figure-items z c.loop-i.invariant (omega arith) h.0 h.1.1 h.1.2 h.1.3)

pub returns : goal.returns
returns c =
    let end : c.loop-i.i ≡ c.args.n = omega arith in
    let all = subst (λ i. Figured c.args.words.now c.args.start i (number c.args.form.kind) c.args.form.low c.args.form.high c.args.n c.loop-i.figure-items) end c.loop-i.invariant in
    figured_all c.args.words.now c.args.start c.args.n (number c.args.form.kind) c.args.form.low c.args.form.high c.loop-i.figure-items c.requires.few c.args.form.below c.args.form.above all
