use Rattle.std.proofs.Common.{◌≡◌, ◌*◌, ◌-◌, ◌/◌, ◌%◌, ◌^◌, ◌<◌, ap, ◌∙◌, arith}
use Rattle.std.proofs.Math.Pow.{pow-lt}
use Rattle.std.proofs.lemmas.Nat.{and_mask}
use lib.Bits.{bit_and}
use Rattle.interval.proofs.part.Word.part.Goals as goal

pub returns : goal.returns
returns c =
    let n = c.args.self.0 / 2 ^ c.args.low in
    let small : 2 ^ c.args.size < 4294967296 = pow-lt {i = c.args.size} {j = 32} c.requires.size in
    let whole : 1 * 2 ^ c.args.size % 4294967296 ≡ 2 ^ c.args.size = omega arith in
    ap (λ m. bit_and n (m - 1)) whole ∙ and_mask n c.args.size
