use Rattle.std.proofs.Common.{◌≡◌, ◌+◌, [], ◌∷◌, ◌++◌, drop}
use Rattle.losses.specs.Books as page
use Rattle.losses.specs.Views.{segments}
use Rattle.losses.proofs.curve.Curve.along.Given as goal

-- the sum so far, and what the segments that are left add to it
abbrev pub invariant-loop-segment : goal.invariant-loop-segment
invariant-loop-segment l = l.sum + page.along l.low (drop l.segment-index l.inner ++ (l.last ∷ [])) l.size ≡ page.along 0 (segments l.self) l.size
