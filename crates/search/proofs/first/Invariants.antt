-- Nothing was found before this place.
use Rattle.std.proofs.Common.{ℕ, ◌<◌, None}
use Rattle.search.proofs.first.Given as goal

abbrev pub invariant-loop-i : goal.invariant-loop-i
invariant-loop-i g l = (j : ℕ) → j < l.i → goal.F-post g l.f j None
