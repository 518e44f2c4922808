-- The ends of the first l links stand, and the rest is as it was.
use Rattle.std.proofs.Common.{◌≡◌, ◌*◌, ◌++◌, drop}
use Rattle.reader.specs.Ends.{ends_up_to}
use Rattle.reader.proofs.fill.Given as goal

abbrev pub invariant-loop-l : goal.invariant-loop-l
invariant-loop-l l =
    l.ends ≡ ends_up_to l.table l.nodes l.l ++ drop (2 * l.l) l.fn.ends
