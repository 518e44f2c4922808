-- The loop of `nodeset::NodeSet::lowest`: no word before word i holds a node.
-- Assumes nothing.
use Rattle.std.proofs.Common.{◌≡◌, false, ℕ, ◌*◌, ◌<◌}
use Rattle.nodeset.specs.Set.{has}
use Rattle.nodeset.proofs.NodeSet.lowest.Given as goal

abbrev pub invariant-loop-i : goal.invariant-loop-i
invariant-loop-i l = (k : ℕ) → k < 64 * l.i → has l.fn.self.words k ≡ false
