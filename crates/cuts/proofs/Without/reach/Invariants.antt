-- The set has the source, and its nodes have ways. The measure is the nodes that are not in.
use Rattle.std.proofs.Common.{◌-◌}
use Rattle.nodeset.specs.Set.{size}
use Rattle.reader.specs.Network.{graph}
use Rattle.cuts.proofs.Reached.{Marked}
use Rattle.cuts.proofs.Without.reach.Given as goal

abbrev pub invariant-loop-grown : goal.invariant-loop-grown
invariant-loop-grown l = Marked (graph l.self.network) l.self.loss l.set.words

abbrev pub decreases-loop-grown : goal.decreases-loop-grown
decreases-loop-grown l = 256 - size l.set.words
