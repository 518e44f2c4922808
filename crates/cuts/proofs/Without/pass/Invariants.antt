-- What a pass does, as far as link i.
use Rattle.std.proofs.Common.{◌≡◌}
use Rattle.std.specs.Prelude.{Option, unwrap_or}
use Rattle.nodeset.specs.declared.NodeSet.{NodeSet}
use Rattle.reader.specs.Network.{graph}
use Rattle.cuts.specs.Reached.{Passed}
use Rattle.cuts.proofs.Without.pass.Given as goal

abbrev pub invariant-loop-i : goal.invariant-loop-i
invariant-loop-i l =
    (o : Option NodeSet)
    × (l.grown ≡ unwrap_or o l.set)
    × Passed (graph l.self.network) l.self.loss l.up l.set.words l.i o
