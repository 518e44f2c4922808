-- The lowest node that is not reached.
use Rattle.nodeset.specs.Set.{has}
use Rattle.reader.specs.Network.{graph}
use Rattle.cuts.proofs.Cutting.{missed_is}
use Rattle.cuts.proofs.Without.missed.Goals as goal

pub returns : goal.returns
returns c =
    missed_is (graph c.args.self.network) c.args.self.loss _ (has c.reach.result.words) _
    c.args.self.network.filled.formed c.reach.ensures c.others.ensures c.lowest.ensures
