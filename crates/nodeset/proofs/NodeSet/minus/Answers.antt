-- `nodeset::NodeSet::minus` meets its contract, word by word (`minus_nodes`).
-- Assumes nothing.
use Rattle.std.proofs.Common.{rules}
use Rattle.nodeset.proofs.Words.{minus_nodes}
use Rattle.nodeset.proofs.NodeSet.minus.Goals as goal

pub returns : goal.returns
returns c =
    minus_nodes c.args.self.words c.args.other.words c.by_words.result.words
    (search rules)
    (search rules)
    (search rules)
    (λ i. search rules)
    (search rules)
