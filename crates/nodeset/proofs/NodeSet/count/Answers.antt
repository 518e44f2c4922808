-- `nodeset::NodeSet::count` meets its contract. Each of the four numbers is the set bits of its word,
-- and their sum the nodes (`counted_by`).
-- Assumes nothing.
use Rattle.std.proofs.Common.{◌≡◌, arith, rules, of_calls, sum}
use Rattle.std.proofs.lemmas.Iterator.{YieldsList-from_slice}
use Rattle.std.proofs.lemmas.Iterator.Consumers.{sum_from_yields_List, fits_from_yields_list}
use Rattle.nodeset.specs.Set.{Counted}
use Rattle.nodeset.proofs.Words.{counted_by}
use Rattle.nodeset.proofs.NodeSet.count.Goals as goal
use Rattle.nodeset.proofs.NodeSet.count.Goals.{After-map-ones}

summed : (c : After-map-ones) → Counted c.args.self.words (sum c.map-ones.result)
summed c =
    counted_by c.args.self.words c.map-ones.result (search rules) (λ i. search rules)
    (λ i h. search (rules, of_calls))

pub sum-requires-clause-fits : goal.sum-requires-clause-fits
sum-requires-clause-fits c =
    let at = (goal.at.sum-requires-clause-fits c).After-map-ones in
    fits_from_yields_list c.iter.result _ (YieldsList-from_slice c.map-ones.result cc)
    (omega (arith, (summed at).within))

pub returns : goal.returns
returns c =
    let at = (goal.at.returns c).After-map-ones in
    let e : c.sum.result ≡ sum c.map-ones.result =
    sum_from_yields_List c.iter.result c.sum.result c.sum.ensures.ran
    (YieldsList-from_slice c.map-ones.result cc) in
    rw e (summed at)
