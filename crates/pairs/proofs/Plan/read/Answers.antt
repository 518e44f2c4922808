-- No parent is misused, since no node has a wrong one.
use Rattle.std.proofs.Common.{sym, arith, rules, of_calls}
use Rattle.reader.specs.Network.{graph}
use Rattle.pairs.specs.Flaw.{parent_flaw, tree_of}
use Rattle.pairs.proofs.Flaws.{parents_used}
use Rattle.pairs.proofs.Plan.read.Goals as goal

pub invariant_of-result : goal.invariant_of-result
invariant_of-result c =
    let G = graph c.args.network in
    let tree = tree_of c.args.bytes.now in
    record {
      long = omega arith;
      used = parents_used G tree
          (sym (c.in_default-misused.ensures (parent_flaw G tree) (λ v r l p. search (rules, of_calls))));
    }
