-- The first v records stand, and the rest is as it was.
use Rattle.std.proofs.Common.{◌≡◌, ◌*◌, ◌++◌, drop}
use Rattle.network.specs.Chain.{trees_of}
use Rattle.records.specs.Plan.{plan_bytes}
use Rattle.records.proofs.put_plan.Given as goal

abbrev pub invariant-loop-v : goal.invariant-loop-v
invariant-loop-v l =
    l.plan ≡ plan_bytes l.kind l.v (trees_of l.blue l.red) ++ drop (8 * l.v) l.fn.plan
