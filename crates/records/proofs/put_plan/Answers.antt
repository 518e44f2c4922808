-- `put_record` adds one record more.
use Rattle.std.proofs.Common.{◌∙◌, arith}
use Rattle.network.specs.Chain.{trees_of}
use Rattle.records.proofs.Plan.{plan_more}
use Rattle.records.proofs.put_plan.Goals as goal

pub loop-v-preserved : goal.loop-v-preserved
loop-v-preserved c =
    let a = c.args in
    let trees = trees_of a.blue.now a.red.now in
    c.put_record.ensures
    ∙ plan_more a.kind trees a.plan.now c.loop-v.plan c.loop-v.v (omega arith) c.loop-v.invariant
