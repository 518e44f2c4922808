-- `put_record`: each turn stores one byte more of the record (`store_more`).
use Rattle.std.proofs.Common.{◌≡◌, refl, ◌∙◌, arith, ◌*◌, ◌<◌, length}
use Rattle.records.specs.Plan.{record_of}
use Rattle.records.proofs.Plan.{store_more, length_record}
use Rattle.records.proofs.put_record.Goals as goal

pub loop-k-preserved : goal.loop-k-preserved
loop-k-preserved c =
    let a = c.args in
    let bytes = c.record_bytes-bytes.result in
    let long = length_record a.kind a.node a.blue a.red in
    let inside : c.loop-k.k < length bytes = rw c.record_bytes-bytes.ensures (omega (arith, long)) in
    rw c.loop-k.invariant (store_more a.plan.now bytes (8 * c.from-at.result) c.loop-k.k inside)

pub returns : goal.returns
unfolding record_of
returns c =
    let last : c.loop-k.k ≡ 8 = omega arith in
    c.loop-k.invariant ∙ rw (last, c.record_bytes-bytes.ensures, c.from-at.ensures) refl
