-- The first k bytes of the record are stored.
use Rattle.std.proofs.Common.{◌≡◌, take}
use Rattle.std.proofs.Math.Seq.{sets}
use Rattle.records.proofs.put_record.Given as goal

abbrev pub invariant-loop-k : goal.invariant-loop-k
invariant-loop-k l = l.plan ≡ sets l.fn.plan l.at (take l.k l.bytes)
