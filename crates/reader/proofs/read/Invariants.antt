-- What is left of the records, judged from the tally so far, gives what the whole table gives.
use Rattle.std.proofs.Common.{◌/◌}
use Rattle.reader.proofs.Turn.{Reads}
use Rattle.reader.proofs.read.Given as goal

abbrev pub invariant-loop-place : goal.invariant-loop-place
invariant-loop-place l = Reads l.table (l.length / 8) l.tally l.place
