-- The source is no loss.
use Rattle.std.proofs.Common.{arith}
use Rattle.std.proofs.lemmas.Bool.Decides.{nat_tests}
use Rattle.cuts.specs.Cut.{missed_by}
use Rattle.cuts.proofs.Without.missed_by.Goals as goal

pub returns-then-self : goal.returns-then-self
unfolding missed_by
returns-then-self c = grind (arith, nat_tests)

pub returns : goal.returns
unfolding missed_by
returns c = grind (arith, nat_tests, c.missed.ensures)
