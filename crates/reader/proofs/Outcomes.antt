-- What `answered` says of a reading.
--     answered_is     it is the answer of the reading
-- Assumes nothing.
use Rattle.std.proofs.Common.{◌≡◌}
use Rattle.std.specs.Prelude.{Result, Ok, Err, MatchResult}
use Rattle.reader.specs.declared.Answer.{Answer}
use Rattle.reader.specs.declared.Shape.{Shape}
use Rattle.reader.specs.declared.Fault.{Fault}
use Rattle.reader.specs.Answer.{fine, answer_for, answer_of}

pub answered_is : (o : Result Shape Fault) (a : Answer)
    → MatchResult o (λ _. a ≡ fine) (λ e. a ≡ answer_for e) → a ≡ answer_of o
answered_is (Ok h) a e = e
answered_is (Err f) a e = e
