-- Answers: a refusal's number, place and other; success is 0, 0, 0.
--     answer n p o     the answer with these three
--     fine             success
--     told o           the refusal that was found, or else success
--     and_then a b     a refusal stays, else the next answer decides
--     answer_for e     document 01's number and values for each refusal of a table
--     answer_of r      the answer of a reading
--     on_table r k     a refused table's answer, or what k answers for a table of that shape
-- Assumes nothing.
use Rattle.std.specs.Prelude.{ℕ, Option, Some, None, Result, Ok, Err, ◌==◌, if◌then◌else◌}
use Rattle.reader.specs.declared.Answer.{Answer}
use Rattle.reader.specs.declared.Shape.{Shape}
use Rattle.reader.specs.declared.Fault.{Fault}
use Rattle.reader.specs.declared.Fault.TheVariants.{Length, Byte, Number, SecondSource, NoSource, End, SelfLink, TooManyLinks}

abbrev pub answer : (number place other : ℕ) → Answer
answer n p o = record { number = n; place = p; other = o }

abbrev pub fine : Answer
fine = answer 0 0 0

abbrev pub told : Option Answer → Answer
told (Some a) = a
told None = fine

abbrev pub and_then : Answer → Answer → Answer
and_then a b = if a.number == 0 then b else a

abbrev pub answer_for : Fault → Answer
answer_for (Length n) = answer 2 n 0
answer_for (Byte r k) = answer 3 r k
answer_for (Number r n) = answer 4 r n
answer_for (SecondSource r) = answer 5 r 0
answer_for (NoSource n) = answer 5 n 1
answer_for (End r v) = answer 6 r v
answer_for (SelfLink r v) = answer 7 r v
answer_for (TooManyLinks r) = answer 8 r 0

abbrev pub answer_of : Result Shape Fault → Answer
answer_of (Ok h) = fine
answer_of (Err e) = answer_for e

abbrev pub on_table : Result Shape Fault → (Shape → Answer) → Answer
on_table (Ok h) k = k h
on_table (Err e) k = answer_for e
