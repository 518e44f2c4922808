-- Refusals of a table have the numbers 2 to 8.
--     refusal_numbered     every refusal
--     reading_numbered     so every refusal of a table
--     reading_refused      it is never taken for success, whose number is 0
-- Assumes nothing.
use Rattle.std.proofs.Common.{◌≡◌, ◌≢◌, List, ℕ, ◌≤◌, arith}
use Rattle.std.specs.Prelude.{Err}
use Rattle.reader.specs.declared.Fault.{Fault}
use Rattle.reader.specs.declared.Fault.TheVariants.{Length, Byte, Number, SecondSource, NoSource, End, SelfLink, TooManyLinks}
use Rattle.reader.specs.Answer.{answer_for}
use Rattle.reader.specs.Table.{read_of}

pub refusal_numbered : (e : Fault) → (2 ≤ (answer_for e).number) × ((answer_for e).number ≤ 8)
refusal_numbered (Length n) = omega arith
refusal_numbered (Byte r k) = omega arith
refusal_numbered (Number r n) = omega arith
refusal_numbered (SecondSource r) = omega arith
refusal_numbered (NoSource n) = omega arith
refusal_numbered (End r v) = omega arith
refusal_numbered (SelfLink r v) = omega arith
refusal_numbered (TooManyLinks r) = omega arith

pub reading_numbered : (s : List ℕ) (e : Fault) → read_of s ≡ Err e
    → (2 ≤ (answer_for e).number) × ((answer_for e).number ≤ 8)
reading_numbered s e _ = refusal_numbered e

pub reading_refused : (s : List ℕ) (e : Fault) → read_of s ≡ Err e → (answer_for e).number ≢ 0
reading_refused s e _ z = let n = refusal_numbered e in omega arith
