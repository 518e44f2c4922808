-- Refusals 10 to 12 as a program finds them.
--     missed_by G c      the lowest node that the loss c cuts off; the source is no loss
--     cut_by n o         the refusal n that a cut tells of, where there is one
--     refusal_of e       document 01's number and values for each case
--     refused o          the refusal of an outcome, where there is one
--     answer_to r        the answer that gives a refusal: its number, place, other
--     cut_answer o       the answer that gives a refusal, or else success
-- Assumes nothing.
use Rattle.std.specs.Prelude.{not, ℕ, Option, Some, None, Result, Ok, Err, ◌==◌}
use Rattle.network.specs.Search.{when}
use Rattle.network.specs.Graph.{Graph}
use Rattle.choices.specs.Refuse.{Refusal, refusing, missed}
use Rattle.reader.specs.declared.Answer.{Answer}
use Rattle.reader.specs.Answer.{answer, fine}
use Rattle.cuts.specs.declared.Cut.{Cut}
use Rattle.cuts.specs.declared.CutOff.{CutOff}
use Rattle.cuts.specs.declared.CutOff.TheVariants.{Unjoined, ByNode, ByLink}

unfoldable pub missed_by : Graph → ℕ → Option ℕ
missed_by G c = when (not (c == G.source)) (missed G c)

abbrev pub cut_by : ℕ → Option Cut → Option Refusal
cut_by number (Some x) = refusing number x.place x.node
cut_by number None = None

abbrev pub refusal_of : CutOff → Refusal
refusal_of (Unjoined v) = record { number = 10; place = v; other = 0 }
refusal_of (ByNode x) = record { number = 11; place = x.place; other = x.node }
refusal_of (ByLink x) = record { number = 12; place = x.place; other = x.node }

abbrev pub refused : {A : Type 0} → Result A CutOff → Option Refusal
refused (Ok a) = None
refused (Err e) = Some (refusal_of e)

abbrev pub answer_to : Refusal → Answer
answer_to r = answer r.number r.place r.other

abbrev pub cut_answer : Option Refusal → Answer
cut_answer (Some r) = answer_to r
cut_answer None = fine
