-- Each `return` is one of the refusals' laws.
use Rattle.std.proofs.Common.{sym}
use Rattle.reader.specs.Network.{graph}
use Rattle.cuts.proofs.Cutting.{Spare, spare_node, spare_link}
use Rattle.cuts.proofs.Cutting.{refused10, refused11, refused12, unrefused}
use Rattle.cuts.proofs.refusal.Goals as goal
use Rattle.cuts.proofs.refusal.Goals.{After-first_cut-2}
use Rattle.cuts.proofs.refusal.Goals.{then-asked+in_default-first_cut, else-asked}

pub returns-in-Some : goal.returns-in-Some
returns-in-Some c =
    sym (refused10 c.args.p _ c.args.network.filled.formed (sym c.in-Some.ensures))

pub returns-in-Some-first_cut : goal.returns-in-Some-first_cut
returns-in-Some-first_cut c =
    sym (refused11 c.args.p _ c.args.network.filled.formed (sym c.in_default.ensures)
    c.in-Some-first_cut.cut c.if-asked.true (c.in-Some-first_cut.ensures 11))

-- Where the two ways meet, 11 is not given.
spare : (c : After-first_cut-2) → Spare c.args.p (graph c.args.network) c.args.network.filled.formed
spare c =
    elim c.if-asked.branch [
      | then-asked+in_default-first_cut w ↦
          spare_node c.args.p _ c.args.network.filled.formed w.if-asked.true
          (w.in_default-first_cut.ensures 11)
      | else-asked w ↦ spare_link c.args.p _ c.args.network.filled.formed w.if-asked.false
    ]

pub returns-in-Some-first_cut-2 : goal.returns-in-Some-first_cut-2
returns-in-Some-first_cut-2 c =
    sym (refused12 c.args.p _ c.args.network.filled.formed (sym c.in_default.ensures)
    (spare (goal.at.returns-in-Some-first_cut-2 c).After-first_cut-2)
    c.in-Some-first_cut-2.cut (c.in-Some-first_cut-2.ensures 12))

pub returns : goal.returns
returns c =
    sym (unrefused c.args.p _ c.args.network.filled.formed (sym c.in_default.ensures)
    (spare (goal.at.returns c).After-first_cut-2) (c.in_default-first_cut-2.ensures 12))
