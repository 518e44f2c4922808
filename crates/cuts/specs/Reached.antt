-- Marking: a set of nodes grows from the source, link by link and pass by pass.
--     gain G c R l                 the node that the set R gains by link l without the part with
--                                  code c
--     turn up m i                  the i-th of m numbers, up from 0 or down to it
--     Passed G c up ws k o         after k links of a pass over the set with words ws: o is the set
--                                  that it leaves, where it grew
-- Assumes nothing.
use Rattle.std.specs.Prelude.{◌≡◌, Bool, true, false, List, ℕ, ◌-◌, ◌<◌, Option, Some, None}
use Rattle.network.specs.Search.{when}
use Rattle.network.specs.Graph.{Graph}
use Rattle.network.specs.Way.{Way, opens, out_end}
use Rattle.nodeset.specs.Set.{has, size}
use Rattle.nodeset.specs.declared.NodeSet.{NodeSet}

unfoldable pub gain : Graph → ℕ → (ℕ → Bool) → ℕ → Option ℕ
gain G c R l = when (opens G c R l) (Some (out_end G R l))

abbrev pub turn : Bool → ℕ → ℕ → ℕ
turn true m i = i
turn false m i = m - 1 - i

pub data Passed (G : Graph) (c : ℕ) (up : Bool) (ws : List ℕ) (k : ℕ) : Option NodeSet → Type 0
  where
    -- it has come by no link along which a node could be added
    still : ((i : ℕ) → i < k → opens G c (has ws) (turn up G.links i) ≡ false)
        → Passed G c up ws k None
    -- the source stays; where all nodes had ways, all have; and there are more
    grown : {s : NodeSet} → (has ws G.source ≡ true → has s.words G.source ≡ true)
        → (((v : ℕ) → has ws v ≡ true → Way G c v) → (v : ℕ) → has s.words v ≡ true → Way G c v)
        → size ws < size s.words
        → Passed G c up ws k (Some s)
