-- A plan against a table, as far as each record is judged alone: refusals 13 to 15.
--     kind                 the kind of a plan's record
--     none                 what the source holds for a parent link
--     tree_of s            the trees of a plan's bytes
--     record_flaw s v      14: v's record is wrong
--     misused G tree v c   15: v's parent in colour c is no link of v, or 65,535 is misused
--     parent_flaw G tree v v's first misused parent: blue is judged before red
--     flaw_of G s          the first flaw of a plan's bytes: 13, then 14 over all records, then 15
--                          over all nodes
--     answer_for e         document 01's number and values for each flaw
--     Fitting G tree       what a plan without flaw says: the source has no parents, and every other
--                          node's parent links are links of it
-- Assumes nothing.
use Rattle.std.specs.Prelude.{◌≡◌, ◌≢◌, Bool, not, ◌||◌, List, ℕ, ◌*◌, ◌<◌, length, Option, Some, option_map, ◌==◌, nat_le, if◌then◌else◌}
use Rattle.std.specs.Option.{option_or}
use Rattle.network.specs.declared.Colour.{Colour}
use Rattle.network.specs.declared.Colour.TheVariants.{Blue, Red}
use Rattle.network.specs.Search.{when, first}
use Rattle.network.specs.Graph.{Graph, Joins, touches, other}
use Rattle.network.specs.Chain.{Trees}
use Rattle.records.specs.Plan.{entry_of, bad_plan}
use Rattle.reader.specs.declared.Answer.{Answer}
use Rattle.reader.specs.Answer.{answer}
use Rattle.pairs.specs.declared.Flaw.{Flaw}
use Rattle.pairs.specs.declared.Flaw.TheVariants.{Length, Record, Parent}

abbrev pub kind : ℕ
kind = 3

abbrev pub none : ℕ
none = 65535

abbrev pub tree_of : List ℕ → Trees
tree_of s colour v = entry_of kind s v colour

abbrev pub record_flaw : List ℕ → ℕ → Option Flaw
record_flaw s v = option_map (Record v) (bad_plan kind s v)

unfoldable pub misused : Graph → Trees → ℕ → Colour → Bool
misused G tree v colour =
    let l = tree colour v in
    if v == G.source then not (l == none) else (nat_le G.links l || not (touches G l v))

unfoldable pub parent_flaw : Graph → Trees → ℕ → Option Flaw
parent_flaw G tree v =
    option_or (when (misused G tree v Blue) (Some (Parent v Blue)))
    (when (misused G tree v Red) (Some (Parent v Red)))

unfoldable pub flaw_of : Graph → List ℕ → Option Flaw
flaw_of G s =
    if not (length s == 8 * G.nodes) then Some (Length (length s))
    else option_or (first G.nodes (record_flaw s)) (first G.nodes (parent_flaw G (tree_of s)))

abbrev pub number_of : Colour → ℕ
number_of Blue = 0
number_of Red = 1

abbrev pub answer_for : Flaw → Answer
answer_for (Length n) = answer 13 n 0
answer_for (Record r k) = answer 14 r k
answer_for (Parent v colour) = answer 15 v (number_of colour)

pub record Fitting (G : Graph) (tree : Trees) : Type 0 where
  pub source : (colour : Colour) → tree colour G.source ≡ none
  pub joins : (colour : Colour) (v : ℕ) → v < G.nodes → v ≢ G.source
      → Joins G (tree colour v) v (other G (tree colour v) v)
