-- A table that is read, as a graph.
--     ends_up_to s n m     the ends of the first m links of a table of n nodes, two numbers a link
--     ends_of s h          the ends of all its links
--     fits s h old         a shape as a table has it, with its records in s and its ends in old
--     filled_of s h old    what a buffer holds after its start was filled with the ends
--     graph_in h ends      the graph of a shape and a list of ends
--     table_graph s h      the graph of a table that was read
--     Filled h ends        what the cores ask of a list of ends: room, and a well-formed graph
--     Told s h             what a table says when it is read: its length, and each record's role
-- Assumes nothing.
use Rattle.std.specs.Prelude.{◌≡◌, ◌≢◌, Bool, ◌&&◌, List, [], ◌∷◌, ◌++◌, ℕ, zero, suc, ◌+◌, ◌*◌, ◌≤◌, ◌<◌, length, drop, nat_le, if◌then◌else◌}
use Rattle.network.specs.Graph.{Graph, WellFormed, graph_of}
use Rattle.records.specs.Bytes.{role_of, one_end, other_end}
use Rattle.reader.specs.declared.Shape.{Shape}

unfoldable pub ends_up_to : List ℕ → (n m : ℕ) → List ℕ
ends_up_to s n zero = []
ends_up_to s n (suc m) = ends_up_to s n m ++ (one_end s (n + m) ∷ other_end s (n + m) ∷ [])

unfoldable pub ends_of : List ℕ → Shape → List ℕ
ends_of s h = ends_up_to s h.nodes h.links

unfoldable pub fits : List ℕ → Shape → List ℕ → Bool
fits s h old =
    nat_le h.nodes 256 && (nat_le h.links 1024
    && (nat_le (8 * (h.nodes + h.links)) (length s) && nat_le (2 * h.links) (length old)))

unfoldable pub filled_of : List ℕ → Shape → List ℕ → List ℕ
filled_of s h old = if fits s h old then ends_of s h ++ drop (2 * h.links) old else old

abbrev pub graph_in : Shape → List ℕ → Graph
graph_in h ends = graph_of h.nodes h.source h.links ends

abbrev pub table_graph : List ℕ → Shape → Graph
table_graph s h = graph_in h (ends_of s h)

pub record Filled (h : Shape) (ends : List ℕ) : Type 0 where
  pub formed : WellFormed (graph_in h ends)
  pub room : 2 * h.links ≤ length ends

pub record Told (s : List ℕ) (h : Shape) : Type 0 where
  pub long : length s ≡ 8 * (h.nodes + h.links)
  pub graph : Filled h (ends_of s h)
  pub source : role_of s h.source ≡ 1
  pub others : (v : ℕ) → v < h.nodes → v ≢ h.source → role_of s v ≡ 0
