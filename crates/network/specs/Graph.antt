-- A table as a graph, and its losses.
--     Graph                nodes, source, links, and the two ends near l and far l of link l
--     WellFormed G         the reader's promise: up to 256 nodes and 1,024 links, the source is a
--                          node, and the ends of a link are two nodes
--     near_end, far_end    the two ends of link l in a list of ends, two numbers a link
--     graph_of n s m ends  n nodes with source s and m links, whose ends are a list
--     Joins G l v w        link l joins v and w
--     touches G l v        v is an end of link l, computed
--     across a b v         of two ends a and b the other one, seen from the end v, computed
--     other G l v          the other end of link l, seen from its end v, computed
--     link_code l          the loss code of link l; that of node k is k
--     no_loss              the lowest code that names nothing in any table
--     IsLoss p G c         c is the code of a loss under protection p (0 node, else link)
-- Assumes nothing.
use Rattle.std.specs.Prelude.{◌≡◌, ◌≢◌, Bool, ◌||◌, List, ℕ, ◌+◌, ◌*◌, ◌≤◌, ◌<◌, ◌==◌, slice_index, if◌then◌else◌}

-- Nodes are the numbers below `nodes`, links those below `links`. Links may be parallel.
pub record Graph : Type 0 where
  pub nodes : ℕ
  pub source : ℕ
  pub links : ℕ
  pub near : ℕ → ℕ
  pub far : ℕ → ℕ

pub record WellFormed (G : Graph) : Type 0 where
  pub source_in : G.source < G.nodes
  pub few_nodes : G.nodes ≤ 256
  pub few_links : G.links ≤ 1024
  pub near_in : (l : ℕ) → l < G.links → G.near l < G.nodes
  pub far_in : (l : ℕ) → l < G.links → G.far l < G.nodes
  pub no_loop : (l : ℕ) → l < G.links → G.near l ≢ G.far l

abbrev pub near_end : List ℕ → ℕ → ℕ
near_end ends l = slice_index ends (2 * l)

abbrev pub far_end : List ℕ → ℕ → ℕ
far_end ends l = slice_index ends (2 * l + 1)

abbrev pub graph_of : (n s m : ℕ) → List ℕ → Graph
graph_of n s m ends = record {
  nodes = n;
  source = s;
  links = m;
  near = near_end ends;
  far = far_end ends;
}

pub data Joins (G : Graph) (l v w : ℕ) : Type 0 where
  forth : l < G.links → G.near l ≡ v → G.far l ≡ w → Joins G l v w
  back : l < G.links → G.near l ≡ w → G.far l ≡ v → Joins G l v w

unfoldable pub touches : Graph → ℕ → ℕ → Bool
touches G l v = G.near l == v || G.far l == v

abbrev pub across : (a b v : ℕ) → ℕ
across a b v = if a == v then b else a

unfoldable pub other : Graph → ℕ → ℕ → ℕ
other G l v = across (G.near l) (G.far l) v

abbrev pub link_code : ℕ → ℕ
link_code l = 256 + l

abbrev pub no_loss : ℕ
no_loss = 1280

-- Under link protection any one link; under node protection any one link or any one node but the
-- source.
pub data IsLoss (p : ℕ) (G : Graph) (c : ℕ) : Type 0 where
  link : (l : ℕ) → l < G.links → c ≡ link_code l → IsLoss p G c
  node : p ≡ 0 → c < G.nodes → c ≢ G.source → IsLoss p G c
