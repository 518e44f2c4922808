-- Trees and their chains.
--     colour_of k               the colour that a number stands for: 0 blue, else red
--     Trees                     tree colour v is v's parent link in that colour
--     trees_of b r              the trees whose blue and red parent links are two lists
--     Chain G tree colour v a   v's chain reaches the source, and a are its codes
--     a names c                 the chain with codes a has the part with code c
--     evens a                   what stands at a's even places: a chain's nodes
--     Reaches G tree colour v   v's chain reaches the source
--     Pair G tree               every node's blue chain and red chain reach the source
--     walk G tree colour k v    v's chain as far as k hops go, computed
--     chain_of G tree colour v  v's chain, computed: no chain needs more hops than nodes
-- Assumes nothing.
use Rattle.std.specs.Prelude.{◌≡◌, ◌≢◌, List, [], ◌∷◌, ℕ, zero, suc, ◌<◌, ◌==◌, slice_index, if◌then◌else◌}
use Rattle.network.specs.declared.Colour.{Colour}
use Rattle.network.specs.declared.Colour.TheVariants.{Blue, Red}
use Rattle.network.specs.Set.{◌∈◌}
use Rattle.network.specs.Graph.{Graph, Joins, other, link_code}

abbrev pub colour_of : ℕ → Colour
colour_of zero = Blue
colour_of (suc k) = Red

-- (What a tree gives the source is never read.)
abbrev pub Trees : Type 0
Trees = Colour → ℕ → ℕ

abbrev pub trees_of : List ℕ → List ℕ → Trees
trees_of b r Blue v = slice_index b v
trees_of b r Red v = slice_index r v

infix 4 ◌names◌
abbrev pub ◌names◌ : List ℕ → ℕ → Type 0
a names c = c ∈ a

abbrev pub evens : List ℕ → List ℕ
evens [] = []
evens (x ∷ []) = x ∷ []
evens (x ∷ y ∷ a) = x ∷ evens a

module _ (G : Graph) (tree : Trees) (colour : Colour) where
  -- v, its parent link, the parent (the link's other end), .. the source; a link by its code.
  pub data Chain : ℕ → List ℕ → Type 0 where
    home : {v : ℕ} → v ≡ G.source → Chain v (v ∷ [])
    hop : {v w : ℕ} {a : List ℕ} → v ≢ G.source → Joins G (tree colour v) v w → Chain w a
        → Chain v (v ∷ link_code (tree colour v) ∷ a)

  abbrev pub Reaches : ℕ → Type 0
  Reaches v = (a : List ℕ) × Chain v a

  unfoldable pub walk : ℕ → ℕ → List ℕ
  walk zero v = v ∷ []
  walk (suc hops) v =
      let l = tree colour v in
      let rest = walk hops (other G l v) in
      if v == G.source then v ∷ [] else v ∷ link_code l ∷ rest

  unfoldable pub chain_of : ℕ → List ℕ
  chain_of v = walk G.nodes v

unfoldable pub Pair : Graph → Trees → Type 0
Pair G tree = (colour : Colour) (v : ℕ) → v < G.nodes → Reaches G tree colour v
