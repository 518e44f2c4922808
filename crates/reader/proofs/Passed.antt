-- What a record that is not refused says.
--     NodePassed        a node record's promise: its number, its role, one node more
--     LinkPassed        a link record's promise: its ends are two nodes, one link more
--     node_passed, link_passed     both hold
--     record_passed     a record that is not refused is one of the two
--     next_place        and the next record comes next
-- Assumes nothing.
use Rattle.std.proofs.Common.{◌≡◌, List, ◌≢◌, ◌⊎◌, ℕ, ◌+◌, ◌≤◌, ◌<◌, arith}
use Rattle.std.specs.Prelude.{Some, None, Ok}
use Rattle.std.proofs.lemmas.Bool.Decides.{nat_tests}
use Rattle.network.proofs.Search.{was_not_got}
use Rattle.records.specs.Bytes.{role_of, one_end, other_end, bad_node}
use Rattle.reader.specs.declared.Tally.{Tally}
use Rattle.reader.specs.Table.{refuse_if, refuse_at, place_of, node_of, link_of, record_of}

-- A byte 1 that is no bad byte is a role.
good_role : (s : List ℕ) (r : ℕ) → bad_node s r ≡ None → role_of s r ≤ 1
unfolding bad_node
good_role s r good = grind (arith, nat_tests)

module _ (s : List ℕ) (h g : Tally) where
  -- No source, and the source so far stays; or the first source.
  abbrev Role : Type 0
  Role =
      ((role_of s (place_of h) ≡ 0) × (g.source ≡ h.source))
      ⊎ ((role_of s (place_of h) ≡ 1) × (h.source ≡ None) × (g.source ≡ Some (place_of h)))

  pub record NodePassed : Type 0 where
    pub first : h.links ≡ 0
    pub room : place_of h < 256
    pub more : g.nodes ≡ h.nodes + 1
    pub still : g.links ≡ h.links
    pub role : Role

  pub record LinkPassed : Type 0 where
    pub room : h.links < 1024
    pub near : one_end s (place_of h) < h.nodes
    pub far : other_end s (place_of h) < h.nodes
    pub apart : one_end s (place_of h) ≢ other_end s (place_of h)
    pub more : g.links ≡ h.links + 1
    pub still : g.nodes ≡ h.nodes
    pub source : g.source ≡ h.source

module _ (s : List ℕ) (h g : Tally) where
  pub node_passed : node_of s h ≡ Ok g → NodePassed s h g
  unfolding node_of refuse_if refuse_at
  node_passed e = record {
    first = grind (arith, nat_tests);
    room = grind (arith, nat_tests);
    more = grind (arith, nat_tests);
    still = grind (arith, nat_tests);
    role = grind (arith, nat_tests, good_role, was_not_got);
  }

  pub link_passed : link_of s h ≡ Ok g → LinkPassed s h g
  unfolding link_of refuse_if refuse_at
  link_passed e = record {
    room = grind (arith, nat_tests);
    near = grind (arith, nat_tests);
    far = grind (arith, nat_tests);
    apart = grind (arith, nat_tests);
    more = grind (arith, nat_tests);
    still = grind (arith, nat_tests);
    source = grind (arith, nat_tests);
  }

  pub record_passed : record_of s h ≡ Ok g → NodePassed s h g ⊎ LinkPassed s h g
  unfolding record_of
  record_passed e = grind (arith, nat_tests, node_passed, link_passed)

  pub next_place : record_of s h ≡ Ok g → place_of g ≡ place_of h + 1
  next_place e = grind (arith, record_passed)
