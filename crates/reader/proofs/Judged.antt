-- A node record that neither 3 nor 4 refuses is judged by its role.
--     another         one node more, with a source
--     NodeGood        the code's tests for 3 and 4 are passed
--     node_judged     they are, by what the code's callees returned
--     node_plain, node_second, node_source     no source, a second source, the source
-- Assumes nothing.
use Rattle.std.proofs.Common.{◌≡◌, sym, ◌∙◌, List, ◌≢◌, ℕ, ◌+◌, ◌≤◌, ◌<◌, arith}
use Rattle.std.specs.Prelude.{Option, Some, None, Ok, Err}
use Rattle.std.proofs.lemmas.Bool.Decides.{nat_tests}
use Rattle.records.specs.Bytes.{role_of, number_of, bad_node}
use Rattle.reader.specs.declared.Tally.{Tally}
use Rattle.reader.specs.declared.Fault.TheVariants.{SecondSource}
use Rattle.reader.specs.Table.{refuse_if, refuse_at, place_of, node_of}

-- One node more, with a source.
abbrev pub another : Tally → Option ℕ → Tally
another h source = record { nodes = h.nodes + 1; links = h.links; source = source }

module _ (s : List ℕ) (h : Tally) where
  pub record NodeGood : Type 0 where
    pub none : h.links ≤ 0
    pub clean : bad_node s (place_of h) ≡ None
    pub number : number_of s (place_of h) ≡ place_of h
    pub room : place_of h < 256

  pub node_judged : {bad : Option ℕ} {number : ℕ} → h.links ≤ 0 → bad ≡ bad_node s (place_of h)
      → bad ≡ None → number ≡ number_of s (place_of h) → number ≡ place_of h → place_of h < 256
      → NodeGood
  node_judged none is clean held right room = record {
    none = none;
    clean = sym is ∙ clean;
    number = sym held ∙ right;
    room = room;
  }

  module _ (k : NodeGood) where
    pub node_plain : role_of s (place_of h) ≡ 0 → node_of s h ≡ Ok (another h h.source)
    unfolding node_of refuse_if refuse_at
    node_plain role = grind (arith, nat_tests)

    pub node_second : {first : ℕ} → role_of s (place_of h) ≢ 0 → h.source ≡ Some first
        → node_of s h ≡ Err (SecondSource (place_of h))
    unfolding node_of refuse_if refuse_at
    node_second role other = grind (arith, nat_tests)

    pub node_source : role_of s (place_of h) ≢ 0 → h.source ≡ None
        → node_of s h ≡ Ok (another h (Some (place_of h)))
    unfolding node_of refuse_if refuse_at
    node_source role none = grind (arith, nat_tests)
