-- A table that is read is what document 01 asks of one.
--     reading_told     its length, its graph, its source and the other nodes' roles
-- Assumes nothing.
use Rattle.std.proofs.Common.{◌≡◌, refl, List, ℕ, ◌/◌, ◌%◌, arith, length}
use Rattle.std.specs.Prelude.{Ok}
use Rattle.std.proofs.lemmas.Bool.Decides.{nat_tests}
use Rattle.network.specs.Graph.{WellFormed}
use Rattle.reader.specs.declared.Shape.{Shape}
use Rattle.reader.specs.Table.{refuse_if, go_on, start, read_of}
use Rattle.reader.specs.Ends.{ends_of, graph_in, Told}
use Rattle.reader.proofs.Sound.{Sound, whole, Ended, sound_start, sound_ended}
use Rattle.reader.proofs.Ends.{length_ends, ends_near, ends_far}

module _ (s : List ℕ) (h : Shape) where
  -- A sound tally with a source is a graph.
  sound_graph : Sound s (whole h) → WellFormed (graph_in h (ends_of s h))
  sound_graph k = record {
    source_in = (k.source h.source refl).0;
    few_nodes = k.few;
    few_links = k.most;
    near_in = λ l b. rw (ends_near s h l b) (k.links l b).near;
    far_in = λ l b. rw (ends_far s h l b) (k.links l b).far;
    no_loop = λ l b. rw (ends_near s h l b, ends_far s h l b) (k.links l b).apart;
  }

  ended_told : Ended s (length s / 8) start h → length s % 8 ≡ 0 → Told s h
  ended_told z exact =
      let k = z.sound in
      let room = length_ends s h in
      record {
        long = omega arith;
        graph = record { formed = sound_graph k; room = omega arith };
        source = (k.source h.source refl).1;
        others = λ v b n. k.others v b (λ e. n (cc));
      }

  pub reading_told : read_of s ≡ Ok h → Told s h
  unfolding read_of refuse_if
  reading_told e =
      let goes : go_on s (length s / 8) start ≡ Ok h = grind (arith, nat_tests) in
      ended_told (sound_ended s (length s / 8) start h (sound_start s) goes) (grind (arith, nat_tests))
