-- What holds of every tally that records were read into.
--     Linked s n l     link l of a table of n nodes has two nodes as ends
--     Plain s source v node v is the source or has the role 0
--     Sound s h        of a tally: few nodes and links, each link's ends, each node's role
--     sound_start      it holds at the start
--     sound_record     and after every record that is not refused
--     whole g          the tally of a table of shape g
--     Ended s n h g    of the shape g after n more records from h, and the end
--     sound_ended      it holds where nothing is refused
-- Assumes nothing.
use Rattle.std.proofs.Common.{◌≡◌, refl, sym, ap, subst, ◌∙◌, List, ◌≢◌, ⊎_elim, ℕ, zero, suc, ◌+◌, ◌≤◌, ◌<◌, not-suc-le-zero, arith, below_more}
use Rattle.std.specs.Prelude.{Option, Some, None, Result, Ok, Err}
use Rattle.records.specs.Bytes.{role_of, one_end, other_end}
use Rattle.reader.specs.declared.Shape.{Shape}
use Rattle.reader.specs.declared.Tally.{Tally}
use Rattle.reader.specs.declared.Fault.{Fault}
use Rattle.reader.specs.Table.{place_of, record_of, end_of, onward, go_on, start}
use Rattle.reader.proofs.Passed.{NodePassed, LinkPassed, record_passed, next_place}

pub record Linked (s : List ℕ) (n l : ℕ) : Type 0 where
  pub near : one_end s (n + l) < n
  pub far : other_end s (n + l) < n
  pub apart : one_end s (n + l) ≢ other_end s (n + l)

-- A node that has no role but, it may be, the source's.
abbrev pub Plain : List ℕ → Option ℕ → ℕ → Type 0
Plain s source v = source ≢ Some v → role_of s v ≡ 0

pub record Sound (s : List ℕ) (h : Tally) : Type 0 where
  pub few : h.nodes ≤ 256
  pub most : h.links ≤ 1024
  -- a source is a node with its role
  pub source : (v : ℕ) → h.source ≡ Some v → (v < h.nodes) × (role_of s v ≡ 1)
  pub others : (v : ℕ) → v < h.nodes → Plain s h.source v
  pub links : (l : ℕ) → l < h.links → Linked s h.nodes l

pub sound_start : (s : List ℕ) → Sound s start
sound_start s = record {
  few = omega arith;
  most = omega arith;
  source = λ v e. absurd (cc);
  others = λ v b. absurd (not-suc-le-zero b);
  links = λ l b. absurd (not-suc-le-zero b);
}

module _ (s : List ℕ) (h g : Tally) (k : Sound s h) where
  no_links : NodePassed s h g → (l : ℕ) → l < g.links → Linked s g.nodes l
  no_links p l b =
      absurd (not-suc-le-zero {n = l} (omega arith))

  -- A node that is not the source.
  sound_plain : NodePassed s h g → role_of s (place_of h) ≡ 0 → g.source ≡ h.source → Sound s g
  sound_plain p zero-role same =
      let here : place_of h ≡ h.nodes = omega arith in
      record {
        few = omega arith;
        most = omega arith;
        source = λ v e.
            let w = k.source v (sym same ∙ e) in (omega arith, w.1);
        others = rw (p.more, same)
            (below_more (Plain s h.source) h.nodes k.others (λ _. rw here at zero-role));
        links = no_links p;
      }

  -- The source.
  sound_source : NodePassed s h g → role_of s (place_of h) ≡ 1 → h.source ≡ None
      → g.source ≡ Some (place_of h) → Sound s g
  sound_source p one-role none here =
      let last : place_of h ≡ h.nodes = omega arith in
      let before : (v : ℕ) → v < h.nodes → Plain s (Some h.nodes) v =
      λ v l _. k.others v l (λ e. absurd (cc)) in
      record {
        few = omega arith;
        most = omega arith;
        source = λ v e.
            let q : place_of h ≡ v = cc in (omega arith, rw q at one-role);
        others = rw (p.more, here, last)
            (below_more (Plain s (Some h.nodes)) h.nodes before (λ n. absurd (n refl)));
        links = no_links p;
      }

  sound_link : LinkPassed s h g → Sound s g
  sound_link p = record {
    few = omega arith;
    most = omega arith;
    source = rw (p.source, p.still) k.source;
    others = rw (p.source, p.still) k.others;
    links = rw (p.still, p.more)
        (below_more (Linked s h.nodes) h.links k.links
        (record { near = p.near; far = p.far; apart = p.apart }));
  }

  pub sound_record : record_of s h ≡ Ok g → Sound s g
  sound_record e =
      ⊎_elim
      (λ (p : NodePassed s h g).
      ⊎_elim (λ w. sound_plain p w.0 w.1) (λ w. sound_source p w.0 w.1 w.2)
      p.role)
      (λ (p : LinkPassed s h g). sound_link p) (record_passed s h g e)

abbrev pub whole : Shape → Tally
whole g = record { nodes = g.nodes; links = g.links; source = Some g.source }

pub record Ended (s : List ℕ) (n : ℕ) (h : Tally) (g : Shape) : Type 0 where
  pub sound : Sound s (whole g)
  pub place : place_of (whole g) ≡ place_of h + n

end_whole : (n l : ℕ) (source : Option ℕ) (g : Shape)
    → end_of (record { nodes = n; links = l; source = source }) ≡ Ok g
    → ◌≡◌ {A = Tally} (record { nodes = n; links = l; source = source }) (whole g)
unfolding end_of
end_whole n l (Some v) g e = cc
end_whole n l None g e = cc

-- One record, and what the rest gives from each tally.
next : (s : List ℕ) (n : ℕ) (h : Tally) (g : Shape) → Sound s h
    → ((f : Tally) → Sound s f → go_on s n f ≡ Ok g → Ended s n f g)
    → (r : Result Tally Fault) → record_of s h ≡ r → onward r (go_on s n) ≡ Ok g
    → Ended s (suc n) h g
next s n h g k rest (Ok f) q e =
    let z = rest f (sound_record s h f k q) e in
    let p = next_place s h f q in
    record { sound = z.sound; place = omega arith }
next s n h g k rest (Err a) q e = absurd (cc)

pub sound_ended : (s : List ℕ) (n : ℕ) (h : Tally) (g : Shape) → Sound s h → go_on s n h ≡ Ok g
    → Ended s n h g
unfolding go_on
sound_ended s zero h g k e =
    let q : h ≡ whole g = end_whole h.nodes h.links h.source g e in
    record {
      sound = subst (Sound s) q k;
      place = (let z = ap place_of q in omega arith);
    }
sound_ended s (suc n) h g k e = next s n h g k (λ f. sound_ended s n f g) (record_of s h) refl e
