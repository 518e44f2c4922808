-- The laws of marking.
--     gain_as                      the test by which a program finds what is gained
--     gain_new                     what is gained by a link is a node, and new
--     turn_in, turn_all            up or down, it comes by each number below m, and by no other
--     passed_none, passed_still, passed_more, passed_end
--                                  a pass, link by link: at its start, by a link along which the
--                                  set may not grow, by one along which it does, and at its end
--     Marked G c ws                the set holds the source, and each of its nodes has a way
--     marked_one                   so does the source alone, at the start
--     marked_more                  and the set after a pass by which it grew
--     reached_all                  where a pass adds nothing, the set is who has a way
--     NoOther                      the set lacks no node but c
--     reached_full                 then too it is who has a way
-- Assumes nothing.
use Rattle.std.proofs.Common.{Bool, true, false, not, ◌&&◌, ◌||◌, cond, true≢false, ◌≡◌, refl, sym, ap, ◌∙◌, List, ℕ, ◌+◌, ◌-◌, ◌<◌, ◌≤◌, arith, eqb, ltb, below_none, below_more, eqb-true, eq-eqb, ne_eqb, lt-ltb}
use Rattle.std.proofs.Math.Bool.{xor, beq, or-true}
use Rattle.std.proofs.lemmas.Bool.{and_parts}
use Rattle.std.specs.Prelude.{Option, Some, None, unwrap_or}
use Rattle.network.specs.Search.{when}
use Rattle.network.specs.Set.{add}
use Rattle.network.specs.Graph.{Graph, WellFormed, link_code}
use Rattle.network.specs.Way.{Way, here, step, crosses, out_end, opens, has_way}
use Rattle.network.proofs.Tests.{test}
use Rattle.network.proofs.Search.{when_got, when_nothing}
use Rattle.network.proofs.Graph.{joins_sym, joins_in}
use Rattle.network.proofs.Way.{way_in, crossing, founded_more, closed_is, has_way_is}
use Rattle.nodeset.specs.declared.NodeSet.{NodeSet}
use Rattle.nodeset.specs.Set.{has, size}
use Rattle.nodeset.proofs.Size.{size_put}
use Rattle.cuts.specs.Reached.{gain, turn, Passed, still, grown}

-- What a program has read and tested of link l: a and b are its ends, x and y whether they are
-- in.
pub gain_as : (G : Graph) (c : ℕ) (R : ℕ → Bool) (l : ℕ) {a b : ℕ} {x y : Bool}
    → a ≡ G.near l → b ≡ G.far l → x ≡ R a → y ≡ R b
    → gain G c R l
    ≡ when (not (beq x y) && (not (eqb c (link_code l)) && not (eqb c (cond x b a))))
    (Some (cond x b a))
unfolding gain opens crosses out_end xor
gain_as G c R l q r f g = rw (f, g, q, r)

module _ (G : Graph) (ok : WellFormed G) (c : ℕ) (R : ℕ → Bool) (l : ℕ) (b : l < G.links) where
  open_cross : opens G c R l ≡ true → crosses G R l ≡ true
  unfolding opens
  open_cross o = (and_parts (crosses G R l) _ o).0

  -- The node at the other end is new, and is a node.
  open_new : opens G c R l ≡ true → (out_end G R l < 256) × (R (out_end G R l) ≡ false)
  open_new o =
      let x = crossing G R l b (open_cross o) in
      (omega (arith, joins_in ok (joins_sym x.over), ok.few_nodes), x.out)

  gain_open : {v : ℕ} → gain G c R l ≡ Some v → (opens G c R l ≡ true) × (out_end G R l ≡ v)
  unfolding gain
  gain_open e =
      let (t, q) = when_got (opens G c R l) (Some (out_end G R l)) _ e in
      (t, cc)

  gain_shut : gain G c R l ≡ None → opens G c R l ≡ false
  unfolding gain
  gain_shut e = when_nothing (opens G c R l) (out_end G R l) e

  pub gain_new : {v : ℕ} → gain G c R l ≡ Some v → (v < 256) × (R v ≡ false)
  gain_new e =
      let (o, q) = gain_open e in
      rw q at (open_new o)

pub turn_in : (up : Bool) (m i : ℕ) → i < m → turn up m i < m
turn_in true m i h = h
turn_in false m i h = omega arith

pub turn_all : (up : Bool) (m : ℕ) (P : ℕ → Type 0) → ((i : ℕ) → i < m → P (turn up m i)) → (l : ℕ)
    → l < m → P l
turn_all true m P all l h = all l h
turn_all false m P all l h =
    let q : m - 1 - (m - 1 - l) ≡ l = omega arith in
    rw q at (all (m - 1 - l) (omega arith))

pub passed_none : {G : Graph} {c : ℕ} {up : Bool} {ws : List ℕ} → Passed G c up ws 0 None
passed_none = still (below_none _)

-- By link i of the pass over s, which has left o so far.
module _ {G : Graph} {c : ℕ} {up : Bool} {s : NodeSet} {i : ℕ} (ok : WellFormed G)
    (b : i < G.links) where
  pub passed_still : {o : Option NodeSet} → Passed G c up s.words i o
      → gain G c (has (unwrap_or o s).words) (turn up G.links i) ≡ None
      → Passed G c up s.words (i + 1) o
  passed_still (still all) e =
      still (below_more _ i all (gain_shut G ok c (has s.words) _ (turn_in up _ i b) e))
  passed_still (grown kept founded less) e = grown kept founded less

  -- One node more than vs has, which are no fewer than those of s.
  one_more : (vs : List ℕ) → (has s.words G.source ≡ true → has vs G.source ≡ true)
      → (((v : ℕ) → has s.words v ≡ true → Way G c v) → (v : ℕ) → has vs v ≡ true → Way G c v)
      → size s.words ≤ size vs
      → {v : ℕ} → gain G c (has vs) (turn up G.links i) ≡ Some v
      → {t : NodeSet} → ((j : ℕ) → has t.words j ≡ (eqb j v || has vs j))
      → Passed G c up s.words (i + 1) (Some t)
  unfolding add
  one_more vs kept founded least {v} e {t} new =
      let lt = turn_in up _ i b in
      let (o, q) = gain_open G ok c (has vs) _ lt e in
      let (small, out) = gain_new G ok c (has vs) _ lt e in
      grown (λ h. new G.source ∙ rw (kept h) (or-true (eqb G.source v)))
      (λ all u h. founded_more G c (has vs) _ lt o (founded all) u (rw q (sym (new u) ∙ h)))
      (omega (arith, least, size_put vs t.words v small out new))

  pub passed_more : {o : Option NodeSet} → Passed G c up s.words i o
      → {v : ℕ} → gain G c (has (unwrap_or o s).words) (turn up G.links i) ≡ Some v
      → {t : NodeSet} → ((j : ℕ) → has t.words j ≡ (eqb j v || has (unwrap_or o s).words j))
      → Passed G c up s.words (i + 1) (Some t)
  passed_more (still all) e new = one_more s.words (λ h. h) (λ all. all) (omega arith) e new
  passed_more (grown {s = u} kept founded less) e new =
      one_more u.words kept founded (omega arith) e new

-- t is the set that the pass leaves: it is s still, or it grew.
pub passed_end : {G : Graph} {c : ℕ} {up : Bool} {s t : NodeSet} {k : ℕ} {o : Option NodeSet}
    → Passed G c up s.words k o
    → t ≡ unwrap_or o s
    → (t.words ≡ s.words → Passed G c up s.words k None)
    × (¬ (t.words ≡ s.words) → Passed G c up s.words k (Some t))
passed_end (still all) e = (λ _. still all, λ n. absurd (n (ap (λ (x : NodeSet). x.words) e)))
passed_end (grown kept founded less) e = (
  λ q. let same = sym (ap (λ (x : NodeSet). x.words) e) ∙ q in
      absurd (omega (arith, rw same at less)),
  λ _. rw e (grown kept founded less),
)

-- The set holds the source, and each of its nodes has a way.
abbrev pub Marked : Graph → ℕ → List ℕ → Type 0
Marked G c ws = (has ws G.source ≡ true) × ((v : ℕ) → has ws v ≡ true → Way G c v)

pub marked_one : (G : Graph) (c : ℕ) (none ws : List ℕ) → ((v : ℕ) → has none v ≡ false)
    → ((v : ℕ) → has ws v ≡ eqb v G.source || has none v) → Marked G c ws
marked_one G c none ws off on = (
  on G.source ∙ rw (eq-eqb G.source G.source refl),
  λ v h. test (eqb v G.source)
      (λ t. rw (eqb-true v G.source t) here)
      (λ f. absurd (true≢false (sym h ∙ on v ∙ rw (f, off v)))),
)

module _ {G : Graph} {c : ℕ} {up : Bool} {ws : List ℕ} (m : Marked G c ws) where
  pub marked_more : {t : NodeSet} → Passed G c up ws G.links (Some t)
      → Marked G c t.words × (size ws < size t.words)
  marked_more (grown kept founded less) = ((kept m.0, founded m.1), less)

  pub reached_all : WellFormed G → Passed G c up ws G.links None → (v : ℕ)
      → has ws v ≡ has_way G c v
  reached_all ok (still all) =
      closed_is G c ok (has ws) m.0 m.1 (turn_all up G.links (λ l. opens G c (has ws) l ≡ false) all)

module _ (G : Graph) (c : ℕ) (R : ℕ → Bool) (ok : WellFormed G) (s : R G.source ≡ true) where
  abbrev pub NoOther : Type 0
  NoOther = (v : ℕ) → v < G.nodes → (ltb v G.nodes && (not (eqb v c) && not (R v))) ≡ false

  full_all : NoOther → {v : ℕ} → Way G c v → R v ≡ true
  full_all none here = s
  full_all none {v} (step l j n k w) =
      let lt = way_in ok (step l j n k w) in
      test (R v)
      (λ t. t)
      (λ f.
      let q = lt-ltb v G.nodes lt in
      absurd (true≢false (rw (q, ne_eqb v c (λ e. n (sym e)), f) at (none v lt))))

  pub reached_full : NoOther → ((v : ℕ) → R v ≡ true → Way G c v) → (v : ℕ) → R v ≡ has_way G c v
  reached_full none all v =
      test (R v)
      (λ t. t ∙ sym ((has_way_is G c ok v).1 (all v t)))
      (λ f. test (has_way G c v)
      (λ t. absurd (true≢false (sym (full_all none ((has_way_is G c ok v).0 t)) ∙ f)))
      (λ e. f ∙ sym e))
