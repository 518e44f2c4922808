-- Laws of link ends.
--     length_ends            two numbers a link
--     ends_near, ends_far    the two ends of link l are those of its record
--     ends_near_more, ends_far_more     also with any list behind
--     ends_more              one link more: two stores
--     filled_fits            where the shape and both lists fit, the start is filled
--     length_filled          a buffer that is filled is as long as it was
--     fill_is                the part for the ends of a table that is read holds them
-- Assumes nothing.
use Rattle.std.proofs.Common.{◌≡◌, refl, ◌∙◌, true, List, [], ◌∷◌, ◌++◌, append_assoc, append-nil, ℕ, zero, suc, ◌+◌, ◌*◌, ◌≤◌, ◌<◌, not-suc-le-zero, add-one, arith, below_more, length, set, take, drop, get_or, length-append, length-drop, take_at, drop_at, drop-drop, get_or-append-add}
use Rattle.std.proofs.Math.Seq.{sets-eq}
use Rattle.std.proofs.lemmas.Bool.Decides.{nat_tests}
use Rattle.std.proofs.lemmas.Grind.{common_steps}
use Rattle.network.specs.Graph.{near_end, far_end}
use Rattle.records.specs.Bytes.{one_end, other_end}
use Rattle.reader.specs.declared.Shape.{Shape}
use Rattle.reader.specs.Ends.{ends_up_to, ends_of, fits, filled_of, Told}

module _ (s : List ℕ) (n : ℕ) where
  -- The two ends of link l.
  abbrev pair : ℕ → List ℕ
  pair l = one_end s (n + l) ∷ other_end s (n + l) ∷ []

  length_up_to : (m : ℕ) → length (ends_up_to s n m) ≡ 2 * m
  unfolding ends_up_to
  length_up_to zero = refl
  length_up_to (suc m) = simp (length-append, length_up_to m) (omega arith)

  pub ends_more : (old ends : List ℕ) (l : ℕ) → 2 * (l + 1) ≤ length old
      → ends ≡ ends_up_to s n l ++ drop (2 * l) old
      → set (set ends (2 * l) (one_end s (n + l))) (2 * l + 1) (other_end s (n + l))
      ≡ ends_up_to s n (l + 1) ++ drop (2 * (l + 1)) old
  unfolding ends_up_to
  ends_more old ends l room e =
      let size = length_up_to l in
      let first : 2 * l + 1 ≡ suc (2 * l) = omega arith in
      let next : 2 * l + 2 ≡ 2 * (l + 1) = omega arith in
      let fits : 2 * l + 2 ≤ length (ends_up_to s n l ++ drop (2 * l) old) =
      simp (length-append, length-drop) (omega arith) in
      let front = take_at (ends_up_to s n l) (drop (2 * l) old) (2 * l) size in
      let back = drop_at (ends_up_to s n l) (drop (2 * l) old) (2 * l) size in
      rw (e, first) (sets-eq (pair l) (ends_up_to s n l ++ drop (2 * l) old) (2 * l) fits
      ∙ rw (front, ← drop-drop, back, drop-drop, next, add-one, append_assoc) refl)

  last_at : (rest : List ℕ) (m k : ℕ)
      → get_or (ends_up_to s n m ++ (pair m ++ rest)) (2 * m + k) 0 ≡ get_or (pair m ++ rest) k 0
  last_at rest m k =
      let size = length_up_to m in
      rw (← size) (get_or-append-add (ends_up_to s n m) (pair m ++ rest) k 0)

  -- The ends of link l stand at 2 l and 2 l + 1.
  abbrev Stand : List ℕ → ℕ → Type 0
  Stand ends l =
      (get_or ends (2 * l + 0) 0 ≡ one_end s (n + l))
      × (get_or ends (2 * l + 1) 0 ≡ other_end s (n + l))

  ends_at : (rest : List ℕ) (m l : ℕ) → l < m → Stand (ends_up_to s n m ++ rest) l
  unfolding ends_up_to
  ends_at rest zero l b = absurd (not-suc-le-zero b)
  ends_at rest (suc m) l b =
      rw append_assoc
      (below_more (Stand (ends_up_to s n m ++ (pair m ++ rest))) m (ends_at (pair m ++ rest) m)
      (last_at rest m 0, last_at rest m 1) l (omega arith))

module _ (s : List ℕ) (h : Shape) where
  pub length_ends : length (ends_of s h) ≡ 2 * h.links
  unfolding ends_of
  length_ends = length_up_to s h.nodes h.links

  module _ (l : ℕ) (b : l < h.links) where
    pub ends_near_more : (rest : List ℕ) → near_end (ends_of s h ++ rest) l ≡ one_end s (h.nodes + l)
    unfolding ends_of
    ends_near_more rest =
        let e : 2 * l ≡ 2 * l + 0 = omega arith in
        rw e (ends_at s h.nodes rest h.links l b).0

    pub ends_far_more : (rest : List ℕ) → far_end (ends_of s h ++ rest) l ≡ other_end s (h.nodes + l)
    unfolding ends_of
    ends_far_more rest = (ends_at s h.nodes rest h.links l b).1

    pub ends_near : near_end (ends_of s h) l ≡ one_end s (h.nodes + l)
    ends_near = rw append-nil at (ends_near_more [])

    pub ends_far : far_end (ends_of s h) l ≡ other_end s (h.nodes + l)
    ends_far = rw append-nil at (ends_far_more [])

  -- What the tests of `fill` ask.
  fits_room : (old : List ℕ) → fits s h old ≡ true → 2 * h.links ≤ length old
  unfolding fits
  fits_room old t = grind (arith, nat_tests)

  pub filled_fits : (old : List ℕ) → h.nodes ≤ 256 → h.links ≤ 1024
      → 8 * (h.nodes + h.links) ≤ length s → 2 * h.links ≤ length old
      → filled_of s h old ≡ ends_of s h ++ drop (2 * h.links) old
  unfolding filled_of fits
  filled_fits old nodes links records room = grind (arith, nat_tests)

  pub length_filled : (old : List ℕ) → length (filled_of s h old) ≡ length old
  unfolding filled_of
  length_filled old = grind (arith, nat_tests, common_steps, length_ends, fits_room)

  pub fill_is : (old : List ℕ) → Told s h → 2 * h.links ≤ length old
      → take (2 * h.links) (filled_of s h old) ≡ ends_of s h
  fill_is old told room =
      let formed = told.graph.formed in
      let long = told.long in
      rw (filled_fits old formed.few_nodes formed.few_links (omega arith) room)
      (take_at (ends_of s h) (drop (2 * h.links) old) (2 * h.links) length_ends)
