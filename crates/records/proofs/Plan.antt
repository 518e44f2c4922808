-- Laws of plans.
--     length_record     a record has 8 bytes
--     length_plan       a plan of n nodes has n records
--     store_more        one store more of a run
--     record_put        a copy into the middle of a list is a run of stores
--     plan_more         one record more
--     plan_at           what stands at offset k of v's record
--     plan_read         what is written is read back: a parent link, and
--     plan_good         that v's record has its kind, its zero and its number
--     plan_agree        trees that agree below n have the same plan
--     entry_put         putting a record leaves the other nodes' parent links
--     entry_put_here    and its own parent links are what was put
-- Assumes nothing.
use Rattle.std.proofs.Common.{◌≡◌, refl, sym, subst, ◌∙◌, ◌≢◌, ◌⊎◌, ⊎_elim, inl, inr, List, [], ◌∷◌, ◌++◌, append_assoc, add-zero, ℕ, zero, suc, ◌+◌, ◌*◌, ◌≤◌, ◌<◌, le_of_suc-le-suc, not-suc-le-zero, eq-or-lt_of_le, add-one, arith, ltb-true, ltb-false, eq-eqb, ltb, length, take, drop, set, get_or, length-append, length-drop, length-take-le, take_at, drop_at, drop-drop, get_or-append-add}
use Rattle.std.proofs.Math.ListN.{get_or-append}
use Rattle.std.proofs.Math.Seq.{sets, sets-eq}
use Rattle.std.specs.Prelude.{None}
use Rattle.network.specs.declared.Colour.{Colour}
use Rattle.network.specs.declared.Colour.TheVariants.{Blue, Red}
use Rattle.network.specs.Chain.{Trees}
use Rattle.network.proofs.Tests.{test}
use Rattle.records.specs.Bytes.{two_of}
use Rattle.records.specs.Plan.{size_of, offset_of, entry_of, bad_plan, record_of, plan_bytes}
use Rattle.records.proofs.Bytes.{two_at, get_or-sets}

pub length_record : (kind v b r : ℕ) → length (record_of kind v b r) ≡ size_of kind
unfolding record_of
length_record kind v b r = refl

pub length_plan : (kind n : ℕ) (tree : Trees) → length (plan_bytes kind n tree) ≡ size_of kind * n
unfolding plan_bytes
length_plan kind zero tree = refl
length_plan kind (suc n) tree =
    simp (length-append, length_plan kind n tree, length_record) (omega arith)

small : (colour : Colour) → offset_of colour < 7
small Blue = omega arith
small Red = omega arith

-- A run of stores, one after the other.
pub store_more : (s bytes : List ℕ) (at k : ℕ) → k < length bytes
    → set (sets s at (take k bytes)) (at + k) (get_or bytes k 0) ≡ sets s at (take (k + 1) bytes)
store_more s [] at k h = absurd (not-suc-le-zero h)
store_more s (b ∷ bytes) at zero h = rw add-zero refl
store_more s (b ∷ bytes) at (suc k) h =
    let e : at + suc k ≡ suc at + k = omega arith in
    let f : suc k + 1 ≡ suc (k + 1) = omega arith in
    rw (e, f) (store_more (set s at b) bytes (suc at) k (le_of_suc-le-suc h))

-- A run of stores, as a copy into the middle of a list leaves it.
pub record_put : (s bytes : List ℕ) (at k : ℕ) → length bytes ≡ k → at + k ≤ length s
    → take at s ++ (bytes ++ drop k (drop at s)) ≡ sets s at bytes
record_put s bytes at k long fits =
    rw (drop-drop, ← long) (sym (sets-eq bytes s at (omega arith) ∙ append_assoc (take at s) bytes _))

module _ (kind : ℕ) (tree : Trees) where
  -- The bytes of v's record.
  abbrev bytes : ℕ → List ℕ
  bytes v = record_of kind v (tree Blue v) (tree Red v)

  pub plan_more : (plan₀ plan : List ℕ) (v : ℕ) → 8 * (v + 1) ≤ length plan₀
      → plan ≡ plan_bytes kind v tree ++ drop (8 * v) plan₀
      → sets plan (8 * v) (bytes v) ≡ plan_bytes kind (v + 1) tree ++ drop (8 * (v + 1)) plan₀
  unfolding plan_bytes
  plan_more plan₀ plan v room e =
      let size = length_plan kind v tree in
      let long : length (bytes v) ≡ 8 = length_record _ _ _ _ in
      let next : 8 * v + 8 ≡ 8 * (v + 1) = omega arith in
      let fits : 8 * v + length (bytes v) ≤ length (plan_bytes kind v tree ++ drop (8 * v) plan₀) =
      simp (length-append, length-drop) (omega arith) in
      let front = take_at (plan_bytes kind v tree) (drop (8 * v) plan₀) (8 * v) size in
      let back = drop_at (plan_bytes kind v tree) (drop (8 * v) plan₀) (8 * v) size in
      rw e (sets-eq (bytes v) (plan_bytes kind v tree ++ drop (8 * v) plan₀) (8 * v) fits
      ∙ rw (front, long, ← drop-drop, back, drop-drop, next, add-one, append_assoc) refl)

  -- What stands in n's record, behind what stands before it.
  mid_at : (front rest : List ℕ) (n k : ℕ) → length front ≡ 8 * n → k < 8
      → get_or (front ++ (bytes n ++ rest)) (8 * n + k) 0 ≡ get_or (bytes n) k 0
  mid_at front rest n k size l =
      let long : length (bytes n) ≡ 8 = length_record _ _ _ _ in
      let inside : k < length (bytes n) = omega arith in
      rw (← size) (get_or-append-add front (bytes n ++ rest) k 0)
      ∙ get_or-append (bytes n) rest 0 k inside

  last_at : (rest : List ℕ) (n k : ℕ) → k < 8
      → get_or (plan_bytes kind n tree ++ (bytes n ++ rest)) (8 * n + k) 0 ≡ get_or (bytes n) k 0
  last_at rest n k l = mid_at (plan_bytes kind n tree) rest n k (length_plan kind n tree) l

  put_at : (s : List ℕ) (v k : ℕ) → 8 * v + 8 ≤ length s → k < 8
      → get_or (sets s (8 * v) (bytes v)) (8 * v + k) 0 ≡ get_or (bytes v) k 0
  put_at s v k room l =
      let long : length (bytes v) ≡ 8 = length_record _ _ _ _ in
      rw (sets-eq (bytes v) s (8 * v) (omega arith), append_assoc)
      (mid_at (take (8 * v) s) (drop (8 * v + length (bytes v)) s) v k
      (length-take-le (8 * v) s (omega arith)) l)

  pub plan_at : (rest : List ℕ) (n v k : ℕ) → v < n → k < 8
      → get_or (plan_bytes kind n tree ++ rest) (8 * v + k) 0 ≡ get_or (bytes v) k 0
  unfolding plan_bytes
  plan_at rest zero v k l b = absurd (not-suc-le-zero l)
  plan_at rest (suc n) v k l b =
      rw append_assoc
      (⊎_elim
      (λ (q : v ≡ n).
      subst
      (λ (m : ℕ).
      get_or (plan_bytes kind n tree ++ (bytes n ++ rest)) (8 * m + k) 0 ≡ get_or (bytes m) k 0)
      (sym q) (last_at rest n k b))
      (λ (h : v < n). plan_at (bytes n ++ rest) n v k h b)
      (eq-or-lt_of_le (le_of_suc-le-suc l)))

  two_of_plan : (rest : List ℕ) (n v k : ℕ) → v < n → k < 7
      → two_of (plan_bytes kind n tree ++ rest) (8 * v + k) ≡ two_of (bytes v) k
  two_of_plan rest n v k l b =
      let e : 8 * v + k + 1 ≡ 8 * v + (k + 1) = omega arith in
      two_at _ (bytes v) (8 * v + k) k (plan_at rest n v k l (omega arith))
      (rw e (plan_at rest n v (k + 1) l (omega arith)))

  own : (v : ℕ) (colour : Colour) → two_of (bytes v) (offset_of colour) ≡ tree colour v
  unfolding two_of record_of
  own v Blue = omega arith
  own v Red = omega arith

  numbered : (v : ℕ) → two_of (bytes v) 2 ≡ v
  unfolding two_of record_of
  numbered v = omega arith

  module _ (rest : List ℕ) (n v : ℕ) (l : v < n) where
    pub plan_read : (colour : Colour)
        → entry_of kind (plan_bytes kind n tree ++ rest) v colour ≡ tree colour v
    unfolding entry_of
    plan_read colour = two_of_plan rest n v (offset_of colour) l (small colour) ∙ own v colour

    pub plan_good : bad_plan kind (plan_bytes kind n tree ++ rest) v ≡ None
    unfolding bad_plan record_of
    plan_good =
        let first : 8 * v ≡ 8 * v + 0 = omega arith in
        let kind_is : get_or (plan_bytes kind n tree ++ rest) (8 * v) 0 ≡ kind =
        rw first (plan_at rest n v 0 l (omega arith)) in
        let zero_is = plan_at rest n v 1 l (omega arith) in
        let number_is = two_of_plan rest n v 2 l (omega arith) ∙ numbered v in
        simp (eq-eqb _ kind kind_is, eq-eqb _ 0 zero_is, eq-eqb _ v number_is)

-- Of the node itself the record that was put is read.
pub entry_put_here : (kind v : ℕ) (tree : Trees) (s : List ℕ) (colour : Colour)
    → size_of kind * v + size_of kind ≤ length s
    → entry_of kind (sets s (size_of kind * v) (record_of kind v (tree Blue v) (tree Red v))) v colour
    ≡ tree colour v
unfolding entry_of
entry_put_here kind v tree s colour room =
    let k = offset_of colour in
    let b = small colour in
    let next : 8 * v + k + 1 ≡ 8 * v + (k + 1) = omega arith in
    two_at _ (record_of kind v (tree Blue v) (tree Red v)) (8 * v + k) k
    (put_at kind tree s v k room (omega arith))
    (rw next (put_at kind tree s v (k + 1) room (omega arith)))
    ∙ own kind tree v colour

pub plan_agree : (kind n : ℕ) (t u : Trees)
    → ((colour : Colour) (v : ℕ) → v < n → t colour v ≡ u colour v)
    → plan_bytes kind n t ≡ plan_bytes kind n u
unfolding plan_bytes
plan_agree kind zero t u same = refl
plan_agree kind (suc n) t u same =
    rw (
      plan_agree kind n t u (λ colour v l. same colour v (omega arith)),
      same Blue n (omega arith),
      same Red n (omega arith),
    )

-- An offset of w's record is below v's record or above it.
outside : (v w k long : ℕ) → v ≢ w → k < 8 → long ≡ 8
    → (8 * w + k < 8 * v) ⊎ (8 * v + long ≤ 8 * w + k)
outside v w k long n l e =
    test (ltb w v) (λ t. inl (omega (arith, ltb-true w v t)))
    (λ f. ⊎_elim (λ (q : v ≡ w). absurd (n q)) (λ (q : v < w). inr (omega arith))
    (eq-or-lt_of_le (ltb-false w v f)))

pub entry_put : (kind v w : ℕ) (s bytes : List ℕ) (colour : Colour) → v ≢ w
    → length bytes ≡ size_of kind
    → entry_of kind (sets s (size_of kind * v) bytes) w colour ≡ entry_of kind s w colour
unfolding entry_of
entry_put kind v w s bytes colour n long =
    let b = small colour in
    let away : (k : ℕ) → k < 8 → get_or (sets s (8 * v) bytes) (8 * w + k) 0 ≡ get_or s (8 * w + k) 0 =
    λ k l. get_or-sets s (8 * v) bytes (8 * w + k) (outside v w k (length bytes) n l long) in
    let at = offset_of colour in
    let next : 8 * w + at + 1 ≡ 8 * w + (at + 1) = omega arith in
    two_at _ s _ _ (away at (omega arith)) (rw next (away (at + 1) (omega arith)))
