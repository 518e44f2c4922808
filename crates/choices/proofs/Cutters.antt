-- Which losses cut nodes off.
--     spared         a node that c does not cut off has a way without c
--     Missed         what `missed` finds: the lowest node that c cuts off; missed_is, missed_only
--     Cutter         what `cutter` finds: the lowest loss of some that cuts a node off, and the
--                    lowest such node; cutter_is, cutter_only
-- Assumes nothing.
use Rattle.std.proofs.Common.{Bool, true, not, ◌&&◌, ◌≡◌, refl, ap, ◌≢◌, ℕ, ◌<◌, arith, eqb, ne_eqb, Option, Some, None}
use Rattle.std.proofs.lemmas.Bool.{eqb-false, not-true, and_parts, true_from_ne_false}
use Rattle.network.specs.Search.{when, on_found}
use Rattle.network.specs.Graph.{Graph, WellFormed}
use Rattle.network.specs.Way.{Way, CutsOff, has_way}
use Rattle.network.proofs.Search.{First, Lowest, found, nowhere, first_is, lowest_is}
use Rattle.network.proofs.Search.{when_got}
use Rattle.network.proofs.Way.{has_way_is, cut_is}
use Rattle.choices.specs.Refuse.{Refusal, refusing, Spares, LowestCut}
use Rattle.choices.specs.Refuse.{missed, cutter}

module _ (G : Graph) where
  pub data Missed (c : ℕ) : Option ℕ → Type 0 where
    some : {v : ℕ} → LowestCut G c v → Missed c (Some v)
    all : Spares G c → Missed c None

  -- The losses tried are `code i`, for the i below k that may cut.
  pub data Cutter (number k : ℕ) (may : ℕ → Bool) (code : ℕ → ℕ) : Option Refusal → Type 0 where
    some : {i v : ℕ} → i < k → may i ≡ true → LowestCut G (code i) v
        → ((j : ℕ) → j < i → may j ≡ true → Spares G (code j))
        → Cutter number k may code (refusing number i v)
    all : ((j : ℕ) → j < k → may j ≡ true → Spares G (code j)) → Cutter number k may code None

  -- At most one answer fits.

  first_one : {i j : ℕ} → ¬ (j < i) → ¬ (i < j) → i ≡ j
  first_one f g = omega arith

  cut_only : {c v w : ℕ} → LowestCut G c v → LowestCut G c w → v ≡ w
  cut_only {v = v} {w} x y = first_one (λ l. x.lower w l y.cut) (λ l. y.lower v l x.cut)

  pub missed_only : {c : ℕ} {o o' : Option ℕ} → Missed c o → Missed c o' → o ≡ o'
  missed_only (some x) (some y) = ap Some (cut_only x y)
  missed_only (some {v} x) (all f) = absurd (f v x.cut)
  missed_only (all f) (some {v} x) = absurd (f v x.cut)
  missed_only (all f) (all g) = refl

  cutter_same : (number : ℕ) (code : ℕ → ℕ) (i v j w : ℕ) → LowestCut G (code i) v
      → LowestCut G (code j) w → i ≡ j → refusing number i v ≡ refusing number j w
  cutter_same number code i v j w x y q = rw (q, cut_only (rw q at x) y)

  module _ {number k : ℕ} {may : ℕ → Bool} {code : ℕ → ℕ} where
    pub cutter_only : {o o' : Option Refusal} → Cutter number k may code o
        → Cutter number k may code o' → o ≡ o'
    cutter_only (some {i} {v} lt t x b) (some {i = j} {v = w} lt' t' y b') =
        cutter_same number code i v j w x y
        (first_one (λ l. b j l t' w y.cut) (λ l. b' i l t v x.cut))
    cutter_only (some {i} {v} lt t x b) (all f) = absurd (f i lt t v x.cut)
    cutter_only (all f) (some {i} {v} lt t x b) = absurd (f i lt t v x.cut)
    cutter_only (all f) (all g) = refl

  module _ (ok : WellFormed G) where
    pub spared : (c v : ℕ) → v < G.nodes → v ≢ c → ¬ (CutsOff G c v) → Way G c v
    spared c v h n k =
        (has_way_is G c ok v).0
        (true_from_ne_false (has_way G c v) (λ f. k ((cut_is G c ok v h n).0 f)))

    cut_missed : {c v : ℕ} → CutsOff G c v → (not (eqb v c) && not (has_way G c v)) ≡ true
    cut_missed {c} {v} k =
        rw (ne_eqb v c k.another, (cut_is G c ok v k.node k.another).1 k)

    pub missed_is : (c : ℕ) → Missed c (missed G c)
    unfolding missed
    missed_is c = go (lowest_is G.nodes (λ v. not (eqb v c) && not (has_way G c v)))
      where
        go : {o : Option ℕ} → Lowest (λ v. not (eqb v c) && not (has_way G c v)) G.nodes o
            → Missed c o
        go (found v lt t b) =
            let (n, w) = and_parts (not (eqb v c)) _ t in
            let k = (cut_is G c ok v lt (eqb-false v c (not-true _ n))).0 (not-true _ w) in
            some (record { cut = k; lower = λ u l i. cc (cut_missed i, b u l) })
        go (nowhere b) = all (λ v k. cc (cut_missed k, b v k.node))

    pub cutter_is : (number k : ℕ) (may : ℕ → Bool) (code : ℕ → ℕ)
        → Cutter number k may code (cutter G number k may code)
    unfolding cutter
    cutter_is number k may code = go (first_is k try)
      where
        try : ℕ → Option Refusal
        try i = when (may i) (on_found (missed G (code i)) (refusing number i) None)

        spares : (c i : ℕ) {o : Option ℕ} → Missed c o
            → on_found o (refusing number i) None ≡ None → Spares G c
        spares c i (some x) e = cc
        spares c i (all x) e = x

        before : (j : ℕ) → try j ≡ None → may j ≡ true → Spares G (code j)
        before j e t = spares (code j) j (missed_is (code j)) (rw t at e)

        one : {r : Refusal} (i : ℕ) {o : Option ℕ} → Missed (code i) o
            → on_found o (refusing number i) None ≡ Some r → i < k → may i ≡ true
            → ((j : ℕ) → j < i → may j ≡ true → Spares G (code j))
            → Cutter number k may code (Some r)
        one i (some x) e lt t b = rw (← e) (some lt t x b)
        one i (all x) e lt t b = cc

        go : {o : Option Refusal} → First try k o → Cutter number k may code o
        go (found {a = r} i lt e b) =
            let cut = on_found (missed G (code i)) (refusing number i) None in
            let (t, q) = when_got (may i) cut r e in
            one i (missed_is (code i)) q lt t (λ j l. before j (b j l))
        go (nowhere b) = all (λ j lt. before j (b j lt))
