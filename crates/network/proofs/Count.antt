-- The laws of `count n P`, how many numbers below n pass the test P.
--     count_same                  tests that agree count the same
--     count_more                  n more after m
--     count_below                 those below n
--     count_none, count_empty     none are 0, and 0 are none
--     count_some                  where some are counted, there is one
--     count_lacks                 where one is not in, not all are counted
--     count_put, count_take       one more, one less
--     count_mono                  a test that passes each of another's counts no fewer
-- Assumes nothing.
use Rattle.std.proofs.Common.{Bool, true, false, not, ◌&&◌, ◌||◌, true≢false, ⊎_elim, ◌≡◌, refl, sym, ap, ap₂, ◌∙◌, ℕ, zero, suc, ◌+◌, ◌≤◌, ◌<◌, min, add-zero, add-suc, le_refl, not-suc-le-zero, eq-or-lt_of_le, le_of_suc-le-suc, arith, ltb-true, ltb-false, eq-eqb, ne_eqb, eqb, ltb}
use Rattle.std.proofs.Math.Decide.{dec_lt, ℕ_discrete}
use Rattle.network.specs.Set.{count, digit}
use Rattle.network.proofs.Set.{count_full}
use Rattle.network.proofs.Tests.{test}

pub count_same : (n : ℕ) (P Q : ℕ → Bool) → ((j : ℕ) → j < n → P j ≡ Q j) → count n P ≡ count n Q
unfolding count
count_same zero P Q h = refl
count_same (suc n) P Q h =
    ap₂ (λ (b : Bool) (x : ℕ). digit b + x)
    (h n (le_refl (suc n)))
    (count_same n P Q (λ j l. h j (omega arith)))

-- The test P at m + j is the test Q at j.
pub count_more : (m n : ℕ) (P Q : ℕ → Bool) → ((j : ℕ) → j < n → P (m + j) ≡ Q j)
    → count (m + n) P ≡ count m P + count n Q
unfolding count
count_more m zero P Q h = rw (add-zero m) (omega arith)
count_more m (suc n) P Q h =
    rw (add-suc m n) (omega (
      arith,
      ap digit (h n (le_refl (suc n))),
      count_more m n P Q (λ j l. h j (omega arith)),
    ))

pub count_below : (m n : ℕ) → count m (λ k. ltb k n) ≡ min m n
unfolding count
count_below zero n = omega arith
count_below (suc m) n =
    test (ltb m n)
    (λ t. omega (arith, ap digit t, ltb-true m n t, count_below m n))
    (λ f. omega (arith, ap digit f, ltb-false m n f, count_below m n))

pub count_none : (n : ℕ) (P : ℕ → Bool) → ((j : ℕ) → j < n → P j ≡ false) → count n P ≡ 0
unfolding count
count_none zero P h = refl
count_none (suc n) P h =
    omega (arith, ap digit (h n (le_refl (suc n))), count_none n P (λ j l. h j (omega arith)))

pub count_some : (n : ℕ) (P : ℕ → Bool) → 0 < count n P → (k : ℕ) × (k < n) × (P k ≡ true)
unfolding count
count_some zero P h = absurd (not-suc-le-zero h)
count_some (suc n) P h =
    test (P n)
    (λ t. (n, le_refl (suc n), t))
    (λ f. let r = count_some n P (omega (arith, ap digit f)) in (r.0, omega arith, r.2))

pub count_lacks : (n : ℕ) (P : ℕ → Bool) (k : ℕ) → k < n → P k ≡ false → count n P < n
count_lacks n P k h f = go (dec_lt (count n P) n)
  where
    go : Dec (count n P < n) → count n P < n
    go (yes l) = l
    go (no g) = absurd (true≢false (sym (count_full n P (omega arith) k h) ∙ f))

-- One that was not there is put in.
pub count_put : (n : ℕ) (P Q : ℕ → Bool) (k : ℕ) → k < n → P k ≡ false
    → ((j : ℕ) → Q j ≡ eqb j k || P j) → count n Q ≡ suc (count n P)
unfolding count
count_put zero P Q k h f e = absurd (not-suc-le-zero h)
count_put (suc n) P Q k h f e =
    ⊎_elim
    (λ (d : k ≡ n).
    omega (
      arith,
      count_same n Q P (λ j l. other j (λ g. omega arith)),
      ap digit (ap Q (sym d) ∙ e k ∙ ap (λ (b : Bool). b || P k) (eq-eqb k k refl)),
      ap digit (ap P (sym d) ∙ f),
    ))
    (λ l. omega (arith, count_put n P Q k l f e, ap digit (other n (λ g. omega arith))))
    (eq-or-lt_of_le (le_of_suc-le-suc h))
  where
    other : (j : ℕ) → (j ≡ k → ⊥) → Q j ≡ P j
    other j g = e j ∙ ap (λ (b : Bool). b || P j) (ne_eqb j k g)

-- One that was there is taken out.
pub count_take : (n : ℕ) (P Q : ℕ → Bool) (k : ℕ) → k < n → P k ≡ true
    → ((j : ℕ) → Q j ≡ not (eqb j k) && P j) → suc (count n Q) ≡ count n P
count_take n P Q k h t e = sym (count_put n Q P k h out (λ j. back j (ℕ_discrete j k)))
  where
    out : Q k ≡ false
    out = e k ∙ ap (λ (b : Bool). not b && P k) (eq-eqb k k refl)

    back : (j : ℕ) → Dec (j ≡ k) → P j ≡ eqb j k || Q j
    back j (yes d) = ap P d ∙ t ∙ sym (ap (λ (b : Bool). b || Q j) (eq-eqb j k d))
    back j (no g) = sym (rw (ne_eqb j k g) (e j ∙ rw (ne_eqb j k g)))

pub count_empty : (n : ℕ) (P : ℕ → Bool) → count n P ≡ 0 → (k : ℕ) → k < n → P k ≡ false
count_empty n P z k h = test (P k) there (λ f. f)
  where
    there : P k ≡ true → P k ≡ false
    there t = absurd (omega (arith, count_take n P (λ j. not (eqb j k) && P j) k h t (λ j. refl)))

digit_mono : (a b : Bool) → (a ≡ true → b ≡ true) → digit a ≤ digit b
digit_mono false b h = omega arith
digit_mono true b h = omega (arith, ap digit (h refl))

pub count_mono : (n : ℕ) (P Q : ℕ → Bool) → ((j : ℕ) → j < n → P j ≡ true → Q j ≡ true)
    → count n P ≤ count n Q
unfolding count
count_mono zero P Q h = omega arith
count_mono (suc n) P Q h =
    omega (
      arith,
      count_mono n P Q (λ j l. h j (omega arith)),
      digit_mono (P n) (Q n) (h n (le_refl (suc n))),
    )
