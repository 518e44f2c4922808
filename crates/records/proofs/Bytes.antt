-- Laws of two-byte numbers and of lists that are stored into.
--     two_fits        a two-byte number is below 65,536
--     two_at          it reads its two bytes alone
--     get_or-sets     bytes outside of a run of stores stay
-- Assumes nothing.
use Rattle.std.proofs.Common.{◌≡◌, refl, ◌∙◌, ◌⊎◌, ⊎_elim, inl, inr, List, [], ◌∷◌, ℕ, suc, ◌+◌, ◌≤◌, ◌<◌, arith, length, get_or, get_or-set_other}
use Rattle.std.proofs.Math.Seq.{sets}
use Rattle.records.specs.Bytes.{two_of}

pub two_fits : (s : List ℕ) → ((k : ℕ) → get_or s k 0 < 256) → (i : ℕ) → two_of s i < 65536
unfolding two_of
two_fits s byte i = omega (arith, byte i, byte (i + 1))

pub two_at : (s t : List ℕ) (i j : ℕ) → get_or s i 0 ≡ get_or t j 0
    → get_or s (i + 1) 0 ≡ get_or t (j + 1) 0 → two_of s i ≡ two_of t j
unfolding two_of
two_at s t i j low high = rw (low, high)

pub get_or-sets : (s : List ℕ) (i : ℕ) (vs : List ℕ) (k : ℕ)
    → (k < i) ⊎ (i + length vs ≤ k) → get_or (sets s i vs) k 0 ≡ get_or s k 0
get_or-sets s i [] k away = refl
get_or-sets s i (a ∷ vs) k away =
    get_or-sets _ (suc i) vs k
    (⊎_elim (λ (l : k < i). inl (omega arith))
    (λ (l : i + suc (length vs) ≤ k). inr (omega arith)) away)
    ∙ get_or-set_other s i k a 0
    (λ e. ⊎_elim (λ (l : k < i). omega arith)
    (λ (l : i + suc (length vs) ≤ k). omega arith) away)
