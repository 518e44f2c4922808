-- A set of the numbers below n that pass P, and network's search `lowest n P`.
--     lowest_found     what `Lowest` answers is what the search finds
--     none_found       the search finds nothing in a set that was counted 0
--     size_found       the size is 0 exactly where the search finds nothing
-- Assumes nothing.
use Rattle.std.proofs.Common.{Bool, false, ◌&&◌, List, ◌↔◌, ◌≡◌, sym, ◌∙◌, ℕ, ◌≤◌, ◌<◌, arith, lt-ltb, le-ltb, ltb-true, ltb}
use Rattle.std.proofs.Math.Bool.{and-false}
use Rattle.std.proofs.Math.Decide.{dec_lt}
use Rattle.std.proofs.lemmas.Bool.{and_parts}
use Rattle.std.specs.Prelude.{Option, None}
use Rattle.network.specs.Search.{lowest}
use Rattle.network.proofs.Search as search
use Rattle.network.proofs.Search.{lowest_at, lowest_none, lowest_nothing, lowest_is}
use Rattle.nodeset.specs.Set.{has, size, Counted, Lowest}
use Rattle.nodeset.proofs.Size.{size_none, size_empty}

module _ (ws : List ℕ) (n : ℕ) (P : ℕ → Bool) (few : n ≤ 256)
    (is : (k : ℕ) → has ws k ≡ ltb k n && P k) where
  -- below n the set is the test
  here : (k : ℕ) → k < n → P k ≡ has ws k
  here k h = sym (is k ∙ rw (lt-ltb k n h))

  pub lowest_found : (r : Option ℕ) → Lowest ws r → r ≡ lowest n P
  lowest_found r e = e ∙ go (lowest_is 256 (has ws))
    where
      go : {o : Option ℕ} → search.Lowest (has ws) 256 o → o ≡ lowest n P
      go (search.nowhere f) = sym (lowest_none n P (λ j h. here j h ∙ f j (omega arith)))
      go (search.found k h t f) =
          let p = and_parts (ltb k n) (P k) (sym (is k) ∙ t) in
          let m : k < n = ltb-true k n p.0 in
          sym (lowest_at n P k m p.1 (λ j b. here j (omega arith) ∙ f j b))

  size_nothing : size ws ≡ 0 → lowest n P ≡ None
  size_nothing z = lowest_none n P (λ j h. here j h ∙ size_empty ws z j (omega arith))

  pub none_found : Counted ws 0 → lowest n P ≡ None
  none_found c = size_nothing (sym c.exact)

  pub size_found : (size ws ≡ 0) ↔ (lowest n P ≡ None)
  size_found = (size_nothing, λ e. size_none ws (λ k _. empty e k (dec_lt k n)))
    where
      empty : lowest n P ≡ None → (k : ℕ) → Dec (k < n) → has ws k ≡ false
      empty e k (yes h) = is k ∙ rw (lowest_nothing n P e k h) (and-false (ltb k n))
      empty e k (no f) = is k ∙ rw (le-ltb k n (omega arith))
