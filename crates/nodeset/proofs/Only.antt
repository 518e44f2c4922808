-- No second answer fits a contract.
--     words_only       four words of 64 bits are told by what they hold
--     set_only         so at most one NodeSet holds what a contract says, E k of each node k
--     counted_only     at most one r is `Counted`; lowest_only: or `Lowest`
-- Assumes nothing.
use Rattle.std.proofs.Common.{Bool, List, ◌≡◌, sym, ap, ◌∙◌, ℕ, ◌+◌, ◌*◌, length, get_or, ext_get_or, w64, Fits}
use Rattle.std.specs.Prelude.{Option}
use Rattle.nodeset.specs.Set.{has, Counted, Lowest}
use Rattle.nodeset.specs.declared.NodeSet.{NodeSet}
use Rattle.nodeset.proofs.Bit.{bits_only}
use Rattle.nodeset.proofs.Words.{has_at}

module _ (xs ys : List ℕ) (four : length xs ≡ 4) (four' : length ys ≡ 4)
    (fits : (i : ℕ) → Fits w64 (get_or xs i 0)) (fits' : (i : ℕ) → Fits w64 (get_or ys i 0)) where
  pub words_only : ((k : ℕ) → has xs k ≡ has ys k) → xs ≡ ys
  words_only same =
      ext_get_or 0 xs ys (four ∙ sym four')
      (λ i _. bits_only 64 (get_or xs i 0) (get_or ys i 0) (fits i).fits (fits' i).fits
      (λ j h. sym (has_at xs i j h) ∙ same (i * 64 + j) ∙ has_at ys i j h))

pub set_only : (E : ℕ → Bool) (r s : NodeSet)
    → length r.words ≡ 4 → length s.words ≡ 4
    → ((i : ℕ) → Fits w64 (get_or r.words i 0)) → ((i : ℕ) → Fits w64 (get_or s.words i 0))
    → ((k : ℕ) → has r.words k ≡ E k) → ((k : ℕ) → has s.words k ≡ E k) → r ≡ s
set_only E r s four four' fits fits' e e' =
    ap (λ (ws : List ℕ). record { words = ws })
    (words_only r.words s.words four four' fits fits' (λ k. e k ∙ sym (e' k)))

pub counted_only : (ws : List ℕ) (r s : ℕ) → Counted ws r → Counted ws s → r ≡ s
counted_only ws r s c d = c.exact ∙ sym d.exact

pub lowest_only : (ws : List ℕ) (r s : Option ℕ) → Lowest ws r → Lowest ws s → r ≡ s
lowest_only ws r s c d = c ∙ sym d
