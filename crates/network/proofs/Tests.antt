-- What a computed test tells.
--     test          a test's two cases, each with its equation
--     xor_cases     exactly one of two tests passes
--     apart         what is in a set is not what is not
-- Assumes nothing.
use Rattle.std.proofs.Common.{Bool, true, false, ◌≡◌, refl, ◌≢◌, ℕ, arith}
use Rattle.std.proofs.Math.Bool.{xor}

pub test : {C : Type 0} (b : Bool) → (b ≡ true → C) → (b ≡ false → C) → C
test true t f = t refl
test false t f = f refl

pub xor_cases : {C : Type 0} (a b : Bool) → xor a b ≡ true
    → (a ≡ true → b ≡ false → C) → (a ≡ false → b ≡ true → C) → C
unfolding xor
xor_cases a b h t f = grind arith

pub apart : (R : ℕ → Bool) (x y : ℕ) → R x ≡ true → R y ≡ false → x ≢ y
apart R x y t f q = cc
