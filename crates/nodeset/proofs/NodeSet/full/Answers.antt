-- `nodeset::NodeSet::full` meets its contract. Word i is `low` of n - 64 * i, and so the set has
-- the nodes below n (`below`).
-- Assumes nothing.
use Rattle.std.proofs.Common.{rules, ◌≡◌, refl, ap, ◌∙◌, ℕ, zero, suc, ◌-◌, ◌*◌, ◌<◌, ltb, List, [], ◌∷◌, get_or, arith}
use Rattle.nodeset.specs.Set.{bit}
use Rattle.nodeset.proofs.Words.{below}
use Rattle.nodeset.proofs.NodeSet.full.Goals as goal

starts : List ℕ
starts = 0 ∷ 64 ∷ 128 ∷ 192 ∷ []

start : (i : ℕ) → i < 4 → get_or starts i 0 ≡ 64 * i
unfolding starts
start zero h = refl
start (suc zero) h = refl
start (suc (suc zero)) h = refl
start (suc (suc (suc zero))) h = refl
start (suc (suc (suc (suc i)))) h = absurd (omega arith)

pub returns : goal.returns
unfolding starts
returns c =
    below c.args.n c.map.result c.map.ensures.items.long
    (λ i j h l.
    let t = c.map.ensures.items.at i 0 0 h in
    let e : bit (get_or c.map.result i 0) j ≡ ltb j (c.args.n - get_or starts i 0) = search (rules, t.2) in
    e ∙ ap (λ (x : ℕ). ltb j (c.args.n - x)) (start i h))
