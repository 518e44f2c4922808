-- Refusals 10, 11 and 12 are given exactly in their stated conditions, unless an earlier one is.
--     refusal_is     the refusal given is the one that is due
--     refusal_only   and no other is; refusal_exactly says both
--     given10        10: a node is not joined to the source, and v is the lowest such node
--     given11        11: not 10; node protection; c is the lowest node that cuts others off, and v
--                    the lowest node that it cuts off
--     given12        12: neither 10 nor 11; the same of the link l
--     passed         where no refusal is given, none is due
-- Assumes nothing.
use Rattle.std.proofs.Common.{Bool, true, false, not, ◌≡◌, refl, ◌∙◌, ◌≢◌, ◌↔◌, ℕ, eqb, eqb-true, eq-eqb, ne_eqb, Option, Some, None}
use Rattle.std.proofs.lemmas.Bool.{eqb-false, not-true}
use Rattle.std.specs.Option.{option_or}
use Rattle.network.specs.Search.{when, on_found}
use Rattle.network.specs.Graph.{Graph, WellFormed, link_code, no_loss}
use Rattle.network.proofs.Tests.{test}
use Rattle.choices.specs.Refuse.{Refusal, refusing, Spares, LowestCut, NodesSpare, Sturdy}
use Rattle.choices.specs.Refuse.{Due, none, due10, due11, due12}
use Rattle.choices.specs.Refuse.{missed, refuse10, refuse11, refuse12, refusal}
use Rattle.choices.specs.Refuse.{NodeCuts, LinkCuts}
use Rattle.choices.proofs.Cutters.{Missed, Cutter, some, all, missed_is, missed_only}
use Rattle.choices.proofs.Cutters.{cutter_is, cutter_only}

-- What a refusal of each number says.
abbrev Says : ℕ → Graph → Option Refusal → Type 0
Says p G None = Unit {0}
Says p G (Some r) =
    (r.number ≡ 10 → LowestCut G no_loss r.place)
    × (r.number ≡ 11 → Spares G no_loss × NodeCuts p G r.place r.other)
    × (r.number ≡ 12 → Spares G no_loss × NodesSpare p G × LinkCuts G r.place r.other)

says : {p : ℕ} {G : Graph} {o : Option Refusal} → Due p G o → Says p G o
says (none s) = tt
says (due10 x) = (λ _. x, λ e. cc, λ e. cc)
says (due11 x k) = (λ e. cc, λ _. (x, k), λ e. cc)
says (due12 x n k) = (λ e. cc, λ e. cc, λ _. (x, n, k))

module _ (G : Graph) (ok : WellFormed G) where
  abbrev Nodes : Option Refusal → Type 0
  Nodes = Cutter G 11 G.nodes (λ c. not (eqb c G.source)) (λ c. c)

  abbrev Links : Option Refusal → Type 0
  Links = Cutter G 12 G.links (λ l. true) link_code

  due_link : {p : ℕ} {o : Option Refusal} → Spares G no_loss → NodesSpare p G → Links o → Due p G o
  due_link x y (some lt t c b) =
      due12 x y (record { link = lt; cuts = c; lower = λ k l. b k l refl })
  due_link x y (all z) = none (record { joined = x; nodes = y; links = λ l lt. z l lt refl })

  may : (c : ℕ) → c ≢ G.source → not (eqb c G.source) ≡ true
  may c n = rw (ne_eqb c G.source n)

  not_the_source : (c : ℕ) → not (eqb c G.source) ≡ true → c ≢ G.source
  not_the_source c t = eqb-false c G.source (not-true _ t)

  due_node : {p : ℕ} {n l : Option Refusal} → p ≡ 0 → Spares G no_loss → Nodes n → Links l
      → Due p G (option_or n l)
  due_node z x (some {i = c} lt t k b) y =
      due11 x (record {
        asked = z;
        node = lt;
        another = not_the_source c t;
        cuts = k;
        lower = λ d l n. b d l (may d n);
      })
  due_node z x (all f) y = due_link x (λ e c l n. f c l (may c n)) y

  -- Each refusal is given in its stated condition, and where no earlier one is.
  pub refusal_is : (p : ℕ) → Due p G (refusal p G)
  unfolding refusal refuse10 refuse11 refuse12
  refusal_is p =
      let nodes = cutter_is G ok 11 _ _ _ in
      let links = cutter_is G ok 12 _ _ _ in
      go (eqb p 0) refl (missed_is G ok no_loss) nodes links
    where
      go : {m : Option ℕ} {n l : Option Refusal} (b : Bool) → eqb p 0 ≡ b → Missed G no_loss m → Nodes n
          → Links l
          → Due p G (option_or (on_found m (λ v. refusing 10 v 0) None) (option_or (when b n) l))
      go b q (some x) y z = due10 x
      go true q (all x) y z = due_node (eqb-true p 0 q) x y z
      go false q (all x) y z = due_link x (λ e. absurd (eqb-false p 0 q e)) z

  -- And no other refusal is in its stated condition where no earlier one is.

  no_miss : (c : ℕ) → Spares G c → missed G c ≡ None
  no_miss c f = missed_only G (missed_is G ok c) (all f)

  by_nodes : {p : ℕ} → Spares G no_loss → NodesSpare p G → refusal p G ≡ refuse12 G
  unfolding refusal refuse10 refuse11
  by_nodes {p} x y =
      test (eqb p 0)
      (λ z.
      let spare : Nodes None = all (λ c lt t. y (eqb-true p 0 z) c lt (not_the_source c t)) in
      rw (no_miss no_loss x, z, cutter_only G (cutter_is G ok 11 _ _ _) spare))
      (λ z. rw (no_miss no_loss x, z))

  pub refusal_only : {p : ℕ} {o : Option Refusal} → Due p G o → refusal p G ≡ o
  unfolding refusal refuse10 refuse11 refuse12
  refusal_only (none s) =
      by_nodes s.joined s.nodes
      ∙ cutter_only G (cutter_is G ok 12 _ _ _) (all (λ l lt t. s.links l lt))
  refusal_only (due10 x) = rw (missed_only G (missed_is G ok no_loss) (some x))
  refusal_only {p} (due11 {c} x k) =
      let here : Nodes _ =
      some k.node (may c k.another) k.cuts (λ d l t. k.lower d l (not_the_source d t)) in
      rw (no_miss no_loss x, eq-eqb p 0 k.asked, cutter_only G (cutter_is G ok 11 _ _ _) here)
  refusal_only (due12 x y k) =
      let here : Links _ = some k.link refl k.cuts (λ j l t. k.lower j l) in
      by_nodes x y ∙ cutter_only G (cutter_is G ok 12 _ _ _) here

  pub refusal_exactly : (p : ℕ) (o : Option Refusal) → (refusal p G ≡ o) ↔ Due p G o
  refusal_exactly p o = (λ e. rw e at (refusal_is p), refusal_only)

  pub passed : (p : ℕ) → refusal p G ≡ None → Sturdy p G
  passed p e = go (rw e at (refusal_is p))
    where
      go : Due p G None → Sturdy p G
      go (none s) = s

  -- The refusals one by one.
  said : (p : ℕ) {o : Option Refusal} → refusal p G ≡ o → Says p G o
  said p e = says (rw e at (refusal_is p))

  pub given10 : (p v : ℕ) → (refusal p G ≡ refusing 10 v 0) ↔ LowestCut G no_loss v
  given10 p v = (λ e. (said p e).0 refl, λ x. refusal_only (due10 x))

  pub given11 : (p c v : ℕ)
      → (refusal p G ≡ refusing 11 c v) ↔ (Spares G no_loss × NodeCuts p G c v)
  given11 p c v = (λ e. (said p e).1 refl, λ (x, k). refusal_only (due11 x k))

  pub given12 : (p l v : ℕ)
      → (refusal p G ≡ refusing 12 l v) ↔ (Spares G no_loss × NodesSpare p G × LinkCuts G l v)
  given12 p l v = (λ e. (said p e).2 refl, λ (x, n, k). refusal_only (due12 x n k))
