-- The laws of what is cut off.
--     others_lost, others_kept     the nodes that are neither in a set nor c
--     missed_is                    the lowest node that is not reached is the lowest that c cuts
--                                  off
--     may_cut                      the losses that are tried
--     found, cut_first             the first of the cuts that are found is that of the lowest loss
--     NodeCut x, LinkCut y         x and y are what 11 and 12 would name
--     refused10, refused11, refused12, unrefused
--                                  the refusal, by what a program has found
--     Spare, spare_node, spare_link
--                                  11 is not given
--     answer_is                    the answer of an outcome is that of the refusal
-- Assumes nothing.
use Rattle.std.proofs.Common.{Bool, true, false, not, ◌&&◌, ◌≡◌, refl, ap, ◌∙◌, List, ℕ, zero, suc, ◌+◌, ◌≤◌, arith, eqb, ltb, eq-eqb, ne_eqb}
use Rattle.std.proofs.Math.Path.{fun_ext}
use Rattle.std.proofs.lemmas.Bool.{cases_Bool}
use Rattle.std.proofs.lemmas.Bool.Decides.{nat_tests}
use Rattle.std.specs.Prelude.{Option, Some, None, Result, Ok, Err, MatchResult, option_map}
use Rattle.std.specs.Option.{option_or}
use Rattle.network.specs.Search.{when, on_found, first}
use Rattle.network.specs.Graph.{Graph, WellFormed, link_code, no_loss}
use Rattle.network.specs.Way.{has_way}
use Rattle.choices.specs.Refuse.{Refusal, refusing, missed, cutter, refusal}
use Rattle.choices.specs.Refuse.{refuse10, refuse11, refuse12}
use Rattle.nodeset.specs.Set.{has, Lowest}
use Rattle.nodeset.proofs.Found.{lowest_found}
use Rattle.reader.specs.declared.Answer.{Answer}
use Rattle.reader.specs.Answer.{fine}
use Rattle.cuts.specs.declared.Cut.{Cut}
use Rattle.cuts.specs.declared.CutOff.{CutOff}
use Rattle.cuts.specs.Cut.{missed_by, cut_by, refusal_of, refused, answer_to, cut_answer}

pub others_lost : (v n c : ℕ) (b : Bool)
    → (not (eqb v c) && (ltb v n && not b)) ≡ (ltb v n && (not (eqb v c) && not b))
others_lost v n c b = grind (arith, cases_Bool (eqb v c), cases_Bool (ltb v n))

pub others_kept : (v n c : ℕ) (b : Bool) → n ≤ 256 → 256 ≤ c
    → (ltb v n && not b) ≡ (ltb v n && (not (eqb v c) && not b))
others_kept v n c b few h = grind (arith, nat_tests, cases_Bool (ltb v n), cases_Bool (eqb v c))

pub missed_is : (G : Graph) (c : ℕ) (o : Option ℕ) (R : ℕ → Bool) (ws : List ℕ) → WellFormed G
    → ((v : ℕ) → R v ≡ has_way G c v)
    → ((v : ℕ) → has ws v ≡ (ltb v G.nodes && (not (eqb v c) && not (R v))))
    → Lowest ws o → o ≡ missed G c
unfolding missed
missed_is G c o R ws ok way out low =
    lowest_found ws G.nodes (λ v. not (eqb v c) && not (has_way G c v)) ok.few_nodes
    (λ v. out v ∙ rw (way v)) o low

when_found : {A C : Type 0} (b : Bool) (o : Option A) (f : A → Option C)
    → when b (on_found o f None) ≡ on_found (when b o) f None
when_found true o f = refl
when_found false o f = refl

abbrev pub may_cut : Graph → ℕ → ℕ → Bool
may_cut G base i = not (eqb (base + i) G.source)

-- The losses tried are base + i, for i below k; the number of the refusal is given.
module _ (G : Graph) (base k number : ℕ) where
  abbrev tried : ℕ → Option Refusal
  tried i = when (may_cut G base i) (on_found (missed G (base + i)) (refusing number i) None)

  tried_as : (i : ℕ) {o : Option ℕ} → missed_by G (base + i) ≡ o
      → tried i ≡ on_found o (refusing number i) None
  unfolding missed_by
  tried_as i e = when_found (may_cut G base i) (missed G (base + i)) (refusing number i) ∙ rw e

  -- What is found at place i: the cut of the loss there.
  abbrev pub found : ℕ → Option Cut
  found i = option_map (λ v. record { place = i; node = v }) (missed_by G (base + i))

  joined : (i : ℕ) (a : Option Cut) (o : Option ℕ)
      → option_or (cut_by number a) (on_found o (refusing number i) None)
      ≡ cut_by number (option_or a (option_map (λ v. record { place = i; node = v }) o))
  joined i (Some x) o = refl
  joined i None (Some v) = refl
  joined i None None = refl

  first_cut : (n : ℕ) → first n tried ≡ cut_by number (first n found)
  unfolding first
  first_cut zero = refl
  first_cut (suc n) =
      rw (first_cut n, tried_as n refl) (joined n (first n found) (missed_by G (base + n)))

  pub cut_first : cutter G number k (may_cut G base) (λ j. base + j) ≡ cut_by number (first k found)
  unfolding cutter
  cut_first = first_cut k

-- The three refusals, as a program finds them: v by the loss of nothing, x by that of a node, and
-- y by that of a link.
module _ (p : ℕ) (G : Graph) (ok : WellFormed G) where
  -- Nodes are the codes from 0 on.
  abbrev pub NodeCut : Option Cut → Type 0
  NodeCut x = cutter G 11 G.nodes (may_cut G 0) (λ i. 0 + i) ≡ cut_by 11 x

  -- Links are the codes from 256 on, and none is the source.
  abbrev pub LinkCut : Option Cut → Type 0
  LinkCut y = cutter G 12 G.links (may_cut G 256) (λ i. 256 + i) ≡ cut_by 12 y

  node_cuts : (x : Option Cut) → NodeCut x → refuse11 G ≡ cut_by 11 x
  unfolding refuse11
  node_cuts x e =
      let all : (ℕ → ℕ) → Option Refusal =
      λ code. cutter G 11 G.nodes (λ i. not (eqb (code i) G.source)) code in
      let same : (i : ℕ) → i ≡ 0 + i = λ i. omega arith in
      ap all (fun_ext same) ∙ e

  link_cuts : (y : Option Cut) → LinkCut y → refuse12 G ≡ cut_by 12 y
  unfolding refuse12
  link_cuts y e =
      let other : (l : ℕ) → true ≡ may_cut G 256 l =
      λ l. rw (ne_eqb (256 + l) G.source (λ q. omega (arith, ok.source_in, ok.few_nodes))) in
      ap (λ (may : ℕ → Bool). cutter G 12 G.links may link_code) (fun_ext other) ∙ e

  -- Where 11 is not given.
  abbrev pub Spare : Type 0
  Spare = when (eqb p 0) (refuse11 G) ≡ None

  pub spare_link : (p ≡ 0 → ⊥) → Spare
  spare_link z = rw (ne_eqb p 0 z)

  pub spare_node : p ≡ 0 → NodeCut None → Spare
  spare_node z f = rw (eq-eqb p 0 z, node_cuts None f)

  pub refused10 : {v : ℕ} → missed G no_loss ≡ Some v → refusal p G ≡ refusing 10 v 0
  unfolding refusal refuse10
  refused10 e = rw e

  module _ (e : missed G no_loss ≡ None) where
    pub refused11 : (x : Cut) → p ≡ 0 → NodeCut (Some x)
        → refusal p G ≡ refusing 11 x.place x.node
    unfolding refusal refuse10
    refused11 x z f = rw (e, eq-eqb p 0 z, node_cuts (Some x) f)

    module _ (s : Spare) where
      by_link : (y : Option Cut) → LinkCut y → refusal p G ≡ cut_by 12 y
      unfolding refusal refuse10
      by_link y f = rw (e, s, link_cuts y f)

      pub refused12 : (y : Cut) → LinkCut (Some y) → refusal p G ≡ refusing 12 y.place y.node
      refused12 y f = by_link (Some y) f

      pub unrefused : LinkCut None → refusal p G ≡ None
      unrefused f = by_link None f

-- What `reader::answered` says of an outcome.
pub answer_is : {A : Type 0} (o : Result A CutOff) (r : Option Refusal) (a : Answer)
    → refused o ≡ r → MatchResult o (λ _. a ≡ fine) (λ e. a ≡ answer_to (refusal_of e)) → a ≡ cut_answer r
answer_is (Ok _) r a e q = q ∙ ap cut_answer e
answer_is (Err _) r a e q = q ∙ ap cut_answer e
