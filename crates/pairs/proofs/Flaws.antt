-- Laws of flaws.
--     parents_used           where no node has a wrong parent, none is misused
--     used_fits              then the trees are as `Fitting` says
--     fitting                so a plan without flaw says what `Fitting` says
--     LeastParent, flaw_least  15 names a misused parent, and no lower node has one
--     written_fits           a plan that is written for trees that fit has no flaw
use Rattle.std.proofs.Common.{true, false, ◌≡◌, ◌≢◌, refl, ap, ◌∙◌, List, [], ℕ, ◌*◌, ◌<◌, arith, length, Option, Some, None, is_some, eq-eqb}
use Rattle.std.proofs.lemmas.Bool.Decides.{nat_tests}
use Rattle.std.proofs.lemmas.List.{append-nil}
use Rattle.std.specs.Prelude.{option_map}
use Rattle.std.specs.Option.{option_or}
use Rattle.network.specs.declared.Colour.{Colour}
use Rattle.network.specs.declared.Colour.TheVariants.{Blue, Red}
use Rattle.network.specs.Search.{first}
use Rattle.network.specs.Graph.{Graph, WellFormed, Joins, touches, other}
use Rattle.network.specs.Chain.{Trees}
use Rattle.network.proofs.Search.{First, first_is, Leads, first_got, first_nothing}
use Rattle.network.proofs.Graph.{joins_other, joins_touches, joins_listed}
use Rattle.records.specs.Plan.{plan_bytes}
use Rattle.records.proofs.Plan.{length_plan, plan_read, plan_good}
use Rattle.pairs.specs.declared.Flaw.{Flaw}
use Rattle.pairs.specs.declared.Flaw.TheVariants.{Record, Parent}
use Rattle.pairs.specs.Flaw.{kind, none, tree_of, record_flaw, misused, parent_flaw, flaw_of, Fitting}

none_below : {A : Type 0} (k : ℕ) (f : ℕ → Option A) → first k f ≡ None → (j : ℕ) → j < k
    → f j ≡ None
none_below k f e j l = let w = rw e at (first_is k f) in grind arith

both_none : {A : Type 0} (a b : Option A) → option_or a b ≡ None → (a ≡ None) × (b ≡ None)
both_none a b e = grind arith

unmisused : (G : Graph) (tree : Trees) (v : ℕ) → parent_flaw G tree v ≡ None → (colour : Colour)
    → misused G tree v colour ≡ false
unfolding parent_flaw
unmisused G tree v e Blue = grind arith
unmisused G tree v e Red = grind arith

pub parents_used : (G : Graph) (tree : Trees) → first G.nodes (parent_flaw G tree) ≡ None
    → (colour : Colour) (v : ℕ) → v < G.nodes → misused G tree v colour ≡ false
parents_used G tree e colour v l =
    unmisused G tree v (none_below G.nodes (parent_flaw G tree) e v l) colour

module _ (G : Graph) (s : List ℕ) (e : flaw_of G s ≡ None) where
  long : length s ≡ 8 * G.nodes
  unfolding flaw_of
  long = grind (arith, nat_tests)

  judged : option_or (first G.nodes (record_flaw s)) (first G.nodes (parent_flaw G (tree_of s))) ≡ None
  unfolding flaw_of
  judged = grind (arith, nat_tests)

-- What no misuse says of a parent.
module _ (G : Graph) (tree : Trees) (v : ℕ) (colour : Colour) (e : misused G tree v colour ≡ false)
  where
    of_source : v ≡ G.source → tree colour v ≡ none
    unfolding misused
    of_source q = grind (arith, nat_tests)

    of_other : v ≢ G.source → Joins G (tree colour v) v (other G (tree colour v) v)
    unfolding misused
    of_other n = grind (arith, nat_tests, joins_other)

pub used_fits : (G : Graph) (tree : Trees) → WellFormed G
    → ((colour : Colour) (v : ℕ) → v < G.nodes → misused G tree v colour ≡ false) → Fitting G tree
used_fits G tree ok used = record {
  source = λ colour. of_source G tree G.source colour (used colour G.source ok.source_in) refl;
  joins = λ colour v l. of_other G tree v colour (used colour v l);
}

pub fitting : (G : Graph) (s : List ℕ) → WellFormed G → flaw_of G s ≡ None → Fitting G (tree_of s)
fitting G s ok e =
    used_fits G (tree_of s) ok
    (parents_used G (tree_of s) (both_none _ _ (judged G s e)).1)

-- 15 names v's parent in a colour: it is misused, blue before red, and no lower node has such a parent.
pub record LeastParent (G : Graph) (tree : Trees) (v : ℕ) (colour : Colour) : Type 0 where
  pub below : v < G.nodes
  pub misuses : misused G tree v colour ≡ true
  pub blue : colour ≡ Red → misused G tree v Blue ≡ false
  pub lower : (w : ℕ) → w < v → (other : Colour) → misused G tree w other ≡ false

no_parent : (i v : ℕ) (colour : Colour) (o : Option ℕ) → option_map (Record i) o ≡ Some (Parent v colour)
    → ⊥
no_parent i v colour o e = grind arith

names : (G : Graph) (tree : Trees) (w v : ℕ) (colour : Colour)
    → parent_flaw G tree w ≡ Some (Parent v colour)
    → (w ≡ v) × (misused G tree w colour ≡ true) × (colour ≡ Red → misused G tree w Blue ≡ false)
unfolding parent_flaw
names G tree w v Blue e = grind arith
names G tree w v Red e = grind arith

module _ (G : Graph) (s : List ℕ) (v : ℕ) (colour : Colour) (e : flaw_of G s ≡ Some (Parent v colour))
  where
    named : option_or (first G.nodes (record_flaw s)) (first G.nodes (parent_flaw G (tree_of s)))
        ≡ Some (Parent v colour)
    unfolding flaw_of
    named = grind (arith, nat_tests)

    parent_first : (o : Option Flaw) → First (record_flaw s) G.nodes o
        → option_or o (first G.nodes (parent_flaw G (tree_of s))) ≡ Some (Parent v colour)
        → first G.nodes (parent_flaw G (tree_of s)) ≡ Some (Parent v colour)
    parent_first (Some a) (First.found i l q b) n = absurd (no_parent i v colour _ (q ∙ n))
    parent_first None w n = n

    pub flaw_least : LeastParent G (tree_of s) v colour
    flaw_least =
        let f = parent_flaw G (tree_of s) in
        let w : Leads f G.nodes (Parent v colour) =
        first_got G.nodes f (parent_first _ (first_is G.nodes (record_flaw s)) named) in
        let (place, told, blue) = names G (tree_of s) w.place v colour w.gives in
        record {
          below = omega arith;
          misuses = rw place at told;
          blue = rw place at blue;
          lower = λ u l. unmisused G (tree_of s) u (w.before u (omega arith));
        }

-- A plan that is written is read back.
module _ (G : Graph) (t : Trees) where
  abbrev written : List ℕ
  written = plan_bytes kind G.nodes t

  used : Fitting G t → (v : ℕ) → v < G.nodes → (tree : Trees) (colour : Colour)
      → tree colour v ≡ t colour v → misused G tree v colour ≡ false
  unfolding misused
  used f v l tree colour e =
      let home : v ≡ G.source → tree colour v ≡ none = λ q. e ∙ rw q (f.source colour) in
      let link : v ≢ G.source → (tree colour v < G.links) × (touches G (tree colour v) v ≡ true) =
      λ n. rw e (joins_listed (f.joins colour v l n), joins_touches (f.joins colour v l n)) in
      grind (arith, nat_tests)

  read_back : (v : ℕ) → v < G.nodes → (colour : Colour) → tree_of written colour v ≡ t colour v
  read_back v l = rw append-nil at (plan_read kind t [] G.nodes v l)

  record_good : (v : ℕ) → v < G.nodes → record_flaw written v ≡ None
  record_good v l = ap (option_map (Record v)) (rw append-nil at (plan_good kind t [] G.nodes v l))

  parents_good : Fitting G t → (v : ℕ) → v < G.nodes → parent_flaw G (tree_of written) v ≡ None
  unfolding parent_flaw
  parents_good f v l =
      let good : (colour : Colour) → misused G (tree_of written) v colour ≡ false =
      λ colour. used f v l (tree_of written) colour (read_back v l colour) in
      rw (good Blue, good Red)

  pub written_fits : Fitting G t → flaw_of G (plan_bytes kind G.nodes t) ≡ None
  unfolding flaw_of
  written_fits f =
      rw (
        eq-eqb _ _ (length_plan kind G.nodes t),
        first_nothing G.nodes (record_flaw written) (λ v l. ap is_some (record_good v l)),
        first_nothing G.nodes (parent_flaw G (tree_of written)) (λ v l. ap is_some (parents_good f v l)),
      )
