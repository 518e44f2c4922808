-- The planner, whole (theorems C and D).
--     choices_sound       what the choices make is drawn by the drawing rules, and all nodes are in
--     choices_drawing     so it is a drawing
--     choices_all         with all nodes in
--     choices_passes      and its trees are a protected pair
--     choices_finish      where no refusal is due the choices never get stuck
--     refused_fails       where a refusal is given no trees at all are a protected pair
--     refused_exactly     so a refusal is given exactly where no trees at all are
--     draw_first          the choices finish exactly where no refusal is due
--     finished_unrefused, stuck_refused     the same, for a program that draws first
-- Assumes nothing.
use Rattle.std.proofs.Common.{true, not, ◌≡◌, refl, ◌↔◌, ℕ, ◌<◌, arith, Option, Some, None, is_some}
use Rattle.network.specs.Graph.{Graph, WellFormed}
use Rattle.network.specs.Chain.{Trees}
use Rattle.network.specs.Protected.{Passes}
use Rattle.network.specs.Drawing.{Drawing}
use Rattle.network.proofs.Search.{was_got}
use Rattle.network.proofs.Drawing.{drawing_passes}
use Rattle.network.proofs.Cut.{node_cut_fails, link_cut_fails, stranded_fails}
use Rattle.choices.specs.Run.{is_in}
use Rattle.choices.specs.Draw.{State, alone, finish, choices}
use Rattle.choices.specs.Refuse.{Refusal, Sturdy, Due, due10, due11, due12, refusal}
use Rattle.choices.proofs.Refusals.{refusal_is, passed}
use Rattle.choices.proofs.Orders.{in_order}
use Rattle.choices.proofs.Rounds.{AllIn, Sound, draw_is, sound_alone}
use Rattle.choices.proofs.Rounds.{draws_sound, draws_finish, got_unless}

module _ (p : ℕ) (G : Graph) (ok : WellFormed G) where
  pub choices_sound : {s : State} → choices p G ≡ Some s → Sound p G s × AllIn G s.order
  unfolding choices finish
  choices_sound h = draws_sound p G ok (draw_is p G _ (alone p G)) (sound_alone p G) h

  pub choices_all : {s : State} → choices p G ≡ Some s → (v : ℕ) → v < G.nodes
      → is_in s.order v ≡ true
  choices_all h = (choices_sound h).1

  pub choices_drawing : {s : State} → choices p G ≡ Some s → Drawing p G s.tree
  choices_drawing {s} h =
      let (d, all) = choices_sound h in
      record { order = s.order; drawn = d; all = λ v lt. in_order s.order v (all v lt) }

  pub choices_passes : {s : State} → choices p G ≡ Some s → Passes p G s.tree
  choices_passes {s} h = drawing_passes p G s.tree (choices_drawing h) ok

  pub choices_finish : Sturdy p G → (s : State) × (choices p G ≡ Some s)
  unfolding choices finish
  choices_finish st =
      was_got (choices p G)
      (draws_finish p G ok (draw_is p G _ (alone p G)) st (sound_alone p G) (omega arith))

  pub refused_fails : {r : Refusal} → refusal p G ≡ Some r → (tree : Trees) → ¬ (Passes p G tree)
  refused_fails h tree = go (rw h at (refusal_is G ok p))
    where
      go : {r : Refusal} → Due p G (Some r) → ¬ (Passes p G tree)
      go (due10 x) pass = stranded_fails tree ok x.cut.node x.cut.stuck pass
      go (due11 j k) pass =
          node_cut_fails tree k.node k.another k.cuts.cut (rw k.asked at pass)
      go (due12 j n k) pass = link_cut_fails tree k.link k.cuts.cut pass

  -- A refusal names a node that has no way at all, or a loss that cuts a node off. A chain runs
  -- over the table's links, so in the first case no trees are a pair; in the second both chains of
  -- the node that is cut off name the loss, in whatever trees. Where no refusal is given, the
  -- choices make a drawing, and a drawing is a protected pair. So a planner that refuses more than
  -- it must has refused trees that pass.
  pub refused_exactly : ((r : Refusal) × (refusal p G ≡ Some r))
      ↔ ((tree : Trees) → ¬ (Passes p G tree))
  refused_exactly = (
    λ (r, h). refused_fails h,
    λ f. got_unless (refusal p G)
        (λ h.
        let (s, q) = choices_finish (passed G ok p h) in
        f s.tree (choices_passes q)),
  )

  pub stuck_refused : choices p G ≡ None → (r : Refusal) × (refusal p G ≡ Some r)
  stuck_refused q = got_unless _ (λ h. cc ((choices_finish (passed G ok p h)).1, q))

  pub finished_unrefused : {s : State} → choices p G ≡ Some s → refusal p G ≡ None
  finished_unrefused {s} q = go (refusal p G) refl
    where
      go : (o : Option Refusal) → refusal p G ≡ o → o ≡ None
      go (Some r) h = absurd (refused_fails h s.tree (choices_passes q))
      go None h = refl

  pub draw_first : is_some (choices p G) ≡ not (is_some (refusal p G))
  draw_first = go (choices p G) refl
    where
      go : (o : Option State) → choices p G ≡ o → is_some o ≡ not (is_some (refusal p G))
      go (Some s) q = rw (finished_unrefused q)
      go None q = rw (stuck_refused q).1
