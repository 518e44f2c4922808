-- The definitions compute: four small tables, and what is drawn or refused of each.
--     links_of s        the parent links of the nodes 1, 2 and 3 in a state, blue before red
--     drawn p G         those of the planner's drawing
--     ring              0-1, 1-2, 2-3, 3-0
--     ring_drawn        under both protections one path closes on the source
--     ring_spared       nothing is refused
--     hung              a triangle, and node 3 on node 1 by one link
--     hung_node         under node protection node 1 cuts off 3
--     hung_link         under link protection the link does
--     moored            a triangle, and node 3 on the source by two links
--     moored_drawn      under both protections the second path closes on the source too
--     moored_spared     the source cuts off 3, and that is no reason
--     apart             two nodes and no link
--     apart_refused     node 1 is not joined to the source
-- Assumes nothing.
use Rattle.std.specs.Prelude.{◌≡◌, List, [], ◌∷◌, ◌++◌, ℕ, None}
use Rattle.std.proofs.Common.{refl}
use Rattle.std.proofs.Math.Bool.{xor}
use Rattle.network.specs.declared.Colour.TheVariants.{Blue, Red}
use Rattle.network.specs.Set.{members, add}
use Rattle.network.specs.Search.{on_found, first, lowest}
use Rattle.network.specs.Graph.{Graph, graph_of, touches, other}
use Rattle.network.specs.Way.{crosses, in_end, out_end, opens, grow, has_way}
use Rattle.choices.specs.Row.{row_on, row_of, row_by, closes, goes_on, may_end, end_of}
use Rattle.choices.specs.Run.{is_in, leads, starts_at, inner_of, turned, run_of, next}
use Rattle.choices.specs.Draw.{State, alone, place, insert, parents, out, draw, finish, choices}
use Rattle.choices.specs.Refuse.{refusal, refusing, refuse10, refuse11, refuse12, missed, cutter}

-- The blue and the red parent links of the nodes 1, 2 and 3, as they are drawn.
abbrev pub links_of : State → List ℕ
links_of s =
    s.tree Blue 1 ∷ s.tree Red 1 ∷ s.tree Blue 2 ∷ s.tree Red 2 ∷ s.tree Blue 3 ∷ s.tree Red 3 ∷ []

abbrev pub drawn : ℕ → Graph → List ℕ
drawn p G = on_found (choices p G) links_of []

abbrev pub ring : Graph
ring = graph_of 4 0 4 (0 ∷ 1 ∷ 1 ∷ 2 ∷ 2 ∷ 3 ∷ 3 ∷ 0 ∷ [])

abbrev pub hung : Graph
hung = graph_of 4 0 4 (0 ∷ 1 ∷ 1 ∷ 2 ∷ 2 ∷ 0 ∷ 1 ∷ 3 ∷ [])

abbrev pub moored : Graph
moored = graph_of 4 0 5 (0 ∷ 1 ∷ 1 ∷ 2 ∷ 2 ∷ 0 ∷ 0 ∷ 3 ∷ 3 ∷ 0 ∷ [])

abbrev pub apart : Graph
apart = graph_of 2 0 0 []

pub ring_drawn : drawn 0 ring ++ drawn 1 ring ≡ 0 ∷ 1 ∷ 1 ∷ 2 ∷ 2 ∷ 3 ∷ 0 ∷ 1 ∷ 1 ∷ 2 ∷ 2 ∷ 3 ∷ []
unfolding choices finish draw alone place out insert parents next first lowest is_in members crosses
    in_end out_end row_on row_of row_by closes goes_on may_end touches other end_of starts_at leads
    run_of inner_of turned add xor
ring_drawn = refl

pub moored_drawn : drawn 0 moored ++ drawn 1 moored
    ≡ 0 ∷ 1 ∷ 1 ∷ 2 ∷ 3 ∷ 4 ∷ 0 ∷ 1 ∷ 1 ∷ 2 ∷ 3 ∷ 4 ∷ []
unfolding choices finish draw alone place out insert parents next first lowest is_in members crosses
    in_end out_end row_on row_of row_by closes goes_on may_end touches other end_of starts_at leads
    run_of inner_of turned add xor
moored_drawn = refl

pub ring_spared : refusal 0 ring ≡ None
unfolding refusal refuse10 refuse11 refuse12 missed cutter first lowest has_way grow opens crosses
    out_end add xor
ring_spared = refl

pub moored_spared : refusal 0 moored ≡ None
unfolding refusal refuse10 refuse11 refuse12 missed cutter first lowest has_way grow opens crosses
    out_end add xor
moored_spared = refl

pub hung_node : refusal 0 hung ≡ refusing 11 1 3
unfolding refusal refuse10 refuse11 refuse12 missed cutter first lowest has_way grow opens crosses
    out_end add xor
hung_node = refl

pub hung_link : refusal 1 hung ≡ refusing 12 3 3
unfolding refusal refuse10 refuse11 refuse12 missed cutter first lowest has_way grow opens crosses
    out_end add xor
hung_link = refl

pub apart_refused : refusal 0 apart ≡ refusing 10 1 0
unfolding refusal refuse10 refuse11 refuse12 missed cutter first lowest has_way grow opens crosses
    out_end add xor
apart_refused = refl
