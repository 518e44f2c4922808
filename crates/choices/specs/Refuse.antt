-- Refusals 10 to 12.
--     Refusal             number, place, other; refusing n k v: those three
--     Spares G c          the loss c cuts off no node
--     LowestCut G c v     v is the lowest node that c cuts off
--     NodeCuts p G c v    the condition of 11: c is the lowest node that cuts others off
--     LinkCuts G l v      the condition of 12: l is the lowest link that cuts others off
--     NodesSpare p G      the condition of 11 is not met
--     Sturdy p G          none of 10, 12 and, under node protection, 11 is to be given
--     Due p G o           o is the refusal to give: in its stated condition, and none earlier is
--     missed G c          the lowest node that c cuts off, computed
--     cutter G n k ..     the refusal n of the lowest of k losses that cuts a node off
--     refuse10 G          a node is not joined to the source: the lowest such node
--     refuse11 G          a node cuts others off: the lowest such node, the lowest node cut off
--     refuse12 G          a link cuts others off: the lowest such link, the lowest node cut off
--     refusal p G         the first of them that there is, 11 under node protection alone
-- Assumes nothing.
use Rattle.std.specs.Prelude.{◌≡◌, ◌≢◌, Bool, true, not, ◌&&◌, ℕ, ◌<◌, Option, Some, None, ◌==◌}
use Rattle.std.specs.Option.{option_or}
use Rattle.network.specs.Search.{when, on_found, first, lowest}
use Rattle.network.specs.Graph.{Graph, link_code, no_loss}
use Rattle.network.specs.Way.{CutsOff, has_way}

pub record Refusal : Type 0 where
  pub number : ℕ
  pub place : ℕ
  pub other : ℕ

abbrev pub refusing : ℕ → ℕ → ℕ → Option Refusal
refusing n k v = Some (record { number = n; place = k; other = v })

abbrev pub Spares : Graph → ℕ → Type 0
Spares G c = (v : ℕ) → ¬ (CutsOff G c v)

pub record LowestCut (G : Graph) (c v : ℕ) : Type 0 where
  pub cut : CutsOff G c v
  pub lower : (w : ℕ) → w < v → ¬ (CutsOff G c w)

-- Node c cuts others off, no lower node does, and v is the lowest node that c cuts off.
pub record NodeCuts (p : ℕ) (G : Graph) (c v : ℕ) : Type 0 where
  pub asked : p ≡ 0
  pub node : c < G.nodes
  pub another : c ≢ G.source
  pub cuts : LowestCut G c v
  pub lower : (d : ℕ) → d < c → d ≢ G.source → Spares G d

-- The same of link l.
pub record LinkCuts (G : Graph) (l v : ℕ) : Type 0 where
  pub link : l < G.links
  pub cuts : LowestCut G (link_code l) v
  pub lower : (k : ℕ) → k < l → Spares G (link_code k)

-- No node but the source cuts others off, where the protection asks.
abbrev pub NodesSpare : ℕ → Graph → Type 0
NodesSpare p G = p ≡ 0 → (c : ℕ) → c < G.nodes → c ≢ G.source → Spares G c

pub record Sturdy (p : ℕ) (G : Graph) : Type 0 where
  pub joined : Spares G no_loss
  pub nodes : NodesSpare p G
  pub links : (l : ℕ) → l < G.links → Spares G (link_code l)

pub data Due (p : ℕ) (G : Graph) : Option Refusal → Type 0 where
  none : Sturdy p G → Due p G None
  due10 : {v : ℕ} → LowestCut G no_loss v → Due p G (refusing 10 v 0)
  due11 : {c v : ℕ} → Spares G no_loss → NodeCuts p G c v → Due p G (refusing 11 c v)
  due12 : {l v : ℕ} → Spares G no_loss → NodesSpare p G → LinkCuts G l v → Due p G (refusing 12 l v)

module _ (G : Graph) where
  unfoldable pub missed : ℕ → Option ℕ
  missed c = lowest G.nodes (λ v. not (v == c) && not (has_way G c v))

  -- The refusal at the lowest i below k that may cut, and whose loss `code i` cuts a node off.
  unfoldable pub cutter : ℕ → ℕ → (ℕ → Bool) → (ℕ → ℕ) → Option Refusal
  cutter number k may code =
      first k (λ i. when (may i) (on_found (missed (code i)) (refusing number i) None))

  unfoldable pub refuse10 : Option Refusal
  refuse10 = on_found (missed no_loss) (λ v. refusing 10 v 0) None

  unfoldable pub refuse11 : Option Refusal
  refuse11 = cutter 11 G.nodes (λ c. not (c == G.source)) (λ c. c)

  unfoldable pub refuse12 : Option Refusal
  refuse12 = cutter 12 G.links (λ l. true) link_code

unfoldable pub refusal : ℕ → Graph → Option Refusal
refusal p G = option_or (refuse10 G) (option_or (when (p == 0) (refuse11 G)) (refuse12 G))
