-- Marks spread until a pass adds nothing, or no node is left to add: then the set is who has a way.
use Rattle.std.proofs.Common.{sym, ◌∙◌, arith}
use Rattle.nodeset.specs.Set.{has}
use Rattle.nodeset.proofs.Size.{size_le, size_empty}
use Rattle.reader.specs.Network.{graph}
use Rattle.cuts.proofs.Reached.{marked_one, marked_more, reached_all, reached_full}
use Rattle.cuts.proofs.Without.reach.Goals as goal

pub loop-grown-init : goal.loop-grown-init
loop-grown-init c =
    marked_one (graph c.args.self.network) c.args.self.loss _ _ c.empty.ensures c.with-set.ensures

pub returns-then-count-eq0 : goal.returns-then-count-eq0
returns-then-count-eq0 c =
    let ok = c.args.self.network.filled.formed in
    let known = (marked_more c.loop-grown.invariant c.in-Some.ensures).0 in
    let none = size_empty _ (sym c.count.ensures.exact ∙ c.if-count-eq0.true) in
    reached_full (graph c.args.self.network) c.args.self.loss (has c.in-Some.grown.words) ok known.0
    (λ v l. sym (c.others.ensures v) ∙ none v (omega (arith, ok.few_nodes)))
    known.1

pub loop-grown-preserved : goal.loop-grown-preserved
loop-grown-preserved c = (marked_more c.loop-grown.invariant c.in-Some.ensures).0

pub loop-grown-smaller : goal.loop-grown-smaller
loop-grown-smaller c =
    omega (
      arith,
      (marked_more c.loop-grown.invariant c.in-Some.ensures).1,
      size_le c.in-Some.grown.words,
    )

pub returns : goal.returns
returns c =
    reached_all c.loop-grown.invariant c.args.self.network.filled.formed c.in_default.ensures
