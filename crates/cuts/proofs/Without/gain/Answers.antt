-- Each `return` is a case of the test in `gain_as`.
use Rattle.std.proofs.Common.{◌≡◌, ◌+◌, not, ◌&&◌, cond, eqb, eq-eqb, Some, ne_eqb}
use Rattle.std.proofs.Math.Bool.{beq}
use Rattle.network.specs.Search.{when}
use Rattle.nodeset.specs.Set.{has}
use Rattle.reader.specs.Network.{graph}
use Rattle.cuts.specs.Reached.{gain}
use Rattle.cuts.proofs.Reached.{gain_as}
use Rattle.cuts.proofs.Without.gain.Goals as goal
use Rattle.cuts.proofs.Without.gain.Goals.{After-has, then-near_in, else-near_in}

-- What is gained, by the two ends and whether they are in.
known : (c : After-has)
    → let a = c.at-near.result.near in
    let b = c.at-near.result.far in
    let x = c.has-near_in.result in
    gain (graph c.args.self.network) c.args.self.loss (has c.args.set.words) c.args.l
    ≡ when
    (not (beq x c.has.result)
    && (not (eqb c.args.self.loss (256 + c.args.l)) && not (eqb c.args.self.loss (cond x b a))))
    (Some (cond x b a))
known c =
    gain_as (graph c.args.self.network) c.args.self.loss (has c.args.set.words) c.args.l
    c.at-near.ensures.near c.at-near.ensures.far c.has-near_in.ensures c.has.ensures

pub returns-then-near_in-has : goal.returns-then-near_in-has
returns-then-near_in-has c =
    rw (known (goal.at.returns-then-near_in-has c).After-has, c.if-near_in-has.true)

pub returns-then-self-l : goal.returns-then-self-l
returns-then-self-l c =
    rw (
      known (goal.at.returns-then-self-l c).After-has,
      c.if-near_in-has.false,
      eq-eqb _ _ c.if-self-l.true,
    )

pub returns-then-self-new : goal.returns-then-self-new
returns-then-self-new c =
    let gained = known (goal.at.returns-then-self-new c).After-has in
    let link = ne_eqb _ _ c.if-self-l.false in
    elim c.if-near_in.branch [
      | then-near_in w ↦
          rw (gained, c.if-near_in-has.false, link, w.if-near_in.true, ← w.new-is, eq-eqb _ _ c.if-self-new.true)
      | else-near_in w ↦
          rw (gained, c.if-near_in-has.false, link, w.if-near_in.false, ← w.new-is, eq-eqb _ _ c.if-self-new.true)
    ]

pub returns-else-self-new : goal.returns-else-self-new
returns-else-self-new c =
    let gained = known (goal.at.returns-else-self-new c).After-has in
    let link = ne_eqb _ _ c.if-self-l.false in
    elim c.if-near_in.branch [
      | then-near_in w ↦
          rw (gained, c.if-near_in-has.false, link, w.if-near_in.true, ← w.new-is, ne_eqb _ _ c.if-self-new.false)
      | else-near_in w ↦
          rw (gained, c.if-near_in-has.false, link, w.if-near_in.false, ← w.new-is, ne_eqb _ _ c.if-self-new.false)
    ]
