-- By one link more: along it the set grows, or may not.
use Rattle.std.proofs.Common.{◌≡◌, refl, sym, ◌∙◌, Some, None, arith, true≢false}
use Rattle.std.proofs.lemmas.Slice.Eq.{bytes_eq-Decides}
use Rattle.cuts.proofs.Reached.{turn_in, gain_new, passed_none, passed_still, passed_more, passed_end}
use Rattle.cuts.proofs.Without.pass.Goals as goal
use Rattle.cuts.proofs.Without.pass.Goals.{in-Some, in_default}

pub loop-i-init : goal.loop-i-init
loop-i-init c = (None, refl, passed_none)

pub with-grown-requires : goal.with-grown-requires
with-grown-requires c =
    let e = rw c.turn.ensures at c.in-Some.ensures in
    let lt = turn_in c.args.up _ c.loop-i.i c.loop-i-test.true in
    (gain_new _ c.args.self.network.filled.formed c.args.self.loss _ _ lt (sym e)).0

pub loop-i-preserved : goal.loop-i-preserved
loop-i-preserved c =
    let ok = c.args.self.network.filled.formed in
    let b = c.loop-i-test.true in
    let (o, now, p) = c.loop-i.invariant in
    elim c.match-gain.branch [
      | in-Some w ↦
          let e = rw (c.turn.ensures, now) at w.in-Some.ensures in
          let new = rw now at w.with-grown.ensures in
          (Some w.with-grown.result, w.grown-is, passed_more ok b p (sym e) new)
      | in_default w ↦
          let e = rw (c.turn.ensures, now) at w.in_default.ensures in
          (o, w.grown-is ∙ now, passed_still ok b p (sym e))
    ]

pub returns-then-eq : goal.returns-then-eq
returns-then-eq c =
    let (o, now, p) = c.loop-i.invariant in
    let all : c.loop-i.i ≡ c.args.self.network.shape.links = omega arith in
    (passed_end (rw all at p) now).0 ((bytes_eq-Decides _ _).0 (sym c.eq.ensures ∙ c.if-eq.true))

pub returns-else-eq : goal.returns-else-eq
returns-else-eq c =
    let (o, now, p) = c.loop-i.invariant in
    let all : c.loop-i.i ≡ c.args.self.network.shape.links = omega arith in
    (passed_end (rw all at p) now).1
    (λ q. true≢false (sym ((bytes_eq-Decides _ _).1 q) ∙ sym c.eq.ensures ∙ c.if-eq.false))
