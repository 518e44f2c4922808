-- Here something is found, and nothing before; or nothing is.
use Rattle.std.proofs.Common.{sym, ap, ◌∙◌, ◌<◌, arith, is_some}
use Rattle.network.proofs.Search.{first_only, first_nothing}
use Rattle.search.proofs.first.Goals as goal

pub returns-in-Some : goal.returns-in-Some
returns-in-Some g c = λ h gives.
    let lt : c.loop-i.i < c.args.k = omega (arith, c.loop-i-test.true) in
    let e = sym (gives c.loop-i.i _ lt c.in-Some.ensures) in
    sym (first_only c.args.k h c.loop-i.i lt (ap is_some e)
    (λ j l. ap is_some (sym (gives j _ (omega arith) (c.loop-i.invariant j l)))) ∙ e)

pub returns : goal.returns
returns g c = λ h gives.
    sym (first_nothing c.args.k h
    (λ j l. ap is_some (sym (gives j _ l (c.loop-i.invariant j (omega arith))))))
