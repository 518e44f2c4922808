-- What was read is told, and `fill` leaves the ends of the told links at the start.
use Rattle.std.proofs.Common.{◌≡◌, ◌*◌, take, sym, arith}
use Rattle.reader.specs.Ends.{Told, ends_of}
use Rattle.reader.proofs.Ends.{fill_is, length_ends}
use Rattle.reader.proofs.Told.{reading_told}
use Rattle.reader.proofs.Network.read.Goals as goal
use Rattle.reader.proofs.Network.read.Goals.{After-fill}

known : (c : After-fill) → Told c.args.table.now c.in_ok-shape.shape
known c = reading_told c.args.table.now c.in_ok-shape.shape (sym c.in_ok-shape.ensures)

stands : (c : After-fill)
    → take (2 * c.in_ok-shape.shape.links) c.fill.new.ends ≡ ends_of c.args.table.now c.in_ok-shape.shape
stands c =
    rw c.fill.ensures
    (fill_is c.args.table.now c.in_ok-shape.shape c.args.ends.now (known c)
    (omega (arith, c.requires, (known c).graph.formed.few_links)))

pub overflow_mul-result : goal.overflow_mul-result
overflow_mul-result c =
    let told = known (goal.at.overflow_mul-result c).After-fill in
    record { fits = omega (arith, told.graph.formed.few_links) }

pub slice_bounds-result-end : goal.slice_bounds-result-end
slice_bounds-result-end c =
    let at = (goal.at.slice_bounds-result-end c).After-fill in
    rw (stands at) (sym (length_ends c.args.table.now c.in_ok-shape.shape))

pub invariant_of-result : goal.invariant_of-result
invariant_of-result c =
    let at = (goal.at.invariant_of-result c).After-fill in
    record { filled = rw (stands at) (known at).graph }

pub returns : goal.returns
returns c = (sym c.in_ok-shape.ensures, stands (goal.at.returns c).After-fill)

pub shared_ref_as_front-result : goal.shared_ref_as_front-result
shared_ref_as_front-result c =
    omega (arith, (known (goal.at.shared_ref_as_front-result c).After-fill).graph.formed.few_links)
