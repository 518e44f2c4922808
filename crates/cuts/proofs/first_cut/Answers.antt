-- The first cut that is found is that of the lowest loss.
use Rattle.std.proofs.Common.{sym, ap, ◌∙◌, rules, of_calls}
use Rattle.reader.specs.Network.{graph}
use Rattle.cuts.specs.Cut.{cut_by}
use Rattle.cuts.proofs.Cutting.{found, cut_first}
use Rattle.cuts.proofs.first_cut.Goals as goal

pub returns : goal.returns
returns c = λ number.
    let G = graph c.args.network in
    let base = c.args.base in
    cut_first G base c.args.k number
    ∙ ap (cut_by number)
    (sym (c.first.ensures (found G base c.args.k number) (λ i r l p. search (rules, of_calls))))
