use Rattle.std.proofs.Common.{pos, arith}
use Rattle.rv_terms.specs.Parts.{IsTermOf}
use Rattle.rv_ends.specs.Tops.{number_form}
use Rattle.rv_ends.proofs.Sided.{side_from}
use Rattle.rv_ends.proofs.sides.no_side.Goals as goal

pub returns-clause-side : goal.returns-clause-side
returns-clause-side c =
    let end : IsTermOf c.args.store.now.nodes 0 (λ v. number_form (pos 0)) c.in_ok-end.end.parts = c.in_ok-end.ensures c.args.store.now.nodes in
    side_from c.args.store.now.nodes 0 (record { there = c.constant-there.result; end = c.in_ok-end.end }) (λ v. number_form (pos 0))
    c.constant-there.ensures.found end.term end.exact (λ v. omega arith)
