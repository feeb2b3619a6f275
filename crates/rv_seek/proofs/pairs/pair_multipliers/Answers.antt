use Rattle.std.proofs.Common.{◌++◌, length, ap, ◌∙◌, refl, negsuc, []}
use Rattle.rv_seek.specs.{Pairs.unit_at, Least.bounded}
use Rattle.rv_seek.proofs.PairLemmas.{pair_proves, pair_ranges, refutes_from}
use Rattle.rv_seek.proofs.pairs.pair_multipliers.Goals as goal

pub returns-clause-weights : goal.returns-clause-weights
returns-clause-weights c = c.in_ok-weights.ensures ∙ ap (λ n. unit_at n c.args.first ++ unit_at n c.args.second) c.len.ensures

pub returns-clause-proof : goal.returns-clause-proof
returns-clause-proof c r shows = pair_proves c.args.premises.now r c.args.first c.args.second c.in_ok-weights.weights (returns-clause-weights c) shows

pub returns-clause-refutation : goal.returns-clause-refutation
returns-clause-refutation c shows = refutes_from c.args.premises.now _ refl (returns-clause-proof c (bounded [] (negsuc 0)) shows)

pub returns-clause-ranges : goal.returns-clause-ranges
returns-clause-ranges c = pair_ranges (length c.args.premises.now) c.args.first c.args.second c.in_ok-weights.weights (returns-clause-weights c)
    c.requires.order
