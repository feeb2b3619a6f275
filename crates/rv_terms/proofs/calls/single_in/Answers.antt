use Rattle.std.proofs.Common.{arith}
use Rattle.rv_terms.proofs.Finding.{found_all}
use Rattle.rv_terms.proofs.calls.single_in.Goals as goal

pub returns-clause-ok : goal.returns-clause-ok
returns-clause-ok c = found_all c.args.store.now.nodes c.args.parts.now c.args.under c.loop-i.i c.loop-i.found c.requires.covers (omega arith)
    c.loop-i.invariant.found
