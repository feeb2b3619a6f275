use Rattle.rv_types.proofs.Joined.{first_append, sooner_assoc}
use Rattle.rv_base.proofs.Lists.{next_of}
use Rattle.rv_types.proofs.uses.+unknown.Goals as goal

pub unknown_use_of_all-loop-e-preserved : goal.unknown_use_of_all-loop-e-preserved
unknown_use_of_all-loop-e-preserved t c =
    let d = next_of c.args.es.now c.loop-e.e-index c.e-item.result c.loop-e-test.true c.e-item.is in
    let v = rw d at c.loop-e.invariant in
    rw (c.sooner_of-fault.ensures.value, sooner_assoc, c.unknown_use.ensures, ← first_append) v
