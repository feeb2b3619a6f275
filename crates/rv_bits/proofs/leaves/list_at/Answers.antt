use Rattle.std.proofs.Common.{[], sym}
use Rattle.rv_bits.proofs.Naming.{nothing_there}
use Rattle.rv_bits.proofs.leaves.list_at.Goals as goal

pub returns-in-None : goal.returns-in-None
returns-in-None c = sym (nothing_there c.args.lists.now c.args.number [] (sym c.in-None.ensures.value))
