use Rattle.std.proofs.Common.{ap, sym}
use Rattle.rv_agreement.specs.Trees.{Item, no_item}
use Rattle.rv_flat.specs.Systems.{flow_item}
use Rattle.rv_bits.proofs.Naming.{mapped_past}
use Rattle.rv_tested.proofs.compared.clock_of.Goals as goal

pub returns-in-None : goal.returns-in-None
returns-in-None c = sym (ap (λ (x : Item). x.clock) (mapped_past (flow_item c.args.flat.now.memories) c.args.flat.now.flows c.args.number no_item
    (sym c.in-None.ensures.value)))
