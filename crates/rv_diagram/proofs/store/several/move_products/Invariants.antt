use Rattle.rv_diagram.specs.Several.{AreLeft}
use Rattle.rv_diagram.proofs.store.several.move_products.Given as goal

abbrev pub invariant-loop-product : goal.invariant-loop-product
invariant-loop-product l = AreLeft l.fn.from l.to
