use Rattle.std.proofs.Common.{◌∙◌, ap, sym, List, ℕ}
use Rattle.rv_diagram.proofs.Calls.{value_of-false}
use Rattle.rv_base.specs.declared.value.Value.{Value}
use Rattle.rv_bits.specs.{Bits.bit, Constants.constant_bit}
use Rattle.rv_bits.proofs.leaves.constant_bits.Goals as goal

pub returns-in-Whole-clause-means : goal.returns-in-Whole-clause-means
returns-in-Whole-clause-means c = λ b v. ap (λ (l : List ℕ). bit c.args.store.now.nodes l v b) c.new.ensures ∙ value_of-false c.args.store.now.nodes v
    ∙ sym (ap (λ (x : Value). constant_bit x b) c.in-Whole.is)
