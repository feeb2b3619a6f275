use Rattle.std.proofs.Common.{arith}
use Rattle.rv_falsify.proofs.Counted.{few_bits}
use Rattle.rv_falsify.proofs.decoding.value_from.Goals as goal

pub code_at-requires-clause-few : goal.code_at-requires-clause-few
code_at-requires-clause-few c = omega (arith, c.bits_of_kind.ensures, few_bits c.args.labels.now c.args.kind c.requires.few)
