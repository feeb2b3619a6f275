use Rattle.std.proofs.{Common.◌∙◌, Common.◌*◌, Common.◌^◌, Common.◌<◌, Common.ap, Common.subst, Common.sym, Common.arith, Math.Nat.pow-succ', Math.Nat.mul_comm}
use Rattle.rv_bits.proofs.Naming.{bits_more}
use Rattle.rv_bits.proofs.names.label_bits.Goals as goal

pub loop-codes-preserved : goal.loop-codes-preserved
loop-codes-preserved c =
    let b = c.loop-codes.bits in
    let is = c.loop-codes.invariant.codes in
    let lt : 2 ^ b < c.args.labels = subst (λ n. n < c.args.labels) is c.loop-codes-test.true in
    let more = bits_more c.args.labels b lt in
    record {
      codes = ap (λ n. n * 2) is ∙ mul_comm (2 ^ b) 2 ∙ sym (pow-succ' 2 b) ∙ ap (λ n. 2 ^ n) (omega arith);
      few = omega (arith, more.0);
      small = omega (arith, c.requires);
      rest = more.1 ∙ c.loop-codes.invariant.rest;
    }
