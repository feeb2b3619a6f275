use Rattle.std.proofs.Common.{◌-◌, ◌+◌, ◌&&◌, ◌||◌, Bool, cond, subst, refl, arith}
use Rattle.rv_diagram.specs.{Nodes.value_of, Several.ref_at}
use Rattle.rv_symbolic.specs.Growing.{Makes}
use Rattle.rv_bits.proofs.Making.{within_more, code_named, next_bit, next_rest}
use Rattle.rv_bits.proofs.bits.names_label.Goals as goal

pub loop-number-preserved : goal.loop-number-preserved
loop-number-preserved c =
    let k = c.loop-number.number in
    let before = c.loop-number.store in
    record {
      made = within_more c.args.store.now before c.within_too.new.store c.args.bits.now (c.args.labels - 1) c.loop-number.within c.in_ok-within.within k
          c.requires.bits
          c.loop-number.invariant.made
          (subst (λ (b : Bool). Makes before c.within_too.new.store (λ v. cond (value_of before.nodes (ref_at c.args.bits.now k) v)
          (b && value_of before.nodes c.loop-number.within v) (b || value_of before.nodes c.loop-number.within v)) c.in_ok-within.within)
          (next_bit (c.args.labels - 1) c.loop-number.rest k c.loop-number.invariant.rest) c.in_ok-within.ensures.ok);
      rest = next_rest (c.args.labels - 1) c.loop-number.rest k (k + 1) c.loop-number.invariant.rest refl;
    }

pub returns-clause-ok : goal.returns-clause-ok
returns-clause-ok c = code_named c.args.store.now c.loop-number.store c.args.bits.now c.args.labels c.loop-number.within c.loop-number.number
    (omega (arith, c.requires.size)) (omega arith) c.loop-number.invariant.made
