use Rattle.rv_bits.specs.Bits.{bit, count_true}
use Rattle.rv_bits.proofs.Making.{count_more}
use Rattle.rv_bits.proofs.bits.at_most_one.Goals as goal

pub loop-number-preserved : goal.loop-number-preserved
loop-number-preserved c = record {
  counted = count_more c.args.store.now c.loop-number.store c.count_one.new.store c.args.refs.now c.loop-number.counted.none c.loop-number.counted.most
      c.in_ok-counted.counted.none c.in_ok-counted.counted.most c.loop-number.number c.requires.refs
      c.loop-number.invariant.counted
      (c.in_ok-counted.ensures.ok (λ v. count_true c.loop-number.number (bit c.args.store.now.nodes c.args.refs.now v))
      c.loop-number.invariant.counted.none_means c.loop-number.invariant.counted.most_means);
}
