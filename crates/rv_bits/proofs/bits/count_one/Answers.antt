use Rattle.rv_bits.proofs.Making.{counted_more}
use Rattle.rv_bits.proofs.bits.count_one.Goals as goal

pub returns-clause-ok : goal.returns-clause-ok
returns-clause-ok c = λ count p q. counted_more c.args.store.now c.ite.new.self c.ite-2.new.self c.args.so_far.none c.args.so_far.most c.args.one
    c.in_ok-none.none c.in_ok-most.most count
    c.requires.none c.requires.most c.requires.one c.in_ok-most.ensures.ok c.in_ok-none.ensures.ok p q
