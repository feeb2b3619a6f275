use Rattle.std.proofs.Common.{arith}
use Rattle.rv_instances.specs.Callees.{callee_in}
use Rattle.rv_flatten.proofs.MemoryNumbers.{one_more_told, number_told}
use Rattle.rv_flatten.proofs.memories.memory_numbers.Goals as goal

pub loop-number-init : goal.loop-number-init
loop-number-init c p main instances known kept k w s before place = absurd (omega (arith, before))

pub loop-number-preserved : goal.loop-number-preserved
loop-number-preserved c p main instances known kept =
    one_more_told p main instances known c.args.kept.now kept c.loop-number.number c.index-kept-number.result c.loop-number-test.true c.index-kept-number.is
    c.site_of.result c.site_of.ensures (callee_in c.loop-number.numbers) (callee_in c.tell.new.self) c.in_ok-tell.ensures
    (c.loop-number.invariant p main instances known kept)

pub returns : goal.returns
returns c p main instances known kept =
    number_told p main instances known c.args.kept.now kept (callee_in c.loop-number.numbers) c.loop-number.number c.loop-number-test.false
    (c.loop-number.invariant p main instances known kept)
