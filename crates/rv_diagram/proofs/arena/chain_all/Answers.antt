use Rattle.std.proofs.Common.{refl, arith}
use Rattle.rv_diagram.proofs.ChainLemmas.{chaining_none, chaining_more}
use Rattle.rv_diagram.proofs.arena.chain_all.Goals as goal

pub loop-at-init : goal.loop-at-init
loop-at-init c = chaining_none c.args.slots.now c.args.heads.now c.args.limit (omega arith) c.requires.some c.requires.bare

pub loop-at-preserved : goal.loop-at-preserved
loop-at-preserved c = chaining_more c.args.slots.now c.loop-at.slots c.loop-at.heads c.args.limit c.loop-at.at c.bucket-b.result _ c.loop-at.invariant
    (omega arith) c.requires.within c.bucket-b.ensures.within c.bucket-b.ensures.is refl refl
