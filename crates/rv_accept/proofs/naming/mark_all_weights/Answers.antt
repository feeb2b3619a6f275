use Rattle.std.proofs.Common.{◌+◌, ◌<◌, length, All, ℕ, subst, sym, arith}
use Rattle.rv_rows.specs.{declared.farkas.Weight.Weight, declared.farkas.Multipliers.Multipliers}
use Rattle.rv_accept.specs.Needs.{Names}
use Rattle.rv_accept.proofs.{Listing.all_at, Marking.loop_start, Marking.loop_more, Marking.loop_end}
use Rattle.rv_accept.proofs.naming.mark_all_weights.Goals as goal

pub loop-i-init : goal.loop-i-init
loop-i-init c = loop_start (λ t (m : Multipliers). Names c.args.given m t) c.args.by.now c.args.flags.now

pub mark_weights-requires : goal.mark_weights-requires
mark_weights-requires c = subst (λ (n : ℕ). All (λ (w : Weight). w.premise < c.args.given + n) c.at.result.now.weights) (sym c.loop-i.invariant.size)
    (all_at (λ (m : Multipliers). All (λ (w : Weight). w.premise < c.args.given + length c.args.flags.now) m.weights) c.args.by.now c.requires c.loop-i.i
    c.at.result.now c.at.ensures.value)

pub loop-i-preserved : goal.loop-i-preserved
loop-i-preserved c = loop_more (λ t (m : Multipliers). Names c.args.given m t) c.args.by.now c.loop-i.i c.at.result.now c.args.flags.now c.loop-i.flags
    c.mark_weights.new.flags c.at.ensures.value c.loop-i.invariant c.mark_weights.ensures

pub returns : goal.returns
returns c = loop_end (λ t (m : Multipliers). Names c.args.given m t) c.args.by.now c.loop-i.i c.args.flags.now c.loop-i.flags (omega arith) c.loop-i.invariant
