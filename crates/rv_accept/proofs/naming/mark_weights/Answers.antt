use Rattle.std.proofs.Common.{◌≡◌, ◌+◌, ◌<◌, length, arith}
use Rattle.rv_rows.specs.declared.farkas.Weight.{Weight}
use Rattle.rv_accept.proofs.{Listing.all_at, Marking.loop_start, Marking.loop_more, Marking.loop_end}
use Rattle.rv_accept.proofs.naming.mark_weights.Goals as goal

pub loop-i-init : goal.loop-i-init
loop-i-init c = loop_start (λ t (w : Weight). w.premise ≡ c.args.given + t) c.args.by.now.weights c.args.flags.now

pub mark_premise-requires : goal.mark_premise-requires
mark_premise-requires c =
    let low : c.at-weight.result.now.premise < c.args.given + length c.args.flags.now =
    all_at (λ (w : Weight). w.premise < c.args.given + length c.args.flags.now) c.args.by.now.weights c.requires c.loop-i.i c.at-weight.result.now
    c.at-weight.ensures.value in
    let size : length c.loop-i.flags ≡ length c.args.flags.now = c.loop-i.invariant.size in
    omega arith

pub loop-i-preserved : goal.loop-i-preserved
loop-i-preserved c = loop_more (λ t (w : Weight). w.premise ≡ c.args.given + t) c.args.by.now.weights c.loop-i.i c.at-weight.result.now c.args.flags.now
    c.loop-i.flags
    c.mark_premise.new.flags c.at-weight.ensures.value c.loop-i.invariant c.mark_premise.ensures

pub returns : goal.returns
returns c = loop_end (λ t (w : Weight). w.premise ≡ c.args.given + t) c.args.by.now.weights c.loop-i.i c.args.flags.now c.loop-i.flags
    (omega arith) c.loop-i.invariant
