use Rattle.std.proofs.{Common.arith, lemmas.Int.to_z-of_z}
use mir.Syntax.{w128}
use Rattle.rv_probe.proofs.Made.{made}
use Rattle.rv_probe.proofs.traces.probe_trace.Goals as goal

pub returns : goal.returns
returns c =
    let same = to_z-of_z w128 c.args.number c.ranges.number in
    made c.args.flat.now c.args.truth c.args.number _ same c.loop-instant._instant _ _ c.in_ok-starts.ensures c.loop-instant.invariant (omega arith)
