use Rattle.std.proofs.{Common.length, Common.arith, lemmas.Result.err_from_is_err_and}
use Rattle.rv_invfile.specs.Ahead.{here}
use Rattle.rv_invariant.specs.{Groups.upto, Pieces.is_node_field, Pieces.triple_at}
use Rattle.rv_invariant.proofs.{Grouping.group-stops, Looping.all-read, Looping.pushed-length, Looping.pushed-read, Looping.pushed-right}
use Rattle.rv_invariant.proofs.diagrams.read_triples.Goals as goal

pub returns-in_err-triple : goal.returns-in_err-triple
returns-in_err-triple c =
    let r = here c.args.records.now in
    let p = err_from_is_err_and c.from_residual-in_err-triple.result c.from_residual-in_err-triple.ensures.1 in
    let inv = c.loop-index.invariant in
    rw (p.1, p.2) (group-stops 3 (is_node_field c.args.shape c.args.states) c.args.records.now c.args.count (length c.loop-index.triples)
    (triple_at r (length c.loop-index.triples)) (upto triple_at r c.args.count) c.in_err-triple.field-0.0
    (omega (arith, inv.size, c.loop-index-test.true)) inv.right c.in_err-triple.ensures)

pub loop-index-preserved : goal.loop-index-preserved
loop-index-preserved c =
    let r = here c.args.records.now in
    let inv = c.loop-index.invariant in
    let xs = c.loop-index.triples in
    let new = c.push.new.self in
    let e = c.in_ok-push.ensures.ok in
    record {
      size = omega (arith, pushed-length xs new c.in_ok-triple.triple e, inv.size);
      read = pushed-read triple_at r xs new c.in_ok-triple.triple inv.read c.in_ok-triple.ensures.0 e;
      right = pushed-right 3 (is_node_field c.args.shape c.args.states r) xs new c.in_ok-triple.triple inv.right c.in_ok-triple.ensures.1 e;
    }

pub returns : goal.returns
returns c =
    let inv = c.loop-index.invariant in
    all-read triple_at (here c.args.records.now) 3 (is_node_field c.args.shape c.args.states (here c.args.records.now)) c.loop-index.triples c.args.count
    (omega (arith, inv.size, c.loop-index-test.false)) inv.read inv.right
