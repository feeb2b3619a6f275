use Rattle.std.proofs.{Common.◌+◌, Common.◌++◌, Common.take, Common.arith, lemmas.Option.slice_get_within}
use Rattle.std.specs.Prelude.{Some, flat_map}
use Rattle.rv_invfile.proofs.Adding.{adds-none, adds-then}
use Rattle.rv_invariant.specs.{Certificates.location_records, Writes.HasHeld}
use Rattle.rv_invariant.proofs.Adding.{adds-same, each-more, flat-more, flat-taken}
use Rattle.rv_invariant.proofs.writing.write_locations.Goals as goal

pub loop-index-init : goal.loop-index-init
loop-index-init c = (adds-none (λ v. Some v.items) c.args.writer.now, λ j e l h. absurd (omega (arith, l)))

pub loop-index-preserved : goal.loop-index-preserved
loop-index-preserved c =
    let i = c.loop-index.index in
    let ls = c.args.locations.now in
    let l = c.at.result.now in
    let inv = c.loop-index.invariant in (
      adds-same (λ v. Some v.items) c.args.writer.now c.write_location.new.writer (flat_map location_records (take i ls) ++ location_records l)
          (flat_map location_records (take (i + 1) ls)) (flat-more location_records ls i l c.at.ensures.value)
          (adds-then (λ v. Some v.items) c.args.writer.now c.loop-index.writer c.write_location.new.writer (flat_map location_records (take i ls))
          (location_records l)
          inv.0 c.in_ok-write_location.ensures.added),
      each-more HasHeld ls i l c.at.ensures.value c.in_ok-write_location.ensures.held inv.1,
    )

pub returns-clause-added : goal.returns-clause-added
returns-clause-added c =
    let i = c.loop-index.index in
    let ls = c.args.locations.now in
    adds-same (λ v. Some v.items) c.args.writer.now c.loop-index.writer (flat_map location_records (take i ls)) (flat_map location_records ls)
    (flat-taken location_records ls i (omega (arith, c.loop-index-test.false, c.len-index-end.ensures))) c.loop-index.invariant.0

pub returns-clause-held : goal.returns-clause-held
returns-clause-held c j l h =
    let inside = slice_get_within c.args.locations.now j l h in
    c.loop-index.invariant.1 j l (omega (arith, inside, c.loop-index-test.false, c.len-index-end.ensures)) h
