use Rattle.std.proofs.{Common.[], Common.ℕ, Common.refl, Common.ap, Common.subst, Common.arith, lemmas.Result.err_from_is_err_and}
use Rattle.std.specs.Prelude.{None, replicate}
use Rattle.rv_proofs.specs.declared.certificate.Certificate.{Certificate}
use Rattle.rv_invfile.specs.Readers.{Reads, run}
use Rattle.rv_invariant.specs.declared.counts.Shape.{Shape}
use Rattle.rv_invariant.specs.Certificates.{all_locations, certificate_rule, head_rule, locations_rule}
use Rattle.rv_invariant.proofs.{Counting.shape-memories, Choices.chain-ok, Choices.chain-stops, Choices.chain-last}
use Rattle.rv_invariant.proofs.reading.read_all.Goals as goal

pub read_locations-requires : goal.read_locations-requires
read_locations-requires c = omega (arith, ap (λ (s : Shape). s.memories) c.shape_of.ensures, shape-memories c.args.flat.now)

pub returns-in_err-count : goal.returns-in_err-count
returns-in_err-count c =
    let f = c.args.flat.now in
    let p = err_from_is_err_and c.from_residual.result c.from_residual.ensures.1 in
    rw (p.1, p.2) (chain-stops (λ (n : ℕ). n) (λ (x : Certificate). x) (head_rule f) (all_locations f) (run (certificate_rule f) c.args.records.now)
    c.args.records.now c.in_err-count.field-0.0 c.read_head.new.records refl c.in_err-count.ensures)

pub returns : goal.returns
returns c =
    let f = c.args.flat.now in
    let n = c.in_ok-count.count in
    let whole = run (certificate_rule f) c.args.records.now in
    let w1 = chain-ok (head_rule f) (all_locations f) whole c.args.records.now c.read_head.new.records n refl c.in_ok-count.ensures in
    let last = subst (λ (s : Shape). Reads (λ (x : Certificate). x) (run (locations_rule s n n [] (replicate n None)) c.read_head.new.records)
    c.read_locations.result c.read_locations.new.records) c.shape_of.ensures c.read_locations.ensures in
    chain-last (λ (x : Certificate). x) (all_locations f n) whole c.read_head.new.records c.read_locations.result c.read_locations.new.records w1 last
