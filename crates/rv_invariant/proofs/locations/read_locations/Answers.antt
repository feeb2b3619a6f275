use Rattle.std.proofs.Common.{◌≡◌, ◌+◌, ◌-◌, ◌++◌, ◌∷◌, [], suc, length, arith, sym, ap, ◌∙◌, subst}
use Rattle.std.proofs.{lemmas.List.length-replicate, lemmas.List.length_push, lemmas.Result.err_from_is_err_and}
use Rattle.std.specs.Prelude.{replicate, None, Ok, Err}
use Rattle.rv_proofs.specs.{declared.certificate.Certificate.Certificate, declared.certificate.Location.Location}
use Rattle.rv_invfile.specs.Readers.{run}
use Rattle.rv_invariant.specs.{Certificates.location_rule, Certificates.locations_rule, Continues.Continues, Continues.Then}
use Rattle.rv_invariant.proofs.{Going.begun, Going.over, Going.over-stops, Going.locations-suc, Going.locations-wait, Choices.stops-with-next}
use Rattle.rv_invariant.proofs.locations.read_locations.Goals as goal

pub loop-index-init : goal.loop-index-init
loop-index-init c = record {
  size = ap length c.new-locations.ensures;
  known = ap length c.in_ok-known.ensures ∙ length-replicate c.args.count None;
  kept = begun c.args.shape c.args.count c.new-locations.result c.in_ok-known.known c.args.records.now c.new-locations.ensures c.in_ok-known.ensures;
}

pub returns-in_err-location : goal.returns-in_err-location
returns-in_err-location c =
    let s = c.args.shape in
    let n = c.args.count in
    let left = n - (c.loop-index.index + 1) in
    let e : n - c.loop-index.index ≡ suc left = omega (arith, c.loop-index-test.true) in
    let p = err_from_is_err_and c.from_residual-in_err-location.result c.from_residual-in_err-location.ensures.1 in
    let before = c.loop-index.locations in
    rw (p.1, p.2) (stops-with-next (λ (x : Certificate). x) (λ (next : Then Location). run
    (location_rule s (length c.loop-index.known) (length before) next c.loop-index.known) c.loop-index.records)
    (run (locations_rule s n n [] (replicate n None)) c.args.records.now) c.in_err-location.field-0.0 c.read_location.new.known c.read_location.new.records
    c.read_location.new.records
    (λ l. locations_rule s n left (before ++ l ∷ [])) (λ l k. locations-wait s n left (before ++ l ∷ []) k)
    (sym c.loop-index.invariant.kept ∙ ap (λ k. run (locations_rule s n k before c.loop-index.known) c.loop-index.records) e
    ∙ ap (λ q. run q c.loop-index.records) (locations-suc s n left before c.loop-index.known)
    ∙ ap (λ m. run (location_rule s m (length before) (λ l. locations_rule s n left (before ++ l ∷ [])) c.loop-index.known) c.loop-index.records)
    (sym c.loop-index.invariant.known))
    (subst (λ i. Continues (λ (next : Then Location). run (location_rule s (length c.loop-index.known) i next c.loop-index.known) c.loop-index.records)
    (Err c.in_err-location.field-0.0) c.read_location.new.known c.read_location.new.records) c.len.ensures c.in_err-location.ensures.read))

pub loop-index-preserved : goal.loop-index-preserved
loop-index-preserved c =
    let s = c.args.shape in
    let n = c.args.count in
    let left = n - (c.loop-index.index + 1) in
    let e : n - c.loop-index.index ≡ suc left = omega (arith, c.loop-index-test.true) in
    let before = c.loop-index.locations in
    record {
      size = ap length c.in_ok-push.ensures.ok ∙ length_push before c.in_ok-location.location ∙ ap (λ k. k + 1) c.loop-index.invariant.size;
      known = c.read_location.ensures.same ∙ c.loop-index.invariant.known;
      kept = ap (λ l. run (locations_rule s n left l c.read_location.new.known) c.read_location.new.records) c.in_ok-push.ensures.ok
          ∙ sym ((subst (λ i. Continues (λ (next : Then Location). run (location_rule s (length c.loop-index.known) i next c.loop-index.known)
          c.loop-index.records) (Ok c.in_ok-location.location) c.read_location.new.known c.read_location.new.records) c.len.ensures
          c.in_ok-location.ensures.read) (λ l. locations_rule s n left (before ++ l ∷ [])) (λ l k. locations-wait s n left (before ++ l ∷ []) k))
          ∙ ap (λ m. run (location_rule s m (length before) (λ l. locations_rule s n left (before ++ l ∷ [])) c.loop-index.known) c.loop-index.records)
          c.loop-index.invariant.known
          ∙ sym (ap (λ q. run q c.loop-index.records) (locations-suc s n left before c.loop-index.known))
          ∙ sym (ap (λ k. run (locations_rule s n k before c.loop-index.known) c.loop-index.records) e)
          ∙ c.loop-index.invariant.kept;
    }

pub returns-in_err-read_exactly : goal.returns-in_err-read_exactly
returns-in_err-read_exactly c =
    let p = err_from_is_err_and c.from_residual-in_err-read_exactly.result c.from_residual-in_err-read_exactly.ensures.1 in
    rw (p.1, p.2) (over-stops c.args.shape c.args.count c.loop-index.index c.loop-index.locations c.loop-index.known c.loop-index.records
    (run (locations_rule c.args.shape c.args.count c.args.count [] (replicate c.args.count None)) c.args.records.now)
    (omega (arith, c.loop-index-test.false)) c.loop-index.invariant.kept c.in_err-read_exactly.field-0.0 c.read_exactly.new.records
    c.in_err-read_exactly.ensures.read)

pub returns : goal.returns
returns c =
    over c.args.shape c.args.count c.loop-index.index c.loop-index.locations c.loop-index.known c.loop-index.records
    (run (locations_rule c.args.shape c.args.count c.args.count [] (replicate c.args.count None)) c.args.records.now)
    (omega (arith, c.loop-index-test.false)) c.loop-index.invariant.kept c.read_exactly.new.records c.in_ok-read_exactly.ensures.read
