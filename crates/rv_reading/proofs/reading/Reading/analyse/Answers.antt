use Rattle.std.proofs.Common.{ℤ, List, sym, subst, All, ◌≤◌, ◌^◌}
use Rattle.std.specs.Int.RustNames.{unsigned_abs}
use Rattle.rv_proofs.specs.RowClaims.{HasGoodRows}
use Rattle.rv_reading.specs.Analysing.{IsAnalysisOf}
use Rattle.rv_reading.specs.declared.ending.Analysis.TheVariants.{Proved, Left}
use Rattle.rv_reading.specs.Read.{system_read}
use Rattle.rv_reading.proofs.Analysed.{of_value}
use Rattle.rv_reading.proofs.Representing.{is_analysed}
use Rattle.rv_reading.proofs.reading.Reading.analyse.Goals as goal

pub analysed-requires-clause-given : goal.analysed-requires-clause-given
analysed-requires-clause-given c =
    let r = c.args.self.now in (
      system_read r,
      is_analysed r c.as_slice-thresholds.result.now c.requires.read
          (subst (λ (ts : List ℤ). All (λ t. unsigned_abs t ≤ 2 ^ 41) ts) (sym c.as_slice-thresholds.ensures) c.requires.thresholds),
    )

pub returns-clause-proved : goal.returns-clause-proved
returns-clause-proved c = λ x is.
    let r = c.args.self.now in
    let given = is_analysed r c.as_slice-thresholds.result.now c.requires.read
    (subst (λ (ts : List ℤ). All (λ t. unsigned_abs t ≤ 2 ^ 41) ts) (sym c.as_slice-thresholds.ensures) c.requires.thresholds) in
    let end = of_value (IsAnalysisOf (system_read r) c.args.locations c.args.accelerate) c.analysed.result (Proved x) (c.analysed.ensures.end (system_read r) given) is in
    end.accepted

pub returns-clause-plain : goal.returns-clause-plain
returns-clause-plain c = λ x is.
    let r = c.args.self.now in
    let given = is_analysed r c.as_slice-thresholds.result.now c.requires.read
    (subst (λ (ts : List ℤ). All (λ t. unsigned_abs t ≤ 2 ^ 41) ts) (sym c.as_slice-thresholds.ensures) c.requires.thresholds) in
    let end = of_value (IsAnalysisOf (system_read r) c.args.locations c.args.accelerate) c.analysed.result (Proved x) (c.analysed.ensures.end (system_read r) given) is in
    end.plain

pub returns-clause-left : goal.returns-clause-left
returns-clause-left c = λ x is.
    let r = c.args.self.now in
    let given = is_analysed r c.as_slice-thresholds.result.now c.requires.read
    (subst (λ (ts : List ℤ). All (λ t. unsigned_abs t ≤ 2 ^ 41) ts) (sym c.as_slice-thresholds.ensures) c.requires.thresholds) in
    let end = of_value (IsAnalysisOf (system_read r) c.args.locations c.args.accelerate) c.analysed.result (Left x) (c.analysed.ensures.end (system_read r) given) is in
    end.0

pub returns-clause-plain_left : goal.returns-clause-plain_left
returns-clause-plain_left c = λ x is.
    let r = c.args.self.now in
    let given = is_analysed r c.as_slice-thresholds.result.now c.requires.read
    (subst (λ (ts : List ℤ). All (λ t. unsigned_abs t ≤ 2 ^ 41) ts) (sym c.as_slice-thresholds.ensures) c.requires.thresholds) in
    let end = of_value (IsAnalysisOf (system_read r) c.args.locations c.args.accelerate) c.analysed.result (Left x) (c.analysed.ensures.end (system_read r) given) is in
    end.1

pub returns-clause-claims : goal.returns-clause-claims
returns-clause-claims c = λ has.
    let r = c.args.self.now in
    c.analysed.ensures.claims (system_read r)
    (is_analysed r c.as_slice-thresholds.result.now c.requires.read (subst (λ (ts : List ℤ). All (λ t. unsigned_abs t ≤ 2 ^ 41) ts)
    (sym c.as_slice-thresholds.ensures) c.requires.thresholds))
    (subst (λ (ts : List ℤ). HasGoodRows (system_read r) ts) (sym c.as_slice-thresholds.ensures) has)
