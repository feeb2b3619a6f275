use Rattle.std.proofs.Common.{◌≡◌, ◌<◌, ◌≤◌, ◌^◌, ℤ, Option, Some, None, IfOk, FitsSigned, length, rules, sym, subst}
use Rattle.std.proofs.lemmas.Int.{to_z-of_z}
use Rattle.std.specs.{Int.w128, Int.RustNames.unsigned_abs}
use Rattle.rv_proofs.specs.Systems.{System, IsSystem}
use Rattle.rv_cases.specs.Questions.{AreQuestions}
use Rattle.rv_pairs.specs.Moves.{HoldsWhere}
use Rattle.rv_ends.specs.Risen.{IsRisen}
use Rattle.rv_rise.proofs.Loosening.{risen_none}
use Rattle.rv_rise.proofs.limits.risen_limit.Goals as goal

pub risen_row-requires-clause-limit : goal.risen_row-requires-clause-limit
risen_row-requires-clause-limit c =
    let bound_fits : FitsSigned w128 c.in-Some.bound = search rules in
    subst (λ (z : ℤ). unsigned_abs z ≤ 2 ^ 41) (sym (to_z-of_z w128 c.in-Some.bound bound_fits)) (rw c.in-Some.is at c.requires.limit)

pub returns-in-Some-clause-risen : goal.returns-in-Some-clause-risen
returns-in-Some-clause-risen c =
    let bound_fits : FitsSigned w128 c.in-Some.bound = search rules in
    subst (λ (x : Option ℤ). IfOk c.risen_row.result (λ o. (s : System) → IsSystem s → AreQuestions s c.args.store.now c.args.questions.now
    → length c.args.side.now.coefficients ≡ s.memories → c.args.columns ≡ s.columns → 0 < s.memories
    → IsRisen c.args.thresholds.now (HoldsWhere s c.args.store.now.nodes c.args.labels.now c.args.taken c.args.side.now.coefficients) x o))
    (sym c.in-Some.is)
    (subst (λ (z : ℤ). IfOk c.risen_row.result (λ o. (s : System) → IsSystem s → AreQuestions s c.args.store.now c.args.questions.now
    → length c.args.side.now.coefficients ≡ s.memories → c.args.columns ≡ s.columns → 0 < s.memories
    → IsRisen c.args.thresholds.now (HoldsWhere s c.args.store.now.nodes c.args.labels.now c.args.taken c.args.side.now.coefficients) (Some z) o))
    (to_z-of_z w128 c.in-Some.bound bound_fits) c.risen_row.ensures.risen)

pub returns-in-None-clause-risen : goal.returns-in-None-clause-risen
returns-in-None-clause-risen c s is are size wide some =
    subst (λ (x : Option ℤ). IsRisen c.args.thresholds.now
    (HoldsWhere s c.args.store.now.nodes c.args.labels.now c.args.taken c.args.side.now.coefficients) x None)
    (sym c.in-None.is)
    (risen_none c.args.thresholds.now (HoldsWhere s c.args.store.now.nodes c.args.labels.now c.args.taken c.args.side.now.coefficients))
