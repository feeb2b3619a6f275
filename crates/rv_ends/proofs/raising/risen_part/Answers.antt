use Rattle.std.proofs.Common.{◌≡◌, ◌≤◌, ◌<◌, ◌*◌, ◌^◌, ℤ, ◌+ℤ◌, ◌<ℤ◌, Option, Some, true, FitsSigned, sym, subst, arith}
use Rattle.std.proofs.{lemmas.Int.ints, lemmas.Int.to_z-of_z, lemmas.Bool.MatchBool-at_true, lemmas.Bool.MatchBool-at_false}
use Rattle.std.specs.Int.{w128}
use Rattle.std.specs.Int.RustNames.{unsigned_abs}
use Rattle.rv_rows.proofs.IntLemmas.{fits_below}
use Rattle.rv_diagram.specs.Nodes.{Valuation, value_of}
use Rattle.rv_ends.specs.{Thresholds.IsLeastAbove, Risen.IsRisen, Risen.PartWithin}
use Rattle.rv_ends.proofs.Risen.{shifted_is, part_met, part_apart, risen_above}
use Rattle.rv_ends.proofs.raising.risen_part.Goals as goal

sum_small : (x y z : ℤ) → unsigned_abs x ≤ 128 * 2 ^ 101 → unsigned_abs y ≤ 2 ^ 50 → z ≡ x +ℤ y → unsigned_abs z < 2 ^ 110
sum_small x y z h k e = omega (arith, ints)

part_fits : (x : ℤ) → unsigned_abs x ≤ 128 * 2 ^ 101 → FitsSigned w128 x
part_fits x h = fits_below x (omega arith)

pub returns-then-branch-clause-risen : goal.returns-then-branch-clause-risen
returns-then-branch-clause-risen c =
    let is : (v : Valuation) → value_of c.args.store.now.nodes c.args.part.now.under v ≡ true
    → c.shifted-value.result ≡ c.args.part.now.form.constant +ℤ c.args.number =
    λ v on. shifted_is c.shifted-value.result c.args.part.now.form.constant c.args.number _ _
    (to_z-of_z w128 c.args.part.now.form.constant (part_fits c.args.part.now.form.constant (c.requires.small v on)))
    (to_z-of_z w128 c.args.number c.ranges.number) (c.requires.small v on) c.requires.number c.shifted-value.ensures in
    let w : (v : Valuation) × (value_of c.args.store.now.nodes c.args.inside v ≡ true)
    × (value_of c.args.store.now.nodes c.args.part.now.under v ≡ true) =
    MatchBool-at_true _ _ c.if-branch.true c.in_ok-meets.ensures.exact in
    let fits : FitsSigned w128 c.shifted-value.result = fits_below c.shifted-value.result
    (sum_small c.args.part.now.form.constant c.args.number c.shifted-value.result (c.requires.small w.0 w.2) c.requires.number (is w.0 w.2)) in
    let past : c.in-Some.bound <ℤ c.shifted-value.result = omega (arith, ints, c.if-value-bound.false) in
    subst (λ (o : Option ℤ). IsRisen c.args.thresholds.now (PartWithin c.args.store.now.nodes c.args.inside c.args.part.now c.args.number) o
    c.least_above.result) (sym c.in-Some.is)
    (part_met c.args.store.now.nodes c.args.inside c.args.part.now c.args.number c.shifted-value.result c.in-Some.bound c.args.thresholds.now
    c.least_above.result is w
    (risen_above c.args.thresholds.now c.shifted-value.result c.in-Some.bound c.least_above.result past
    (subst (λ (z : ℤ). IsLeastAbove c.args.thresholds.now z c.least_above.result) (to_z-of_z w128 c.shifted-value.result fits) c.least_above.ensures)))

pub returns-clause-risen : goal.returns-clause-risen
returns-clause-risen c =
    subst (λ (o : Option ℤ). IsRisen c.args.thresholds.now (PartWithin c.args.store.now.nodes c.args.inside c.args.part.now c.args.number) o
    (Some c.in-Some.bound)) (sym c.in-Some.is)
    (part_apart c.args.store.now.nodes c.args.inside c.args.part.now c.args.number c.in-Some.bound c.args.thresholds.now
    (MatchBool-at_false _ _ c.if-branch.false c.in_ok-meets.ensures.exact))
