use Rattle.std.proofs.Common.{◌≡◌, ℤ, pos, FitsSigned, rules, sym, ◌∙◌, subst}
use Rattle.std.proofs.{lemmas.Bool.false≢true, lemmas.Int.to_z-of_z}
use Rattle.std.specs.Int.{w128}
use Rattle.rv_rows.specs.Rows.{coefficient}
use Rattle.rv_poly.specs.Whole.{IsSpanCut}
use Rattle.rv_poly.proofs.WholeLemmas.{narrowed-same, narrowed-cut, rest-zero}
use Rattle.rv_poly.proofs.spans.narrow.Goals as goal

pub returns-then-by-eq0 : goal.returns-then-by-eq0
returns-then-by-eq0 c =
    let by_fits : FitsSigned w128 c.number_at-by.result = search rules in
    let zero : c.number_at-by.result ≡ pos 0 = (let t = c.if-by-eq0.true in search rules) in
    narrowed-same c.args.column c.args.row.now c.args.span (λ s m. m (sym c.number_at-by.ensures ∙ zero))

pub returns-then-not-is_last : goal.returns-then-not-is_last
returns-then-not-is_last c =
    narrowed-same c.args.column c.args.row.now c.args.span (λ s m. false≢true (sym c.if-not-is_last.true ∙ c.is_last.ensures s m))

pub returns-in-None : goal.returns-in-None
returns-in-None c =
    narrowed-same c.args.column c.args.row.now c.args.span (λ s m. false≢true (rw c.in-None.is at (c.left_side.ensures.found s)))

pub returns-in-Some : goal.returns-in-Some
returns-in-Some c =
    let by_fits : FitsSigned w128 c.number_at-by.result = search rules in
    let sum_fits : FitsSigned w128 c.in-Some.sum = search rules in
    let bound_fits : FitsSigned w128 c.args.row.now.bound = search rules in
    let some : c.number_at-by.result ≡ pos 0 → ⊥ = (let t = c.if-by-eq0.false in search rules) in
    let has : coefficient c.args.column c.args.row.now ≡ pos 0 → ⊥ = (λ e. some (c.number_at-by.ensures ∙ e)) in
    let sum_is = rw c.in-Some.is at c.left_side.ensures.exact in
    let cut : c.in-Some.sum ≡ pos 0 → IsSpanCut c.number_at-by.result c.args.row.now.bound c.args.span c.cut_after.result = simp to_z-of_z at
    c.cut_after.ensures.cut in
    let P : ℤ → Type 0 = λ z. IsSpanCut z c.args.row.now.bound c.args.span c.cut_after.result in
    narrowed-cut c.args.column c.args.row.now c.args.span c.cut_after.result c.cut_after.ensures.low c.cut_after.ensures.high has
    (λ s. subst P c.number_at-by.ensures (cut (sum_is ∙ rest-zero c.args.row.now.coefficients c.args.point.now c.args.column c.requires.size s has)))

pub left_side-requires-clause-coefficients : goal.left_side-requires-clause-coefficients
left_side-requires-clause-coefficients c = c.requires.fits.coefficients

pub left_side-requires-clause-point : goal.left_side-requires-clause-point
left_side-requires-clause-point c = c.requires.point

pub cut_after-requires-clause-by : goal.cut_after-requires-clause-by
cut_after-requires-clause-by c =
    let by_fits : FitsSigned w128 c.number_at-by.result = search rules in
    let some : c.number_at-by.result ≡ pos 0 → ⊥ = (let t = c.if-by-eq0.false in search rules) in
    simp to_z-of_z some

pub cut_after-requires-clause-bound : goal.cut_after-requires-clause-bound
cut_after-requires-clause-bound c =
    let bound_fits : FitsSigned w128 c.args.row.now.bound = search rules in
    simp to_z-of_z c.requires.fits.bound
