use Rattle.std.proofs.Common.{◌≡◌, ℕ, ◌<◌, ◌≤◌, ◌^◌, ◌+ℤ◌, ◌*ℤ◌, pos, FitsSigned, rules, arith, length, ◌∙◌, ap, sym, ◌++◌, ◌∷◌, []}
use Rattle.std.proofs.{lemmas.Int.to_z-of_z, lemmas.Option.get_or_from_slice_get}
use Rattle.std.specs.{Int.w128, Int.RustNames.unsigned_abs}
use Rattle.rv_rows.specs.Forms.{number}
use Rattle.rv_rows.proofs.FormLemmas.{pushed, length-pushed}
use Rattle.rv_poly.proofs.EliminateLemmas.{number_within, product_small, multiples-all}
use Rattle.rv_poly.proofs.eliminate.two_multiples.Goals as goal

pub two_products-sum-requires-clause-first : goal.two_products-sum-requires-clause-first
two_products-sum-requires-clause-first c =
    let by_fits = c.ranges.by in
    let x_fits : FitsSigned w128 c.at.result.now = search rules in
    let x_is : number c.loop-column.column c.args.first.now ≡ c.at.result.now = get_or_from_slice_get c.args.first.now c.loop-column.column c.at.result.now
    (pos 0) c.at.ensures.value in
    let small : unsigned_abs c.at.result.now ≤ 2 ^ 30 = rw x_is at (number_within (2 ^ 30) c.args.first.now c.requires.first c.loop-column.column) in
    simp to_z-of_z (product_small c.args.by c.at.result.now c.requires.by (omega arith))

pub two_products-sum-requires-clause-second : goal.two_products-sum-requires-clause-second
two_products-sum-requires-clause-second c =
    let with_fits = c.ranges.with in
    let x_fits : FitsSigned w128 c.at-in-loop-column.result.now = search rules in
    let x_is : number c.loop-column.column c.args.second.now ≡ c.at-in-loop-column.result.now =
    get_or_from_slice_get c.args.second.now c.loop-column.column c.at-in-loop-column.result.now (pos 0) c.at-in-loop-column.ensures.value in
    let small : unsigned_abs c.at-in-loop-column.result.now ≤ 2 ^ 30 = rw x_is at
    (number_within (2 ^ 30) c.args.second.now c.requires.second c.loop-column.column) in
    simp to_z-of_z (product_small c.args.with c.at-in-loop-column.result.now c.requires.with (omega arith))

pub loop-column-preserved : goal.loop-column-preserved
loop-column-preserved c =
    let by_fits = c.ranges.by in
    let with_fits = c.ranges.with in
    let x_fits : FitsSigned w128 c.at.result.now = search rules in
    let y_fits : FitsSigned w128 c.at-in-loop-column.result.now = search rules in
    let s_fits : FitsSigned w128 c.two_products-sum.result = search rules in
    let x_is : number c.loop-column.column c.args.first.now ≡ c.at.result.now = get_or_from_slice_get c.args.first.now c.loop-column.column c.at.result.now
    (pos 0) c.at.ensures.value in
    let y_is : number c.loop-column.column c.args.second.now ≡ c.at-in-loop-column.result.now =
    get_or_from_slice_get c.args.second.now c.loop-column.column c.at-in-loop-column.result.now (pos 0) c.at-in-loop-column.ensures.value in
    let sum : c.two_products-sum.result ≡ (c.args.by *ℤ c.at.result.now) +ℤ (c.args.with *ℤ c.at-in-loop-column.result.now) = simp to_z-of_z at
    c.two_products-sum.ensures in
    let sum_is : c.two_products-sum.result ≡ (c.args.by *ℤ number c.loop-column.column c.args.first.now) +ℤ
    (c.args.with *ℤ number c.loop-column.column c.args.second.now) =
    sum ∙ ap (λ z. (c.args.by *ℤ z) +ℤ (c.args.with *ℤ c.at-in-loop-column.result.now)) (sym x_is)
    ∙ ap (λ z. (c.args.by *ℤ number c.loop-column.column c.args.first.now) +ℤ (c.args.with *ℤ z)) (sym y_is) in
    let new_is : c.push.new.self ≡ c.loop-column.sums ++ c.two_products-sum.result ∷ [] = simp to_z-of_z at c.in_ok-push.ensures.ok in
    let so_far : (j : ℕ) → j < c.loop-column.column → number j c.loop-column.sums ≡ (c.args.by *ℤ number j c.args.first.now) +ℤ
    (c.args.with *ℤ number j c.args.second.now) =
    simp to_z-of_z at c.loop-column.invariant.numbers in
    simp to_z-of_z (rw new_is (record {
      size = length-pushed c.loop-column.sums c.two_products-sum.result c.loop-column.column c.loop-column.invariant.size;
      numbers = pushed (λ j. (c.args.by *ℤ number j c.args.first.now) +ℤ (c.args.with *ℤ number j c.args.second.now)) c.loop-column.sums
          c.two_products-sum.result
          c.loop-column.column c.loop-column.invariant.size so_far sum_is;
    }))

pub returns-clause-sums : goal.returns-clause-sums
returns-clause-sums c =
    let by_fits = c.ranges.by in
    let with_fits = c.ranges.with in
    let all : length c.loop-column.sums ≡ length c.args.first.now = search (rules, arith) in
    let so_far : (j : ℕ) → j < c.loop-column.column → number j c.loop-column.sums ≡ (c.args.by *ℤ number j c.args.first.now) +ℤ
    (c.args.with *ℤ number j c.args.second.now) =
    simp to_z-of_z at c.loop-column.invariant.numbers in
    let size = c.loop-column.invariant.size in
    multiples-all c.args.by c.args.with c.args.first.now c.args.second.now c.loop-column.sums c.requires.widths all (λ j l. so_far j (omega arith))
