use Rattle.std.proofs.Common.{◌≡◌, ◌+◌, ◌∙◌, ◌+ℤ◌, ◌*ℤ◌, ◌^◌, ℕ, ℤ, pos, true, length, arith, sym, ap, rules, FitsSigned}
use Rattle.std.proofs.{lemmas.Int.to_z-of_z, lemmas.Bool.false≢true, lemmas.Result.IfOk-weaker}
use Rattle.std.specs.Int.{w128}
use Rattle.rv_base.specs.Limits.{heaviest}
use Rattle.rv_rows.specs.Forms.{number, FormWithin, IsSum, IsMultiple}
use Rattle.rv_diagram.specs.Nodes.{Valuation, value_of}
use Rattle.rv_terms.proofs.Finding.{some_from}
use Rattle.rv_pairs.proofs.Following.{can_scale, can_add, scaled_within, added_within, form_wider}
use Rattle.rv_pairs.proofs.moving.moved_by.Goals as goal

pub scale-requires : goal.scale-requires
scale-requires c = can_scale (2 ^ 49) (pos 1) c.args.form.now (omega arith) c.requires.form (omega arith)

pub returns-then-is_false-clause-width : goal.returns-then-is_false-clause-width
returns-then-is_false-clause-width c = IfOk-weaker c.scale.result (IsMultiple (pos 1) c.args.form.now)
    (λ f. length f.coefficients ≡ length c.args.form.now.coefficients) (λ f is. is.width) c.scale.ensures.exact

pub returns-then-is_false-clause-small : goal.returns-then-is_false-clause-small
returns-then-is_false-clause-small c = IfOk-weaker c.scale.result (IsMultiple (pos 1) c.args.form.now)
    (λ f. (n : ℕ) → FormWithin n c.args.form.now → FormWithin (n + heaviest) f)
    (λ f is n h. form_wider n (n + heaviest) f (omega arith) (scaled_within n (pos 1) c.args.form.now f (omega arith) h is)) c.scale.ensures.exact

pub returns-then-is_false-clause-coefficients : goal.returns-then-is_false-clause-coefficients
returns-then-is_false-clause-coefficients c = IfOk-weaker c.scale.result (IsMultiple (pos 1) c.args.form.now)
    (λ f. (v : Valuation) → value_of c.args.store.now.nodes c.args.inside v ≡ true
    → (k : ℕ) → number k f.coefficients ≡ number k c.args.form.now.coefficients +ℤ (c.args.by *ℤ number k c.args.other.now.coefficients))
    (λ f is v on. absurd (false≢true (sym (c.is_false.ensures.0 c.if-is_false.true v) ∙ on))) c.scale.ensures.exact

pub returns-then-is_false-clause-constant : goal.returns-then-is_false-clause-constant
returns-then-is_false-clause-constant c = IfOk-weaker c.scale.result (IsMultiple (pos 1) c.args.form.now)
    (λ f. (v : Valuation) → value_of c.args.store.now.nodes c.args.inside v ≡ true
    → f.constant ≡ c.args.form.now.constant +ℤ (c.args.by *ℤ c.args.other.now.constant))
    (λ f is v on. absurd (false≢true (sym (c.is_false.ensures.0 c.if-is_false.true v) ∙ on))) c.scale.ensures.exact

pub scale-requires-2 : goal.scale-requires-2
scale-requires-2 c =
    let by_fits : FitsSigned w128 c.args.by = search rules in
    let some : (v : Valuation) × (value_of c.args.store.now.nodes c.args.inside v ≡ true) =
    some_from c.args.store.now.nodes c.args.store.now.variables c.args.inside c.mark-count.ensures.reads c.requires.inside
    (λ none. false≢true (sym c.if-is_false.false ∙ c.is_false.ensures.1 none)) in
    let small : FormWithin heaviest c.args.other.now = (c.requires.other some.0 some.1).0 in
    simp to_z-of_z (can_scale heaviest c.args.by c.args.other.now c.requires.by small (omega arith))

pub add-requires-clause-widths : goal.add-requires-clause-widths
add-requires-clause-widths c =
    let some : (v : Valuation) × (value_of c.args.store.now.nodes c.args.inside v ≡ true) =
    some_from c.args.store.now.nodes c.args.store.now.variables c.args.inside c.mark-count.ensures.reads c.requires.inside
    (λ none. false≢true (sym c.if-is_false.false ∙ c.is_false.ensures.1 none)) in
    sym (c.in_ok-part.ensures.exact.width ∙ (c.requires.other some.0 some.1).1)

pub add-requires-clause-room : goal.add-requires-clause-room
add-requires-clause-room c =
    let by_fits : FitsSigned w128 c.args.by = search rules in
    let is = simp to_z-of_z at c.in_ok-part.ensures.exact in
    let some : (v : Valuation) × (value_of c.args.store.now.nodes c.args.inside v ≡ true) =
    some_from c.args.store.now.nodes c.args.store.now.variables c.args.inside c.mark-count.ensures.reads c.requires.inside
    (λ none. false≢true (sym c.if-is_false.false ∙ c.is_false.ensures.1 none)) in
    let small : FormWithin heaviest c.args.other.now = (c.requires.other some.0 some.1).0 in
    can_add (2 ^ 49) heaviest c.args.form.now c.in_ok-part.part c.requires.form
    (scaled_within heaviest c.args.by c.args.other.now c.in_ok-part.part c.requires.by small is) (omega arith)

pub returns-clause-width : goal.returns-clause-width
returns-clause-width c = IfOk-weaker c.add.result (IsSum c.args.form.now c.in_ok-part.part)
    (λ f. length f.coefficients ≡ length c.args.form.now.coefficients) (λ f is. is.width) c.add.ensures.exact

pub returns-clause-small : goal.returns-clause-small
returns-clause-small c =
    let by_fits : FitsSigned w128 c.args.by = search rules in
    let part_is = simp to_z-of_z at c.in_ok-part.ensures.exact in
    let some : (v : Valuation) × (value_of c.args.store.now.nodes c.args.inside v ≡ true) =
    some_from c.args.store.now.nodes c.args.store.now.variables c.args.inside c.mark-count.ensures.reads c.requires.inside
    (λ none. false≢true (sym c.if-is_false.false ∙ c.is_false.ensures.1 none)) in
    let small : FormWithin heaviest c.args.other.now = (c.requires.other some.0 some.1).0 in
    IfOk-weaker c.add.result (IsSum c.args.form.now c.in_ok-part.part)
    (λ f. (n : ℕ) → FormWithin n c.args.form.now → FormWithin (n + heaviest) f)
    (λ f is n h. added_within n heaviest c.args.form.now c.in_ok-part.part f h
    (scaled_within heaviest c.args.by c.args.other.now c.in_ok-part.part c.requires.by small part_is) is) c.add.ensures.exact

pub returns-clause-coefficients : goal.returns-clause-coefficients
returns-clause-coefficients c =
    let by_fits : FitsSigned w128 c.args.by = search rules in
    let part_is = simp to_z-of_z at c.in_ok-part.ensures.exact in
    IfOk-weaker c.add.result (IsSum c.args.form.now c.in_ok-part.part)
    (λ f. (v : Valuation) → value_of c.args.store.now.nodes c.args.inside v ≡ true
    → (k : ℕ) → number k f.coefficients ≡ number k c.args.form.now.coefficients +ℤ (c.args.by *ℤ number k c.args.other.now.coefficients))
    (λ f is v on k. is.coefficients k ∙ ap (λ (z : ℤ). number k c.args.form.now.coefficients +ℤ z) (part_is.coefficients k)) c.add.ensures.exact

pub returns-clause-constant : goal.returns-clause-constant
returns-clause-constant c =
    let by_fits : FitsSigned w128 c.args.by = search rules in
    let part_is = simp to_z-of_z at c.in_ok-part.ensures.exact in
    IfOk-weaker c.add.result (IsSum c.args.form.now c.in_ok-part.part)
    (λ f. (v : Valuation) → value_of c.args.store.now.nodes c.args.inside v ≡ true
    → f.constant ≡ c.args.form.now.constant +ℤ (c.args.by *ℤ c.args.other.now.constant))
    (λ f is v on. is.constant ∙ ap (λ (z : ℤ). c.args.form.now.constant +ℤ z) part_is.constant) c.add.ensures.exact
