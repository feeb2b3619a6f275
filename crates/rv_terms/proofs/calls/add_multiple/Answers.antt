use Rattle.std.proofs.Common.{◌≡◌, ◌<◌, ◌⊎◌, ◌∙◌, ap, sym, subst, length, List, [], ◌∷◌, ◌++◌, ℤ, false}
use Rattle.std.proofs.{lemmas.Bool.false≢true, lemmas.Int.to_z-of_z}
use mir.Val.{to_z, of_z}
use mir.Syntax.{w128}
use Rattle.rv_rows.specs.{declared.linear.Form.Form, Forms.CanScale, Arithmetic.form_times}
use Rattle.rv_diagram.specs.Nodes.{Valuation, value_of}
use Rattle.rv_terms.specs.{declared.parted.Part.Part, Parts.part_at, Parts.Adds}
use Rattle.rv_terms.proofs.{Adding.adds_fresh, Multiples.push_forms, Sums.multiple_is, Sums.can_scale_from}
use Rattle.rv_terms.proofs.calls.add_multiple.Goals as goal

pub scale-requires : goal.scale-requires
scale-requires c = subst (λ (z : ℤ). CanScale z c.args.part.now.form) (sym (to_z-of_z w128 c.args.by c.ranges.by))
    (can_scale_from (value_of c.args.store.now.nodes c.args.part.now.under) c.args.by c.args.part.now.form
    (λ none. false≢true (sym c.if-is_false.false ∙ c.is_false.ensures.1 none)) c.requires.room)

pub returns-clause-added : goal.returns-clause-added
returns-clause-added c =
    let some : ((v : Valuation) → value_of c.args.store.now.nodes c.args.part.now.under v ≡ false) → ⊥ =
    λ none. false≢true (sym c.if-is_false.false ∙ c.is_false.ensures.1 none) in
    let is : c.in_ok-form.form ≡ form_times c.args.by c.args.part.now.form =
    multiple_is (to_z w128 (of_z w128 c.args.by)) c.args.part.now.form c.in_ok-form.form c.in_ok-form.ensures.exact
    ∙ ap (λ (z : ℤ). form_times z c.args.part.now.form) (to_z-of_z w128 c.args.by c.ranges.by) in
    subst (λ (l : List Part). Adds c.args.store.now.nodes c.args.store.now.nodes (value_of c.args.store.now.nodes c.args.part.now.under)
    (λ v. form_times c.args.by c.args.part.now.form) c.args.parts.now l)
    (sym (c.in_ok-push.ensures.ok ∙ ap (λ (f : Form). c.args.parts.now ++ (record { under = c.args.part.now.under; form = f }) ∷ []) is))
    (adds_fresh c.args.store.now c.args.part.now.under (form_times c.args.by c.args.part.now.form) c.args.parts.now c.requires.part some c.requires.fresh)

pub returns-clause-forms : goal.returns-clause-forms
returns-clause-forms c j low =
    let is : c.in_ok-form.form ≡ form_times c.args.by c.args.part.now.form =
    multiple_is (to_z w128 (of_z w128 c.args.by)) c.args.part.now.form c.in_ok-form.form c.in_ok-form.ensures.exact
    ∙ ap (λ (z : ℤ). form_times z c.args.part.now.form) (to_z-of_z w128 c.args.by c.ranges.by) in
    let new : Part = record { under = c.args.part.now.under; form = c.in_ok-form.form } in
    subst (λ (l : List Part). j < length l → ((j < length c.args.parts.now) × (part_at l j ≡ part_at c.args.parts.now j))
    ⊎ ((part_at l j).form ≡ form_times c.args.by c.args.part.now.form))
    (sym c.in_ok-push.ensures.ok) (push_forms c.args.parts.now new (form_times c.args.by c.args.part.now.form) is j) low
