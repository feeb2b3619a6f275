use Rattle.std.proofs.Common.{◌≡◌, ◌<◌, sym, subst, length, List, [], ◌∷◌, pos, ℤ, ◌∙◌, ap}
use Rattle.std.proofs.lemmas.Int.{to_z-of_z}
use mir.Val.{to_z}
use mir.Syntax.{w128}
use Rattle.rv_rows.specs.Arithmetic.{form_times}
use Rattle.rv_terms.specs.{declared.parted.Part.Part, Parts.part_at, Parts.form_at, Parts.term_width, Parts.IsTermOf}
use Rattle.rv_terms.proofs.Multiples.{some_part, nothing_made}
use Rattle.rv_terms.proofs.calls.scale.Goals as goal

pub nothing_of-requires : goal.nothing_of-requires
nothing_of-requires c = subst (λ (l : List Part). 0 < length l) (sym c.as_slice.ensures)
    (some_part c.args.store.now.nodes (term_width c.args.a.now.parts) c.args.a.now.parts c.requires.a)

pub returns-then-by-eq0-clause-exact : goal.returns-then-by-eq0-clause-exact
returns-then-by-eq0-clause-exact c =
    let zero_by : c.args.by ≡ pos 0 = sym (to_z-of_z w128 c.args.by c.ranges.by) ∙ ap (to_z w128) c.if-by-eq0.true in
    subst (λ (z : ℤ). IsTermOf c.args.store.now.nodes (term_width c.args.a.now.parts) (λ v. form_times z (form_at c.args.store.now.nodes c.args.a.now.parts v))
    c.in_ok-parts.parts) (sym zero_by)
    (subst (λ (l : List Part). IsTermOf c.args.store.now.nodes (term_width c.args.a.now.parts)
    (λ v. form_times (pos 0) (form_at c.args.store.now.nodes c.args.a.now.parts v)) l)
    (sym (c.in_ok-parts.ensures ∙ ap (λ (l : List Part). (record { under = 1; form = form_times (pos 0) (part_at l 0).form }) ∷ []) c.as_slice.ensures))
    (nothing_made c.args.store.now.nodes (term_width c.args.a.now.parts) c.args.a.now.parts c.requires.a))
