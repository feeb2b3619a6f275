use Rattle.std.proofs.Common.{◌≡◌, ◌∙◌, ◌*◌, negsuc, ap, sym, subst, arith}
use Rattle.std.specs.Prelude.{nat_abs}
use Rattle.rv_base.specs.Limits.{heaviest}
use Rattle.rv_tree.specs.declared.tree.Op.{Op}
use Rattle.rv_rows.specs.{Forms.CanAdd, Arithmetic.form_sum, Arithmetic.form_times}
use Rattle.rv_diagram.specs.Nodes.{Diagrams}
use Rattle.rv_terms.specs.Parts.{form_at, term_width, IsTerm, IsTermOf}
use Rattle.rv_control.proofs.Bounded.{IsBounded, times_bounded}
use Rattle.rv_forms.specs.{Columns.combined_form, Terms.GivesTerm}
use Rattle.rv_forms.proofs.{Bounds.form_bounded, Bounds.can_add, Kept.width_first, Kept.own_width, Steps.made_term, Steps.combined_other, Steps.ok_with}
use Rattle.rv_forms.proofs.expressions.combined.Goals as goal

negative_term : (c : goal.After-negative-in-Minus-1)
    → IsTermOf c.args.store.now.nodes c.requires.terms.0 (λ v. form_times (negsuc 0) (form_at c.args.store.now.nodes c.args.second.now.parts v))
    c.in_ok-negative-in-Minus.negative.parts
negative_term c =
    let d = c.args.store.now in
    subst (λ n. IsTermOf d.nodes n (λ v. form_times (negsuc 0) (form_at d.nodes c.args.second.now.parts v)) c.in_ok-negative-in-Minus.negative.parts)
    (width_first d.nodes c.requires.terms.0 c.args.second.now.parts c.requires.terms.2.term) c.in_ok-negative-in-Minus.ensures.exact

pub sum-requires-clause-a : goal.sum-requires-clause-a
sum-requires-clause-a c =
    let first = c.args.first.now.parts in
    subst (λ (s : Diagrams). IsTerm s.nodes (term_width first) first) (sym c.scale.ensures.same)
    (own_width c.args.store.now.nodes c.requires.terms.0 first c.requires.terms.1.term)

pub sum-requires-clause-b : goal.sum-requires-clause-b
sum-requires-clause-b c =
    let first = c.args.first.now.parts in
    let negative = c.in_ok-negative-in-Minus.negative.parts in
    subst (λ (s : Diagrams). IsTerm s.nodes (term_width first) negative) (sym c.scale.ensures.same)
    (subst (λ n. IsTerm c.args.store.now.nodes n negative) (sym (width_first c.args.store.now.nodes c.requires.terms.0 first c.requires.terms.1.term))
    (negative_term c).term)

pub sum-requires-clause-room : goal.sum-requires-clause-room
sum-requires-clause-room c v =
    let d = c.args.store.now in
    let columns = c.requires.terms.0 in
    let first = c.args.first.now.parts in
    let second = c.args.second.now.parts in
    let negative = c.in_ok-negative-in-Minus.negative.parts in
    let one : nat_abs (negsuc 0) * heaviest ≡ heaviest = omega arith in
    let bounded : IsBounded columns heaviest (form_times (negsuc 0) (form_at d.nodes second v)) =
    subst (λ n. IsBounded columns n (form_times (negsuc 0) (form_at d.nodes second v))) one
    (times_bounded columns (negsuc 0) heaviest (form_at d.nodes second v) (form_bounded d.nodes columns heaviest second c.requires.terms.2 v)) in
    subst (λ (s : Diagrams). CanAdd (form_at s.nodes first v) (form_at s.nodes negative v)) (sym c.scale.ensures.same)
    (can_add columns (form_at d.nodes first v) (form_at d.nodes negative v) (form_bounded d.nodes columns heaviest first c.requires.terms.1 v)
    (subst (IsBounded columns heaviest) (sym ((negative_term c).exact v)) bounded))

pub sum-requires-in_default : goal.sum-requires-in_default
sum-requires-in_default c =
    let d = c.args.store.now in
    let columns = c.requires.terms.0 in
    let first = c.args.first.now.parts in
    let second = c.args.second.now.parts in
    record {
      a = own_width d.nodes columns first c.requires.terms.1.term;
      b = subst (λ n. IsTerm d.nodes n second) (sym (width_first d.nodes columns first c.requires.terms.1.term)) c.requires.terms.2.term;
      room = λ v. can_add columns (form_at d.nodes first v) (form_at d.nodes second v) (form_bounded d.nodes columns heaviest first c.requires.terms.1 v)
          (form_bounded d.nodes columns heaviest second c.requires.terms.2 v);
    }

pub returns-in_ok-negative-in-Minus-clause-ok : goal.returns-in_ok-negative-in-Minus-clause-ok
returns-in_ok-negative-in-Minus-clause-ok c =
    let d = c.args.store.now in
    let s = c.scale.new.store in
    let new = c.sum.new.store in
    let k = c.requires.terms.0 in
    let first = c.args.first.now.parts in
    let second = c.args.second.now.parts in
    let negative = c.in_ok-negative-in-Minus.negative.parts in
    let exact : IsTermOf d.nodes k (λ v. form_times (negsuc 0) (form_at d.nodes second v)) negative =
    subst (λ n. IsTermOf d.nodes n (λ v. form_times (negsuc 0) (form_at d.nodes second v)) negative)
    (width_first d.nodes k second c.requires.terms.2.term) c.in_ok-negative-in-Minus.ensures.exact in
    ok_with c.sum.result _ _ _
    (λ u made grows columns is_first.
    subst (λ (b : Diagrams). GivesTerm b new columns (λ v. combined_form c.args.op (form_at d.nodes first v) (form_at d.nodes second v)) u.parts)
    c.scale.ensures.same
    (made_term s new (term_width first) columns (λ v. form_sum (form_at s.nodes first v) (form_at s.nodes negative v))
    (λ v. combined_form c.args.op (form_at d.nodes first v) (form_at d.nodes second v)) u.parts grows made
    (width_first d.nodes columns first is_first)
    (λ v. ap (λ (b : Diagrams). form_sum (form_at b.nodes first v) (form_at b.nodes negative v)) c.scale.ensures.same
    ∙ ap (form_sum (form_at d.nodes first v)) (exact.exact v)
    ∙ ap (λ (o : Op). combined_form o (form_at d.nodes first v) (form_at d.nodes second v)) (sym c.in-Minus.is))))
    c.sum.ensures.exact c.sum.ensures.grows

pub returns-in_default : goal.returns-in_default
returns-in_default c =
    let d = c.args.store.now in
    let new = c.sum-in_default.new.store in
    let first = c.args.first.now.parts in
    let second = c.args.second.now.parts in
    record {
      ok = ok_with c.sum-in_default.result _ _ _
          (λ u made grows columns is_first.
          made_term d new (term_width first) columns (λ v. form_sum (form_at d.nodes first v) (form_at d.nodes second v))
          (λ v. combined_form c.args.op (form_at d.nodes first v) (form_at d.nodes second v)) u.parts grows made
          (width_first d.nodes columns first is_first)
          (λ v. combined_other c.args.op (form_at d.nodes first v) (form_at d.nodes second v) c.in_default.not-Minus))
          c.sum-in_default.ensures.exact c.sum-in_default.ensures.grows;
      roomy = c.sum-in_default.ensures.roomy;
    }
