use Rattle.std.proofs.Common.{◌≡◌, ◌∙◌, sym, ap, ℤ, List}
use Rattle.std.specs.{Cmp.Rules.signed_items, Cmp.Lexicographic.pointwise, Ordering.int_eq}
use Rattle.rv_accept.proofs.settled.are_same.Goals as goal

pub returns : goal.returns
returns c =
    let e : c.eq.result ≡ pointwise int_eq c.args.a.now c.args.b.now =
    c.eq.ensures ∙ ap (λ (l : List ℤ). pointwise int_eq l c.as_slice-2.result.now) c.as_slice.ensures
    ∙ ap (λ (l : List ℤ). pointwise int_eq c.args.a.now l) c.as_slice-2.ensures in
    let d = signed_items c.args.a.now c.args.b.now in (λ h. d.0 (sym e ∙ h), λ s. e ∙ d.1 s)
