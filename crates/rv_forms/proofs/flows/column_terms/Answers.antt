use Rattle.std.proofs.Common.{◌≡◌, ◌+◌, ◌<◌, ℕ, List, length, get_or, length-append, ◌∷◌, [], ◌∙◌, ap, sym, refl, subst, arith}
use Rattle.rv_types.specs.declared.typed.Kind.TheVariants.{Bool}
use Rattle.rv_diagram.specs.declared.Triple.{Triple}
use Rattle.rv_terms.specs.{declared.parted.Term.Term, Parts.IsTermOf}
use Rattle.rv_agreement.specs.{Trees.kind_at, Valuations.rank}
use Rattle.rv_forms.specs.{Columns.kind_form, Terms.parts_at}
use Rattle.rv_forms.proofs.Ranks.{rank_zero, rank_next, rank_within, columns_more}
use Rattle.rv_forms.proofs.flows.column_terms.Goals as goal

pub loop-kind-init : goal.loop-kind-init
loop-kind-init c = record {
  many = ap (λ (l : List Term). length l) c.new-terms.ensures;
  at = let z = rank_zero c.args.kinds.now in omega (arith, z);
  each = λ m lt. absurd (omega arith);
}

pub overflow_add-column : goal.overflow_add-column
overflow_add-column c =
    let low : c.loop-kind.kind-index < length c.args.kinds.now = omega arith in
    let next = rank_next c.args.kinds.now c.loop-kind.kind-index low in
    let most = rank_within c.args.kinds.now (c.loop-kind.kind-index + 1) in
    let at = c.loop-kind.invariant.at in
    let one = c.one_of.ensures in
    omega (arith, next, most, at, one, c.requires)

pub loop-kind-preserved : goal.loop-kind-preserved
loop-kind-preserved c =
    let kinds = c.args.kinds.now in
    let n = c.loop-kind.kind-index in
    let low : n < length kinds = omega arith in
    let next = rank_next kinds n low in
    let at = c.loop-kind.invariant.at in
    let one = c.one_of.ensures in
    let t = c.in_ok-kind_term.field-0 in
    let pushed = c.in_ok-push.ensures.ok in
    record {
      many = ap (λ (l : List Term). length l) pushed ∙ length-append c.loop-kind.terms (t ∷ []) ∙ ap (λ k. k + 1) c.loop-kind.invariant.many;
      at = omega (arith, next, at, one);
      each = subst (λ (l : List Term). (m : ℕ) → m < n + 1 → (nodes : List Triple)
          → IsTermOf nodes c.args.columns (λ v. kind_form c.args.columns (kind_at kinds m) (c.args.start + rank kinds m)) (parts_at l m)) (sym pushed)
          (columns_more c.args.columns c.args.start n kinds (get_or kinds n Bool) c.loop-kind.terms t c.loop-kind.column c.loop-kind.invariant.many refl at
          c.loop-kind.invariant.each c.in_ok-kind_term.ensures.exact);
    }

pub returns-clause-ok : goal.returns-clause-ok
returns-clause-ok c = record {
  many = c.loop-kind.invariant.many ∙ (let e : c.loop-kind.kind-index ≡ length c.args.kinds.now = omega arith in e);
  each = λ m lt. c.loop-kind.invariant.each m (omega arith);
}
