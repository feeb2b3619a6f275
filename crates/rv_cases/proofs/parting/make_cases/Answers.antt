use Rattle.std.proofs.Common.{◌≡◌, ◌+◌, ◌∙◌, ℕ, ap, sym, subst, length, List, [], ◌∷◌, ◌++◌, ⊎_elim, length-append, slice_get, Some}
use Rattle.rv_diagram.specs.Several.{ref_at}
use Rattle.rv_proofs.specs.declared.report.Case.{Case}
use Rattle.rv_cases.specs.Made.{IsMadeFor}
use Rattle.rv_base.proofs.Lists.{none_at, push_got}
use Rattle.rv_cases.proofs.parting.make_cases.Goals as goal

pub loop-j-init : goal.loop-j-init
loop-j-init c = record {
  many = ap (λ (l : List Case). length l) c.new-cases.ensures;
  made = λ j x got. absurd (none_at c.new-cases.result j x c.new-cases.ensures got);
}

pub loop-j-preserved : goal.loop-j-preserved
loop-j-preserved c =
    let more : List Case = c.loop-j.cases ++ c.in_ok-case.case ∷ [] in
    let is : c.push.new.self ≡ more = c.in_ok-push.ensures.ok in
    record {
      many = ap (λ (l : List Case). length l) is ∙ length-append c.loop-j.cases (c.in_ok-case.case ∷ []) ∙ ap (λ n. n + 1) c.loop-j.invariant.many;
      made = λ j x got. ⊎_elim
          (λ old. c.loop-j.invariant.made j x old.1)
          (λ new.
          let at : c.loop-j.j ≡ j = sym (new.0 ∙ c.loop-j.invariant.many) in
          subst (λ (n : ℕ). IsMadeFor c.args.store.now c.args.questions.now (ref_at c.args.conditions.now n) x) at
          (subst (λ (y : Case). IsMadeFor c.args.store.now c.args.questions.now (ref_at c.args.conditions.now c.loop-j.j) y) new.1
          c.in_ok-case.ensures.made))
          (push_got c.loop-j.cases c.in_ok-case.case x j (subst (λ (l : List Case). slice_get l j ≡ Some x) is got));
    }
