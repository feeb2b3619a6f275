use Rattle.std.proofs.Common.{◌≡◌, ◌∙◌, ◌+◌, ◌<◌, length, sym, ap, subst, arith, [], pos}
use Rattle.rv_diagram.specs.Nodes.{Diagrams, IsRef}
use Rattle.rv_proofs.specs.Systems.{IsUpdate}
use Rattle.rv_cases.specs.Conditions.{AreAnswers}
use Rattle.rv_accept.specs.Needs.{IsPointOf, StaysForm}
use Rattle.rv_accept.proofs.Asked.{memory_there, memory_counts, memory_asked, size_more, all_more, flagged_more}
use Rattle.rv_accept.proofs.settling.still_forms.Goals as goal

pub at-answers-requires : goal.at-answers-requires
at-answers-requires c = omega (arith, c.loop-k-test.true, c.len-k-end.ensures, c.len-first.ensures, c.requires.answers.many)

pub form_for-requires-clause-scope : goal.form_for-requires-clause-scope
form_for-requires-clause-scope c = subst (λ (d : Diagrams). IsRef d.nodes c.args.scope) (sym c.loop-k.invariant.same) c.requires.scope

pub form_for-requires-clause-point : goal.form_for-requires-clause-point
form_for-requires-clause-point c = subst (λ (d : Diagrams). IsPointOf d.nodes d.variables c.args.scope c.args.point.now)
    (sym c.loop-k.invariant.same) c.requires.point

pub form_for-requires-clause-answers : goal.form_for-requires-clause-answers
form_for-requires-clause-answers c = subst (λ (d : Diagrams). AreAnswers d.nodes c.at-answers.result.now) (sym c.loop-k.invariant.same)
    (memory_there c.args.store.now.nodes c.args.questions.now c.loop-k.k _ c.at-answers.result.now c.at-known.result.now c.requires.answers (ap
    (λ n. n + c.loop-k.k) c.len-first.ensures) c.at-answers.ensures.value c.at-known.ensures.value)

pub form_for-requires-clause-counts : goal.form_for-requires-clause-counts
form_for-requires-clause-counts c = memory_counts c.args.store.now.nodes c.args.questions.now c.loop-k.k _ c.at-answers.result.now c.at-known.result.now
    c.requires.answers (ap (λ n. n + c.loop-k.k) c.len-first.ensures)
    c.at-answers.ensures.value c.at-known.ensures.value

pub returns-in_default-clause-exact : goal.returns-in_default-clause-exact
returns-in_default-clause-exact c = λ s is are.
    let low : c.loop-k.k < s.memories = omega (arith, c.loop-k-test.true, c.len-k-end.ensures, are.many_memories) in
    let asked = memory_asked s c.args.store.now c.loop-k.store c.args.questions.now c.loop-k.k _ c.at-answers.result.now c.at-known.result.now
    c.loop-k.invariant.same are
    (ap (λ n. n + c.loop-k.k) c.len-first.ensures) c.at-answers.ensures.value c.at-known.ensures.value in
    let h = rw c.in_default.is at (c.in_ok-found.ensures.exact s c.loop-k.k is low asked) in
    (c.loop-k.k, low, h.0, λ f. subst (λ (d : Diagrams). ¬ StaysForm s d.nodes c.args.scope c.loop-k.k f) c.loop-k.invariant.same (h.1 f))

pub loop-k-preserved : goal.loop-k-preserved
loop-k-preserved c = record {
  same = c.form_for.ensures.same ∙ c.loop-k.invariant.same;
  size = size_more c.loop-k.forms c.push.new.self c.in-Some.form (record {
    coefficients = [];
    constant = pos 0;
  }) c.loop-k.k c.in_ok-push.ensures.ok c.loop-k.invariant.size;
  updates = λ s is are.
      let low : c.loop-k.k < s.memories = omega (arith, c.loop-k-test.true, c.len-k-end.ensures, are.many_memories) in
      let asked = memory_asked s c.args.store.now c.loop-k.store c.args.questions.now c.loop-k.k _ c.at-answers.result.now c.at-known.result.now
      c.loop-k.invariant.same are
      (ap (λ n. n + c.loop-k.k) c.len-first.ensures) c.at-answers.ensures.value c.at-known.ensures.value in
      let h = rw c.in-Some.is at (c.in_ok-found.ensures.exact s c.loop-k.k is low asked) in
      all_more c.loop-k.forms c.push.new.self c.in-Some.form (record {
        coefficients = [];
        constant = pos 0;
      }) c.loop-k.k c.in_ok-push.ensures.ok c.loop-k.invariant.size
      (IsUpdate s) (c.loop-k.invariant.updates s is are) h.0;
  still = λ s is are.
      let low : c.loop-k.k < s.memories = omega (arith, c.loop-k-test.true, c.len-k-end.ensures, are.many_memories) in
      let asked = memory_asked s c.args.store.now c.loop-k.store c.args.questions.now c.loop-k.k _ c.at-answers.result.now c.at-known.result.now
      c.loop-k.invariant.same are
      (ap (λ n. n + c.loop-k.k) c.len-first.ensures) c.at-answers.ensures.value c.at-known.ensures.value in
      let h = rw c.in-Some.is at (c.in_ok-found.ensures.exact s c.loop-k.k is low asked) in
      flagged_more c.loop-k.forms c.push.new.self c.in-Some.form (record {
        coefficients = [];
        constant = pos 0;
      }) c.loop-k.k c.in_ok-push.ensures.ok c.loop-k.invariant.size
      (λ k f. StaysForm s c.args.store.now.nodes c.args.scope k f) c.args.needed.now (c.loop-k.invariant.still s is are)
      (λ on. subst (λ (d : Diagrams). StaysForm s d.nodes c.args.scope c.loop-k.k c.in-Some.form) c.loop-k.invariant.same (h.1 on));
}

pub returns-clause-exact : goal.returns-clause-exact
returns-clause-exact c = λ s is are. record {
  size = let many : length c.args.questions.now.forms ≡ s.memories = are.many_memories in let size : length c.loop-k.forms ≡ c.loop-k.k =
      c.loop-k.invariant.size in omega (arith, c.len-k-end.ensures);
  updates = c.loop-k.invariant.updates s is are;
  still = λ t low on. c.loop-k.invariant.still s is are t (let many : length c.args.questions.now.forms ≡ s.memories = are.many_memories in omega
      (arith, c.len-k-end.ensures)) on;
}
