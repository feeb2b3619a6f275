use Rattle.std.proofs.Common.{◌≡◌, ◌∙◌, ◌<◌, ◌^◌, length, sym, subst, arith, [], pos}
use Rattle.rv_diagram.specs.Nodes.{Diagrams, IsRef}
use Rattle.rv_rows.specs.Rows.{RowWithin}
use Rattle.rv_cases.specs.Conditions.{AreAnswers}
use Rattle.rv_accept.specs.Needs.{IsPointOf, StaysRow}
use Rattle.rv_accept.proofs.Asked.{test_answers, test_counts, test_asked, size_more, all_more, flagged_more}
use Rattle.rv_accept.proofs.settling.still_rows.Goals as goal

pub at-answers-requires : goal.at-answers-requires
at-answers-requires c = omega (arith, c.loop-t-test.true, c.len-t-end.ensures, c.requires.answers.many)

pub row_for-requires-clause-scope : goal.row_for-requires-clause-scope
row_for-requires-clause-scope c = subst (λ (d : Diagrams). IsRef d.nodes c.args.scope) (sym c.loop-t.invariant.same) c.requires.scope

pub row_for-requires-clause-point : goal.row_for-requires-clause-point
row_for-requires-clause-point c = subst (λ (d : Diagrams). IsPointOf d.nodes d.variables c.args.scope c.args.point.now)
    (sym c.loop-t.invariant.same) c.requires.point

pub row_for-requires-clause-answers : goal.row_for-requires-clause-answers
row_for-requires-clause-answers c = subst (λ (d : Diagrams). AreAnswers d.nodes c.at-answers.result.now) (sym c.loop-t.invariant.same)
    (test_answers c.args.store.now.nodes c.args.questions.now c.loop-t.t c.at-answers.result.now c.at-known.result.now c.requires.answers
    c.at-answers.ensures.value c.at-known.ensures.value)

pub row_for-requires-clause-counts : goal.row_for-requires-clause-counts
row_for-requires-clause-counts c = test_counts c.args.store.now.nodes c.args.questions.now c.loop-t.t c.at-answers.result.now c.at-known.result.now
    c.requires.answers
    c.at-answers.ensures.value c.at-known.ensures.value

pub returns-in_default-clause-exact : goal.returns-in_default-clause-exact
returns-in_default-clause-exact c = λ s is are.
    let low : c.loop-t.t < s.tests = omega (arith, c.loop-t-test.true, c.len-t-end.ensures, are.many_tests) in
    let asked = test_asked s c.args.store.now c.loop-t.store c.args.questions.now c.loop-t.t c.at-answers.result.now c.at-known.result.now
    c.loop-t.invariant.same are
    c.at-answers.ensures.value c.at-known.ensures.value in
    let h = rw c.in_default.is at (c.in_ok-found.ensures.exact s c.loop-t.t is low asked) in
    (c.loop-t.t, low, h.0, λ r. subst (λ (d : Diagrams). ¬ StaysRow s d.nodes c.args.scope c.loop-t.t r) c.loop-t.invariant.same (h.1 r))

pub loop-t-preserved : goal.loop-t-preserved
loop-t-preserved c = record {
  same = c.row_for.ensures.same ∙ c.loop-t.invariant.same;
  size = size_more c.loop-t.rows c.push.new.self c.in-Some.row (record {
    coefficients = [];
    bound = pos 0;
  }) c.loop-t.t c.in_ok-push.ensures.ok c.loop-t.invariant.size;
  small = λ s is are.
      let low : c.loop-t.t < s.tests = omega (arith, c.loop-t-test.true, c.len-t-end.ensures, are.many_tests) in
      let asked = test_asked s c.args.store.now c.loop-t.store c.args.questions.now c.loop-t.t c.at-answers.result.now c.at-known.result.now
      c.loop-t.invariant.same are
      c.at-answers.ensures.value c.at-known.ensures.value in
      let h = rw c.in-Some.is at (c.in_ok-found.ensures.exact s c.loop-t.t is low asked) in
      all_more c.loop-t.rows c.push.new.self c.in-Some.row (record {
        coefficients = [];
        bound = pos 0;
      }) c.loop-t.t c.in_ok-push.ensures.ok c.loop-t.invariant.size
      (RowWithin (2 ^ 60)) (c.loop-t.invariant.small s is are) h.0;
  still = λ s is are.
      let low : c.loop-t.t < s.tests = omega (arith, c.loop-t-test.true, c.len-t-end.ensures, are.many_tests) in
      let asked = test_asked s c.args.store.now c.loop-t.store c.args.questions.now c.loop-t.t c.at-answers.result.now c.at-known.result.now
      c.loop-t.invariant.same are
      c.at-answers.ensures.value c.at-known.ensures.value in
      let h = rw c.in-Some.is at (c.in_ok-found.ensures.exact s c.loop-t.t is low asked) in
      flagged_more c.loop-t.rows c.push.new.self c.in-Some.row (record {
        coefficients = [];
        bound = pos 0;
      }) c.loop-t.t c.in_ok-push.ensures.ok c.loop-t.invariant.size
      (λ t r. StaysRow s c.args.store.now.nodes c.args.scope t r) c.args.named.now (c.loop-t.invariant.still s is are)
      (λ on. subst (λ (d : Diagrams). StaysRow s d.nodes c.args.scope c.loop-t.t c.in-Some.row) c.loop-t.invariant.same (h.1 on));
}

pub returns-clause-exact : goal.returns-clause-exact
returns-clause-exact c = λ s is are. record {
  size = let many : length c.args.questions.now.rows ≡ s.tests = are.many_tests in let size : length c.loop-t.rows ≡ c.loop-t.t = c.loop-t.invariant.size
      in omega (arith, c.len-t-end.ensures);
  small = c.loop-t.invariant.small s is are;
  still = λ t low on. c.loop-t.invariant.still s is are t (let many : length c.args.questions.now.rows ≡ s.tests = are.many_tests in omega
      (arith, c.len-t-end.ensures)) on;
}
