use Rattle.std.proofs.Common.{◌≡◌, ◌+◌, ◌<◌, ◌∙◌, ℕ, List, [], length, sym, ap, subst, arith, slice_get, true}
use Rattle.std.proofs.{lemmas.Option.get_or_from_slice_get, lemmas.List.length_push, lemmas.List.Elements.All-push, lemmas.List.Elements.All-same}
use Rattle.rv_diagram.specs.Nodes.{valuation_of}
use Rattle.rv_rows.specs.declared.linear.Form.{Form}
use Rattle.rv_proofs.specs.Systems.{IsUpdate}
use Rattle.rv_cases.specs.{Conditions.list_at, Conditions.is_in, Conditions.AreAnswers, Questions.forms_at, Questions.memory_answers}
use Rattle.rv_cover.proofs.Rowing.{update_told}
use Rattle.rv_cover.proofs.answers.told_forms.Goals as goal

pub form_at-requires-clause-answers : goal.form_at-requires-clause-answers
form_at-requires-clause-answers c =
    let low : c.len-first.result + c.loop-memory.memory < length c.args.questions.now.questions = omega (arith, c.requires.answers.many) in
    let is : list_at c.args.questions.now.questions (c.len-first.result + c.loop-memory.memory) ≡ c.at-answers.result.now =
    get_or_from_slice_get c.args.questions.now.questions (c.len-first.result + c.loop-memory.memory) c.at-answers.result.now [] c.at-answers.ensures.value in
    subst (λ (l : List ℕ). AreAnswers c.args.store.now.nodes l) is (c.requires.answers.one (c.len-first.result + c.loop-memory.memory) low)

pub form_at-requires-clause-many : goal.form_at-requires-clause-many
form_at-requires-clause-many c =
    let known : c.loop-memory.memory < length c.args.questions.now.forms = omega arith in
    let named : list_at c.args.questions.now.questions (c.len-first.result + c.loop-memory.memory) ≡ memory_answers c.args.questions.now c.loop-memory.memory =
    ap (λ (n : ℕ). list_at c.args.questions.now.questions (n + c.loop-memory.memory)) c.len-first.ensures in
    let is : list_at c.args.questions.now.questions (c.len-first.result + c.loop-memory.memory) ≡ c.at-answers.result.now =
    get_or_from_slice_get c.args.questions.now.questions (c.len-first.result + c.loop-memory.memory) c.at-answers.result.now [] c.at-answers.ensures.value in
    let forms_are : forms_at c.args.questions.now.forms c.loop-memory.memory ≡ c.at-forms.result.now =
    get_or_from_slice_get c.args.questions.now.forms c.loop-memory.memory c.at-forms.result.now [] c.at-forms.ensures.value in
    let size = c.requires.answers.memories c.loop-memory.memory known in
    omega (arith, size, ap length named, ap length is, ap length forms_are)

pub loop-memory-preserved : goal.loop-memory-preserved
loop-memory-preserved c =
    let known : c.loop-memory.memory < length c.args.questions.now.forms = omega arith in
    let named : list_at c.args.questions.now.questions (c.len-first.result + c.loop-memory.memory) ≡ memory_answers c.args.questions.now c.loop-memory.memory =
    ap (λ (n : ℕ). list_at c.args.questions.now.questions (n + c.loop-memory.memory)) c.len-first.ensures in
    let is : memory_answers c.args.questions.now c.loop-memory.memory ≡ c.at-answers.result.now = sym named
    ∙ get_or_from_slice_get c.args.questions.now.questions (c.len-first.result + c.loop-memory.memory) c.at-answers.result.now [] c.at-answers.ensures.value in
    let forms_are : forms_at c.args.questions.now.forms c.loop-memory.memory ≡ c.at-forms.result.now =
    get_or_from_slice_get c.args.questions.now.forms c.loop-memory.memory c.at-forms.result.now [] c.at-forms.ensures.value in
    let (i, at, on) = c.in_ok-form.ensures in
    record {
      size = ap length c.in_ok-push.ensures.ok ∙ length_push c.loop-memory.list c.in_ok-form.form ∙ ap (λ n. n + 1) c.loop-memory.invariant.size;
      each = λ s fits are.
          let many = are.many_memories in
          let new : IsUpdate s c.in_ok-form.form =
          update_told s fits c.args.store.now c.args.questions.now are c.loop-memory.memory (omega (arith, known, many)) (valuation_of c.args.sample.now) i
          c.in_ok-form.form (ap (λ (l : List Form). slice_get l i) forms_are ∙ at)
          (subst (λ (l : List ℕ). is_in c.args.store.now.nodes l i (valuation_of c.args.sample.now) ≡ true) (sym is) on) in
          All-same (IsUpdate s) c.push.new.self _ c.in_ok-push.ensures.ok
          (All-push (IsUpdate s) c.loop-memory.list c.in_ok-form.form (c.loop-memory.invariant.each s fits are) new);
    }
