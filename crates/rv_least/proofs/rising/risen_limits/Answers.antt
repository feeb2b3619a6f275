use Rattle.std.proofs.Common.{◌≡◌, ◌≢◌, ◌+◌, ◌<◌, ◌||◌, ◌∙◌, ◌++◌, ◌∷◌, ◌⊎◌, [], Bool, List, Option, None, ℤ, length, take, arith, refl, sym, ap, subst}
use Rattle.std.proofs.lemmas.Option.{get_or_from_slice_get}
use Rattle.rv_diagram.specs.Nodes.{Diagrams}
use Rattle.rv_proofs.specs.{Systems.System, Systems.IsSystem, Boxes.BoxClaim}
use Rattle.rv_cases.specs.{Questions.AreQuestions, Questions.memory_answers, Conditions.AreAnswers}
use Rattle.rv_ends.specs.Risen.{IsRisen}
use Rattle.rv_boxes.specs.Limits.{HasChanged, room_of}
use Rattle.rv_boxes.proofs.Limiting.{changed_more, match_true, match_false}
use Rattle.rv_base.proofs.Lists.{take_push}
use Rattle.rv_least.specs.{Turned.AreTurned, Turned.AreAllTurned, Opened.IsOpenedAt, Rising.AreRisen, Rising.HoldsAt}
use Rattle.rv_least.proofs.Turning.{answers_at, memory_asked}
use Rattle.rv_least.proofs.Raising.{risen_more, risen_room, risen_here}
use Rattle.rv_least.proofs.rising.risen_limits.Goals as goal

pub loop-memory-init : goal.loop-memory-init
loop-memory-init c = record {
  same = refl;
  risen = λ s base sign is opened q turned size. record { size = ap length c.new-list.ensures; each = λ k l. absurd (omega (arith, l)) };
  changed = c.new-list.ensures;
}

pub overflow_add-question : goal.overflow_add-question
overflow_add-question c =
    let (s, base, sign, is, opened, q, turned, size) = c.requires.system in
    let l = is.limits in
    let tests = l.tests in
    let memories = l.memories in
    omega (arith, tests, memories, size, q.many_tests, c.len-tests.ensures, c.loop-memory-test.true, c.len-memory-end.ensures)

pub at-answers-requires : goal.at-answers-requires
at-answers-requires c =
    let (s, base, sign, is, opened, q, turned, size) = c.requires.system in
    omega (arith, size, q.answers.many, q.many_memories, c.len-tests.ensures, c.loop-memory-test.true, c.len-memory-end.ensures)

pub at-turned-requires : goal.at-turned-requires
at-turned-requires c =
    let (s, base, sign, is, opened, q, turned, size) = c.requires.system in
    let lists = turned.size in
    omega (arith, size, lists, c.loop-memory-test.true, c.len-memory-end.ensures)

pub risen_limit-requires-clause-system : goal.risen_limit-requires-clause-system
risen_limit-requires-clause-system c =
    let (s, base, sign, is, opened, q, turned, size) = c.requires.system in
    let k = c.loop-memory.memory in
    let known : k < s.memories = omega (arith, size, c.loop-memory-test.true, c.len-memory-end.ensures) in
    let e : memory_answers c.args.questions.now k ≡ c.as_slice-given.result.now = answers_at c.args.questions.now c.len-tests.result k
    c.at-answers.result.now c.as_slice-given.result.now c.len-tests.ensures c.at-answers.ensures.value c.as_slice-given.ensures in
    let same = c.loop-memory.invariant.same in (
      s,
      base,
      k,
      sign,
      is,
      subst (λ (d : Diagrams). IsOpenedAt s d base c.args.opening.now) (sym same) opened,
      subst (λ (d : Diagrams). AreTurned s d.nodes k sign c.as_slice-given.result.now (length c.as_slice-given.result.now) c.at-turned.result.now) (sym same)
          (risen_here s c.args.store.now.nodes c.args.questions.now sign c.args.forms.now turned k known c.as_slice-given.result.now c.at-turned.result.now e
          c.at-turned.ensures.value),
    )

pub risen_limit-requires-clause-answers : goal.risen_limit-requires-clause-answers
risen_limit-requires-clause-answers c =
    let (s, base, sign, is, opened, q, turned, size) = c.requires.system in
    let k = c.loop-memory.memory in
    let known : k < s.memories = omega (arith, size, c.loop-memory-test.true, c.len-memory-end.ensures) in
    let e : memory_answers c.args.questions.now k ≡ c.as_slice-given.result.now = answers_at c.args.questions.now c.len-tests.result k
    c.at-answers.result.now c.as_slice-given.result.now c.len-tests.ensures c.at-answers.ensures.value c.as_slice-given.ensures in
    let same = c.loop-memory.invariant.same in
    subst (λ (d : Diagrams). AreAnswers d.nodes c.as_slice-given.result.now) (sym same)
    (subst (AreAnswers c.args.store.now.nodes) e (memory_asked s c.args.store.now c.args.questions.now q k known))

pub loop-memory-preserved : goal.loop-memory-preserved
loop-memory-preserved c =
    let limits = c.args.limits.now in
    let m = c.loop-memory.memory in
    let old = c.at-limit.result.now in
    let new = c.in_ok-next.next in
    let same = c.loop-memory.invariant.same in
    let risen : (s : System) (base : BoxClaim) (sign : ℤ) → IsSystem s → IsOpenedAt s c.args.store.now base c.args.opening.now
    → AreQuestions s c.args.store.now c.args.questions.now → AreAllTurned s c.args.store.now.nodes c.args.questions.now sign s.memories c.args.forms.now
    → length limits ≡ s.memories → IsRisen c.args.thresholds.now (HoldsAt s base m sign) old new = λ s base sign is opened q turned size.
    let known : m < s.memories = omega (arith, size, c.loop-memory-test.true, c.len-memory-end.ensures) in
    let e : memory_answers c.args.questions.now m ≡ c.as_slice-given.result.now = answers_at c.args.questions.now c.len-tests.result m
    c.at-answers.result.now c.as_slice-given.result.now c.len-tests.ensures c.at-answers.ensures.value c.as_slice-given.ensures in
    c.in_ok-next.ensures.risen s base m sign is
    (subst (λ (d : Diagrams). IsOpenedAt s d base c.args.opening.now) (sym same) opened)
    (subst (λ (d : Diagrams). AreTurned s d.nodes m sign c.as_slice-given.result.now (length c.as_slice-given.result.now) c.at-turned.result.now) (sym same)
    (risen_here s c.args.store.now.nodes c.args.questions.now sign c.args.forms.now turned m known c.as_slice-given.result.now c.at-turned.result.now e
    c.at-turned.ensures.value)) in
    let (s, base, sign, is, opened, q, turned, size) = c.requires.system in
    let room_is : (new ≡ old) ⊎ (room_of new < room_of old) = risen_room c.args.thresholds.now (HoldsAt s base m sign) old new c.requires.thresholds
    (risen s base sign is opened q turned size) in
    let grown : HasChanged (c.loop-memory.changed || c.is_changed.result) (take m limits ++ old ∷ []) (c.loop-memory.list ++ new ∷ []) =
    changed_more c.loop-memory.changed c.is_changed.result (take m limits) c.loop-memory.list old new c.loop-memory.invariant.changed room_is
    (λ e n. match_true c.is_changed.result (old ≢ new) (new ≡ old) c.is_changed.ensures e (sym n))
    (match_false c.is_changed.result (old ≢ new) (new ≡ old) c.is_changed.ensures) in
    record {
      same = c.risen_limit.ensures.same ∙ same;
      risen = λ s base sign is opened q turned size.
          subst (λ (l : List (Option ℤ)). AreRisen s base c.args.thresholds.now sign (m + 1) limits l) (sym c.in_ok-push.ensures.ok)
          (risen_more s base c.args.thresholds.now sign m limits c.loop-memory.list old new
          (c.loop-memory.invariant.risen s base sign is opened q turned size)
          (get_or_from_slice_get limits m old None c.at-limit.ensures.value) (risen s base sign is opened q turned size));
      changed = subst (λ (b : Bool). HasChanged b (take (m + 1) limits) c.push.new.self) (sym c.either-changed.ensures)
          (subst (λ (l : List (Option ℤ)). HasChanged (c.loop-memory.changed || c.is_changed.result) (take (m + 1) limits) l) (sym c.in_ok-push.ensures.ok)
          (subst (λ (l : List (Option ℤ)). HasChanged (c.loop-memory.changed || c.is_changed.result) l (c.loop-memory.list ++ new ∷ []))
          (take_push limits (take m limits) m old refl c.at-limit.ensures.value) grown));
    }

pub returns-clause-risen : goal.returns-clause-risen
returns-clause-risen c s base sign is opened q turned size =
    let e : c.loop-memory.memory ≡ length c.args.limits.now = omega (arith, c.loop-memory-test.false, c.loop-memory.auto, c.len-memory-end.ensures) in
    subst (λ n. AreRisen s base c.args.thresholds.now sign n c.args.limits.now c.loop-memory.list) e
    (c.loop-memory.invariant.risen s base sign is opened q turned size)
