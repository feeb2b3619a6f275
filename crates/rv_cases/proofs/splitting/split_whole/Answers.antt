use Rattle.std.proofs.Common.{◌≡◌, ◌<◌, ◌∙◌, sym, subst, length, ℕ, arith, List, [], ⊎_elim}
use Rattle.std.proofs.{lemmas.Bool.cases_lt, lemmas.List.get_or_read}
use Rattle.rv_diagram.specs.Nodes.{value_of}
use Rattle.rv_diagram.specs.Growing.{Extends}
use Rattle.rv_diagram.proofs.Growing.{extends_trans}
use Rattle.rv_cases.specs.Conditions.{AreRefs, AreAnswers, IsParted, AreWithin, AreMeets, list_at}
use Rattle.rv_cases.proofs.Gathering.{answers_later, within_trans, meets_finer, meets_answered, joined_more}
use Rattle.rv_cases.proofs.splitting.split_whole.Goals as goal

pub split-requires-clause-answers : goal.split-requires-clause-answers
split-requires-clause-answers c =
    let low : c.loop-answers.answers-index < length c.args.questions.now = omega arith in
    let is : c.answers-item.result ≡ list_at c.args.questions.now c.loop-answers.answers-index =
    get_or_read c.args.questions.now c.loop-answers.answers-index c.answers-item.result low c.answers-item.is [] in
    subst (λ (l : List ℕ). AreAnswers c.loop-answers.store.nodes l) (sym (c.as_slice-in-loop-answers.ensures ∙ is))
    (answers_later c.args.store.now c.loop-answers.store (list_at c.args.questions.now c.loop-answers.answers-index) c.loop-answers.invariant.extends
    (c.requires.questions c.loop-answers.answers-index low))

pub loop-answers-preserved : goal.loop-answers-preserved
loop-answers-preserved c =
    let low : c.loop-answers.answers-index < length c.args.questions.now = omega arith in
    let answers : List ℕ = list_at c.args.questions.now c.loop-answers.answers-index in
    let is : c.answers-item.result ≡ list_at c.args.questions.now c.loop-answers.answers-index =
    get_or_read c.args.questions.now c.loop-answers.answers-index c.answers-item.result low c.answers-item.is [] in
    let same : c.as_slice-in-loop-answers.result.now ≡ list_at c.args.questions.now c.loop-answers.answers-index = c.as_slice-in-loop-answers.ensures ∙ is in
    let refs : AreRefs c.args.store.now.nodes answers = (c.requires.questions c.loop-answers.answers-index low).found in
    let grown : Extends c.loop-answers.store c.split.new.store = c.in_ok-left-2.ensures.extends in
    let met : AreMeets c.split.new.store.nodes c.loop-answers.left.items answers c.in_ok-left-2.left.items =
    subst (λ (l : List ℕ). AreMeets c.split.new.store.nodes l answers c.in_ok-left-2.left.items) c.as_slice.ensures.value
    (subst (λ (l : List ℕ). AreMeets c.split.new.store.nodes c.as_slice.result.now l c.in_ok-left-2.left.items) same c.in_ok-left-2.ensures.met) in
    record {
      extends = extends_trans c.args.store.now c.loop-answers.store c.split.new.store c.loop-answers.invariant.extends grown;
      parted = c.in_ok-left-2.ensures.parted (value_of c.args.store.now.nodes c.args.whole)
          (subst (λ (l : List ℕ). IsParted c.loop-answers.store.nodes (value_of c.args.store.now.nodes c.args.whole) l) (sym c.as_slice.ensures.value)
          c.loop-answers.invariant.parted);
      answered = λ q lt. ⊎_elim
          (λ less. within_trans c.args.store.now.nodes c.loop-answers.store.nodes c.split.new.store.nodes (list_at c.args.questions.now q)
          c.loop-answers.left.items
          c.in_ok-left-2.left.items (c.loop-answers.invariant.answered q less)
          (meets_finer c.loop-answers.store c.split.new.store c.loop-answers.left.items answers c.in_ok-left-2.left.items grown
          c.loop-answers.invariant.parted.found met))
          (λ ge.
          let e : c.loop-answers.answers-index ≡ q = omega arith in
          subst (λ (k : ℕ). AreWithin c.args.store.now.nodes c.split.new.store.nodes (list_at c.args.questions.now k) c.in_ok-left-2.left.items) e
          (meets_answered c.args.store.now c.split.new.store c.loop-answers.left.items answers c.in_ok-left-2.left.items
          (extends_trans c.args.store.now c.loop-answers.store c.split.new.store c.loop-answers.invariant.extends grown) refs met))
          (cases_lt q c.loop-answers.answers-index);
      joined = joined_more c.args.store.now c.loop-answers.store c.split.new.store (value_of c.args.store.now.nodes c.args.whole) c.args.questions.now
          c.loop-answers.answers-index c.loop-answers.left.items c.in_ok-left-2.left.items c.loop-answers.invariant.extends grown
          c.loop-answers.invariant.parted.found refs met c.loop-answers.invariant.joined;
    }
