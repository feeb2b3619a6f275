use Rattle.std.proofs.Common.{◌≡◌, ◌≤◌, ◌<◌, ◌+◌, ◌*◌, ◌∙◌, ◌^◌, ◌&&◌, ℕ, ℤ, List, Option, Some, pos, length, slice_get, arith, ap, sym, subst, rules}
use Rattle.std.proofs.Common.{FitsSigned}
use Rattle.std.proofs.{lemmas.Int.to_z-of_z, lemmas.Bool.false≢true, lemmas.Result.IfOk-weaker, lemmas.Option.get_or_from_slice_get}
use Rattle.std.specs.{Int.w128, Int.RustNames.unsigned_abs, Prelude.IfSome}
use Rattle.rv_base.specs.Limits.{heaviest}
use Rattle.rv_rows.specs.{declared.linear.Form.Form, Forms.FormWithin, Forms.number}
use Rattle.rv_diagram.specs.Nodes.{Valuation, value_of}
use Rattle.rv_diagram.proofs.Growing.{extends_refl, extends_trans, grows_extends}
use Rattle.rv_proofs.specs.Systems.{System, IsSystem}
use Rattle.rv_cases.specs.{Conditions.is_in, Questions.AreQuestions, Questions.memory_answers, Questions.forms_at}
use Rattle.rv_cases.proofs.Keeping.{questions_later}
use Rattle.rv_ends.specs.Risen.{IsRisen}
use Rattle.rv_ends.proofs.Risen.{risen_still, risen_as, risen_gone}
use Rattle.rv_pairs.specs.{Risen.ShowForm, Moves.IsMovedIn, Moves.HoldsAfter, Moves.HoldsAmong}
use Rattle.rv_pairs.proofs.{Counting.labels_stay, Raising.risen_within}
use Rattle.rv_pairs.proofs.Following.{form_wider, form_shows, shows_form, answers_risen, all_answers, each_answer, moved_on, form_given, answer_found}
use Rattle.rv_pairs.proofs.Following.{answer_both}
use Rattle.rv_pairs.proofs.Following.{answers_long}
use Rattle.rv_pairs.proofs.moving.+risen_from.Goals as goal

pub returns-then-is_false-clause-risen : goal.returns-then-is_false-clause-risen
returns-then-is_false-clause-risen t c s system asked many some moved =
    let limit_fits : FitsSigned w128 c.args.limit = search rules in
    simp to_z-of_z (risen_still c.args.thresholds.now (HoldsAfter s c.args.store.now.nodes c.args.labels.now c.args.taken c.args.path c.args.side.now)
    (Some c.args.limit)
    (λ b e v there on. absurd (false≢true (sym (c.is_false.ensures.0 c.if-is_false.true v) ∙ on))))

pub risen_by-requires-clause-form : goal.risen_by-requires-clause-form
risen_by-requires-clause-form t c =
    form_wider (c.args.first * heaviest) (2 ^ 50) c.args.form.now
    (omega (arith, c.requires.first, c.requires.asked.3, (c.requires.asked.1).limits.memories)) c.requires.form

pub returns-then-column-width-clause-risen : goal.returns-then-column-width-clause-risen
returns-then-column-width-clause-risen t c =
    let limit_fits : FitsSigned w128 c.args.limit = search rules in
    let risen = simp to_z-of_z at c.risen_by.ensures.risen in
    IfOk-weaker c.risen_by.result
    (λ o. IsRisen c.args.thresholds.now (ShowForm c.args.store.now.nodes c.args.labels.now c.args.taken c.args.path c.args.form.now) (Some c.args.limit) o)
    (λ o. (s : System) → IsSystem s → AreQuestions s c.args.store.now c.args.questions.now → length c.args.side.now ≡ s.memories → 0 < s.memories
    → IsMovedIn s c.args.store.now.nodes c.args.path c.args.side.now c.args.first c.args.form.now
    → IsRisen c.args.thresholds.now (HoldsAfter s c.args.store.now.nodes c.args.labels.now c.args.taken c.args.path c.args.side.now) (Some c.args.limit) o)
    (λ o h s system asked many some moved.
    let end : c.next_column-column.result ≡ length c.args.side.now = omega (arith, c.if-column-width.true, c.len-width.ensures) in
    risen_as c.args.thresholds.now (ShowForm c.args.store.now.nodes c.args.labels.now c.args.taken c.args.path c.args.form.now)
    (HoldsAfter s c.args.store.now.nodes c.args.labels.now c.args.taken c.args.path c.args.side.now) (Some c.args.limit) o
    (λ b k. form_shows s c.args.store.now.nodes c.args.labels.now c.args.taken c.args.path c.args.side.now c.args.first c.next_column-column.result
    c.args.form.now b
    system some many c.next_column-column.ensures.from end c.next_column-column.ensures.zeros moved k)
    (λ b k. shows_form s c.args.store.now.nodes c.args.labels.now c.args.taken c.args.path c.args.side.now c.args.first c.next_column-column.result
    c.args.form.now b
    many c.next_column-column.ensures.from end c.next_column-column.ensures.zeros moved k) h)
    risen

pub returns-then-column-width-clause-small : goal.returns-then-column-width-clause-small
returns-then-column-width-clause-small t c =
    let limit_fits : FitsSigned w128 c.args.limit = search rules in
    let risen = simp to_z-of_z at c.risen_by.ensures.risen in
    IfOk-weaker c.risen_by.result
    (λ o. IsRisen c.args.thresholds.now (ShowForm c.args.store.now.nodes c.args.labels.now c.args.taken c.args.path c.args.form.now) (Some c.args.limit) o)
    (λ o. IfSome o (λ b. unsigned_abs b ≤ 2 ^ 41))
    (λ o h. risen_within c.args.thresholds.now (2 ^ 41) (ShowForm c.args.store.now.nodes c.args.labels.now c.args.taken c.args.path c.args.form.now)
    c.args.limit o
    c.requires.thresholds c.requires.limit h) risen

pub answers_of-answers-requires : goal.answers_of-answers-requires
answers_of-answers-requires t c =
    let s : System = c.requires.asked.0 in
    let asked = c.requires.asked.2 in
    let many = c.requires.asked.3 in
    let q = c.args.questions.now in
    let column = c.next_column-column.result in
    let low : column < length c.args.side.now = omega (arith, c.next_column-column.ensures.within, c.if-column-width.false, c.len-width.ensures) in
    let inside_low : column < s.memories = omega (arith, low, many) in
    omega (arith, asked.answers.many, asked.many_memories, inside_low)

pub forms_of-forms-requires : goal.forms_of-forms-requires
forms_of-forms-requires t c =
    let s : System = c.requires.asked.0 in
    let asked = c.requires.asked.2 in
    let many = c.requires.asked.3 in
    let q = c.args.questions.now in
    let column = c.next_column-column.result in
    let low : column < length c.args.side.now = omega (arith, c.next_column-column.ensures.within, c.if-column-width.false, c.len-width.ensures) in
    let inside_low : column < s.memories = omega (arith, low, many) in
    omega (arith, asked.many_memories, inside_low)

pub loop-place-init : goal.loop-place-init
loop-place-init t c =
    let limit_fits : FitsSigned w128 c.args.limit = search rules in
    record {
      extends = extends_refl c.args.store.now;
      small = simp to_z-of_z c.requires.limit;
      risen = λ s system asked many some moved. simp to_z-of_z (risen_still c.args.thresholds.now
          (HoldsAmong s c.args.store.now.nodes c.args.labels.now c.args.taken c.args.path c.args.side.now
          (memory_answers c.args.questions.now c.next_column-column.result) 0) (Some c.args.limit) (λ b e i low. absurd (omega (arith, low))));
    }

pub at-answer-requires : goal.at-answer-requires
at-answer-requires t c =
    let s : System = c.requires.asked.0 in
    let asked = c.requires.asked.2 in
    let many = c.requires.asked.3 in
    let q = c.args.questions.now in
    let column = c.next_column-column.result in
    let low : column < length c.args.side.now = omega (arith, c.next_column-column.ensures.within, c.if-column-width.false, c.len-width.ensures) in
    let inside_low : column < s.memories = omega (arith, low, many) in
    let long = answers_long s c.args.store.now q column asked inside_low in
    let same : length c.answers_of-answers.result.now ≡ length (memory_answers q column) = ap (λ (l : List ℕ). length l) c.answers_of-answers.ensures in
    let forms : length c.forms_of-forms.result.now ≡ length (forms_at q.forms column) = ap (λ (l : List Form). length l) c.forms_of-forms.ensures in
    omega (arith, long, same, forms, c.len-place-end.ensures)

pub and-requires-clause-b : goal.and-requires-clause-b
and-requires-clause-b t c =
    let s : System = c.requires.asked.0 in
    let asked = c.requires.asked.2 in
    let many = c.requires.asked.3 in
    let q = c.args.questions.now in
    let column = c.next_column-column.result in
    let low : column < length c.args.side.now = omega (arith, c.next_column-column.ensures.within, c.if-column-width.false, c.len-width.ensures) in
    let inside_low : column < s.memories = omega (arith, low, many) in
    let at : slice_get (memory_answers q column) c.loop-place.place ≡ Some c.at-answer.result.now =
    ap (λ (l : List ℕ). slice_get l c.loop-place.place) (sym c.answers_of-answers.ensures) ∙ c.at-answer.ensures.value in
    let found = answer_found s c.args.store.now q column c.loop-place.place c.at-answer.result.now asked inside_low at in
    omega (arith, found, c.loop-place.invariant.extends.longer)

pub moved_by-requires-clause-form : goal.moved_by-requires-clause-form
moved_by-requires-clause-form t c =
    let s : System = c.requires.asked.0 in
    let asked = c.requires.asked.2 in
    let many = c.requires.asked.3 in
    let q = c.args.questions.now in
    let column = c.next_column-column.result in
    let low : column < length c.args.side.now = omega (arith, c.next_column-column.ensures.within, c.if-column-width.false, c.len-width.ensures) in
    let inside_low : column < s.memories = omega (arith, low, many) in
    let few : column ≤ 64 = omega (arith, low, many, (c.requires.asked.1).limits.memories) in
    let form_small : FormWithin (column * heaviest) c.args.form.now =
    form_wider (c.args.first * heaviest) (column * heaviest) c.args.form.now (omega (arith, c.next_column-column.ensures.from)) c.requires.form in
    form_wider (column * heaviest) (2 ^ 49) c.args.form.now (omega (arith, few)) form_small

pub moved_by-requires-clause-by : goal.moved_by-requires-clause-by
moved_by-requires-clause-by t c =
    let s : System = c.requires.asked.0 in
    let asked = c.requires.asked.2 in
    let many = c.requires.asked.3 in
    let q = c.args.questions.now in
    let column = c.next_column-column.result in
    let low : column < length c.args.side.now = omega (arith, c.next_column-column.ensures.within, c.if-column-width.false, c.len-width.ensures) in
    let inside_low : column < s.memories = omega (arith, low, many) in
    let by_fits : FitsSigned w128 c.at-by.result.now = search rules in
    let is : number column c.args.side.now ≡ c.at-by.result.now = get_or_from_slice_get c.args.side.now column c.at-by.result.now
    (pos 0) c.at-by.ensures.value in
    simp to_z-of_z (subst (λ (z : ℤ). unsigned_abs z ≤ 1) is (c.requires.side column (pos 0) low))

pub moved_by-requires-clause-other : goal.moved_by-requires-clause-other
moved_by-requires-clause-other t c v on =
    let s : System = c.requires.asked.0 in
    let asked = c.requires.asked.2 in
    let many = c.requires.asked.3 in
    let q = c.args.questions.now in
    let column = c.next_column-column.result in
    let low : column < length c.args.side.now = omega (arith, c.next_column-column.ensures.within, c.if-column-width.false, c.len-width.ensures) in
    let inside_low : column < s.memories = omega (arith, low, many) in
    let at : slice_get (memory_answers q column) c.loop-place.place ≡ Some c.at-answer.result.now =
    ap (λ (l : List ℕ). slice_get l c.loop-place.place) (sym c.answers_of-answers.ensures) ∙ c.at-answer.ensures.value in
    let at_other : slice_get (forms_at q.forms column) c.loop-place.place ≡ Some c.at-other.result.now =
    ap (λ (l : List Form). slice_get l c.loop-place.place) (sym c.forms_of-forms.ensures) ∙ c.at-other.ensures.value in
    let both : (v : Valuation) → value_of c.and.new.self.nodes c.in_ok-here.here v ≡ (value_of c.args.store.now.nodes c.args.path v
    && is_in c.args.store.now.nodes (memory_answers q column) c.loop-place.place v) =
    answer_both s c.args.store.now c.loop-place.store q c.and.new.self.nodes c.args.path c.in_ok-here.here column c.loop-place.place c.at-answer.result.now
    c.loop-place.invariant.extends asked inside_low at c.requires.path c.in_ok-here.ensures.ok.means in
    form_given s c.args.store.now q c.and.new.self.nodes c.args.path c.in_ok-here.here column c.loop-place.place c.at-other.result.now c.args.form.now v
    c.requires.asked.1 asked inside_low at_other both c.requires.asked.4 on

pub risen_from-requires : goal.risen_from-requires
risen_from-requires t c =
    let many = c.requires.asked.3 in
    let column = c.next_column-column.result in
    let low : column < length c.args.side.now = omega (arith, c.next_column-column.ensures.within, c.if-column-width.false, c.len-width.ensures) in
    let form_small : FormWithin (column * heaviest) c.args.form.now =
    form_wider (c.args.first * heaviest) (column * heaviest) c.args.form.now (omega (arith, c.next_column-column.ensures.from)) c.requires.form in
    let later = extends_trans c.args.store.now c.loop-place.store c.and.new.self c.loop-place.invariant.extends
    (grows_extends c.loop-place.store c.and.new.self c.in_ok-here.ensures.ok.grows) in (
      omega (arith, c.decreases, low, c.next_column-column.ensures.from),
      (
        (
          c.requires.asked.0,
          c.requires.asked.1,
          questions_later c.requires.asked.0 c.args.store.now c.and.new.self c.args.questions.now later c.requires.asked.2,
          many,
          c.in_ok-moved.ensures.width ∙ c.requires.asked.4,
        ),
        (
          labels_stay c.args.store.now c.and.new.self c.args.labels.now later c.requires.labels,
          (
            c.requires.side,
            (
              omega (arith, low),
              (
                omega (arith, c.requires.sure, later.longer),
                (
                  omega (arith, c.requires.taken, later.longer),
                  (
                    (λ v on. later.kept c.args.sure (omega (arith, c.requires.sure)) v
                        ∙ c.requires.within v (sym (later.kept c.args.taken (omega (arith, c.requires.taken)) v) ∙ on)),
                    (
                      c.in_ok-here.ensures.ok.found,
                      (
                        form_wider (column * heaviest + heaviest) ((column + 1) * heaviest) c.in_ok-moved.moved (omega arith)
                            (c.in_ok-moved.ensures.small (column * heaviest) form_small),
                        (c.requires.thresholds, c.loop-place.invariant.small),
                      ),
                    ),
                  ),
                ),
              ),
            ),
          ),
        ),
      ),
    )

pub returns-in_err-moved-clause-extends : goal.returns-in_err-moved-clause-extends
returns-in_err-moved-clause-extends t c = extends_trans c.args.store.now c.loop-place.store c.and.new.self c.loop-place.invariant.extends
    (grows_extends c.loop-place.store c.and.new.self c.in_ok-here.ensures.ok.grows)

pub loop-place-preserved : goal.loop-place-preserved
loop-place-preserved t c =
    let by_fits : FitsSigned w128 c.at-by.result.now = search rules in
    let limit_fits : FitsSigned w128 c.args.limit = search rules in
    let sides = simp to_z-of_z at c.in_ok-moved.ensures.coefficients in
    let constant = simp to_z-of_z at c.in_ok-moved.ensures.constant in
    let recursion = c.in_ok-next.ensures.risen in
    let before = simp to_z-of_z at c.loop-place.invariant.risen in
    let q = c.args.questions.now in
    let column = c.next_column-column.result in
    let low : column < length c.args.side.now = omega (arith, c.next_column-column.ensures.within, c.if-column-width.false, c.len-width.ensures) in
    let is_by : number column c.args.side.now ≡ c.at-by.result.now = get_or_from_slice_get c.args.side.now column c.at-by.result.now
    (pos 0) c.at-by.ensures.value in
    let at : slice_get (memory_answers q column) c.loop-place.place ≡ Some c.at-answer.result.now =
    ap (λ (l : List ℕ). slice_get l c.loop-place.place) (sym c.answers_of-answers.ensures) ∙ c.at-answer.ensures.value in
    let at_other : slice_get (forms_at q.forms column) c.loop-place.place ≡ Some c.at-other.result.now =
    ap (λ (l : List Form). slice_get l c.loop-place.place) (sym c.forms_of-forms.ensures) ∙ c.at-other.ensures.value in
    let later = extends_trans c.args.store.now c.loop-place.store c.and.new.self c.loop-place.invariant.extends
    (grows_extends c.loop-place.store c.and.new.self c.in_ok-here.ensures.ok.grows) in
    let bound_fits : FitsSigned w128 c.in-Some.bound = search rules in
    record {
      extends = extends_trans c.args.store.now c.and.new.self c.risen_from.new.store later c.in_ok-next.ensures.extends;
      small = simp to_z-of_z (rw c.in-Some.is at c.in_ok-next.ensures.small);
      risen = λ s system asked many some moved.
          simp to_z-of_z (subst (λ (o : Option ℤ). IsRisen c.args.thresholds.now
          (HoldsAmong s c.args.store.now.nodes c.args.labels.now c.args.taken c.args.path c.args.side.now (memory_answers q column) (c.loop-place.place + 1))
          (Some c.args.limit) o) c.in-Some.is
          (let inside_low : column < s.memories = omega (arith, low, many) in
          let both : (v : Valuation) → value_of c.and.new.self.nodes c.in_ok-here.here v ≡ (value_of c.args.store.now.nodes c.args.path v
          && is_in c.args.store.now.nodes (memory_answers q column) c.loop-place.place v) =
          answer_both s c.args.store.now c.loop-place.store q c.and.new.self.nodes c.args.path c.in_ok-here.here column c.loop-place.place
          c.at-answer.result.now c.loop-place.invariant.extends asked inside_low at c.requires.path c.in_ok-here.ensures.ok.means in
          answers_risen s c.args.store.now c.and.new.self c.args.labels.now c.args.taken c.args.path c.in_ok-here.here c.args.side.now (memory_answers q column)
          c.loop-place.place c.args.thresholds.now c.args.limit _ c.in_ok-next.next later c.requires.labels c.requires.taken both
          (before s system asked many some moved)
          (recursion s system (questions_later s c.args.store.now c.and.new.self q later asked) many some
          (moved_on s c.args.store.now q c.and.new.self.nodes c.args.path c.in_ok-here.here c.args.first column c.loop-place.place c.args.side.now
          c.args.form.now c.at-other.result.now c.in_ok-moved.moved c.at-by.result.now asked many low c.next_column-column.ensures.from
          c.next_column-column.ensures.zeros is_by at_other both c.in_ok-moved.ensures.width sides constant moved))));
    }

pub returns-in-None-clause-risen : goal.returns-in-None-clause-risen
returns-in-None-clause-risen t c s system asked many some moved =
    let by_fits : FitsSigned w128 c.at-by.result.now = search rules in
    let limit_fits : FitsSigned w128 c.args.limit = search rules in
    let sides = simp to_z-of_z at c.in_ok-moved.ensures.coefficients in
    let constant = simp to_z-of_z at c.in_ok-moved.ensures.constant in
    let recursion = c.in_ok-next.ensures.risen in
    let before = simp to_z-of_z at c.loop-place.invariant.risen in
    let q = c.args.questions.now in
    let column = c.next_column-column.result in
    let low : column < length c.args.side.now = omega (arith, c.next_column-column.ensures.within, c.if-column-width.false, c.len-width.ensures) in
    let is_by : number column c.args.side.now ≡ c.at-by.result.now = get_or_from_slice_get c.args.side.now column c.at-by.result.now
    (pos 0) c.at-by.ensures.value in
    let at : slice_get (memory_answers q column) c.loop-place.place ≡ Some c.at-answer.result.now =
    ap (λ (l : List ℕ). slice_get l c.loop-place.place) (sym c.answers_of-answers.ensures) ∙ c.at-answer.ensures.value in
    let at_other : slice_get (forms_at q.forms column) c.loop-place.place ≡ Some c.at-other.result.now =
    ap (λ (l : List Form). slice_get l c.loop-place.place) (sym c.forms_of-forms.ensures) ∙ c.at-other.ensures.value in
    let later = extends_trans c.args.store.now c.loop-place.store c.and.new.self c.loop-place.invariant.extends
    (grows_extends c.loop-place.store c.and.new.self c.in_ok-here.ensures.ok.grows) in
    risen_gone c.args.thresholds.now
    (HoldsAmong s c.args.store.now.nodes c.args.labels.now c.args.taken c.args.path c.args.side.now (memory_answers q column) (c.loop-place.place + 1))
    (HoldsAfter s c.args.store.now.nodes c.args.labels.now c.args.taken c.args.path c.args.side.now) (Some c.args.limit)
    (λ b h. each_answer s c.args.store.now.nodes c.args.labels.now c.args.taken c.args.path c.args.side.now (memory_answers q column) (c.loop-place.place + 1) b
    h)
    (subst (λ (o : Option ℤ). IsRisen c.args.thresholds.now
    (HoldsAmong s c.args.store.now.nodes c.args.labels.now c.args.taken c.args.path c.args.side.now (memory_answers q column) (c.loop-place.place + 1))
    (Some c.args.limit) o) c.in-None.is
    (let inside_low : column < s.memories = omega (arith, low, many) in
    let both : (v : Valuation) → value_of c.and.new.self.nodes c.in_ok-here.here v ≡ (value_of c.args.store.now.nodes c.args.path v
    && is_in c.args.store.now.nodes (memory_answers q column) c.loop-place.place v) =
    answer_both s c.args.store.now c.loop-place.store q c.and.new.self.nodes c.args.path c.in_ok-here.here column c.loop-place.place
    c.at-answer.result.now c.loop-place.invariant.extends asked inside_low at c.requires.path c.in_ok-here.ensures.ok.means in
    answers_risen s c.args.store.now c.and.new.self c.args.labels.now c.args.taken c.args.path c.in_ok-here.here c.args.side.now (memory_answers q column)
    c.loop-place.place c.args.thresholds.now c.args.limit _ c.in_ok-next.next later c.requires.labels c.requires.taken both
    (before s system asked many some moved)
    (recursion s system (questions_later s c.args.store.now c.and.new.self q later asked) many some
    (moved_on s c.args.store.now q c.and.new.self.nodes c.args.path c.in_ok-here.here c.args.first column c.loop-place.place c.args.side.now
    c.args.form.now c.at-other.result.now c.in_ok-moved.moved c.at-by.result.now asked many low c.next_column-column.ensures.from
    c.next_column-column.ensures.zeros is_by at_other both c.in_ok-moved.ensures.width sides constant moved))))

pub returns-in-None-clause-extends : goal.returns-in-None-clause-extends
returns-in-None-clause-extends t c =
    let later = extends_trans c.args.store.now c.loop-place.store c.and.new.self c.loop-place.invariant.extends
    (grows_extends c.loop-place.store c.and.new.self c.in_ok-here.ensures.ok.grows) in
    extends_trans c.args.store.now c.and.new.self c.risen_from.new.store later c.in_ok-next.ensures.extends

pub returns-in_err-next-clause-extends : goal.returns-in_err-next-clause-extends
returns-in_err-next-clause-extends t c =
    let later = extends_trans c.args.store.now c.loop-place.store c.and.new.self c.loop-place.invariant.extends
    (grows_extends c.loop-place.store c.and.new.self c.in_ok-here.ensures.ok.grows) in
    extends_trans c.args.store.now c.and.new.self c.risen_from.new.store later c.risen_from.ensures.extends

pub returns-clause-risen : goal.returns-clause-risen
returns-clause-risen t c s system asked many some moved =
    let limit_fits : FitsSigned w128 c.args.limit = search rules in
    let before = simp to_z-of_z at c.loop-place.invariant.risen in
    let q = c.args.questions.now in
    let column = c.next_column-column.result in
    let low : column < length c.args.side.now = omega (arith, c.next_column-column.ensures.within, c.if-column-width.false, c.len-width.ensures) in
    let inside_low : column < s.memories = omega (arith, low, many) in
    let long = answers_long s c.args.store.now q column asked inside_low in
    let forms : length c.forms_of-forms.result.now ≡ length (forms_at q.forms column) = ap (λ (l : List Form). length l) c.forms_of-forms.ensures in
    let end : c.loop-place.place ≡ length (memory_answers q column) =
    omega (arith, long, forms, c.loop-place-test.false, c.loop-place.auto, c.len-place-end.ensures) in
    risen_as c.args.thresholds.now
    (HoldsAmong s c.args.store.now.nodes c.args.labels.now c.args.taken c.args.path c.args.side.now (memory_answers q column) c.loop-place.place)
    (HoldsAfter s c.args.store.now.nodes c.args.labels.now c.args.taken c.args.path c.args.side.now) (Some c.args.limit) _
    (λ b h. all_answers s c.args.store.now.nodes c.args.labels.now c.args.taken c.args.path c.args.side.now (memory_answers q column) c.loop-place.place b
    (asked.answers.one (length q.rows + column) (omega (arith, asked.answers.many, asked.many_memories, inside_low))) end h)
    (λ b h. each_answer s c.args.store.now.nodes c.args.labels.now c.args.taken c.args.path c.args.side.now (memory_answers q column) c.loop-place.place b h)
    (before s system asked many some moved)
