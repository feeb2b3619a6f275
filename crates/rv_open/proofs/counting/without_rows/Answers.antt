use Rattle.std.proofs.Common.{◌≡◌, ℕ, ◌+◌, true, length, arith, subst, sym}
use Rattle.rv_diagram.specs.Nodes.{IsRef, value_of}
use Rattle.rv_diagram.proofs.Growing.{extends_refl, extends_trans}
use Rattle.rv_symbolic.specs.Growing.{Finds}
use Rattle.rv_open.specs.Given.{HoldAmong}
use Rattle.rv_open.proofs.Rest.{left_start, left_more, answer_is}
use Rattle.rv_open.proofs.counting.without_rows.Goals as goal

pub loop-place-init : goal.loop-place-init
loop-place-init c = record {
  extends = extends_refl c.args.store.now;
  left = left_start c.args.store.now c.args.from c.args.answers.now c.args.rows.now c.requires.from;
}

pub at-answer-requires : goal.at-answer-requires
at-answer-requires c = omega (arith, c.requires.many, c.loop-place-test.true, c.len-place-end.ensures)

pub without_row-requires-clause-answer : goal.without_row-requires-clause-answer
without_row-requires-clause-answer c =
    let x = c.loop-place.invariant.extends in
    let at = answer_is c.args.answers.now (c.loop-place.place + 1) c.at-answer.result.now c.at-answer.ensures.value in
    let found : IsRef c.args.store.now.nodes c.at-answer.result.now =
    subst (λ (r : ℕ). IsRef c.args.store.now.nodes r) (sym at)
    (c.requires.answers (c.loop-place.place + 1) (omega (arith, c.requires.many, c.loop-place-test.true, c.len-place-end.ensures))) in
    let longer = x.longer in
    omega (arith, found, longer)

pub without_row-requires-clause-rest : goal.without_row-requires-clause-rest
without_row-requires-clause-rest c = let x = c.loop-place.invariant.left in x.found

pub loop-place-preserved : goal.loop-place-preserved
loop-place-preserved c =
    let at = answer_is c.args.answers.now (c.loop-place.place + 1) c.at-answer.result.now c.at-answer.ensures.value in
    let found : IsRef c.args.store.now.nodes c.at-answer.result.now =
    subst (λ (r : ℕ). IsRef c.args.store.now.nodes r) (sym at)
    (c.requires.answers (c.loop-place.place + 1) (omega (arith, c.requires.many, c.loop-place-test.true, c.len-place-end.ensures))) in
    record {
      extends = extends_trans c.args.store.now c.loop-place.store c.without_row.new.store c.loop-place.invariant.extends c.without_row.ensures.extends;
      left = left_more c.args.store.now c.loop-place.store c.without_row.new.store c.args.from c.loop-place.rest c.in_ok-rest.rest c.loop-place.place
          c.at-answer.result.now c.args.answers.now c.args.rows.now c.at-row.result.now found c.at-row.ensures.value c.at-answer.ensures.value
          c.loop-place.invariant.left c.in_ok-rest.ensures.left;
    }

pub returns-clause-left : goal.returns-clause-left
returns-clause-left c =
    let e : c.loop-place.place ≡ length c.args.rows.now = omega (arith, c.loop-place-test.false, c.loop-place.auto, c.len-place-end.ensures) in
    subst (λ (n : ℕ). Finds c.args.store.now c.loop-place.store
    (λ v. (value_of c.args.store.now.nodes c.args.from v ≡ true) × HoldAmong c.args.store.now.nodes c.args.answers.now c.args.rows.now n v)
    c.loop-place.rest) e c.loop-place.invariant.left
