use Rattle.std.proofs.Common.{◌≡◌, ◌<◌, ◌+◌, ℕ, true, length, subst, arith}
use Rattle.std.proofs.lemmas.Option.{get_or_from_slice_get}
use Rattle.rv_rows.specs.{declared.linear.Row.Row, Rows.row_at}
use Rattle.rv_diagram.specs.{Nodes.value_of, Several.ref_at}
use Rattle.rv_diagram.proofs.Growing.{extends_refl, extends_trans}
use Rattle.rv_cases.proofs.Gathering.{refs_later}
use Rattle.rv_ends.proofs.Stays.{ends_later}
use Rattle.rv_taken.specs.Meeting.{IsExactly, IsRowOf, AreMet}
use Rattle.rv_taken.proofs.Meetings.{opened_later, row_of_later, met_first, met_more}
use Rattle.rv_taken.proofs.opening.without_test.Goals as goal

pub without_row-requires-clause-under : goal.without_row-requires-clause-under
without_row-requires-clause-under c =
    let low : c.loop-place.place < length c.args.rows.now = omega (arith, c.loop-place-test.true, c.len-place-end.ensures) in
    refs_later c.args.store.now c.loop-place.store c.args.answers.now c.loop-place.invariant.extends c.requires.answers (c.loop-place.place + 1)
    (omega (arith, c.requires.many))

pub without_row-requires-clause-ends : goal.without_row-requires-clause-ends
without_row-requires-clause-ends c =
    ends_later c.args.store.now c.loop-place.store (length c.args.ends.now) c.args.ends.now c.loop-place.invariant.extends c.requires.ends

pub without_row-requires-clause-opened : goal.without_row-requires-clause-opened
without_row-requires-clause-opened c =
    opened_later c.args.store.now c.loop-place.store c.args.ends.now c.args.whole c.loop-place.rest c.loop-place.invariant.extends c.requires.ends
    (λ v on. ((c.loop-place.invariant.exact.means v).0 on).0) c.requires.opened

pub without_row-requires-clause-row : goal.without_row-requires-clause-row
without_row-requires-clause-row c =
    let low : c.loop-place.place < length c.args.rows.now = omega (arith, c.loop-place-test.true, c.len-place-end.ensures) in
    let at : row_at c.args.rows.now c.loop-place.place ≡ c.at.result.now =
    get_or_from_slice_get c.args.rows.now c.loop-place.place c.at.result.now _ c.at.ensures.value in
    row_of_later c.args.store.now c.loop-place.store c.args.ends.now c.args.whole c.loop-place.rest (ref_at c.args.answers.now (c.loop-place.place + 1))
    c.at.result.now c.loop-place.invariant.extends c.requires.ends (c.requires.answers (c.loop-place.place + 1) (omega (arith, c.requires.many)))
    (λ v on. ((c.loop-place.invariant.exact.means v).0 on).0)
    (subst (λ (r : Row). IsRowOf c.args.store.now.nodes c.args.ends.now c.args.whole (ref_at c.args.answers.now (c.loop-place.place + 1)) r) at
    (c.requires.rows c.loop-place.place low))

pub loop-place-init : goal.loop-place-init
loop-place-init c = record {
  extends = extends_refl c.args.store.now;
  exact = met_first c.args.store.now.nodes c.args.ends.now c.args.answers.now c.args.rows.now c.args.whole c.requires.whole;
}

pub loop-place-preserved : goal.loop-place-preserved
loop-place-preserved c =
    let low : c.loop-place.place < length c.args.rows.now = omega (arith, c.loop-place-test.true, c.len-place-end.ensures) in
    let at : row_at c.args.rows.now c.loop-place.place ≡ c.at.result.now =
    get_or_from_slice_get c.args.rows.now c.loop-place.place c.at.result.now _ c.at.ensures.value in
    record {
      extends = extends_trans c.args.store.now c.loop-place.store c.without_row.new.store c.loop-place.invariant.extends c.in_ok-rest.ensures.extends;
      exact = met_more c.args.store.now c.loop-place.store c.without_row.new.store.nodes c.args.ends.now c.args.answers.now c.args.rows.now
          c.loop-place.place c.args.whole c.loop-place.rest c.in_ok-rest.rest c.at.result.now c.loop-place.invariant.extends c.requires.ends
          (c.requires.answers (c.loop-place.place + 1) (omega (arith, c.requires.many))) at c.loop-place.invariant.exact c.in_ok-rest.ensures.exact;
    }

pub returns-clause-exact : goal.returns-clause-exact
returns-clause-exact c =
    let all : c.loop-place.place ≡ length c.args.rows.now = omega (arith, c.loop-place-test.false, c.len-place-end.ensures) in
    subst (λ (n : ℕ). IsExactly c.loop-place.store.nodes (λ v. (value_of c.args.store.now.nodes c.args.whole v ≡ true)
    × AreMet c.args.store.now.nodes c.args.ends.now c.args.answers.now c.args.rows.now n v) c.loop-place.rest) all c.loop-place.invariant.exact
