use Rattle.std.proofs.Common.{◌≡◌, ◌≢◌, ◌<◌, ◌+◌, ◌∙◌, ◌||◌, ℕ, List, length, ap, refl, sym, subst}
use Rattle.std.proofs.lemmas.Option.{get_or_from_slice_get}
use Rattle.rv_rows.specs.{declared.linear.Row.Row, Rows.row_at}
use Rattle.rv_diagram.specs.{Nodes.value_of, Several.ref_at}
use Rattle.rv_diagram.proofs.Growing.{grows_extends}
use Rattle.rv_tested.proofs.Putting.{put_joined, put_new}
use Rattle.rv_tested.proofs.rows.add_row.Goals as goal

pub returns-in_ok-joined-in-Some-clause-put : goal.returns-in_ok-joined-in-Some-clause-put
returns-in_ok-joined-in-Some-clause-put c =
    let found : (c.in-Some.i < length c.args.answers.now.rows) × (row_at c.args.answers.now.rows c.in-Some.i ≡ c.args.row) =
    subst (λ (l : List Row). (c.in-Some.i < length l) × (row_at l c.in-Some.i ≡ c.args.row)) c.as_slice.ensures c.in-Some.ensures in
    let at : ref_at c.args.answers.now.refs (c.in-Some.i + 1) ≡ c.at.result.now =
    get_or_from_slice_get c.args.answers.now.refs (c.in-Some.i + 1) c.at.result.now 0 c.at.ensures.value in
    put_joined c.args.store.now c.or.new.self c.args.under c.in_ok-joined-in-Some.joined c.in-Some.i c.args.row c.args.answers.now
    (record { refs = c.set.new.self; rows = c.args.answers.now.rows })
    (grows_extends c.args.store.now c.or.new.self c.in_ok-joined-in-Some.ensures.ok.grows) c.requires.laid c.in_ok-joined-in-Some.ensures.ok.found
    found.0 found.1
    (λ v. c.in_ok-joined-in-Some.ensures.ok.means v
    ∙ ap (λ x. value_of c.args.store.now.nodes x v || value_of c.args.store.now.nodes c.args.under v) (sym at))
    c.set.ensures refl

pub returns-in_ok-push-in-None-2-clause-put : goal.returns-in_ok-push-in-None-2-clause-put
returns-in_ok-push-in-None-2-clause-put c =
    put_new c.args.store.now c.args.under c.args.row c.args.answers.now (record { refs = c.push.new.self; rows = c.push-in-None.new.self })
    c.requires.under c.requires.laid
    (subst (λ (l : List Row). (i : ℕ) → i < length l → row_at l i ≢ c.args.row) c.as_slice.ensures c.in-None.ensures)
    c.in_ok-push-in-None.ensures.ok c.in_ok-push-in-None-2.ensures.ok
