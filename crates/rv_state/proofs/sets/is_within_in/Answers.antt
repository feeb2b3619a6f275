use Rattle.std.proofs.{Common.◌≡◌, Common.ap, lemmas.Result.err_from_is_err_and}
use Rattle.std.specs.Prelude.{Err}
use Rattle.rv_diagram.specs.declared.store.StoreFault.TheVariants.{Nodes}
use Rattle.rv_state.proofs.SetLemmas.{second-lacks, within-exact, within-extends, within-lacks}
use Rattle.rv_state.proofs.sets.is_within_in.Goals as goal

pub returns-clause-exact : goal.returns-clause-exact
returns-clause-exact c = within-exact c.args.store.now c.thaw.new.self c.thaw-2.new.self c.args.a.now c.args.b.now c.in_ok-one.one c.in_ok-other.other
    c.in_ok-one.ensures.ok c.in_ok-other.ensures.ok c.in_ok-yes.yes c.in_ok-yes.ensures.ok

pub returns-clause-extends : goal.returns-clause-extends
returns-clause-extends c = within-extends c.args.store.now c.thaw.new.self c.thaw-2.new.self c.args.a.now c.args.b.now c.in_ok-one.one c.in_ok-other.other
    c.in_ok-one.ensures.ok c.in_ok-other.ensures.ok c.implies.new.self c.in_ok-yes.ensures.grows

pub returns-in_err-other-clause-room : goal.returns-in_err-other-clause-room
returns-in_err-other-clause-room c h =
    let p = err_from_is_err_and c.from_residual-in_err-other.result c.from_residual-in_err-other.ensures.1 in
    let is = p.1 in
    let same = p.2 in
    let nodes : c.in_err-other.field-0.0 ≡ Nodes = cc in
    second-lacks c.args.store.now c.thaw.new.self c.args.a.now c.args.b.now c.in_ok-one.one c.in_ok-one.ensures.ok c.in_ok-one.ensures.growth c.requires.b
    (c.in_err-other.ensures.nodes (ap (λ e. Err e) nodes))

pub returns-in_err-yes-clause-room : goal.returns-in_err-yes-clause-room
returns-in_err-yes-clause-room c h =
    let p = err_from_is_err_and c.from_residual-in_err-yes.result c.from_residual-in_err-yes.ensures.1 in
    let is = p.1 in
    let same = p.2 in
    let nodes : c.in_err-yes.field-0.0 ≡ Nodes = cc in
    within-lacks c.args.store.now c.thaw.new.self c.thaw-2.new.self c.args.a.now c.args.b.now c.in_ok-one.one c.in_ok-other.other c.in_ok-one.ensures.ok
    c.in_ok-other.ensures.ok c.in_ok-one.ensures.growth c.in_ok-other.ensures.growth (c.in_err-yes.ensures.nodes (ap (λ e. Err e) nodes))
