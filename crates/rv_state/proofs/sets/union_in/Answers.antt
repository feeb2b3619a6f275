use Rattle.std.proofs.{Common.◌≡◌, Common.ap, lemmas.Result.err_from_is_err_and}
use Rattle.std.specs.Prelude.{Err}
use Rattle.rv_diagram.specs.declared.store.StoreFault.TheVariants.{Nodes}
use Rattle.rv_state.proofs.SetLemmas.{second-lacks, union-extends, union-lacks, union-made}
use Rattle.rv_state.proofs.sets.union_in.Goals as goal

pub returns-clause-exact : goal.returns-clause-exact
returns-clause-exact c = union-made c.args.store.now c.thaw.new.self c.thaw-2.new.self c.args.a.now c.args.b.now c.in_ok-one.one c.in_ok-other.other
    c.in_ok-one.ensures.ok c.in_ok-other.ensures.ok c.or.new.self c.in_ok-freeze.field-0 c.in_ok-both.both c.in_ok-both.ensures.ok
    c.in_ok-freeze.ensures.ordered c.in_ok-freeze.ensures.means c.in_ok-freeze.ensures.needed

pub returns-in_err-freeze-clause-extends : goal.returns-in_err-freeze-clause-extends
returns-in_err-freeze-clause-extends c = union-extends c.args.store.now c.thaw.new.self c.thaw-2.new.self c.args.a.now c.args.b.now c.in_ok-one.one
    c.in_ok-other.other c.in_ok-one.ensures.ok c.in_ok-other.ensures.ok c.or.new.self c.in_ok-both.both c.in_ok-both.ensures.ok

pub returns-clause-extends : goal.returns-clause-extends
returns-clause-extends c = union-extends c.args.store.now c.thaw.new.self c.thaw-2.new.self c.args.a.now c.args.b.now c.in_ok-one.one
    c.in_ok-other.other c.in_ok-one.ensures.ok c.in_ok-other.ensures.ok c.or.new.self c.in_ok-both.both c.in_ok-both.ensures.ok

pub returns-in_err-other-clause-room : goal.returns-in_err-other-clause-room
returns-in_err-other-clause-room c h =
    let p = err_from_is_err_and c.from_residual-in_err-other.result c.from_residual-in_err-other.ensures.1 in
    let is = p.1 in
    let same = p.2 in
    let nodes : c.in_err-other.field-0.0 ≡ Nodes = cc in
    second-lacks c.args.store.now c.thaw.new.self c.args.a.now c.args.b.now c.in_ok-one.one c.in_ok-one.ensures.ok c.in_ok-one.ensures.growth c.requires.b
    (c.in_err-other.ensures.nodes (ap (λ e. Err e) nodes))

pub returns-in_err-both-clause-room : goal.returns-in_err-both-clause-room
returns-in_err-both-clause-room c h =
    let p = err_from_is_err_and c.from_residual-in_err-both.result c.from_residual-in_err-both.ensures.1 in
    let is = p.1 in
    let same = p.2 in
    let nodes : c.in_err-both.field-0.0 ≡ Nodes = cc in
    union-lacks c.args.store.now c.thaw.new.self c.thaw-2.new.self c.args.a.now c.args.b.now c.in_ok-one.one c.in_ok-other.other c.in_ok-one.ensures.ok
    c.in_ok-other.ensures.ok c.in_ok-one.ensures.growth c.in_ok-other.ensures.growth c.requires.a c.requires.b
    (c.in_err-both.ensures.nodes (ap (λ e. Err e) nodes))
