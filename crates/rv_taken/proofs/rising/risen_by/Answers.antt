use Rattle.std.proofs.Common.{◌*◌, ◌^◌, ◌∙◌, sym, length, arith}
use Rattle.std.proofs.{lemmas.Int.to_z-of_z, lemmas.Bool.false≢true, lemmas.Result.IfOk-weaker}
use Rattle.std.specs.Int.{w128}
use Rattle.rv_rows.proofs.IntLemmas.{fits_below}
use Rattle.rv_diagram.proofs.Growing.{extends_trans, grows_extends, equal_extends}
use Rattle.rv_ends.proofs.Stays.{ends_later, side_later}
use Rattle.rv_taken.proofs.Risings.{form_risen, form_off}
use Rattle.rv_taken.proofs.rising.risen_by.Goals as goal

pub greatest-requires-clause-ends : goal.greatest-requires-clause-ends
greatest-requires-clause-ends c = ends_later c.args.store.now c.and.new.self (length c.args.ends.now) c.args.ends.now
    (grows_extends c.args.store.now c.and.new.self c.in_ok-here.ensures.ok.grows) c.requires.ends

pub returns-in_err-top-clause-extends : goal.returns-in_err-top-clause-extends
returns-in_err-top-clause-extends c = extends_trans c.args.store.now c.and.new.self c.greatest.new.store
    (grows_extends c.args.store.now c.and.new.self c.in_ok-here.ensures.ok.grows) c.greatest.ensures.extends

pub returns-in_err-implies-clause-extends : goal.returns-in_err-implies-clause-extends
returns-in_err-implies-clause-extends c = extends_trans c.args.store.now c.greatest.new.store c.implies.new.self
    (extends_trans c.args.store.now c.and.new.self c.greatest.new.store
    (grows_extends c.args.store.now c.and.new.self c.in_ok-here.ensures.ok.grows) c.in_ok-top.ensures.extends)
    (equal_extends c.greatest.new.store c.implies.new.self c.in_err-implies.ensures.err)

pub risen_to-requires-clause-side : goal.risen_to-requires-clause-side
risen_to-requires-clause-side c = side_later c.greatest.new.store c.implies.new.self (128 * 2 ^ 101) c.in_ok-top.top
    (grows_extends c.greatest.new.store c.implies.new.self c.in_ok-implies.ensures.grows) c.in_ok-top.ensures.side

pub returns-then-branch-clause-extends : goal.returns-then-branch-clause-extends
returns-then-branch-clause-extends c = extends_trans c.args.store.now c.implies.new.self c.risen_to.new.store
    (extends_trans c.args.store.now c.greatest.new.store c.implies.new.self
    (extends_trans c.args.store.now c.and.new.self c.greatest.new.store
    (grows_extends c.args.store.now c.and.new.self c.in_ok-here.ensures.ok.grows) c.in_ok-top.ensures.extends)
    (grows_extends c.greatest.new.store c.implies.new.self c.in_ok-implies.ensures.grows)) c.risen_to.ensures.extends

pub returns-then-branch-clause-risen : goal.returns-then-branch-clause-risen
returns-then-branch-clause-risen c = IfOk-weaker c.risen_to.result _ _
    (λ new r. form_risen c.args.store.now c.and.new.self c.greatest.new.store c.implies.new.self c.args.taken c.args.answer c.in_ok-here.here
    c.args.ends.now c.args.form.now c.in_ok-top.top (grows_extends c.args.store.now c.and.new.self c.in_ok-here.ensures.ok.grows) c.requires.taken
    c.requires.answer c.requires.ends c.in_ok-here.ensures.ok.means c.requires.opened c.in_ok-top.ensures.extends
    (grows_extends c.greatest.new.store c.implies.new.self c.in_ok-implies.ensures.grows) c.in_ok-here.ensures.ok.found (128 * 2 ^ 101)
    c.in_ok-top.ensures.side c.in_ok-top.ensures.peak c.args.thresholds.now c.args.limit new _
    (to_z-of_z w128 c.args.form.now.constant (fits_below c.args.form.now.constant (omega (arith, c.requires.size.1))))
    (c.in_ok-implies.ensures.ok.0 c.if-branch.true) r)
    c.risen_to.ensures.risen

pub returns-clause-extends : goal.returns-clause-extends
returns-clause-extends c = extends_trans c.args.store.now c.greatest.new.store c.implies.new.self
    (extends_trans c.args.store.now c.and.new.self c.greatest.new.store
    (grows_extends c.args.store.now c.and.new.self c.in_ok-here.ensures.ok.grows) c.in_ok-top.ensures.extends)
    (grows_extends c.greatest.new.store c.implies.new.self c.in_ok-implies.ensures.grows)

pub returns-clause-risen : goal.returns-clause-risen
returns-clause-risen c = form_off c.args.store.now c.and.new.self c.greatest.new.store c.implies.new.self c.args.taken c.args.answer c.in_ok-here.here
    c.args.ends.now c.args.form.now c.in_ok-top.top (grows_extends c.args.store.now c.and.new.self c.in_ok-here.ensures.ok.grows) c.requires.taken
    c.requires.answer c.requires.ends c.in_ok-here.ensures.ok.means c.requires.opened c.in_ok-top.ensures.extends
    (grows_extends c.greatest.new.store c.implies.new.self c.in_ok-implies.ensures.grows) c.in_ok-here.ensures.ok.found (128 * 2 ^ 101)
    c.in_ok-top.ensures.side c.in_ok-top.ensures.peak c.args.thresholds.now c.args.limit
    (λ all. false≢true (sym c.if-branch.false ∙ c.in_ok-implies.ensures.ok.1 all))
