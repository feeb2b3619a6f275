use Rattle.std.proofs.Common.{ℤ, Some, subst, rules, FitsSigned}
use Rattle.std.proofs.{lemmas.Int.to_z-of_z, lemmas.Option.same_Some, lemmas.Result.IfOk-weaker}
use Rattle.std.specs.Int.{w128}
use Rattle.rv_rows.specs.Multipliers.{ShowsAtOnce}
use Rattle.rv_diagram.proofs.Growing.{extends_trans, grows_extends}
use Rattle.rv_seek.specs.Least.{bounded}
use Rattle.rv_ends.specs.Risen.{IsRisen}
use Rattle.rv_ends.proofs.Risen.{risen_still, risen_as}
use Rattle.rv_pairs.specs.{Labels.active, Risen.ShowForm, Hints.HintsHold}
use Rattle.rv_pairs.proofs.{Pairing.hints_stay, Hinting.hold_shows, Hinting.shows_hold}
use Rattle.rv_pairs.proofs.rising.risen_by.Goals as goal

pub returns-then-is_sure_alone-clause-risen : goal.returns-then-is_sure_alone-clause-risen
returns-then-is_sure_alone-clause-risen c =
    let limit_fits : FitsSigned w128 c.args.limit = search rules in
    let constant_fits : FitsSigned w128 c.args.form.now.constant = search rules in
    let room_fits : FitsSigned w128 c.room_left-room.result = search rules in
    let is = simp to_z-of_z at c.room_left-room.ensures in
    let shows = simp to_z-of_z at c.is_sure_alone.ensures in
    let holds : ℤ → Type 0 = ShowForm c.args.store.now.nodes c.args.labels.now c.args.taken c.args.path c.args.form.now in
    simp to_z-of_z (risen_still c.args.thresholds.now holds (Some c.args.limit)
    (λ b e. subst holds (same_Some c.args.limit b e)
    (λ v there on. subst (λ (z : ℤ). ShowsAtOnce (active c.args.store.now.nodes c.args.labels.now v) (bounded c.args.form.now.coefficients z)) is
    (shows c.if-is_sure_alone.true v (c.requires.within v there)))))

pub returns-then-is_sure_together-clause-risen : goal.returns-then-is_sure_together-clause-risen
returns-then-is_sure_together-clause-risen c =
    let limit_fits : FitsSigned w128 c.args.limit = search rules in
    let constant_fits : FitsSigned w128 c.args.form.now.constant = search rules in
    let room_fits : FitsSigned w128 c.room_left-room.result = search rules in
    let is = simp to_z-of_z at c.room_left-room.ensures in
    let shows = simp to_z-of_z at c.is_sure_together.ensures in
    let holds : ℤ → Type 0 = ShowForm c.args.store.now.nodes c.args.labels.now c.args.taken c.args.path c.args.form.now in
    simp to_z-of_z (risen_still c.args.thresholds.now holds (Some c.args.limit)
    (λ b e. subst holds (same_Some c.args.limit b e)
    (λ v there on. subst (λ (z : ℤ). ShowsAtOnce (active c.args.store.now.nodes c.args.labels.now v) (bounded c.args.form.now.coefficients z)) is
    (shows c.if-is_sure_together.true c.args.store.now.nodes v (c.requires.within v there) (c.constant-always.ensures.means v)))))

pub returns-then-is_sure-clause-risen : goal.returns-then-is_sure-clause-risen
returns-then-is_sure-clause-risen c =
    let limit_fits : FitsSigned w128 c.args.limit = search rules in
    let constant_fits : FitsSigned w128 c.args.form.now.constant = search rules in
    let room_fits : FitsSigned w128 c.room_left-room.result = search rules in
    let is = simp to_z-of_z at c.room_left-room.ensures in
    let shows = simp to_z-of_z at c.is_sure.ensures in
    let holds : ℤ → Type 0 = ShowForm c.args.store.now.nodes c.args.labels.now c.args.taken c.args.path c.args.form.now in
    simp to_z-of_z (risen_still c.args.thresholds.now holds (Some c.args.limit)
    (λ b e. subst holds (same_Some c.args.limit b e)
    (λ v there on. subst (λ (z : ℤ). ShowsAtOnce (active c.args.store.now.nodes c.args.labels.now v) (bounded c.args.form.now.coefficients z)) is
    ((c.in_ok-hints.ensures.shown v c.room_left-room.result).1
    (shows c.if-is_sure.true c.args.store.now.nodes v (c.requires.within v there) (c.constant-always.ensures.means v))))))

pub risen_over-requires-clause-hints : goal.risen_over-requires-clause-hints
risen_over-requires-clause-hints c = hints_stay c.args.store.now c.and.new.self c.in_ok-hints.hints
    (grows_extends c.args.store.now c.and.new.self c.in_ok-inside.ensures.ok.grows) c.in_ok-hints.ensures.hints

pub returns-clause-risen : goal.returns-clause-risen
returns-clause-risen c =
    let limit_fits : FitsSigned w128 c.args.limit = search rules in
    let constant_fits : FitsSigned w128 c.args.form.now.constant = search rules in
    let risen = simp to_z-of_z at c.risen_over.ensures.risen in
    let grown = grows_extends c.args.store.now c.and.new.self c.in_ok-inside.ensures.ok.grows in
    IfOk-weaker c.risen_over.result
    (λ o. IsRisen c.args.thresholds.now (HintsHold c.and.new.self.nodes c.in_ok-inside.inside c.in_ok-hints.hints c.args.form.now.constant)
    (Some c.args.limit) o)
    (λ o. IsRisen c.args.thresholds.now (ShowForm c.args.store.now.nodes c.args.labels.now c.args.taken c.args.path c.args.form.now) (Some c.args.limit) o)
    (λ o h. risen_as c.args.thresholds.now (HintsHold c.and.new.self.nodes c.in_ok-inside.inside c.in_ok-hints.hints c.args.form.now.constant)
    (ShowForm c.args.store.now.nodes c.args.labels.now c.args.taken c.args.path c.args.form.now) (Some c.args.limit) o
    (λ b k. hold_shows c.args.store.now c.and.new.self c.args.labels.now c.args.form.now c.in_ok-hints.hints c.args.taken c.args.path c.in_ok-inside.inside
    grown c.in_ok-hints.ensures.hints c.in_ok-hints.ensures.shown c.in_ok-inside.ensures.ok.means b k)
    (λ b k. shows_hold c.args.store.now c.and.new.self c.args.labels.now c.args.form.now c.in_ok-hints.hints c.args.taken c.args.path c.in_ok-inside.inside
    grown c.in_ok-hints.ensures.hints c.in_ok-hints.ensures.shown c.in_ok-inside.ensures.ok.means b k) h)
    risen

pub returns-clause-extends : goal.returns-clause-extends
returns-clause-extends c =
    extends_trans c.args.store.now c.and.new.self c.risen_over.new.store
    (grows_extends c.args.store.now c.and.new.self c.in_ok-inside.ensures.ok.grows) c.risen_over.ensures.extends
