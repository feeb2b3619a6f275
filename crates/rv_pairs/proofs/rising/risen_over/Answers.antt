use Rattle.std.proofs.Common.{◌^◌, ℤ, Some, pos, subst, arith, rules, FitsSigned}
use Rattle.std.proofs.{lemmas.Int.to_z-of_z, lemmas.Option.same_Some, lemmas.Result.IfOk-weaker, lemmas.Bool.MatchBool-at_true, lemmas.Bool.MatchBool-at_false}
use Rattle.std.specs.{Int.w128}
use Rattle.rv_diagram.proofs.Growing.{extends_trans}
use Rattle.rv_ends.specs.Risen.{IsRisen}
use Rattle.rv_ends.proofs.Risen.{risen_still, risen_off, risen_as}
use Rattle.rv_pairs.specs.Hints.{HintsHold}
use Rattle.rv_pairs.proofs.{Pairing.hints_stay, Hinting.hold_later, Hinting.hold_moves, Hinting.hold_highest, Raising.asked_small}
use Rattle.rv_pairs.proofs.rising.risen_over.Goals as goal

pub returns-then-kept-clause-risen : goal.returns-then-kept-clause-risen
returns-then-kept-clause-risen c =
    let constant_fits : FitsSigned w128 c.args.constant = search rules in
    let limit_fits : FitsSigned w128 c.args.limit = search rules in
    let exact = simp to_z-of_z at c.in_ok-kept.ensures.exact in
    let holds : ℤ → Type 0 = HintsHold c.args.store.now.nodes c.args.inside c.args.hints.now c.args.constant in
    simp to_z-of_z (risen_still c.args.thresholds.now holds (Some c.args.limit)
    (λ b e. subst holds (same_Some c.args.limit b e) (MatchBool-at_true (holds c.args.limit) (¬ holds c.args.limit) c.if-kept.true exact)))

pub holds-requires-2-clause-hints : goal.holds-requires-2-clause-hints
holds-requires-2-clause-hints c = hints_stay c.args.store.now c.holds.new.store c.args.hints.now c.in_ok-kept.ensures.extends c.requires.hints

pub holds-requires-2-clause-inside : goal.holds-requires-2-clause-inside
holds-requires-2-clause-inside c = omega (arith, c.requires.inside, c.in_ok-kept.ensures.extends.longer)

pub least_shown-requires-clause-inside : goal.least_shown-requires-clause-inside
least_shown-requires-clause-inside c = omega (arith, c.requires.inside, c.in_ok-kept.ensures.extends.longer, c.in_ok-some.ensures.extends.longer)

pub least_shown-requires-clause-hints : goal.least_shown-requires-clause-hints
least_shown-requires-clause-hints c =
    hints_stay c.args.store.now c.holds-2.new.store c.args.hints.now
    (extends_trans c.args.store.now c.holds.new.store c.holds-2.new.store c.in_ok-kept.ensures.extends c.in_ok-some.ensures.extends) c.requires.hints

pub least_shown-requires-clause-limit : goal.least_shown-requires-clause-limit
least_shown-requires-clause-limit c =
    let limit_fits : FitsSigned w128 c.args.limit = search rules in
    let constant_fits : FitsSigned w128 c.args.constant = search rules in
    let exact = simp to_z-of_z at c.in_ok-kept.ensures.exact in
    let holds : ℤ → Type 0 = HintsHold c.args.store.now.nodes c.args.inside c.args.hints.now c.args.constant in
    simp to_z-of_z (λ (h : HintsHold c.holds-2.new.store.nodes c.args.inside c.args.hints.now c.args.constant c.args.limit).
    MatchBool-at_false (holds c.args.limit) (¬ holds c.args.limit) c.if-kept.false exact
    (hold_moves c.args.store.now c.holds-2.new.store c.args.inside c.args.hints.now c.args.constant c.args.limit
    (extends_trans c.args.store.now c.holds.new.store c.holds-2.new.store c.in_ok-kept.ensures.extends c.in_ok-some.ensures.extends)
    c.requires.hints c.requires.inside h))

pub returns-then-some-clause-extends : goal.returns-then-some-clause-extends
returns-then-some-clause-extends c =
    extends_trans c.args.store.now c.holds.new.store c.least_shown.new.store c.in_ok-kept.ensures.extends
    (extends_trans c.holds.new.store c.holds-2.new.store c.least_shown.new.store c.in_ok-some.ensures.extends c.least_shown.ensures.extends)

pub returns-then-some-clause-risen : goal.returns-then-some-clause-risen
returns-then-some-clause-risen c =
    let limit_fits : FitsSigned w128 c.args.limit = search rules in
    let constant_fits : FitsSigned w128 c.args.constant = search rules in
    let risen = simp to_z-of_z at c.least_shown.ensures.risen in
    let grown = extends_trans c.args.store.now c.holds.new.store c.holds-2.new.store c.in_ok-kept.ensures.extends c.in_ok-some.ensures.extends in
    IfOk-weaker c.least_shown.result
    (IsRisen c.args.thresholds.now (HintsHold c.holds-2.new.store.nodes c.args.inside c.args.hints.now c.args.constant) (Some c.args.limit))
    (IsRisen c.args.thresholds.now (HintsHold c.args.store.now.nodes c.args.inside c.args.hints.now c.args.constant) (Some c.args.limit))
    (λ o h. risen_as c.args.thresholds.now (HintsHold c.holds-2.new.store.nodes c.args.inside c.args.hints.now c.args.constant)
    (HintsHold c.args.store.now.nodes c.args.inside c.args.hints.now c.args.constant) (Some c.args.limit) o
    (λ b k. hold_moves c.args.store.now c.holds-2.new.store c.args.inside c.args.hints.now c.args.constant b grown c.requires.hints c.requires.inside k)
    (λ b k. hold_later c.args.store.now c.holds-2.new.store c.args.inside c.args.hints.now c.args.constant b grown c.requires.hints c.requires.inside k) h)
    risen

pub returns-clause-extends : goal.returns-clause-extends
returns-clause-extends c =
    extends_trans c.args.store.now c.holds.new.store c.holds-2.new.store c.in_ok-kept.ensures.extends c.in_ok-some.ensures.extends

pub returns-clause-risen : goal.returns-clause-risen
returns-clause-risen c =
    let limit_fits : FitsSigned w128 c.args.limit = search rules in
    let constant_fits : FitsSigned w128 c.args.constant = search rules in
    let exact = simp to_z-of_z at c.in_ok-some.ensures.exact in
    let grown = c.in_ok-kept.ensures.extends in
    let there : ℤ → Type 0 = HintsHold c.holds.new.store.nodes c.args.inside c.args.hints.now c.args.constant in
    risen_off c.args.thresholds.now (HintsHold c.args.store.now.nodes c.args.inside c.args.hints.now c.args.constant) (Some c.args.limit)
    (λ a b at low among h. MatchBool-at_false (there (pos 2199023255552)) (¬ there (pos 2199023255552)) c.if-some.false exact
    (hold_later c.args.store.now c.holds.new.store c.args.inside c.args.hints.now c.args.constant (pos 2199023255552) grown c.requires.hints
    c.requires.inside
    (hold_highest c.args.store.now.nodes c.args.inside c.args.hints.now c.args.constant b
    (asked_small c.args.thresholds.now (2 ^ 41) c.args.limit b c.requires.thresholds c.requires.limit among) h)))

pub returns-in_err-some-clause-extends : goal.returns-in_err-some-clause-extends
returns-in_err-some-clause-extends c =
    extends_trans c.args.store.now c.holds.new.store c.holds-2.new.store c.in_ok-kept.ensures.extends c.holds-2.ensures.extends
