use Rattle.std.proofs.Common.{◌↔◌, ◌⊎◌, List, rules, FitsSigned, sym, subst}
use Rattle.std.proofs.{lemmas.Int.to_z-of_z}
use Rattle.std.proofs.lemmas.List.Elements.{All-push}
use Rattle.std.specs.Int.{w128}
use Rattle.rv_diagram.specs.Nodes.{IsRef}
use Rattle.rv_seek.specs.Least.{bounded}
use Rattle.rv_pairs.specs.{declared.hints.Hint.Hint, Hints.AreHints, Hints.IsHinted, Shown.BothShow}
use Rattle.rv_pairs.proofs.Pairing.{both_hint, both_not, both_covered}
use Rattle.rv_pairs.proofs.hints.with_both.Goals as goal

pub returns-then-is_covered-clause-exact : goal.returns-then-is_covered-clause-exact
returns-then-is_covered-clause-exact c v z =
    let one_fits : FitsSigned w128 c.args.one.now.row.bound = search rules in
    let other_fits : FitsSigned w128 c.args.other.now.row.bound = search rules in
    let bound_fits : FitsSigned w128 c.sum_of-bound.result = search rules in
    let is = simp to_z-of_z at c.sum_of-bound.ensures.is in
    let covers = simp to_z-of_z at c.is_covered.ensures in
    both_covered c.args.store.now.nodes v c.args.one.now c.args.other.now c.args.numbers.now c.sum_of-bound.result z c.args.hints is
    (covers c.if-is_covered.true c.args.store.now.nodes v z)

pub returns-then-misses-clause-exact : goal.returns-then-misses-clause-exact
returns-then-misses-clause-exact c v z = both_not c.args.store.now.nodes v c.args.one.now c.args.other.now c.args.numbers.now z
    (IsHinted c.args.store.now.nodes c.args.hints v z) c.if-misses.ensures

pub returns-clause-hints : goal.returns-clause-hints
returns-clause-hints c =
    let bound_fits : FitsSigned w128 c.sum_of-bound.result = search rules in
    let made = simp to_z-of_z at c.in_ok-all.ensures in
    subst (AreHints c.args.store.now.nodes) (sym made)
    (All-push (λ (h : Hint). IsRef c.args.store.now.nodes h.one × IsRef c.args.store.now.nodes h.other) c.args.hints
    (record { bound = c.sum_of-bound.result; one = c.args.one.now.under; other = c.args.other.now.under }) c.requires.hints
    (c.requires.one.under, c.requires.other.under))

pub returns-clause-exact : goal.returns-clause-exact
returns-clause-exact c v z =
    let one_fits : FitsSigned w128 c.args.one.now.row.bound = search rules in
    let other_fits : FitsSigned w128 c.args.other.now.row.bound = search rules in
    let bound_fits : FitsSigned w128 c.sum_of-bound.result = search rules in
    let is = simp to_z-of_z at c.sum_of-bound.ensures.is in
    let made = simp to_z-of_z at c.in_ok-all.ensures in
    subst (λ (hs : List Hint). IsHinted c.args.store.now.nodes hs v z ↔ (IsHinted c.args.store.now.nodes c.args.hints v z
    ⊎ BothShow c.args.store.now.nodes v c.args.one.now c.args.other.now (bounded c.args.numbers.now z))) (sym made)
    (both_hint c.args.store.now.nodes v c.args.one.now c.args.other.now c.args.numbers.now c.sum_of-bound.result z c.args.hints c.if-misses.ensures is)
