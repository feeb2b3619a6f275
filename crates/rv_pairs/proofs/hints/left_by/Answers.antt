use Rattle.std.proofs.Common.{◌≡◌, ◌↔◌, List, true, length, arith, subst, rules, FitsSigned}
use Rattle.std.proofs.{lemmas.Int.to_z-of_z, lemmas.List.take_all}
use Rattle.std.proofs.lemmas.List.Elements.{All-contains}
use Rattle.std.specs.Int.{w128}
use Rattle.rv_base.proofs.Lists.{contains_got}
use Rattle.rv_diagram.specs.Nodes.{IsRef, value_of}
use Rattle.rv_diagram.proofs.Growing.{extends_refl, extends_trans}
use Rattle.rv_pairs.specs.{declared.hints.Hint.Hint, Hints.IsHinted}
use Rattle.rv_pairs.proofs.{Hinting.left_first, Hinting.left_next, Hinting.left_kept}
use Rattle.rv_pairs.proofs.hints.left_by.Goals as goal

pub loop-place-init : goal.loop-place-init
loop-place-init c =
    let bound_fits : FitsSigned w128 c.args.bound = search rules in
    record {
      extends = extends_refl c.args.store.now;
      found = c.requires.inside;
      exact = λ v. simp to_z-of_z (left_first c.args.store.now.nodes c.args.hints.now v c.args.bound (value_of c.args.store.now.nodes c.args.inside v ≡ true));
    }

pub without_hint-requires-clause-one : goal.without_hint-requires-clause-one
without_hint-requires-clause-one c =
    let (one, other) = All-contains (λ (h : Hint). IsRef c.args.store.now.nodes h.one × IsRef c.args.store.now.nodes h.other) c.args.hints.now
    c.at.result.now c.requires.hints (contains_got c.args.hints.now c.loop-place.place c.at.result.now c.at.ensures.value) in
    omega (arith, one, c.loop-place.invariant.extends.longer)

pub without_hint-requires-clause-other : goal.without_hint-requires-clause-other
without_hint-requires-clause-other c =
    let (one, other) = All-contains (λ (h : Hint). IsRef c.args.store.now.nodes h.one × IsRef c.args.store.now.nodes h.other) c.args.hints.now
    c.at.result.now c.requires.hints (contains_got c.args.hints.now c.loop-place.place c.at.result.now c.at.ensures.value) in
    omega (arith, other, c.loop-place.invariant.extends.longer)

pub loop-place-preserved : goal.loop-place-preserved
loop-place-preserved c =
    let bound_fits : FitsSigned w128 c.args.bound = search rules in
    let step = simp to_z-of_z at c.in_ok-rest.ensures.exact in
    let before = simp to_z-of_z at c.loop-place.invariant.exact in
    let (one, other) = All-contains (λ (h : Hint). IsRef c.args.store.now.nodes h.one × IsRef c.args.store.now.nodes h.other) c.args.hints.now
    c.at.result.now c.requires.hints (contains_got c.args.hints.now c.loop-place.place c.at.result.now c.at.ensures.value) in
    record {
      extends = extends_trans c.args.store.now c.loop-place.store c.without_hint.new.store c.loop-place.invariant.extends c.in_ok-rest.ensures.extends;
      found = c.in_ok-rest.ensures.found;
      exact = λ v. simp to_z-of_z (left_next c.args.store.now.nodes c.args.hints.now c.loop-place.place c.at.result.now v c.args.bound
          (value_of c.args.store.now.nodes c.args.inside v ≡ true) (value_of c.loop-place.store.nodes c.loop-place.rest v ≡ true)
          (value_of c.without_hint.new.store.nodes c.in_ok-rest.rest v ≡ true) c.at.ensures.value (before v)
          (left_kept c.args.store.now c.loop-place.store c.at.result.now v c.args.bound c.loop-place.invariant.extends one other
          (value_of c.loop-place.store.nodes c.loop-place.rest v ≡ true) (value_of c.without_hint.new.store.nodes c.in_ok-rest.rest v ≡ true) (step v)));
    }

pub returns-clause-exact : goal.returns-clause-exact
returns-clause-exact c v =
    let bound_fits : FitsSigned w128 c.args.bound = search rules in
    let exact = simp to_z-of_z at c.loop-place.invariant.exact in
    let e : c.loop-place.place ≡ length c.args.hints.now = omega (arith, c.loop-place-test.false, c.loop-place.auto, c.len-place-end.ensures) in
    subst (λ (hs : List Hint). (value_of c.loop-place.store.nodes c.loop-place.rest v ≡ true)
    ↔ ((value_of c.args.store.now.nodes c.args.inside v ≡ true) × ¬ IsHinted c.args.store.now.nodes hs v c.args.bound))
    (take_all c.loop-place.place c.args.hints.now (omega (arith, e))) (exact v)
