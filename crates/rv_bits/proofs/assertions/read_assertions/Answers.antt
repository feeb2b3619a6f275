use Rattle.std.proofs.Common.{◌≡◌, ◌∙◌, ◌+◌, ◌∷◌, ◌<◌, suc, List, length, map, drop, ap, subst, sym, arith}
use Rattle.std.proofs.{lemmas.List.length-map, Math.Seq.drop-cons}
use Rattle.rv_types.specs.declared.typed.Kind.TheVariants as kind
use Rattle.rv_agreement.specs.{Agreement.ItemFits, Agreement.IsNamed, Trees.no_item, Trees.nth_item}
use Rattle.rv_flat.specs.{declared.parts.FlatExpr.FlatExpr, FlatInstants.system_of, Systems.assertion_item, Systems.flow_item, Tame.IsOver}
use Rattle.rv_diagram.specs.Growing.{Extends}
use Rattle.rv_diagram.proofs.Growing.{extends_trans, grows_extends}
use Rattle.rv_bits.proofs.{Keeping.around_kept, Keeping.after_kept, Fitting.over_fits, Listing.item_in, Asserting.met_more, Asserting.met_all}
use Rattle.rv_bits.proofs.assertions.read_assertions.Goals as goal

pub read_assertion-requires-clause-clock : goal.read_assertion-requires-clause-clock
read_assertion-requires-clause-clock c =
    let f = c.args.around.now.flat.now in
    let i = c.loop-e.e-index in
    let items = c.as_slice-e-items.result.now in
    let e = c.e-item.result in
    let long = ap (λ (l : List FlatExpr). length l) c.as_slice-e-items.ensures in
    let all : length (system_of f).flows ≡ length c.args.around.now.read.now.on = length-map f.flows (flow_item f.memories) ∙ sym c.requires.all in
    let here : nth_item (system_of f).assertions i ≡ assertion_item f.memories e = item_in (assertion_item f.memories) f.assertions items i e no_item
    c.as_slice-e-items.ensures c.loop-e-test.true c.e-item.is in
    let fits : ItemFits (system_of f) (length (system_of f).flows) kind.Bool (assertion_item f.memories e) =
    subst (ItemFits (system_of f) (length (system_of f).flows) kind.Bool) here
    (c.requires.around.well.assertions i (omega (arith, long, length-map f.assertions (assertion_item f.memories)))) in
    subst (λ n. IsNamed n (assertion_item f.memories e).clock) all fits.0

pub read_assertion-requires-clause-over : goal.read_assertion-requires-clause-over
read_assertion-requires-clause-over c =
    let f = c.args.around.now.flat.now in
    let i = c.loop-e.e-index in
    let items = c.as_slice-e-items.result.now in
    let e = c.e-item.result in
    let long = ap (λ (l : List FlatExpr). length l) c.as_slice-e-items.ensures in
    let all : length (system_of f).flows ≡ length c.args.around.now.read.now.on = length-map f.flows (flow_item f.memories) ∙ sym c.requires.all in
    let here : nth_item (system_of f).assertions i ≡ assertion_item f.memories e = item_in (assertion_item f.memories) f.assertions items i e no_item
    c.as_slice-e-items.ensures c.loop-e-test.true c.e-item.is in
    let fits : ItemFits (system_of f) (length (system_of f).flows) kind.Bool (assertion_item f.memories e) =
    subst (ItemFits (system_of f) (length (system_of f).flows) kind.Bool) here
    (c.requires.around.well.assertions i (omega (arith, long, length-map f.assertions (assertion_item f.memories)))) in
    subst (λ n. IsOver n (assertion_item f.memories e).body) all
    (over_fits (system_of f) (length (system_of f).flows) (assertion_item f.memories e).clock kind.Bool (assertion_item f.memories e).body fits.1)

pub loop-e-preserved : goal.loop-e-preserved
loop-e-preserved c =
    let x = c.args.around.now in
    let f = c.args.around.now.flat.now in
    let xs = map (assertion_item f.memories) f.assertions in
    let i = c.loop-e.e-index in
    let s = c.loop-e.store in
    let mid = c.read_assertion.new.store in
    let new = c.and.new.self in
    let items = c.as_slice-e-items.result.now in
    let e = c.e-item.result in
    let long = ap (λ (l : List FlatExpr). length l) c.as_slice-e-items.ensures in
    let low : i < length xs = omega (arith, long, length-map f.assertions (assertion_item f.memories)) in
    let here : nth_item (system_of f).assertions i ≡ assertion_item f.memories e = item_in (assertion_item f.memories) f.assertions items i e no_item
    c.as_slice-e-items.ensures c.loop-e-test.true c.e-item.is in
    let fits : ItemFits (system_of f) (length (system_of f).flows) kind.Bool (assertion_item f.memories e) =
    subst (ItemFits (system_of f) (length (system_of f).flows) kind.Bool) here (c.requires.around.well.assertions i low) in
    let left : drop i xs ≡ assertion_item f.memories e ∷ drop (i + 1) xs = drop-cons xs i no_item low
    ∙ (λ k. here k ∷ drop (let z : suc i ≡ i + 1 = omega arith in z k) xs) in
    let before = c.loop-e.invariant in
    let one = c.in_ok-one.ensures.ok in
    let last : Extends mid new = grows_extends mid new c.in_ok-all.ensures.ok.grows in
    record {
      extends = extends_trans c.args.store.now s new before.extends (extends_trans s mid new one.extends last);
      around = around_kept s new x (extends_trans s mid new one.extends last) before.around;
      shown = after_kept f mid new c.read_assertion.new.shown last c.in_ok-one.ensures.shown;
      is_ref = c.in_ok-all.ensures.ok.found;
      means = λ v row instant. met_more f c.args.store.now s mid new xs i (assertion_item f.memories e) c.loop-e.all c.in_ok-one.one c.in_ok-all.all low left
          before.is_ref one fits c.in_ok-all.ensures.ok v row instant
          (before.means v row instant);
    }

pub returns-clause-ok : goal.returns-clause-ok
returns-clause-ok c =
    let f = c.args.around.now.flat.now in
    let long = ap (λ (l : List FlatExpr). length l) c.as_slice-e-items.ensures in
    met_all f c.args.store.now c.loop-e.store (map (assertion_item f.memories) f.assertions) c.loop-e.e-index c.loop-e.all
    (omega (arith, long, length-map f.assertions (assertion_item f.memories)))
    c.loop-e.invariant.extends c.loop-e.invariant.is_ref c.loop-e.invariant.means
