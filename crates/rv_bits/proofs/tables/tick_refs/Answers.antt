use Rattle.std.proofs.Common.{◌≡◌, ◌∙◌, ◌+◌, ◌++◌, ◌∷◌, ℕ, suc, [], List, map, drop, ap, sym, refl, arith, None as Nothing}
use Rattle.std.proofs.Math.Seq.{drop-cons}
use Rattle.rv_flat.specs.Lists.{variable_of}
use Rattle.rv_bits.specs.Tables.{ticks_in}
use Rattle.rv_bits.proofs.Listing.{tick_first, ticks_more}
use Rattle.rv_bits.proofs.tables.tick_refs.Goals as goal

pub loop-variable-init : goal.loop-variable-init
loop-variable-init c =
    let names = map variable_of c.args.variables.now in
    let one : c.push.new.self ≡ c.in_ok-truth.field-0 ∷ [] = c.in_ok-push.ensures.ok
    ∙ ap (λ (l : List ℕ). l ++ c.in_ok-truth.field-0 ∷ []) c.new-refs.ensures in
    record {
      read = (
        Nothing ∷ [],
        tick_first names c.args.store.now c.truth.new.store Nothing c.in_ok-truth.field-0 c.push.new.self one
            c.in_ok-truth.ensures.ok,
        refl,
      );
    }

pub loop-variable-preserved : goal.loop-variable-preserved
loop-variable-preserved c =
    let vs = c.args.variables.now in
    let i = c.loop-variable.variable-index in
    let x = c.variable-item.result in
    let before = c.loop-variable.invariant.read in
    let left : drop i vs ≡ x ∷ drop (i + 1) vs = drop-cons vs i x c.loop-variable-test.true
    ∙ (λ k. sym c.variable-item.is k ∷ drop (let z : suc i ≡ i + 1 = omega arith in z k) vs) in
    record {
      read = (before.0 ++ ticks_in x, c.in_ok-push_tick.ensures.ok c.args.store.now before.0 before.1, sym (ticks_more vs i x left before.0) ∙ before.2);
    }
