use Rattle.std.proofs.Common.{ℕ, ◌≡◌, ◌↔◌, ◌+◌, ◌-◌, ◌&&◌, not, false, length, List, Bool, refl, subst, sym, ap, ◌∙◌, arith}
use Rattle.rv_diagram.specs.{Nodes.value_of, Nodes.valuation_of, declared.store.several.Part.Part, Several.ref_at, Several.Ignores}
use Rattle.rv_symbolic.proofs.Scheduling.{AreLast, last_more}
use Rattle.rv_symbolic.proofs.schedule.schedule.Goals as goal

pub loop-back-preserved : goal.loop-back-preserved
loop-back-preserved c =
    let k = length c.args.relations.now - c.loop-back.back in
    let i = length c.args.relations.now - 1 - c.loop-back.back in
    let j = length c.args.relations.now - (c.loop-back.back + 1) in
    let p : Part = record { relation = ref_at c.args.relations.now i; over = c.loop-back.left } in
    let reads : (x : ℕ) → (valuation_of c.in_ok-read.read x ≡ false) ↔ Ignores (value_of c.args.store.now.nodes (ref_at c.args.relations.now i)) x
    = c.in_ok-read.ensures.exact in
    let rests : (x : ℕ) → valuation_of c.in_ok-rest.rest x ≡ (valuation_of c.loop-back.left x && not (valuation_of c.in_ok-read.read x))
    = λ x. c.in_ok-rest.ensures x ∙ ap (λ (l : List Bool). valuation_of l x && not (valuation_of c.as_slice-in-loop-back.result.now x)) c.as_slice.ensures
    ∙ ap (λ (l : List Bool). valuation_of c.loop-back.left x && not (valuation_of l x)) c.as_slice-in-loop-back.ensures in
    let more = last_more c.args.store.now.nodes c.args.relations.now c.args.given c.loop-back.left c.in_ok-read.read c.in_ok-rest.rest k j p
    c.loop-back.parts.items c.loop-back.invariant (omega (arith, c.loop-back-test.true)) (ap (λ (n : ℕ). ref_at c.args.relations.now n)
    (let z : i ≡ j = omega arith in z)) refl reads rests in
    subst (λ (l : List Part). AreLast c.args.store.now.nodes c.args.relations.now c.args.given c.in_ok-rest.rest j l) (sym c.in_ok-insert.ensures.items) more
