use Rattle.std.proofs.Common.{◌∙◌, ◌+◌, List, [], ◌∷◌, length, length-append, ap, sym, subst, arith}
use Rattle.rv_terms.specs.declared.parted.Term.{Term}
use Rattle.rv_flat.specs.declared.parts.FlatFlow.{FlatFlow}
use Rattle.rv_diagram.proofs.Growing.{extends_refl, extends_trans}
use Rattle.rv_forms.specs.Terms.{AreWholes}
use Rattle.rv_forms.proofs.Flowing.{item_at, wholes_pushed}
use Rattle.rv_forms.proofs.flows.read_wholes.Goals as goal

pub loop-flow-init : goal.loop-flow-init
loop-flow-init c = record {
  extends = extends_refl c.args.store.now;
  ready = record {
    around = c.requires.around;
    complete = c.requires.complete;
    wholes = c.in_ok-wholes.ensures.ok c.args.store.now.nodes;
    in_refs = c.requires.shown;
    in_terms = c.requires.known;
  };
  many = ap (λ (l : List Term). length l) c.in_ok-wholes.ensures.none;
}

pub flow_term-requires-clause-flow : goal.flow_term-requires-clause-flow
flow_term-requires-clause-flow c =
    item_at c.args.around.now.flat.now.flows c.as_slice-flow-items.result.now c.loop-flow.flow-index (length c.loop-flow.wholes.flows) c.flow-item.result
    c.as_slice-flow-items.ensures c.loop-flow-test.true c.flow-item.is c.loop-flow.invariant.many

pub loop-flow-preserved : goal.loop-flow-preserved
loop-flow-preserved c =
    let f = c.args.around.now.flat.now in
    let s = c.loop-flow.store in
    let new = c.flow_term.new.store in
    let w = c.loop-flow.wholes in
    let t = c.in_ok-term.term in
    let after = c.in_ok-term.ensures.ready in
    let long = ap (λ (l : List FlatFlow). length l) c.as_slice-flow-items.ensures in
    let pushed = c.in_ok-push.ensures.ok in
    record {
      extends = extends_trans c.args.store.now s new c.loop-flow.invariant.extends c.in_ok-term.ensures.ok.extends;
      ready = record {
        around = after.around;
        complete = after.complete;
        wholes = subst (λ (l : List Term). AreWholes f new.nodes (record w { flows = l })) (sym pushed)
            (wholes_pushed f s new w t (omega (arith, long, c.loop-flow.invariant.many)) c.loop-flow.invariant.ready.wholes c.in_ok-term.ensures.ok);
        in_refs = after.in_refs;
        in_terms = after.in_terms;
      };
      many = ap (λ (l : List Term). length l) pushed ∙ length-append w.flows (t ∷ []) ∙ ap (λ n. n + 1) c.loop-flow.invariant.many;
    }
