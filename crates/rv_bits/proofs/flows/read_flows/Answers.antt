use Rattle.std.proofs.Common.{◌≡◌, ◌∙◌, ◌+◌, ◌++◌, ◌∷◌, ◌≤◌, ℕ, [], List, length, length-append, ap, subst, sym, arith}
use Rattle.std.proofs.lemmas.List.{length-map}
use Rattle.rv_types.specs.declared.typed.Kind.TheVariants as kind
use Rattle.rv_agreement.specs.{Agreement.Fits, Trees.Item, Trees.no_item, Trees.nth_item, Trees.kind_at}
use Rattle.rv_flat.specs.{declared.parts.FlatFlow.FlatFlow, FlatInstants.system_of, Inlined.tree_among, Systems.flow_item, Tame.IsOver}
use Rattle.rv_flat.proofs.Inlining.{is_table}
use Rattle.rv_diagram.proofs.Growing.{extends_trans}
use Rattle.rv_bits.specs.Shown.{AreFlowRefs}
use Rattle.rv_bits.proofs.{Keeping.tables_kept, Listing.item_in, Fitting.over_fits, Flowing.flow_pushed}
use Rattle.rv_bits.proofs.flows.read_flows.Goals as goal

pub read_flow-requires-clause-around : goal.read_flow-requires-clause-around
read_flow-requires-clause-around c = record {
  few = c.args.flat.now.few_variables;
  variables = subst (λ n. length c.args.flat.now.variables ≤ n) (sym c.loop-flow.invariant.read.extends.variables) c.requires.variables;
  table = is_table c.args.flat.now.memories c.args.flat.now.ends;
  well = c.requires.well;
  tables = tables_kept c.args.flat.now c.args.store.now c.loop-flow.store c.args.tables.now c.loop-flow.invariant.read.extends c.requires.tables;
  flows = c.loop-flow.invariant.read.flows;
}

pub read_flow-requires-clause-over : goal.read_flow-requires-clause-over
read_flow-requires-clause-over c =
    let f = c.args.flat.now in
    let n = c.loop-flow.flow-index in
    let items = c.as_slice-flow-items.result.now in
    let item = c.flow-item.result in
    let long = ap (λ (l : List FlatFlow). length l) c.as_slice-flow-items.ensures in
    let many = length-map f.flows (flow_item f.memories) in
    let here : nth_item (system_of f).flows n ≡ flow_item f.memories item = item_in (flow_item f.memories) f.flows items n item no_item
    c.as_slice-flow-items.ensures c.loop-flow-test.true c.flow-item.is in
    let fits : Fits (system_of f) n item.clock (kind_at (system_of f).kinds n) (tree_among f.memories item.body) =
    subst (λ (x : Item). Fits (system_of f) n x.clock (kind_at (system_of f).kinds n) x.body) here (c.requires.well.flows n (omega (arith, long, many))).1 in
    subst (λ k. IsOver k (tree_among f.memories item.body)) (sym c.loop-flow.invariant.read.size)
    (over_fits (system_of f) n item.clock (kind_at (system_of f).kinds n) (tree_among f.memories item.body) fits)

pub loop-flow-preserved : goal.loop-flow-preserved
loop-flow-preserved c =
    let f = c.args.flat.now in
    let n = c.loop-flow.flow-index in
    let s = c.loop-flow.store in
    let new = c.read_flow.new.store in
    let r = c.loop-flow.read in
    let before = c.loop-flow.invariant.read in
    let items = c.as_slice-flow-items.result.now in
    let item = c.flow-item.result in
    let long = ap (λ (l : List FlatFlow). length l) c.as_slice-flow-items.ensures in
    let many = length-map f.flows (flow_item f.memories) in
    let here : nth_item (system_of f).flows n ≡ flow_item f.memories item = item_in (flow_item f.memories) f.flows items n item no_item
    c.as_slice-flow-items.ensures c.loop-flow-test.true c.flow-item.is in
    let same_kind : kind_at (system_of f).kinds n ≡ item.kind = item_in (λ (g : FlatFlow). g.kind) f.flows items n item kind.Bool c.as_slice-flow-items.ensures
    c.loop-flow-test.true c.flow-item.is in
    let one = c.in_ok-on.ensures.ok in
    let pushed : AreFlowRefs f new.nodes (record { on = r.on ++ c.in_ok-on.field-0.on ∷ []; bits = r.bits ++ c.in_ok-on.field-0.bits ∷ [] }) =
    flow_pushed f c.requires.well s new r n (omega (arith, long, many)) before.size before.flows item.clock (tree_among f.memories item.body) item.kind here
    same_kind
    c.in_ok-on.field-0.on c.in_ok-on.field-0.bits one.reads one.is_ref one.means in
    let on : c.push.new.self ≡ r.on ++ c.in_ok-on.field-0.on ∷ [] = c.in_ok-push.ensures.ok in
    let bits : c.push-in-loop-flow.new.self ≡ r.bits ++ c.in_ok-on.field-0.bits ∷ [] = c.in_ok-push-2.ensures.ok in
    record {
      read = record {
        extends = extends_trans c.args.store.now s new before.extends one.reads.extends;
        size = ap (λ (l : List ℕ). length l) on ∙ length-append r.on (c.in_ok-on.field-0.on ∷ []) ∙ ap (λ k. k + 1) before.size;
        flows = subst (AreFlowRefs f new.nodes) (λ i. record { on = sym on i; bits = sym bits i }) pushed;
      };
      shown = c.in_ok-on.ensures.shown;
    }
