use Rattle.std.proofs.Common.{◌≡◌, ◌<◌, ℕ, List, [], length, replicate, sym, ◌∙◌, ap, subst, arith}
use Rattle.std.proofs.lemmas.Option.{get_or_from_slice_get}
use Rattle.std.specs.List.{Contains}
use Rattle.rv_calls.specs.{Graphs.Graph, Graphs.edges, Components.IsReversedTo, Components.IsTurned}
use Rattle.rv_instances.proofs.Lists.{contains_at}
use Rattle.rv_calls.proofs.Turned.{reversed_none, reversed_more}
use Rattle.rv_calls.proofs.components.reversed.Goals as goal

pub loop-v-init : goal.loop-v-init
loop-v-init c =
    let e : c.in_ok-turned.turned.items ≡ replicate (length c.args.graph.now) [] = c.in_ok-turned.ensures ∙ ap (λ n. replicate n []) c.len.ensures in
    subst (λ (h : Graph). IsReversedTo c.args.graph.now 0 h) (sym e) (reversed_none c.args.graph.now)

pub turn_all-requires : goal.turn_all-requires
turn_all-requires c w inside =
    let same = c.as_slice.ensures ∙ sym (get_or_from_slice_get c.args.graph.now c.loop-v.v c.at.result.now [] c.at.ensures.value) in
    let at = contains_at (edges c.args.graph.now c.loop-v.v) w (subst (λ (ts : List ℕ). Contains ts w) same inside) in
    let less = subst (λ u. u < length c.args.graph.now) at.2 (c.requires.vertices c.loop-v.v at.0 (omega arith) at.1) in
    omega (arith, less, c.loop-v.invariant.size)

pub loop-v-preserved : goal.loop-v-preserved
loop-v-preserved c =
    let same = c.as_slice.ensures ∙ sym (get_or_from_slice_get c.args.graph.now c.loop-v.v c.at.result.now [] c.at.ensures.value) in
    reversed_more c.args.graph.now c.loop-v.v c.loop-v.turned.items c.turn_all.new.turned.items (omega arith) c.loop-v.invariant
    (subst (λ (ts : List ℕ). IsTurned ts c.loop-v.v c.loop-v.turned.items c.turn_all.new.turned.items) same c.in_ok-turn_all.ensures)

pub returns : goal.returns
returns c =
    let n : c.loop-v.v ≡ length c.args.graph.now = omega arith in
    subst (λ (h : Graph). IsReversedTo c.args.graph.now (length c.args.graph.now) h) (sym c.from_vec.ensures)
    (subst (λ n. IsReversedTo c.args.graph.now n c.loop-v.turned.items) n c.loop-v.invariant)
