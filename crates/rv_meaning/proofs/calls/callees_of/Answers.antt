use Rattle.std.proofs.Common.{◌≡◌, ℕ, ◌≤◌, ◌++◌, ◌∷◌, [], List, Option, length, map, sym, ◌∙◌, ap, arith, inl, inr, get_or, Some, below_more, nat_eq}
use Rattle.std.proofs.Common.{length-append, None as Nothing}
use Rattle.std.proofs.{lemmas.Bool.cases_lt, lemmas.List.length-map, lemmas.List.get_or-map, lemmas.List.get_or_past, lemmas.Option.slice_get_past}
use Rattle.std.specs.HashMap as hash
use Rattle.std.specs.Option.{option_map}
use Rattle.rv_tree.specs.{Tree.NodeTree, Tree.node_tree, Places.index_of}
use Rattle.rv_types.specs.Instances.{no_node}
use Rattle.rv_meaning.specs.{Callings.first_callee, Callings.callee_in, Leading.callee_at, Leading.callee_in_node, Leading.node_texts}
use Rattle.rv_meaning.proofs.Entering.{called_in_node, others_stay, last_is}
use Rattle.rv_meaning.proofs.calls.callees_of.Goals as goal

pub loop-node-preserved : goal.loop-node-preserved
loop-node-preserved c =
    let ns = map node_tree c.args.nodes.now in
    let i = c.loop-node.node-index in
    let n = node_tree c.node-item.result in
    let tables = c.loop-node.tables in
    let table = c.in_ok-by_site.field-0 in
    let size = c.loop-node.invariant.size in
    let lt = c.loop-node-test.true in
    let at : get_or ns i no_node ≡ n = get_or-map node_tree c.args.nodes.now i c.node-item.result no_node lt ∙ ap node_tree (sym c.node-item.is) in
    record {
      size = omega (arith, size, ap length c.in_ok-push.ensures.ok, length-append tables (table ∷ []));
      each = λ k s below.
          below_more (λ k. callee_in c.push.new.self k s ≡ callee_at ns k s) i
          (λ k less. ap (λ ts. callee_in ts k s) c.in_ok-push.ensures.ok ∙ others_stay tables table k s (omega (arith, size, less))
          ∙ c.loop-node.invariant.each k s less)
          (ap (λ ts. callee_in ts i s) c.in_ok-push.ensures.ok
          ∙ ap (λ k. callee_in (tables ++ table ∷ []) k s) (sym size)
          ∙ last_is tables table s
          ∙ c.in_ok-by_site.ensures s
          ∙ ap (λ cs. first_callee cs s) (c.as_slice.ensures ∙ c.in_ok-calls.ensures)
          ∙ called_in_node ns c.in_ok-names.names c.in_ok-names.ensures n s
          ∙ ap (λ n. option_map (index_of (node_texts ns)) (callee_in_node n s)) (sym at))
          k below;
    }

-- past the end there is no callee
past : (ns : List NodeTree) (k s : ℕ) → length ns ≤ k → Nothing ≡ callee_at ns k s
past ns k s le = ap (λ n. option_map (index_of (node_texts ns)) (callee_in_node n s)) (sym (get_or_past ns k no_node le))

pub returns : goal.returns
returns c = λ k s.
    let ns = map node_tree c.args.nodes.now in
    let tables = c.loop-node.tables in
    let size = c.loop-node.invariant.size in
    let end = c.loop-node-test.false in
    let beyond : c.loop-node.node-index ≤ k → callee_in tables k s ≡ callee_at ns k s =
    λ le. ap (λ o. elim o as (λ _. Option ℕ) [ Nothing ↦ Nothing | Some table ↦ hash.get nat_eq table s ]) (slice_get_past tables k (omega (arith, size, le)))
    ∙ past ns k s (omega (arith, length-map c.args.nodes.now node_tree, le, end)) in
    elim (cases_lt k c.loop-node.node-index) [ inl below ↦ c.loop-node.invariant.each k s below | inr le ↦ beyond le ]
