use Rattle.std.proofs.Common.{◌≡◌, ℕ, ◌+◌, ◌<◌, ◌≤◌, ◌++◌, ◌∷◌, [], List, length, map, sym, ◌∙◌, ap, subst, arith, inl, inr, get_or, below_more, length-append}
use Rattle.std.proofs.lemmas.Bool.{cases_lt}
use Rattle.std.proofs.lemmas.List.{length-map, get_or-map, get_or_past, get_or_append_left, get_or-append-add}
use Rattle.rv_tree.specs.Tree.{NodeTree, node_tree}
use Rattle.rv_types.specs.Instances.{no_node}
use Rattle.rv_meaning.specs.Remembered.{AreSites}
use Rattle.rv_meaning.proofs.memory_list.sites_of_nodes.Goals as goal

pub sites_of_node-requires : goal.sites_of_node-requires
sites_of_node-requires c =
    let i = c.loop-node.node-index in
    let lt = c.loop-node-test.true in
    let ns = map node_tree c.args.nodes.now in
    let n = node_tree c.node-item.result in
    let at : get_or ns i n ≡ n = get_or-map node_tree c.args.nodes.now i c.node-item.result n lt ∙ ap node_tree (sym c.node-item.is) in
    c.requires n (i, omega (arith, length-map c.args.nodes.now node_tree, lt), at)

-- of a list and one more element: its elements before the last, and the last
before : (xs ys : List (List ℕ)) (x : List ℕ) (k : ℕ) → ys ≡ xs ++ x ∷ [] → k < length xs → get_or xs k [] ≡ get_or ys k []
before xs ys x k e lt = sym (ap (λ l. get_or l k []) e ∙ get_or_append_left xs (x ∷ []) [] k lt)

last : (xs ys : List (List ℕ)) (x : List ℕ) (k : ℕ) → ys ≡ xs ++ x ∷ [] → length xs ≡ k → x ≡ get_or ys k []
last xs ys x k e is =
    let end : k ≡ length xs + 0 = omega (arith, is) in
    sym (ap (λ l. get_or l k []) e ∙ ap (λ k. get_or (xs ++ x ∷ []) k []) end ∙ get_or-append-add xs (x ∷ []) 0 [])

pub loop-node-preserved : goal.loop-node-preserved
loop-node-preserved c =
    let i = c.loop-node.node-index in
    let lt = c.loop-node-test.true in
    let ns = map node_tree c.args.nodes.now in
    let n = node_tree c.node-item.result in
    let size = c.loop-node.invariant.size in
    let grown = c.in_ok-push.ensures.ok in
    let own = c.in_ok-sites_of_node.field-0 in
    let at : get_or ns i no_node ≡ n = get_or-map node_tree c.args.nodes.now i c.node-item.result no_node lt ∙ ap node_tree (sym c.node-item.is) in
    record {
      size = omega (arith, size, ap length grown, length-append c.loop-node.sites (own ∷ []));
      each = below_more (λ k. AreSites (get_or ns k no_node) (get_or c.push.new.self k [])) i
          (λ k less. subst (λ l. AreSites (get_or ns k no_node) l) (before c.loop-node.sites c.push.new.self own k grown (omega (arith, size, less)))
          (c.loop-node.invariant.each k less))
          (subst (λ m. AreSites m (get_or c.push.new.self i [])) (sym at)
          (subst (λ l. AreSites n l) (last c.loop-node.sites c.push.new.self own i grown size) c.in_ok-sites_of_node.ensures));
    }

-- past the end there is no node and no site
nothing : AreSites no_node []
nothing = record { all = λ s w. w; only = λ s w. w }

past : (ns : List NodeTree) (sites : List (List ℕ)) (k : ℕ) → length ns ≤ k → length sites ≤ k → AreSites (get_or ns k no_node) (get_or sites k [])
past ns sites k le less = subst (λ m. AreSites m (get_or sites k [])) (sym (get_or_past ns k no_node le))
    (subst (λ l. AreSites no_node l) (sym (get_or_past sites k [] less)) nothing)

pub returns : goal.returns
returns c = λ k.
    let ns = map node_tree c.args.nodes.now in
    let sites = c.loop-node.sites in
    let size = c.loop-node.invariant.size in
    let end = c.loop-node-test.false in
    let beyond : c.loop-node.node-index ≤ k → AreSites (get_or ns k no_node) (get_or sites k []) =
    λ le. past ns sites k (omega (arith, length-map c.args.nodes.now node_tree, le, end)) (omega (arith, size, le)) in
    elim (cases_lt k c.loop-node.node-index) [ inl below ↦ c.loop-node.invariant.each k below | inr le ↦ beyond le ]
