-- No two instances that a program is unrolled to have one path.
use Rattle.std.proofs.Common.{◌≡◌, ℕ, zero, suc, ◌<◌, inl, inr, Bool, true, false, List, [], ◌∷◌, ◌++◌, length, get_or, refl, sym, ◌∙◌, ap, subst, arith}
use Rattle.std.proofs.Common.{unwrap_or}
use Rattle.std.proofs.lemmas.List.{append_assoc, append-nil, length-append, Elements.Contains-get_or}
use Rattle.std.specs.List.{Contains, flat_map}
use Rattle.rv_tree.specs.{Tree.NodeTree, Tree.ProgramTree, Places.Identifier, Places.index_of, Places.is_among}
use Rattle.rv_types.specs.Instances.{CallTree, calls, Instance, no_node, node_of, callee, unrolled, all_instances, main_instance}
use Rattle.rv_types.specs.{Names.name_faults, WellFormed.AreSited}
use Rattle.rv_instances.specs.AllInstances.{names_of}
use Rattle.rv_instances.proofs.{Known.called, Known.node_missing, Ordered.AreInOrder, Ordered.in_order_at, Ordered.in_order_flat, Ordered.in_order_from}
use Rattle.rv_types.proofs.Members.{cons_cases, nothing_in, of_flat_map}
use Rattle.rv_base.proofs.Lists.{same_next}

-- Instances whose paths differ, and calls whose sites do.

abbrev PathsDiffer : Instance → Instance → Type 0
PathsDiffer x y = x.path ≡ y.path → ⊥

abbrev SitesDiffer : CallTree → CallTree → Type 0
SitesDiffer c d = c.site ≡ d.site → ⊥

module _ (p : ProgramTree) (named : name_faults p ≡ []) (sited : AreSited p) where
  -- what an instance is unrolled to has paths that begin with its own
  under : (levels : ℕ) (a i : Instance) → Contains (unrolled p levels a) i → (rest : List ℕ) × (i.path ≡ a.path ++ rest)
  under zero a i w = nothing_in i w
  under (suc levels) a i w = elim (cons_cases a (flat_map (λ (c : CallTree). unrolled p levels (callee p a c)) (calls a.node)) i w) [
    | inl same ↦ ([], ap (λ (n : Instance). n.path) (sym same) ∙ sym (append-nil a.path))
    | inr rest ↦
        let c = of_flat_map (λ (c : CallTree). unrolled p levels (callee p a c)) (calls a.node) i rest in
        let u = under levels (callee p a c.0) i c.2 in
        (c.0.site ∷ u.0, u.1 ∙ append_assoc a.path (c.0.site ∷ []) u.0)
  ]

  -- and below a call they go on with its site
  under_call : (levels : ℕ) (a : Instance) (c : CallTree) (i : Instance) → Contains (unrolled p levels (callee p a c)) i
      → (rest : List ℕ) × (i.path ≡ a.path ++ c.site ∷ rest)
  under_call levels a c i w = let u = under levels (callee p a c) i w in (u.0, u.1 ∙ append_assoc a.path (c.site ∷ []) u.0)

  -- the calls of the node of a name
  node_sites : (f : Identifier) → AreInOrder SitesDiffer (calls (node_of p f))
  node_sites f = decided (is_among (names_of p) f) refl
    where
      decided : (b : Bool) → is_among (names_of p) f ≡ b → AreInOrder SitesDiffer (calls (node_of p f))
      decided false e = subst (λ (n : NodeTree). AreInOrder SitesDiffer (calls n)) (sym (ap (λ o. unwrap_or o no_node) (node_missing p.nodes f e))) tt
      decided true e =
          let to = called p named f e in
          let n = get_or p.nodes (index_of (names_of p) f) no_node in
          subst (λ (n : NodeTree). AreInOrder SitesDiffer (calls n)) (sym to.1)
          (in_order_from SitesDiffer (calls n) (sited n (Contains-get_or p.nodes (index_of (names_of p) f) no_node to.0)).apart)

  once_unrolled : (levels : ℕ) (a : Instance) → AreInOrder SitesDiffer (calls a.node) → AreInOrder PathsDiffer (unrolled p levels a)
  once_unrolled zero a s = tt
  once_unrolled (suc levels) a s = (
    λ y w e.
        let c = of_flat_map (λ (c : CallTree). unrolled p levels (callee p a c)) (calls a.node) y w in
        let u = under_call levels a c.0 y c.2 in
        omega (arith, ap length (e ∙ u.1), length-append a.path (c.0.site ∷ u.0)),
    in_order_flat PathsDiffer SitesDiffer (λ (c : CallTree). unrolled p levels (callee p a c)) (λ c. once_unrolled levels (callee p a c) (node_sites c.name))
        (λ c d apart x y w v e.
        let u = under_call levels a c x w in
        let t = under_call levels a d y v in
        apart (same_next a.path c.site d.site u.0 t.0 (sym u.1 ∙ e ∙ t.1))) (calls a.node) s,
  )

  pub instances_once : (main : Identifier) (j k : ℕ) (i : Instance) → j < k → k < length (all_instances p main)
      → (get_or (all_instances p main) j i).path ≡ (get_or (all_instances p main) k i).path → ⊥
  instances_once main = in_order_at PathsDiffer (all_instances p main) (once_unrolled (length p.nodes) (main_instance p main) (node_sites main))
