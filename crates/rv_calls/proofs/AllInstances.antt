-- Where no node reaches itself, unrolling gives all instances.
use Rattle.std.proofs.Common.{◌≡◌, ℕ, zero, suc, ◌-◌, ◌<◌, ◌≤◌, ◌⊎◌, inl, inr, Bool, true, false, List, [], ◌∷◌, ◌++◌, length, get_or, set, replicate, refl}
use Rattle.std.proofs.Common.{sym, ◌∙◌, ap, subst, arith}
use Rattle.std.proofs.lemmas.List.{length-set, length_push, length-replicate, get_or-set_other}
use Rattle.std.proofs.lemmas.List.Elements.{Contains-get_or}
use Rattle.std.specs.List.{Contains, flat_map}
use Rattle.rv_tree.specs.{Tree.NodeTree, Tree.ProgramTree, Places.Identifier, Places.is_among, Places.index_of}
use Rattle.rv_types.specs.{Names.name_faults, Instances.CallTree, Instances.calls, Instances.Instance, Instances.no_node, Instances.node_of, Instances.callee}
use Rattle.rv_types.specs.{Instances.unrolled, Instances.all_instances, Instances.main_instance, Instances.IsInstance, Instances.is_main, Instances.is_callee}
use Rattle.rv_calls.specs.{Reach.Reaches, Reach.itself, Reach.by_call, Reach.HasNoRecursion, Graphs.falses}
use Rattle.rv_instances.specs.AllInstances.{names_of}
use Rattle.rv_calls.proofs.Walks.{AllDiffer, snoc_each, snoc_differ, set_falses, all_false}
use Rattle.rv_instances.proofs.{Known.called, Known.calls_declared, Known.node_of_number, Lists.equal_at}
use Rattle.rv_types.proofs.Members.{at_head, cons_cases, in_flat_map, in_tail, nothing_in, of_flat_map}

-- different numbers below a bound are no more than the bound
pigeons : (xs : List ℕ) (bs : List Bool) → ((i : ℕ) → i < length xs → get_or xs i 0 < length bs)
    → ((i : ℕ) → i < length xs → get_or bs (get_or xs i 0) false ≡ false) → AllDiffer xs → length xs ≤ falses bs
pigeons [] bs within free apart = omega arith
pigeons (x ∷ xs) bs within free apart =
    let more = pigeons xs (set bs x true)
    (λ i lt. omega (arith, length-set bs x true, within (suc i) (omega (arith, lt))))
    (λ i lt. get_or-set_other bs x (get_or xs i 0) true false (λ e. apart 0 (suc i) (omega arith) (omega (arith, lt)) (sym e))
    ∙ free (suc i) (omega (arith, lt)))
    (λ i j less lt. apart (suc i) (suc j) (omega (arith, less)) (omega (arith, lt))) in
    omega (arith, more, set_falses bs x (within 0 (omega arith)) (free 0 (omega arith)))

pub pigeonhole : (n : ℕ) (xs : List ℕ) → ((i : ℕ) → i < length xs → get_or xs i 0 < n) → AllDiffer xs → length xs ≤ n
pigeonhole n xs within apart =
    let l = length-replicate {A = Bool} n false in
    let h = pigeons xs (replicate n false) (λ i lt. omega (arith, l, within i lt)) (λ i lt. equal_at n (get_or xs i 0) false) apart in
    omega (arith, h, all_false n)

-- what reaches a node reaches what that calls
reach_on : (p : ProgramTree) (n f : Identifier) (c : CallTree) → Reaches p n f → Contains (calls (node_of p n)) c → Reaches p c.name f
reach_on p n _ c itself w = by_call n c w itself
reach_on p n _ c (by_call f d v rest) w = by_call f d v (reach_on p n d.name c rest w)

-- an instance stands in what an instance is unrolled to, with so many levels below it
abbrev Deep : ProgramTree → ℕ → Instance → ℕ → Instance → Type 0
Deep p zero a left i = ⊥
Deep p (suc levels) a left i = ((i ≡ a) × (left ≡ levels)) ⊎ ((c : CallTree) × Contains (calls a.node) c × Deep p levels (callee p a c) left i)

deep_contains : (p : ProgramTree) (levels : ℕ) (a : Instance) (left : ℕ) (i : Instance) → Deep p levels a left i → Contains (unrolled p levels a) i
deep_contains p zero a left i d = absurd d
deep_contains p (suc levels) a left i (inl d) =
    subst (λ (j : Instance). Contains (unrolled p (suc levels) a) j) (sym d.0)
    (at_head a (flat_map (λ (c : CallTree). unrolled p levels (callee p a c)) (calls a.node)))
deep_contains p (suc levels) a left i (inr d) =
    in_tail a (flat_map (λ (c : CallTree). unrolled p levels (callee p a c)) (calls a.node)) i
    (in_flat_map (λ (c : CallTree). unrolled p levels (callee p a c)) (calls a.node) d.0 i d.1 (deep_contains p levels (callee p a d.0) left i d.2))

deep_step : (p : ProgramTree) (levels : ℕ) (a : Instance) (left : ℕ) (i : Instance) (c : CallTree) → Deep p levels a (suc left) i → Contains (calls i.node) c
    → Deep p levels a left (callee p i c)
deep_step p zero a left i c d w = absurd d
deep_step p (suc levels) a left i c (inl d) w =
    inr (
      c,
      subst (λ (j : Instance). Contains (calls j.node) c) d.0 w,
      subst (λ (j : Instance). Deep p levels (callee p j c) left (callee p i c)) d.0
          (subst (λ n. Deep p n (callee p i c) left (callee p i c)) d.1 (inl (refl, refl))),
    )
deep_step p (suc levels) a left i c (inr d) w = inr (d.0, d.1, deep_step p levels (callee p a d.0) left i c d.2 w)

-- what is unrolled from an instance are instances
pub only_instances : (p : ProgramTree) (main : Identifier) (levels : ℕ) (a i : Instance) → IsInstance p main a → Contains (unrolled p levels a) i
    → IsInstance p main i
only_instances p main zero a i is w = nothing_in i w
only_instances p main (suc levels) a i is w = elim (cons_cases a (flat_map (λ (c : CallTree). unrolled p levels (callee p a c)) (calls a.node)) i w) [
  | inl same ↦ subst (IsInstance p main) same is
  | inr rest ↦
      let v = of_flat_map (λ (c : CallTree). unrolled p levels (callee p a c)) (calls a.node) i rest in
      only_instances p main levels (callee p a v.0) i (is_callee v.0 is v.1) v.2
]

-- The nodes from main to an instance: they are different, and each reaches the last.
record Trail (p : ProgramTree) (i : Instance) : Type 0 where
  trail : List ℕ
  number : ℕ
  is_node : number < length p.nodes
  node_is : i.node ≡ get_or p.nodes number no_node
  within : (j : ℕ) → j < length trail → get_or trail j 0 < length p.nodes
  apart : AllDiffer trail
  reaches : (j : ℕ) → j < length trail → Reaches p i.node.name.text (get_or p.nodes (get_or trail j 0) no_node).name.text
  some : 0 < length trail

module _ (p : ProgramTree) (main : Identifier) (named : name_faults p ≡ []) (none : HasNoRecursion p) (declared : is_among (names_of p) main ≡ true) where
  start : Trail p (main_instance p main)
  start =
      let to = called p named main declared in
      let k = index_of (names_of p) main in
      record {
        trail = k ∷ [];
        number = k;
        is_node = to.0;
        node_is = to.1;
        within = snoc_each (λ u. u < length p.nodes) [] k (λ j lt. absurd (omega (arith, lt))) to.0;
        apart = λ j m less lt e. omega (arith, less, lt);
        reaches = snoc_each (λ u. Reaches p (node_of p main).name.text (get_or p.nodes u no_node).name.text) [] k (λ j lt. absurd (omega (arith, lt)))
            (subst (λ (n : NodeTree). Reaches p (node_of p main).name.text n.name.text) to.1 itself);
        some = omega arith;
      }

  next : (i : Instance) (c : CallTree) → Trail p i → Contains (calls i.node) c → Trail p (callee p i c)
  next i c t w =
      let at_node : Contains p.nodes i.node = subst (Contains p.nodes) (sym t.node_is) (Contains-get_or p.nodes t.number no_node t.is_node) in
      let to = called p named c.name (calls_declared p named i.node c at_node w) in
      let k = index_of (names_of p) c.name in
      let itself_node : node_of p i.node.name.text ≡ i.node = ap (λ (n : NodeTree). node_of p n.name.text) t.node_is ∙ node_of_number p named t.number t.is_node
      ∙ sym t.node_is in
      let in_node : Contains (calls (node_of p i.node.name.text)) c = subst (λ (n : NodeTree). Contains (calls n) c) (sym itself_node) w in
      let last_name : (node_of p c.name).name.text ≡ c.name = ap (λ (n : NodeTree). n.name.text) to.1 ∙ to.2 in
      record {
        trail = t.trail ++ k ∷ [];
        number = k;
        is_node = to.0;
        node_is = to.1;
        within = snoc_each (λ u. u < length p.nodes) t.trail k t.within to.0;
        apart = snoc_differ t.trail k t.apart (λ j lt is. none i.node c (record {
          node = at_node;
          call = w;
          back = subst (λ f. Reaches p i.node.name.text f) (ap (λ u. (get_or p.nodes u no_node).name.text) is ∙ to.2) (t.reaches j lt);
        }));
        reaches = snoc_each (λ u. Reaches p (node_of p c.name).name.text (get_or p.nodes u no_node).name.text) t.trail k
            (λ j lt. subst (λ g. Reaches p g (get_or p.nodes (get_or t.trail j 0) no_node).name.text) (sym last_name)
            (reach_on p i.node.name.text (get_or p.nodes (get_or t.trail j 0) no_node).name.text c (t.reaches j lt) in_node))
            (subst (λ (n : NodeTree). Reaches p (node_of p c.name).name.text n.name.text) to.1 itself);
        some = omega (arith, length_push t.trail k);
      }

  -- an instance with its trail stands in what main is unrolled to
  found : (i : Instance) → IsInstance p main i → (t : Trail p i) × Deep p (length p.nodes) (main_instance p main) (length p.nodes - length t.trail) i
  unfolding start next
  found _ is_main = (start, at (length p.nodes) (omega (arith, start.within 0 start.some)))
    where
      at : (n : ℕ) → 0 < n → Deep p n (main_instance p main) (n - 1) (main_instance p main)
      at zero lt = absurd (omega (arith, lt))
      at (suc n) lt = inl (refl, omega arith)
  found _ (is_callee {i} c is w) =
      let before = found i is in
      let t = next i c before.0 w in
      let few = pigeonhole (length p.nodes) t.trail t.within t.apart in
      let size = length_push before.0.trail (index_of (names_of p) c.name) in
      let left : length p.nodes - length before.0.trail ≡ suc (length p.nodes - length t.trail) = omega (arith, few, size) in (
        t,
        deep_step p (length p.nodes) (main_instance p main) (length p.nodes - length t.trail) i c
            (subst (λ n. Deep p (length p.nodes) (main_instance p main) n i) left before.1) w,
      )

  pub all_found : (i : Instance) → IsInstance p main i → Contains (all_instances p main) i
  all_found i is = let f = found i is in deep_contains p (length p.nodes) (main_instance p main) (length p.nodes - length f.0.trail) i f.1
