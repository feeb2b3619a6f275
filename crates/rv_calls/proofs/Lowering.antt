-- Calls that lead back to their node, and the least offset of them.
use Rattle.std.proofs.Common.{◌≡◌, ℕ, zero, suc, ◌+◌, ◌<◌, ◌≤◌, inl, inr, List, [], ◌∷◌, ◌++◌, length, get_or, refl, sym, ◌∙◌, ap, subst, arith, Option, Some}
use Rattle.std.proofs.Common.{None as Nothing}
use Rattle.std.proofs.lemmas.List.Elements.{Contains-append_left, Contains-append_right, Contains-append_cases}
use Rattle.std.proofs.{lemmas.List.get_or_default, lemmas.Bool.cases_eq}
use Rattle.std.specs.List.{Contains}
use Rattle.rv_calls.specs.{declared.calls.Calling.Calling, Graphs.Graph, Graphs.edges, Graphs.IsGraph, Graphs.IsOrdered, Graphs.Follows, Graphs.IsLoop}
use Rattle.rv_calls.specs.{Callings.LeadsTo, Callings.there, Callings.over, Callings.callees, Callings.call_graph, Components.Marks, Components.mark_of}
use Rattle.rv_calls.specs.{Components.AreComponents, Loops.AtMost, Loops.IsLowered, Loops.IsLoweredTo, Loops.HasNoLoop, Loops.IsFirstLoop}
use Rattle.rv_instances.proofs.{Known.map_at, Lists.contains_at, Lists.length_map}

pub lowered_none : (parts : Marks) (k : ℕ) (old : Option ℕ) → IsLowered parts k [] old old
lowered_none parts k old = record { lower = λ at h. h; found = inl refl; least = λ c w same. absurd (omega (arith, w.1)) }

pub lowered_more : (parts : Marks) (k : ℕ) (xs ys : List Calling) (a b c : Option ℕ) → IsLowered parts k xs a b → IsLowered parts k ys b c
    → IsLowered parts k (xs ++ ys) a c
lowered_more parts k xs ys a b c p q = record {
  lower = λ at h. q.lower at (p.lower at h);
  found = elim q.found [
    | inl kept ↦ elim p.found [ inl older ↦ inl (kept ∙ older) | inr w ↦ inr (w.0, Contains-append_left xs ys w.0 w.1, kept ∙ w.2, w.3) ]
    | inr w ↦ inr (w.0, Contains-append_right xs ys w.0 w.1, w.2, w.3)
  ];
  least = λ d w same. elim (Contains-append_cases xs ys d w) [ inl front ↦ q.lower d.at (p.least d front same) | inr back ↦ q.least d back same ];
}

pub lowered_to_more : (parts : Marks) (t : List (List Calling)) (n : ℕ) (old new : Option ℕ) → IsLoweredTo parts t n old
    → IsLowered parts n (get_or t n []) old new → IsLoweredTo parts t (n + 1) new
lowered_to_more parts t n old new p q = record {
  found = elim q.found [
    | inl kept ↦ elim p.found [ inl none ↦ inl (kept ∙ none) | inr w ↦ inr (w.0, w.1, (omega (arith, w.2)), w.3, kept ∙ w.4, w.5) ]
    | inr w ↦ inr (n, w.0, omega arith, w.1, w.2, w.3)
  ];
  least = λ k c lt w same. elim (cases_eq k n) [
    | inl here ↦ q.least c (subst (λ m. Contains (get_or t m []) c) here w) (subst (λ m. mark_of parts m ≡ mark_of parts c.callee) here same)
    | inr before ↦ q.lower c.at (p.least k c (omega (arith, lt, before)) w same)
  ];
}

-- what a node calls, in the graph and in the table
pub edges_at : (t : List (List Calling)) (k : ℕ) → edges (call_graph t) k ≡ callees (get_or t k [])
edges_at [] k = refl
edges_at (cs ∷ t) zero = refl
edges_at (cs ∷ t) (suc k) = edges_at t k

pub callee_at : (cs : List Calling) (c : Calling) (j : ℕ) → j < length cs → get_or (callees cs) j 0 ≡ (get_or cs j c).callee
callee_at cs c j lt = map_at (λ (d : Calling). d.callee) cs j 0 c lt

-- a call of a node is an edge of it
pub edge_of : (t : List (List Calling)) (k : ℕ) (c : Calling) → Contains (get_or t k []) c
    → (j : ℕ) × (j < length (edges (call_graph t) k)) × (get_or (edges (call_graph t) k) j 0 ≡ c.callee)
edge_of t k c w =
    let is = edges_at t k in
    let n = ap length is ∙ length_map (λ (d : Calling). d.callee) (get_or t k []) in
    (w.0, omega (arith, n, w.1), ap (λ es. get_or es w.0 0) is ∙ callee_at (get_or t k []) c w.0 w.1 ∙ ap (λ (d : Calling). d.callee) w.2)

-- and an edge is a call
pub call_of : (t : List (List Calling)) (k j : ℕ) → j < length (edges (call_graph t) k)
    → (c : Calling) × Contains (get_or t k []) c × (c.callee ≡ get_or (edges (call_graph t) k) j 0)
call_of t k j lt =
    let is = edges_at t k in
    let n = ap length is ∙ length_map (λ (d : Calling). d.callee) (get_or t k []) in
    let d : Calling = record { at = 0; site = 0; callee = 0 } in
    let less : j < length (get_or t k []) = omega (arith, n, lt) in
    let c : Calling = get_or (get_or t k []) j d in
    (c, (j, less, get_or_default (get_or t k []) j c d less), sym (ap (λ es. get_or es j 0) is ∙ callee_at (get_or t k []) d j less))

module _ (t : List (List Calling)) (graph : IsGraph (call_graph t)) where
  nodes : length (call_graph t) ≡ length t
  nodes = length_map callees t

  pub callee_within : (k : ℕ) (c : Calling) → k < length t → Contains (get_or t k []) c → c.callee < length (call_graph t)
  callee_within k c lt w = let e = edge_of t k c w in subst (λ u. u < length (call_graph t)) e.2 (graph k e.0 (omega (arith, nodes, lt)) e.1)

-- vertices that follow each other lead on
pub follows_leads : (g : Graph) (p : ℕ) (ps : List ℕ) (q : ℕ) → Follows g p ps q → LeadsTo g q p
follows_leads g p [] q w = let at = contains_at (edges g p) q w in over p at.0 at.1 (subst (λ u. LeadsTo g q u) (sym at.2) there)
follows_leads g p (r ∷ rs) q w = let at = contains_at (edges g p) r w.0 in over p at.0 at.1 (subst (λ u. LeadsTo g q u) (sym at.2) (follows_leads g r rs q w.1))

-- an edge is a call
call_along : (t : List (List Calling)) (p r : ℕ) → p < length (call_graph t) → Contains (edges (call_graph t) p) r → LeadsTo (call_graph t) p r
    → (k : ℕ) × (c : Calling) × (k < length t) × Contains (get_or t k []) c × LeadsTo (call_graph t) k c.callee
call_along t p r lt w lead =
    let at = contains_at (edges (call_graph t) p) r w in
    let c = call_of t p at.0 at.1 in
    (p, c.0, omega (arith, length_map callees t, lt), c.1, subst (λ u. LeadsTo (call_graph t) p u) (sym (c.2 ∙ at.2)) lead)

-- in a loop a call leads back
pub loop_call : (t : List (List Calling)) (xs : List ℕ) → IsLoop (call_graph t) xs
    → (k : ℕ) × (c : Calling) × (k < length t) × Contains (get_or t k []) c × LeadsTo (call_graph t) k c.callee
loop_call t [] is = absurd is
loop_call t (p ∷ []) is = call_along t p p is.0 is.1 there
loop_call t (p ∷ r ∷ rs) is = call_along t p r is.0 is.1.0 (follows_leads (call_graph t) r rs p is.1.1)

module _ (g : Graph) (order : List ℕ) (ordered : IsOrdered g order) where
  -- what a vertex leads to stands no later
  pub no_later : (b a i : ℕ) → LeadsTo g b a → i < length order → get_or order i 0 ≡ a → (j : ℕ) × (j ≤ i) × (get_or order j 0 ≡ b)
  no_later b _ i there lt is = (i, omega arith, is)
  no_later b _ i (over a j inside rest) lt is =
      let next = ordered.after i j lt (subst (λ u. j < length (edges g u)) (sym is) inside) in
      let more = no_later b (get_or (edges g a) j 0) next.0 rest (omega (arith, next.1, lt)) (next.2 ∙ ap (λ u. get_or (edges g u) j 0) is) in
      (more.0, omega (arith, next.1, more.1), more.2)

-- where the nodes have an order no call leads back
pub ordered_no_loop : (t : List (List Calling)) (order : List ℕ) → IsOrdered (call_graph t) order → HasNoLoop (call_graph t) t
ordered_no_loop t order ordered k c lt w lead =
    let at = contains_at order k (ordered.all k (omega (arith, length_map callees t, lt))) in
    let e = edge_of t k c w in
    let next = ordered.after at.0 e.0 at.1 (subst (λ u. e.0 < length (edges (call_graph t) u)) (sym at.2) e.1) in
    let back = no_later (call_graph t) order ordered k c.callee next.0 lead (omega (arith, next.1, at.1))
    (next.2 ∙ ap (λ u. get_or (edges (call_graph t) u) e.0 0) at.2 ∙ e.2) in
    ordered.once back.0 at.0 (omega (arith, next.1, back.1)) at.1 (back.2 ∙ sym at.2)

-- the least offset that is found is the first, and where there is a loop one is found
module _ (t : List (List Calling)) (graph : IsGraph (call_graph t)) (parts : Marks) (are : AreComponents (call_graph t) parts) where
  inside : (k : ℕ) → k < length t → k < length (call_graph t)
  inside k lt = omega (arith, length_map callees t, lt)

  -- a call between two nodes of one component leads back
  same_back : (k : ℕ) (c : Calling) → k < length t → Contains (get_or t k []) c → mark_of parts k ≡ mark_of parts c.callee → LeadsTo (call_graph t) k c.callee
  same_back k c lt w e = are.together c.callee k (callee_within t graph k c lt w) (inside k lt) (sym e)

  -- and back
  back_same : (k : ℕ) (c : Calling) → k < length t → Contains (get_or t k []) c → LeadsTo (call_graph t) k c.callee → mark_of parts k ≡ mark_of parts c.callee
  back_same k c lt w lead =
      let e = edge_of t k c w in
      are.apart k c.callee (inside k lt) (over k e.0 e.1 (subst (λ u. LeadsTo (call_graph t) c.callee u) (sym e.2) there)) lead

  pub first_found : (at : ℕ) → IsLoweredTo parts t (length t) (Some at) → IsFirstLoop (call_graph t) t at
  first_found at low = record {
    here = elim low.found [ inl none ↦ absurd (cc) | inr w ↦ (w.0, w.1, w.2, w.3, same_back w.0 w.1 w.2 w.3 w.5, same w.1.at w.4) ];
    first = λ k c lt w lead. low.least k c lt w (back_same k c lt w lead);
  }
    where
      same : (b : ℕ) → Some at ≡ Some b → b ≡ at
      same b e = cc

  pub none_found : (xs : List ℕ) (least : Option ℕ) → IsLoop (call_graph t) xs → IsLoweredTo parts t (length t) least → least ≡ Nothing → ⊥
  none_found xs least is low none =
      let w = loop_call t xs is in
      subst (λ l. AtMost l w.1.at) none (low.least w.0 w.1 w.2 w.3 (back_same w.0 w.1 w.2 w.3 w.4))
