-- A walk over instances that waits for those of which it has not looked at the calls.
use Rattle.std.proofs.Common.{◌≡◌, ℕ, zero, suc, ◌<◌, inl, inr, List, [], ◌∷◌, ◌++◌, map, reverse, length, get_or, sym, ◌∙◌, ap, subst, arith}
use Rattle.std.proofs.lemmas.List.{append_assoc, append-nil, reverse-append}
use Rattle.std.proofs.lemmas.List.Elements.{Contains-append_left, Contains-append_cases, Contains-push}
use Rattle.std.specs.List.{Contains, flat_map}
use Rattle.rv_instances.specs.declared.answer.Instance.{Instance}
use Rattle.rv_calls.specs.Listing.{called_instance, listed, all_listed, ahead, IsExpansion}
use Rattle.rv_calls.specs.{declared.calls.Calling.Calling, Graphs.IsGraph, Graphs.IsOrdered, Callings.callees, Callings.call_graph}
use Rattle.rv_instances.proofs.Lists.{contains_at, length_map}
use Rattle.rv_calls.proofs.Lowering.{edge_of, callee_within as edge_within}
use Rattle.rv_types.proofs.ConstantKinds.{of_reverse}
use Rattle.rv_base.proofs.Lists.{flat_map_same, from_map}

module _ (t : List (List Calling)) (order : List ℕ) (ordered : IsOrdered (call_graph t) order) where
  -- more levels than a node's number in the order give nothing more
  enough : (n j a b : ℕ) (path : List ℕ) → j < n → j < length order → j < a → j < b → listed t a path (get_or order j 0) ≡ listed t b path (get_or order j 0)
  enough zero j a b path less lt la lb = absurd (omega (arith, less))
  enough (suc n) j zero b path less lt la lb = absurd (omega (arith, la))
  enough (suc n) j (suc a) zero path less lt la lb = absurd (omega (arith, lb))
  enough (suc n) j (suc a) (suc b) path less lt la lb =
      ap (λ l. record { path = path; node = get_or order j 0 } ∷ l)
      (flat_map_same (λ (c : Calling). listed t a (path ++ c.site ∷ []) c.callee) (λ (c : Calling). listed t b (path ++ c.site ∷ []) c.callee)
      (get_or t (get_or order j 0) [])
      (λ c w.
      let e = edge_of t (get_or order j 0) c w in
      let v = ordered.after j e.0 lt e.1 in
      let below = v.1 in
      subst (λ k. listed t a (path ++ c.site ∷ []) k ≡ listed t b (path ++ c.site ∷ []) k) (v.2 ∙ e.2)
      (enough n v.0 a b (path ++ c.site ∷ []) (omega (arith, below, less)) (omega (arith, below, lt)) (omega (arith, below, la)) (omega (arith, below, lb)))))

  -- all below a node are the node and all below what it calls
  pub listed_step : (k : ℕ) (path : List ℕ) → k < length t → all_listed t path k ≡ record { path = path; node = k }
      ∷ flat_map (λ (c : Calling). all_listed t (path ++ c.site ∷ []) c.callee) (get_or t k [])
  listed_step k path lt =
      let size = length_map callees t in
      let at = contains_at order k (ordered.all k (omega (arith, size, lt))) in
      let few = ordered.size in
      let less = at.1 in
      subst (λ k. listed t (length t) path k ≡ listed t (suc (length t)) path k) at.2
      (enough (suc (length order)) at.0 (length t) (suc (length t)) path (omega (arith, less)) less (omega (arith, less, few, size))
      (omega (arith, less, few, size)))

ahead_push : (t : List (List Calling)) (ws : List Instance) (w : Instance) → ahead t (ws ++ w ∷ []) ≡ all_listed t w.path w.node ++ ahead t ws
ahead_push t [] w = sym (append-nil (all_listed t w.path w.node))
ahead_push t (v ∷ ws) w = ap (λ l. l ++ all_listed t v.path v.node) (ahead_push t ws w)
    ∙ append_assoc (all_listed t w.path w.node) (ahead t ws) (all_listed t v.path v.node)

ahead_callees : (t : List (List Calling)) (path : List ℕ) (ws : List Instance) (cs : List Calling)
    → ahead t (ws ++ reverse (map (called_instance path) cs)) ≡ flat_map (λ (c : Calling). all_listed t (path ++ c.site ∷ []) c.callee) cs ++ ahead t ws
ahead_callees t path ws [] = ap (ahead t) (append-nil ws)
ahead_callees t path ws (c ∷ cs) =
    ap (λ l. ahead t (ws ++ l)) (reverse-append (called_instance path c ∷ []) (map (called_instance path) cs))
    ∙ ap (ahead t) (sym (append_assoc ws (reverse (map (called_instance path) cs)) (called_instance path c ∷ [])))
    ∙ ahead_push t (ws ++ reverse (map (called_instance path) cs)) (called_instance path c)
    ∙ ap (λ l. all_listed t (path ++ c.site ∷ []) c.callee ++ l) (ahead_callees t path ws cs)
    ∙ sym (append_assoc (all_listed t (path ++ c.site ∷ []) c.callee) (flat_map (λ (c : Calling). all_listed t (path ++ c.site ∷ []) c.callee) cs) (ahead t ws))

-- the next that waits is a node
pub expansion_next : (t : List (List Calling)) (root : ℕ) (found waiting rest : List Instance) (i : Instance) → IsExpansion t root found waiting
    → waiting ≡ rest ++ i ∷ [] → i.node < length t
expansion_next t root found waiting rest i is taken = is.within i (subst (λ l. Contains l i) (sym taken) (Contains-push rest i))

module _ (t : List (List Calling)) (graph : IsGraph (call_graph t)) (order : List ℕ) (ordered : IsOrdered (call_graph t) order) where
  -- what is ahead is that instance and what is ahead then
  pub ahead_next : (waiting rest next : List Instance) (i : Instance) → i.node < length t → waiting ≡ rest ++ i ∷ []
      → next ≡ rest ++ reverse (map (called_instance i.path) (get_or t i.node [])) → ahead t waiting ≡ i ∷ ahead t next
  ahead_next waiting rest next i lt taken is =
      ap (ahead t) taken ∙ ahead_push t rest i ∙ ap (λ l. l ++ ahead t rest) (listed_step t order ordered i.node i.path lt)
      ∙ ap (λ l. i ∷ l) (sym (ahead_callees t i.path rest (get_or t i.node []))) ∙ ap (λ l. i ∷ ahead t l) (sym is)

  callee_within : (k : ℕ) (c : Calling) → k < length t → Contains (get_or t k []) c → c.callee < length t
  callee_within k c lt w = omega (arith, edge_within t graph k c lt w, length_map callees t)

  pub expansion_step : (root : ℕ) (found waiting rest next : List Instance) (i : Instance) → IsExpansion t root found waiting → waiting ≡ rest ++ i ∷ []
      → next ≡ rest ++ reverse (map (called_instance i.path) (get_or t i.node [])) → IsExpansion t root (found ++ i ∷ []) next
  expansion_step root found waiting rest next i is taken new =
      let lt = expansion_next t root found waiting rest i is taken in
      record {
        whole = append_assoc found (i ∷ []) (ahead t next) ∙ ap (λ l. found ++ l) (sym (ahead_next waiting rest next i lt taken new)) ∙ is.whole;
        within = λ w v. elim (Contains-append_cases rest (reverse (map (called_instance i.path) (get_or t i.node []))) w (subst (λ l. Contains l w) new v)) [
          | inl old ↦ is.within w (subst (λ l. Contains l w) (sym taken) (Contains-append_left rest (i ∷ []) w old))
          | inr one ↦
              let c = from_map (called_instance i.path) (get_or t i.node []) w (of_reverse (map (called_instance i.path) (get_or t i.node [])) w one) in
              subst (λ (j : Instance). j.node < length t) c.2 (callee_within i.node c.0 lt c.1)
        ];
      }

  -- less is ahead then
  pub ahead_less : (waiting rest next : List Instance) (i : Instance) → i.node < length t → waiting ≡ rest ++ i ∷ []
      → next ≡ rest ++ reverse (map (called_instance i.path) (get_or t i.node [])) → length (ahead t next) < length (ahead t waiting)
  ahead_less waiting rest next i lt taken is = omega (arith, ap length (ahead_next waiting rest next i lt taken is))
