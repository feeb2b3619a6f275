-- Sorted calls give the same graph, up to the order of edges.
use Rattle.std.proofs.Common.{◌≡◌, ℕ, ◌<◌, List, [], length, get_or, sym, ◌∙◌, arith}
use Rattle.std.proofs.lemmas.List.Sorted.{Contains-permutation, IsPermutation-sym}
use Rattle.rv_calls.specs.Graphs.{edges, IsGraph, IsOrdered}
use Rattle.rv_calls.specs.{declared.calls.Calling.Calling, Callings.callees, Callings.call_graph, Listing.AreAllSorted}
use Rattle.rv_instances.proofs.Lists.{length_map}
use Rattle.rv_calls.proofs.Lowering.{edge_of, call_of}

module _ (t sorted : List (List Calling)) (are : AreAllSorted t sorted) where
  pub same_size : length (call_graph sorted) ≡ length (call_graph t)
  same_size = length_map callees sorted ∙ are.size ∙ sym (length_map callees t)

  -- an edge of the one is an edge of the other
  edge_before : (k j : ℕ) → k < length (call_graph t) → j < length (edges (call_graph sorted) k)
      → (e : ℕ) × (e < length (edges (call_graph t) k)) × (get_or (edges (call_graph t) k) e 0 ≡ get_or (edges (call_graph sorted) k) j 0)
  edge_before k j lt inside =
      let c = call_of sorted k j inside in
      let w = Contains-permutation (get_or sorted k []) (get_or t k []) c.0
      (IsPermutation-sym (get_or t k []) (get_or sorted k []) (are.each k (omega (arith, length_map callees t, lt))).same) c.1 in
      let e = edge_of t k c.0 w in (e.0, e.1, e.2 ∙ c.2)

  pub sorted_graph : IsGraph (call_graph t) → IsGraph (call_graph sorted)
  sorted_graph graph k j lt inside =
      let size = same_size in
      let within : k < length (call_graph t) = omega (arith, size, lt) in
      let e = edge_before k j within inside in
      omega (arith, graph k e.0 within e.1, e.2, size)

  pub sorted_order : (order : List ℕ) → IsOrdered (call_graph t) order → IsOrdered (call_graph sorted) order
  sorted_order order o = record {
    once = o.once;
    all = λ k lt. o.all k (omega (arith, same_size, lt));
    size = omega (arith, same_size, o.size);
    only = λ j lt. omega (arith, same_size, o.only j lt);
    after = λ k j lt inside.
        let e = edge_before (get_or order k 0) j (o.only k lt) inside in
        let v = o.after k e.0 lt e.1 in
        (v.0, v.1, v.2 ∙ e.2);
  }
