-- The edges of a graph the other way round.
use Rattle.std.proofs.Common.{◌≡◌, ℕ, ◌+◌, ◌<◌, inl, inr, List, [], ◌∷◌, ◌++◌, length, get_or, set, replicate, refl, sym, ◌∙◌, subst, arith}
use Rattle.std.proofs.{lemmas.List.length-set, lemmas.List.length-replicate, lemmas.List.get_or-set_same, lemmas.Bool.cases_eq}
use Rattle.std.proofs.lemmas.List.Elements.{Contains-append_left, Contains-append_right, Contains-append_cases, Contains-push, Contains-push_cases}
use Rattle.std.specs.List.{Contains}
use Rattle.rv_calls.specs.{Graphs.Graph, Graphs.edges, Graphs.IsGraph, Components.IsReversed, Components.IsReversedTo, Components.IsTurned}
use Rattle.rv_instances.proofs.Lists.{at_contains, equal_at, put_cases}
use Rattle.rv_calls.proofs.Searches.{only_one}
use Rattle.rv_types.proofs.Members.{at_head, nothing_in}

pub turned_none : (v : ℕ) (h : Graph) → IsTurned [] v h h
turned_none v h = record { size = refl; kept = λ a b w. w; added = λ b w. nothing_in b w; only = λ a b w. inl w }

pub turned_more : (xs ys : List ℕ) (v : ℕ) (h1 h2 h3 : Graph) → IsTurned xs v h1 h2 → IsTurned ys v h2 h3 → IsTurned (xs ++ ys) v h1 h3
turned_more xs ys v h1 h2 h3 p q = record {
  size = q.size ∙ p.size;
  kept = λ a b w. q.kept a b (p.kept a b w);
  added = λ b w. elim (Contains-append_cases xs ys b w) [ inl front ↦ q.kept v b (p.added b front) | inr back ↦ q.added b back ];
  only = λ a b w. elim (q.only a b w) [
    | inl old ↦ elim (p.only a b old) [ inl older ↦ inl older | inr new ↦ inr (new.0, Contains-append_left xs ys b new.1) ]
    | inr new ↦ inr (new.0, Contains-append_right xs ys b new.1)
  ];
}

pub turned_one : (u v : ℕ) (h : Graph) → u < length h → IsTurned (u ∷ []) v h (set h u (edges h u ++ v ∷ []))
turned_one u v h within = record {
  size = length-set h u (edges h u ++ v ∷ []);
  kept = λ a b w. elim (put_cases h u (edges h u ++ v ∷ []) b []) [
    | inl same ↦ subst (λ b. Contains (edges (set h u (edges h u ++ v ∷ [])) b) a) same
        (subst (λ es. Contains es a) (sym put) (Contains-append_left (edges h u) (v ∷ []) a (subst (λ b. Contains (edges h b) a) (sym same) w)))
    | inr other ↦ subst (λ es. Contains es a) (sym other) w
  ];
  added = λ b w. subst (λ b. Contains (edges (set h u (edges h u ++ v ∷ [])) b) v) (only_one u b w)
      (subst (λ es. Contains es v) (sym put) (Contains-push (edges h u) v));
  only = λ a b w. elim (put_cases h u (edges h u ++ v ∷ []) b []) [
    | inl same ↦ elim (Contains-push_cases (edges h u) v a (subst (λ es. Contains es a) put
        (subst (λ b. Contains (edges (set h u (edges h u ++ v ∷ [])) b) a) (sym same) w))) [
          | inl old ↦ inl (subst (λ b. Contains (edges h b) a) same old)
          | inr new ↦ inr (sym new, subst (Contains (u ∷ [])) same (at_head u []))
        ]
    | inr other ↦ inl (subst (λ es. Contains es a) other w)
  ];
}
  where
    put : edges (set h u (edges h u ++ v ∷ [])) u ≡ edges h u ++ v ∷ []
    put = get_or-set_same h u (edges h u ++ v ∷ []) [] within

-- no edges yet
pub reversed_none : (g : Graph) → IsReversedTo g 0 (replicate (length g) [])
reversed_none g = record {
  size = length-replicate (length g) [];
  back = λ a b w. nothing_in a (subst (λ es. Contains es a) (equal_at (length g) b []) w);
  whole = λ a b lt w. absurd (omega (arith, lt));
}

-- those of one vertex more
pub reversed_more : (g : Graph) (n : ℕ) (h new : Graph) → n < length g → IsReversedTo g n h → IsTurned (edges g n) n h new → IsReversedTo g (n + 1) new
reversed_more g n h new within p t = record {
  size = t.size ∙ p.size;
  back = λ a b w. elim (t.only a b w) [
    | inl old ↦ p.back a b old
    | inr added ↦ subst (λ a. (a < length g) × Contains (edges g a) b) (sym added.0) (within, added.1)
  ];
  whole = λ a b lt w. elim (cases_eq a n) [
    | inl here ↦ subst (λ a. Contains (edges new b) a) (sym here) (t.added b (subst (λ a. Contains (edges g a) b) here w))
    | inr before ↦ t.kept a b (p.whole a b (omega (arith, lt, before)) w)
  ];
}

-- the other way round is a graph
pub reversed_graph : (g h : Graph) → IsReversed g h → IsGraph h
reversed_graph g h r k j lt inside =
    omega (arith, r.size, (r.back (get_or (edges h k) j 0) k (at_contains (edges h k) (get_or (edges h k) j 0) j inside refl)).0)
