-- How a search in depth goes on, whatever it finds.
use Rattle.std.proofs.Common.{◌≡◌, ℕ, ◌+◌, ◌-◌, ◌<◌, true, false, [], ◌∷◌, ◌++◌, length, get_or, set, take, sym, ◌∙◌, ap, subst, arith, length-take-le}
use Rattle.std.proofs.lemmas.List.{length-set, length_push}
use Rattle.rv_calls.specs.{Graphs.Graph, Graphs.falses, declared.graph.Walk.Walk, Components.IsDepth}
use Rattle.rv_calls.proofs.Walks.{snoc_each, front_each, set_falses}

-- what is left to do
abbrev pub weight : Walk → ℕ
weight w = falses w.entered + falses w.entered + length w.path

module _ (g : Graph) where
  step_entered : (w : Walk) → IsDepth g w → (v : ℕ) (new : Walk) → v < length g
      → new ≡ record w { entered = set w.entered v true; cursor = set w.cursor v 0; path = w.path ++ v ∷ [] } → IsDepth g new
  step_entered w d v new within is = subst (IsDepth g) (sym is) (record {
    entered = length-set w.entered v true ∙ d.entered;
    finished = d.finished;
    cursor = length-set w.cursor v 0 ∙ d.cursor;
    path = snoc_each (λ u. u < length g) w.path v d.path within;
    order = d.order;
  })

  step_left : (w : Walk) → IsDepth g w → (v : ℕ) (new : Walk) → v < length g
      → new ≡ record w { finished = set w.finished v true; path = take (length w.path - 1) w.path; order = w.order ++ v ∷ [] } → IsDepth g new
  step_left w d v new within is = subst (IsDepth g) (sym is) (record {
    entered = d.entered;
    finished = length-set w.finished v true ∙ d.finished;
    cursor = d.cursor;
    path = front_each (λ u. u < length g) w.path d.path;
    order = snoc_each (λ u. u < length g) w.order v d.order within;
  })

module _ (g : Graph) (w : Walk) (d : IsDepth g w) where
  turned : (mid : Walk) → mid ≡ record w { cursor = mid.cursor } → length mid.cursor ≡ length g → IsDepth g mid
  turned mid is size = subst (IsDepth g) (sym is) (record { entered = d.entered; finished = d.finished; cursor = size; path = d.path; order = d.order })

  -- the last vertex of the path
  pub top_within : (v : ℕ) → 0 < length w.path → get_or w.path (length w.path - 1) 0 ≡ v → v < length g
  top_within v some last = subst (λ u. u < length g) last (d.path (length w.path - 1) (omega arith))

  -- One step of the search, over what `next_new` leaves.
  module _ (mid : Walk) (is : mid ≡ record w { cursor = mid.cursor }) (size : length mid.cursor ≡ length g) where
    pub left_step : (v : ℕ) (new : Walk) → 0 < length w.path → get_or w.path (length w.path - 1) 0 ≡ v
        → new ≡ record mid { finished = set mid.finished v true; path = take (length mid.path - 1) mid.path; order = mid.order ++ v ∷ [] }
        → IsDepth g new × (weight new < weight w)
    left_step v new some last new_is = (
      step_left g mid (turned mid is size) v new (top_within v some last) new_is,
      (let p = ap length (ap (λ (m : Walk). m.path) new_is) in
          let r = ap (λ (m : Walk). length m.path) is in
          let e = ap (λ (m : Walk). falses m.entered) new_is in
          let f = ap (λ (m : Walk). falses m.entered) is in
          omega (arith, p, length-take-le (length mid.path - 1) mid.path (omega arith), r, e, f, some)),
    )

    pub went_step : (child : ℕ) (new : Walk) → child < length g → get_or w.entered child false ≡ false
        → new ≡ record mid { entered = set mid.entered child true; cursor = set mid.cursor child 0; path = mid.path ++ child ∷ [] }
        → IsDepth g new × (weight new < weight w)
    went_step child new within free new_is = (
      step_entered g mid (turned mid is size) child new within new_is,
      (let p = ap (λ (m : Walk). length m.path) new_is ∙ length_push mid.path child in
          let r = ap (λ (m : Walk). length m.path) is in
          let e = ap (λ (m : Walk). falses m.entered) new_is ∙ ap (λ (m : Walk). falses (set m.entered child true)) is in
          let one = set_falses w.entered child (omega (arith, d.entered, within)) free in
          omega (arith, p, r, e, one)),
    )
