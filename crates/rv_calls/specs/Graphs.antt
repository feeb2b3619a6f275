-- Graphs, given by the vertices that each vertex points to; orders in which each vertex stands after those, and loops.
-- (Tarjan 1972 for the search in depth that finds one or the other.)
use Rattle.std.specs.Prelude.{◌≡◌, ◌⊎◌, ℕ, ◌+◌, ◌<◌, ◌≤◌, Bool, true, false, List, [], ◌∷◌, length, Option, Some, slice_index_or, slice_set, None as Nothing}
use Rattle.std.specs.List.{Contains}
use Rattle.rv_calls.specs.declared.graph.Sorted.TheVariants.{Ordered, Looped}
use Rattle.rv_calls.specs.{declared.graph.Sorted.Sorted, declared.graph.Walk.Walk}

abbrev pub Graph : Type 0
Graph = List (List ℕ)

-- the vertices that a vertex points to
abbrev pub edges : Graph → ℕ → List ℕ
edges g k = slice_index_or g k []

-- each edge leads to a vertex
abbrev pub IsGraph : Graph → Type 0
IsGraph g = (k j : ℕ) → k < length g → j < length (edges g k) → slice_index_or (edges g k) j 0 < length g

-- All vertices, each once, each after those that it points to.
pub record IsOrdered (g : Graph) (order : List ℕ) : Type 0 where
  pub once : (j k : ℕ) → j < k → k < length order → slice_index_or order j 0 ≡ slice_index_or order k 0 → ⊥
  pub all : (k : ℕ) → k < length g → Contains order k
  pub size : length order ≤ length g
  pub only : (j : ℕ) → j < length order → slice_index_or order j 0 < length g
  pub after : (k j : ℕ) → k < length order → j < length (edges g (slice_index_or order k 0))
      → (i : ℕ) × (i < k) × (slice_index_or order i 0 ≡ slice_index_or (edges g (slice_index_or order k 0)) j 0)

-- p points to the first, each to the next, and the last to q
abbrev pub Follows : Graph → ℕ → List ℕ → ℕ → Type 0
Follows g p [] q = Contains (edges g p) q
Follows g p (r ∷ rs) q = Contains (edges g p) r × Follows g r rs q

-- a nonempty list of vertices, each of which points to the next, and the last to the first
abbrev pub IsLoop : Graph → List ℕ → Type 0
IsLoop g [] = ⊥
IsLoop g (p ∷ ps) = (p < length g) × Follows g p ps p

abbrev pub IsSortedOf : Graph → Sorted → Type 0
IsSortedOf g (Ordered xs) = IsOrdered g xs
IsSortedOf g (Looped xs) = IsLoop g xs

-- how many are false
abbrev pub falses : List Bool → ℕ
falses [] = 0
falses (true ∷ bs) = falses bs
falses (false ∷ bs) = falses bs + 1

-- What holds of a search in depth: the path leads from a root to where it is, with the vertices that are entered and
-- not finished; of the edges of one on the path that have been looked at, all lead to finished vertices, or to the
-- next on the path; those that are finished are listed, each after what it points to.
pub record IsWalk (g : Graph) (w : Walk) : Type 0 where
  pub entered_size : length w.entered ≡ length g
  pub finished_size : length w.finished ≡ length g
  pub cursor_size : length w.cursor ≡ length g
  pub path_in : (i : ℕ) → i < length w.path → slice_index_or w.path i 0 < length g
  pub path_entered : (i : ℕ) → i < length w.path → slice_index_or w.entered (slice_index_or w.path i 0) false ≡ true
  pub path_unfinished : (i : ℕ) → i < length w.path → slice_index_or w.finished (slice_index_or w.path i 0) false ≡ false
  pub on_path : (k : ℕ) → k < length g → slice_index_or w.entered k false ≡ true → slice_index_or w.finished k false ≡ false → Contains w.path k
  pub path_once : (i j : ℕ) → i < j → j < length w.path → slice_index_or w.path i 0 ≡ slice_index_or w.path j 0 → ⊥
  pub linked : (i : ℕ) → i + 1 < length w.path → Contains (edges g (slice_index_or w.path i 0)) (slice_index_or w.path (i + 1) 0)
  pub seen : (i j : ℕ) → i < length w.path → j < slice_index_or w.cursor (slice_index_or w.path i 0) 0 → j < length (edges g (slice_index_or w.path i 0))
      → (slice_index_or w.finished (slice_index_or (edges g (slice_index_or w.path i 0)) j 0) false ≡ true)
      ⊎ ((i + 1 < length w.path) × (slice_index_or w.path (i + 1) 0 ≡ slice_index_or (edges g (slice_index_or w.path i 0)) j 0))
  pub finished_entered : (k : ℕ) → k < length g → slice_index_or w.finished k false ≡ true → slice_index_or w.entered k false ≡ true
  pub listed : (k : ℕ) → k < length g → slice_index_or w.finished k false ≡ true → Contains w.order k
  pub count : length w.order + falses w.finished ≡ length g
  pub order_in : (i : ℕ) → i < length w.order → slice_index_or w.order i 0 < length g
  pub order_finished : (i : ℕ) → i < length w.order → slice_index_or w.finished (slice_index_or w.order i 0) false ≡ true
  pub order_once : (i j : ℕ) → i < j → j < length w.order → slice_index_or w.order i 0 ≡ slice_index_or w.order j 0 → ⊥
  pub order_after : (k j : ℕ) → k < length w.order → j < length (edges g (slice_index_or w.order k 0))
      → (i : ℕ) × (i < k) × (slice_index_or w.order i 0 ≡ slice_index_or (edges g (slice_index_or w.order k 0)) j 0)

-- what was entered still is
abbrev pub Keeps : Walk → Walk → Type 0
Keeps old new = (k : ℕ) → slice_index_or old.entered k false ≡ true → slice_index_or new.entered k false ≡ true

-- The first edge of a vertex, from the cursor on, that leads to an unfinished vertex, and the cursor after it.
abbrev pub IsNext : Graph → Walk → ℕ → Walk → Option ℕ → Type 0
IsNext g old v new Nothing = (new ≡ old) × ((j : ℕ) → slice_index_or old.cursor v 0 ≤ j → j < length (edges g v)
    → slice_index_or old.finished (slice_index_or (edges g v) j 0) false ≡ true)
IsNext g old v new (Some child) = (next : ℕ) × (next < length (edges g v)) × (slice_index_or (edges g v) next 0 ≡ child)
    × (slice_index_or old.finished child false ≡ false)
    × ((j : ℕ) → slice_index_or old.cursor v 0 ≤ j → j < next → slice_index_or old.finished (slice_index_or (edges g v) j 0) false ≡ true)
    × (new ≡ record old { cursor = slice_set old.cursor v (next + 1) })
