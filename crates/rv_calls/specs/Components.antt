-- Components of a graph, by the vertices that lead to each other, and the searches that find them. (Sharir 1981 for the order
-- of the roots; Fleischer, Hendrickson and Pinar 2000 for the two searches from each.)
use Rattle.std.specs.Prelude.{◌≡◌, ◌⊎◌, ℕ, ◌+◌, ◌<◌, cond, nat_eq, List, [], ◌∷◌, length, slice_index_or, Option, Some, None as Nothing}
use Rattle.std.specs.List.{Contains}
use Rattle.rv_calls.specs.{declared.graph.Walk.Walk, Graphs.Graph, Graphs.edges, Callings.LeadsTo}

-- for each vertex the number of another, or none
abbrev pub Marks : Type 0
Marks = List (Option ℕ)

abbrev pub mark_of : Marks → ℕ → Option ℕ
mark_of ms k = slice_index_or ms k Nothing

abbrev pub HasMark : Marks → ℕ → Type 0
HasMark ms k = (r : ℕ) × (mark_of ms k ≡ Some r)

-- Two vertices have the same mark exactly where each leads to the other.
pub record AreComponents (g : Graph) (parts : Marks) : Type 0 where
  pub size : length parts ≡ length g
  pub together : (a b : ℕ) → a < length g → b < length g → mark_of parts a ≡ mark_of parts b → LeadsTo g b a
  pub apart : (a b : ℕ) → a < length g → LeadsTo g b a → LeadsTo g a b → mark_of parts a ≡ mark_of parts b

-- some numbers are vertices
abbrev pub AreVertices : Graph → List ℕ → Type 0
AreVertices g vs = (i : ℕ) → i < length vs → slice_index_or vs i 0 < length g

-- what a search in depth keeps, whatever it finds
pub record IsDepth (g : Graph) (w : Walk) : Type 0 where
  pub entered : length w.entered ≡ length g
  pub finished : length w.finished ≡ length g
  pub cursor : length w.cursor ≡ length g
  pub path : AreVertices g w.path
  pub order : AreVertices g w.order

-- The edges of the vertices below a number, the other way round.
pub record IsReversedTo (g : Graph) (n : ℕ) (h : Graph) : Type 0 where
  pub size : length h ≡ length g
  pub back : (a b : ℕ) → Contains (edges h b) a → (a < length g) × Contains (edges g a) b
  pub whole : (a b : ℕ) → a < n → Contains (edges g a) b → Contains (edges h b) a

-- all edges the other way round
abbrev pub IsReversed : Graph → Graph → Type 0
IsReversed g h = IsReversedTo g (length g) h

-- Edges to a vertex are added, from each of some vertices.
pub record IsTurned (targets : List ℕ) (v : ℕ) (old new : Graph) : Type 0 where
  pub size : length new ≡ length old
  pub kept : (a b : ℕ) → Contains (edges old b) a → Contains (edges new b) a
  pub added : (b : ℕ) → Contains targets b → Contains (edges new b) v
  pub only : (a b : ℕ) → Contains (edges new b) a → Contains (edges old b) a ⊎ ((a ≡ v) × Contains targets b)

-- Those vertices get a vertex for their mark to which it leads over allowed ones.
pub record IsReached (g : Graph) (allowed : Marks) (wanted : Option ℕ) (from : ℕ) (old new : Marks) : Type 0 where
  pub size : length new ≡ length old
  pub start : mark_of new from ≡ Some from
  pub sound : (k : ℕ) → mark_of new k ≡ Some from → LeadsTo g k from
  pub within : (k : ℕ) → mark_of new k ≡ Some from → (k < length g) × (mark_of allowed k ≡ wanted)
  pub closed : (a b : ℕ) → mark_of new a ≡ Some from → Contains (edges g a) b → mark_of allowed b ≡ wanted → mark_of new b ≡ Some from
  pub kept : (k : ℕ) → (mark_of new k ≡ mark_of old k) ⊎ (mark_of new k ≡ Some from)

-- What holds on the way: what a marked vertex points to is marked where it is allowed, unless the vertex waits.
pub record IsSearch (g : Graph) (allowed : Marks) (wanted : Option ℕ) (from : ℕ) (old marks : Marks) (waiting : List ℕ) : Type 0 where
  pub size : length marks ≡ length old
  pub start : mark_of marks from ≡ Some from
  pub sound : (k : ℕ) → mark_of marks k ≡ Some from → LeadsTo g k from
  pub within : (k : ℕ) → mark_of marks k ≡ Some from → (k < length g) × (mark_of allowed k ≡ wanted)
  pub closed : (a b : ℕ) → mark_of marks a ≡ Some from → Contains (edges g a) b → mark_of allowed b ≡ wanted
      → (mark_of marks b ≡ Some from) ⊎ Contains waiting a
  pub kept : (k : ℕ) → (mark_of marks k ≡ mark_of old k) ⊎ (mark_of marks k ≡ Some from)
  pub waits : (k : ℕ) → Contains waiting k → mark_of marks k ≡ Some from

-- how many have another mark or none
abbrev pub unmarked : ℕ → Marks → ℕ
unmarked r [] = 0
unmarked r (Nothing ∷ ms) = unmarked r ms + 1
unmarked r (Some s ∷ ms) = cond (nat_eq s r) (unmarked r ms) (unmarked r ms + 1)

-- Some vertices are marked, if they are allowed, and those of them wait that were not marked before.
pub record IsSpread (allowed : Marks) (wanted : Option ℕ) (from : ℕ) (targets : List ℕ) (marks : Marks) (waiting : List ℕ) (new_marks : Marks)
    (new_waiting : List ℕ) : Type 0 where
  pub size : length new_marks ≡ length marks
  pub kept : (k : ℕ) → (mark_of new_marks k ≡ mark_of marks k) ⊎ (mark_of new_marks k ≡ Some from)
  pub marked : (k : ℕ) → Contains targets k → mark_of allowed k ≡ wanted → mark_of new_marks k ≡ Some from
  pub only : (k : ℕ) → mark_of new_marks k ≡ Some from
      → (mark_of marks k ≡ Some from) ⊎ (Contains targets k × Contains new_waiting k × (mark_of allowed k ≡ wanted))
  pub waits : (k : ℕ) → Contains waiting k → Contains new_waiting k
  pub waits_only : (k : ℕ) → Contains new_waiting k → Contains waiting k ⊎ (mark_of new_marks k ≡ Some from)
  pub count : unmarked from new_marks + length new_waiting ≡ unmarked from marks + length waiting

-- What holds once some roots have their components: a component is whole, and what a search for a root has marked bears
-- the number of a vertex with a component.
pub record IsParted (g : Graph) (seen parts : Marks) : Type 0 where
  pub seen_size : length seen ≡ length g
  pub size : length parts ≡ length g
  pub own : (k r : ℕ) → mark_of parts k ≡ Some r → LeadsTo g r k × LeadsTo g k r
  pub whole : (k m r : ℕ) → mark_of parts k ≡ Some r → LeadsTo g m k → LeadsTo g k m → mark_of parts m ≡ Some r
  pub fresh : (k r : ℕ) → mark_of seen k ≡ Some r → HasMark parts r
