-- What is read of the comparisons of a flat system, and of its tests.
use Rattle.std.specs.Prelude.{◌≡◌, ℕ, ◌+◌, ◌<◌, ◌^◌, true, not, List, [], ◌∷◌, ◌++◌, length, take, map, Option, Some, slice_get}
use Rattle.rv_base.specs.Limits.{heaviest}
use Rattle.rv_types.specs.Lists.{Side, Variable}
use Rattle.rv_tree.specs.Places.{Sites}
use Rattle.rv_rows.specs.{declared.linear.Row.Row, declared.linear.Form.Form, Arithmetic.form_difference, Forms.FormWithin}
use Rattle.rv_diagram.specs.{declared.Triple.Triple, Nodes.Valuation, Nodes.Diagrams, Nodes.IsRef, Nodes.value_of}
use Rattle.rv_diagram.specs.Growing.{Extends}
use Rattle.rv_agreement.specs.Trees.{FlatTree}
use Rattle.rv_agreement.specs.Valuations.{Reading, Linear, Comparison, IsSymbolic, read, side_form}
use Rattle.rv_flat.specs.{declared.flat.Flat.Flat, FlatInstants.system_of}
use Rattle.rv_control.specs.{Control.control_of, Control.row_among, Control.row_of, Named.named, Symbolic.symbolic}
use Rattle.rv_terms.specs.{declared.parted.Part.Part, declared.parted.Term.Term, Parts.form_at, Parts.part_at, Parts.AreRefs, Parts.AreDisjoint, Parts.Covers}
use Rattle.rv_bits.specs.Shown.{is_there_at}
use Rattle.rv_cases.specs.{Questions.rows_at, Conditions.list_at}
use Rattle.rv_forms.specs.Terms.{columns_of, IsWithin}
use Rattle.rv_tested.specs.{declared.compared.Compared.Compared, declared.testing.Sides.Sides, Compared.comparison_in, Exact.IsTestRead}

-- The parts are those of a term within the heaviest weight, which has the form of an expression wherever a clock is there.
pub record IsSideRead (f : Flat) (nodes : List Triple) (k : Option ℕ) (t : FlatTree) (parts : List Part) : Type 0 where
  pub within : IsWithin nodes (columns_of f) heaviest parts
  pub shows : (v : Valuation) (row : List (Option Reading)) → IsSymbolic (system_of f) (named f v) row → is_there_at f v row k ≡ true
      → read (system_of f) (named f v) row t ≡ Linear (form_at nodes parts v)

-- The reference is true exactly where the clock of a comparison is there, and the terms are those of its sides.
pub record AreSidesRead (f : Flat) (nodes : List Triple) (c : Comparison) (x : Sides) : Type 0 where
  pub there_ref : IsRef nodes x.there
  pub there : (v : Valuation) (row : List (Option Reading)) → IsSymbolic (system_of f) (named f v) row → value_of nodes x.there v ≡ is_there_at f v row c.clock
  pub left : IsSideRead f nodes c.clock c.left x.left.parts
  pub right : IsSideRead f nodes c.clock c.right x.right.parts

-- so of each of some comparisons
pub record AreAllRead (f : Flat) (nodes : List Triple) (cs : List Compared) (xs : List Sides) : Type 0 where
  pub many : length xs ≡ length cs
  pub each : (i : ℕ) (c : Compared) (x : Sides) → slice_get cs i ≡ Some c → slice_get xs i ≡ Some x → AreSidesRead f nodes (comparison_in f.memories c) x

-- The row of a test at a place, of the first of some comparisons there that is present.
abbrev pub row_in : Flat → List Comparison → Sites → Side → Valuation → Option Row
row_in f cs at side v = row_among (system_of f) (named f v) (symbolic (system_of f) (named f v)) cs at side

-- the row of a variable that is a test, of all comparisons
abbrev pub row_of_variable : Flat → Variable → Valuation → Option Row
row_of_variable f x v = row_of (system_of f) (named f v) (symbolic (system_of f) (named f v)) x

-- The parts are those of a term without empty parts, no number of which has a magnitude above 2^100; at each valuation it has this form.
pub record IsFormed (nodes : List Triple) (form : Valuation → Form) (parts : List Part) : Type 0 where
  pub refs : AreRefs nodes parts
  pub disjoint : AreDisjoint nodes parts
  pub covers : Covers nodes parts
  pub small : (i : ℕ) → i < length parts → FormWithin (2 ^ 100) (part_at parts i).form
  pub exact : (v : Valuation) → form_at nodes parts v ≡ form v

-- the difference of two terms
abbrev pub IsDifference : List Triple → List Triple → List Part → List Part → Term → Type 0
IsDifference old new first second t = IsFormed new (λ v. form_difference (form_at old first v) (form_at old second v)) t.parts

-- the form that the test of a side asks to be at most 0, of the terms of both sides
abbrev pub IsTestTerm : List Triple → List Triple → Side → List Part → List Part → List Part → Type 0
IsTestTerm old new side left right parts = IsFormed new (λ v. side_form side (form_at old left v) (form_at old right v)) parts

-- the first n comparisons
abbrev pub first_comparisons : Flat → List Compared → ℕ → List Comparison
first_comparisons f cs n = map (comparison_in f.memories) (take n cs)

-- The first questions, as many as are said, have the answers of the tests, in order.
pub record AreTestsRead (f : Flat) (nodes : List Triple) (n : ℕ) (questions : List (List ℕ)) (rows : List (List Row)) : Type 0 where
  pub many : length questions ≡ n
  pub many_rows : length rows ≡ n
  pub each : (t : ℕ) → t < n → IsTestRead (control_of f) nodes t (list_at questions t) (rows_at rows t)

-- The question of the observer has been added: whether it is true, and whether it is false.
pub record IsObserverAsked (old new : Diagrams) (observer : ℕ) (before after : List (List ℕ)) : Type 0 where
  pub extends : Extends old new
  pub negation : ℕ
  pub found : IsRef new.nodes negation
  pub means : (v : Valuation) → value_of new.nodes negation v ≡ not (value_of old.nodes observer v)
  pub asked : after ≡ before ++ (observer ∷ negation ∷ []) ∷ []
