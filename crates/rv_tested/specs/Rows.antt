-- Rows of a test in the making, each under a reference.
use Rattle.std.specs.Prelude.{◌≡◌, ◌↔◌, ℕ, ◌+◌, ◌<◌, Bool, true, cond, List, length, Option, Some, is_none, None as Nothing}
use Rattle.rv_diagram.specs.{declared.Triple.Triple, Nodes.Valuation, Several.ref_at}
use Rattle.rv_rows.specs.{declared.linear.Row.Row, Rows.row_at}
use Rattle.rv_cases.specs.Conditions.{is_in, AreRefs}
use Rattle.rv_tested.specs.declared.rows.Answered.{Answered}

-- There is one reference more than rows, and each is one of the list of nodes.
pub record IsLaid (nodes : List Triple) (a : Answered) : Type 0 where
  pub size : length a.refs ≡ length a.rows + 1
  pub found : AreRefs nodes a.refs

-- Row i stands under reference i + 1, which is true exactly where f has it. Each row that f has somewhere stands there, and none twice.
pub record HasRows (nodes : List Triple) (f : Valuation → Option Row) (a : Answered) : Type 0 where
  pub exact : (i : ℕ) → i < length a.rows → (v : Valuation) → (is_in nodes a.refs (i + 1) v ≡ true) ↔ (f v ≡ Some (row_at a.rows i))
  pub covers : (v : Valuation) (r : Row) → f v ≡ Some r → (i : ℕ) × (i < length a.rows) × (row_at a.rows i ≡ r)
  pub different : (i j : ℕ) → i < length a.rows → j < length a.rows → row_at a.rows i ≡ row_at a.rows j → i ≡ j

-- Where q is true, and there was no row yet, the rows of g have been put; the first reference is as before.
pub record IsPut (old new : List Triple) (q : Valuation → Bool) (g : Valuation → Row) (before after : Answered) : Type 0 where
  pub laid : IsLaid new after
  pub first : ref_at after.refs 0 ≡ ref_at before.refs 0
  pub rows : (f : Valuation → Option Row) → HasRows old f before → ((v : Valuation) → q v ≡ true → f v ≡ Nothing)
      → HasRows new (λ v. cond (q v) (Some (g v)) (f v)) after

-- the first, or the second where there is none
abbrev pub first_of : Option Row → Option Row → Option Row
first_of Nothing b = b
first_of (Some r) b = Some r

-- The answers are those of f: the first reference is true exactly where it has no row.
pub record IsAnswered (nodes : List Triple) (f : Valuation → Option Row) (a : Answered) : Type 0 where
  pub laid : IsLaid nodes a
  pub absent : (v : Valuation) → is_in nodes a.refs 0 v ≡ is_none (f v)
  pub rows : HasRows nodes f a
