-- The columns of memories and inputs, and the updates among the memories.
use Rattle.std.specs.Prelude.{◌≡◌, ℕ, ◌+◌, ◌<◌, pos, Bool, true, false, List, ◌∷◌, ◌++◌, [], length}
use Rattle.rv_tree.specs.declared.tree.Op.{Op}
use Rattle.rv_tree.specs.declared.tree.Op.TheVariants as op
use Rattle.rv_types.specs.declared.typed.Kind.{Kind}
use Rattle.rv_types.specs.declared.typed.Kind.TheVariants as kind
use Rattle.rv_rows.specs.{declared.linear.Form.Form, Arithmetic.constant_form, Arithmetic.column_form, Arithmetic.form_sum, Arithmetic.form_difference}
use Rattle.rv_diagram.specs.{declared.Triple.Triple, Nodes.Diagrams}
use Rattle.rv_diagram.specs.Growing.{Extends}
use Rattle.rv_terms.specs.{declared.parted.Term.Term, Parts.IsTermOf}
use Rattle.rv_agreement.specs.{Trees.kind_at, Trees.memory_kinds, Valuations.rank}
use Rattle.rv_flat.specs.{declared.flat.Flat.Flat, FlatInstants.system_of}
use Rattle.rv_forms.specs.Terms.{parts_at, IsAfterAs}

-- the form of what is of a type: a column of an integer, the constant 0 of anything else
abbrev pub kind_form : ℕ → Kind → ℕ → Form
kind_form columns kind.Bool k = constant_form columns (pos 0)
kind_form columns kind.Int k = column_form columns k
kind_form columns (kind.Labels i) k = constant_form columns (pos 0)

-- The terms are those of what is of these types, one for each, where the first integer has this column, and the next ones the next.
pub record AreColumnTerms (columns start : ℕ) (kinds : List Kind) (terms : List Term) : Type 0 where
  pub many : length terms ≡ length kinds
  pub each : (m : ℕ) → m < length kinds → (nodes : List Triple)
      → IsTermOf nodes columns (λ v. kind_form columns (kind_at kinds m) (start + rank kinds m)) (parts_at terms m)

-- whether an operator gives an integer
abbrev pub gives_whole : Op → Bool
gives_whole op.Plus = true
gives_whole op.Minus = true
gives_whole _ = false

-- what an operator makes of two forms: their difference, else their sum
abbrev pub combined_form : Op → Form → Form → Form
combined_form op.Minus f g = form_difference f g
combined_form _ f g = form_sum f g

-- The term of a memory has been added to those of earlier ones, where it is one of integers.
abbrev pub IsAdded : Flat → List Triple → ℕ → Kind → List Term → List Term → Type 0
IsAdded f nodes m kind.Int before after = (t : Term) × (after ≡ before ++ t ∷ []) × IsAfterAs f nodes m t.parts
IsAdded f nodes m _ before after = after ≡ before

-- The terms are those of the integers among the first memories, as many as are said, in order.
pub record AreUpdatesTo (f : Flat) (old new : Diagrams) (m : ℕ) (terms : List Term) : Type 0 where
  pub extends : Extends old new
  pub many : length terms ≡ rank (memory_kinds (system_of f)) m
  pub each : (k : ℕ) → k < length terms → (i : ℕ) × (i < m) × (kind_at (memory_kinds (system_of f)) i ≡ kind.Int)
      × (rank (memory_kinds (system_of f)) i ≡ k) × IsAfterAs f new.nodes i (parts_at terms k)
