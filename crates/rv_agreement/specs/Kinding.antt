-- What has a type at a valuation.
use Rattle.std.specs.Prelude.{ℕ, ◌<◌, List, slice_index_or}
use Rattle.rv_types.specs.declared.typed.Kind.{Kind}
use Rattle.rv_types.specs.declared.typed.Kind.TheVariants as kind
use Rattle.rv_agreement.specs.Valuations.{Reading, Truth, Name, Linear}

-- a reading is of a type: a truth value, a form, a label
abbrev pub ReadsAs : List ℕ → Kind → Reading → Type 0
ReadsAs labels kind.Bool (Truth b) = Unit {0}
ReadsAs labels kind.Int (Linear f) = Unit {0}
ReadsAs labels (kind.Labels i) (Name l) = l < slice_index_or labels i 0
ReadsAs labels _ _ = ⊥
