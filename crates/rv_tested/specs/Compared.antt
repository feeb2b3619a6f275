-- The comparisons of a flat system, as the code has them.
use Rattle.std.specs.Prelude.{◌≡◌, ℕ, ◌<◌, true, List, length, Some, slice_get}
use Rattle.rv_types.specs.declared.typed.Kind.TheVariants as kind
use Rattle.rv_types.specs.Lists.{sides_of}
use Rattle.rv_agreement.specs.{Agreement.Fits, Agreement.IsNamed, Valuations.Comparison}
use Rattle.rv_flat.specs.{declared.parts.FlatMemory.FlatMemory, declared.flat.Flat.Flat, Facts.is_light, FlatInstants.system_of, Inlined.tree_among}
use Rattle.rv_forms.specs.Terms.{weights_of}
use Rattle.rv_tested.specs.declared.compared.Compared.{Compared}

-- the comparison that stands there, among these memories
abbrev pub comparison_in : List FlatMemory → Compared → Comparison
comparison_in memories c = record {
  at = c.at.now.sites;
  clock = c.clock;
  operator = c.operator;
  left = tree_among memories c.left.now;
  right = tree_among memories c.right.now;
}

-- The operands of a comparison are integers on its clock, over all flows, and none of their parts is above the heaviest weight.
pub record IsInside (f : Flat) (c : Comparison) : Type 0 where
  pub named : IsNamed (length (system_of f).flows) c.clock
  pub left : Fits (system_of f) (length (system_of f).flows) c.clock kind.Int c.left
  pub right : Fits (system_of f) (length (system_of f).flows) c.clock kind.Int c.right
  pub left_light : is_light (weights_of f) c.left ≡ true
  pub right_light : is_light (weights_of f) c.right ≡ true
  pub some : 0 < length (sides_of c.operator)

-- so of all of some comparisons
abbrev pub AreInside : Flat → List Compared → Type 0
AreInside f cs = (i : ℕ) (c : Compared) → slice_get cs i ≡ Some c → IsInside f (comparison_in f.memories c)
