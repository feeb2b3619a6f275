-- The weights of the flows of all instances by their numbers.
use Rattle.std.specs.Prelude.{◌≡◌, ℕ, ◌+◌, ◌^◌, ◌<◌, min, List, length, map, unwrap_or, slice_index_or}
use Rattle.rv_tree.specs.{Tree.Tree, Tree.Node, Tree.ProgramTree, Tree.tree_of, Places.Identifier, Places.Sites, Places.site_of}
use Rattle.rv_types.specs.{Needs.IsSequence, Scopes.is_fixed, ValueTables.NamedTables, ValueTables.value_by}
use Rattle.rv_base.specs.Limits.{too_heavy}
use Rattle.rv_instances.specs.{declared.answer.Instance.Instance as Numbered, declared.givers.Giver.Giver as Told, declared.givers.Giver.TheVariants.Input}
use Rattle.rv_instances.specs.{declared.givers.Giver.TheVariants.Body, declared.givers.Giver.TheVariants.Output, declared.layout.Layout.Layout}
use Rattle.rv_instances.specs.{Flowing.place_at, Layouts.here_of, Layouts.node_at, Layouts.all_places, Weights.AreWeights}
use Rattle.rv_sequence.specs.Weighing.{Weighing, fixing, weight_in}

-- what the tables say of the instance with a number
abbrev pub weighing_at : ProgramTree → List Numbered → NamedTables → Layout → List ℕ → ℕ → Weighing
weighing_at p instances values l weights m = record {
  scope = fixing (is_fixed (node_at p instances m));
  known = value_by values;
  flow = λ x. slice_index_or weights ((here_of l m).offset + site_of (node_at p instances m) x) 0;
  output = λ site. slice_index_or weights ((here_of l m).output site) 0;
}

-- the site of an expression, 0 where it has none
abbrev pub site_in : Tree → ℕ
site_in (Node at site form) = unwrap_or site 0

-- the weight that a giver gives by the tables
abbrev pub told_weight : ProgramTree → List Numbered → NamedTables → Layout → List ℕ → Told → ℕ
told_weight p instances values l weights (Input j) = 1
told_weight p instances values l weights (Body b) = weight_in (weighing_at p instances values l weights b.instance) (tree_of b.body.now)
told_weight p instances values l weights (Output o) = slice_index_or weights ((here_of l o.instance).output (site_in (tree_of o.call.now)) + o.output) 0

-- the instance of an expression is one of so many, and the number of an output has 32 bits
abbrev pub IsToldWithin : ℕ → Told → Type 0
IsToldWithin n (Input j) = Unit {0}
IsToldWithin n (Body b) = b.instance < n
IsToldWithin n (Output o) = o.output < 2 ^ 32

-- The numbers of all flows in a sequence.
pub record IsNumbered (p : ProgramTree) (main : Identifier) (instances : List Numbered) (sequence : List ℕ) : Type 0 where
  pub within : (j : ℕ) → j < length sequence → slice_index_or sequence j 0 < length (all_places p instances)
  pub ordered : IsSequence p main (map (place_at (all_places p instances)) sequence)

-- a weight, where any above 2^40 counts as 2^40 + 1
abbrev pub counted_weight : ℕ → ℕ
counted_weight weight = min weight too_heavy

-- Each flow has its weight.
pub record AreFlowWeights (p : ProgramTree) (main : Identifier) (instances : List Numbered) (weights : List ℕ) : Type 0 where
  pub size : length weights ≡ length (all_places p instances)
  pub each : (flows : Sites → ℕ) (k : ℕ) → AreWeights p main flows → k < length weights
      → counted_weight (slice_index_or weights k 0) ≡ counted_weight (flows (place_at (all_places p instances) k))

-- The first flows of a sequence have their weights.
pub record AreFirstWeights (p : ProgramTree) (main : Identifier) (instances : List Numbered) (sequence : List ℕ) (done : ℕ) (weights : List ℕ) : Type 0 where
  pub size : length weights ≡ length (all_places p instances)
  pub each : (flows : Sites → ℕ) (j : ℕ) → AreWeights p main flows → j < done
      → counted_weight (slice_index_or weights (slice_index_or sequence j 0) 0) ≡ counted_weight
      (flows (place_at (all_places p instances) (slice_index_or sequence j 0)))
