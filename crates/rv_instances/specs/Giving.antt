-- What is told of the flows of instances while they are gone through.
use Rattle.std.specs.Prelude.{◌≡◌, ℕ, ◌+◌, ◌⊎◌, Bool, true, false, List, length, Option, Some, slice_index_or, None as Nothing}
use Rattle.rv_tree.specs.Tree.{Tree, Node, Call, Trees, EquationTree, ProgramTree}
use Rattle.rv_tree.specs.{declared.tree.Equation.Equation, declared.tree.Expr.Expr, Places.Identifier, Places.site_of}
use Rattle.rv_types.specs.{declared.typed.Clock.Clock, Needs.Giver, Needs.Gives}
use Rattle.rv_instances.specs.{declared.answer.Instance.Instance as Numbered, declared.givers.Giver.Giver as Told, declared.givers.Giver.TheVariants.Input}
use Rattle.rv_instances.specs.{declared.givers.Giver.TheVariants.Body, declared.givers.Giver.TheVariants.Output, Flowing.place_at, Flowing.flow_count}
use Rattle.rv_instances.specs.{Layouts.node_at, Layouts.flows_before, Layouts.all_places, Givers.StandsFor}

-- Of some flows it is told what gives them their value.
pub record AreGiven (p : ProgramTree) (main : Identifier) (instances : List Numbered) (found : List (Option Told)) : Type 0 where
  pub size : length found ≡ length (all_places p instances)
  pub sound : (k : ℕ) (g : Told) → slice_index_or found k Nothing ≡ Some g
      → (f : Giver) × Gives p main (place_at (all_places p instances) k) f × StandsFor p instances g f

-- it is told of the flow with a number
abbrev pub IsGiven : List (Option Told) → ℕ → Type 0
IsGiven found k = (g : Told) × (slice_index_or found k Nothing ≡ Some g)

-- what was told stays so
abbrev pub KeepsGiven : List (Option Told) → List (Option Told) → Type 0
KeepsGiven old new = (k : ℕ) → IsGiven old k → IsGiven new k

-- an equation gives its left sides their values: it has one, or its right side is a call
abbrev pub IsGiving : EquationTree → Type 0
IsGiving q = (length q.lefts ≡ 1) ⊎ ((at site : ℕ) × (f : Identifier) × (args : Trees) × (q.right ≡ Node at (Some site) (Call f args)))

-- the number of the first flow of an instance
abbrev pub first_of : ProgramTree → List Numbered → ℕ → ℕ
first_of p instances m = flows_before (flow_count p instances) m

-- and that of its flow of a name
abbrev pub number_at : ProgramTree → List Numbered → ℕ → Identifier → ℕ
number_at p instances m x = first_of p instances m + site_of (node_at p instances m) x

-- a call with a site
abbrev pub has_call : Tree → Bool
has_call (Node at (Some site) (Call f args)) = true
has_call _ = false

-- what is told is an expression of an instance on a clock
abbrev pub IsBodyOf : ℕ → Clock → Expr → Told → Type 0
IsBodyOf m k e (Input n) = ⊥
IsBodyOf m k e (Body b) = (b.instance ≡ m) × (b.clock ≡ k) × (b.body.now ≡ e)
IsBodyOf m k e (Output o) = ⊥

-- What is told is the right side of an equation, or the output of the call there with a number, where it has several
-- left sides.
abbrev pub IsRightOf : ℕ → Clock → Equation → ℕ → Told → Type 0
IsRightOf m k q j (Input n) = ⊥
IsRightOf m k q j (Body b) = (length q.lefts ≡ 1) × (b.instance ≡ m) × (b.clock ≡ k) × (b.body.now ≡ q.right)
IsRightOf m k q j (Output o) = (length q.lefts ≡ 1 → ⊥) × (o.instance ≡ m) × (o.clock ≡ k) × (o.call.now ≡ q.right) × (o.output ≡ j)
