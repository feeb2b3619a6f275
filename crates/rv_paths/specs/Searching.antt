-- The tree of a search, and the cases that it follows.
use Rattle.std.specs.Prelude.{◌≡◌, ℕ, zero, suc, List, [], ◌∷◌, Some, All, slice_get}
use Rattle.rv_diagram.specs.{Nodes.Diagrams, declared.frozen.Frozen.Frozen}
use Rattle.rv_proofs.specs.{Systems.System, Ranges.IsControlSet, Cases.IsCase, declared.report.Case.Case}
use Rattle.rv_symbolic.specs.{declared.relation.Relation.Relation, Represented.IsRelationOf}
use Rattle.rv_paths.specs.{declared.tree.Plan.Plan, declared.tree.Node.Node}

-- Each is a case that may be handed in.
abbrev pub AreUsable : System → List Case → Type 0
AreUsable s cases = (j : ℕ) (c : Case) → slice_get cases j ≡ Some c → IsCase s c

-- The cases of the plan may be handed in.
pub record IsPlanOf (s : System) (p : Plan) : Type 0 where
  pub first : AreUsable s p.first
  pub others : AreUsable s p.others

-- The control states of each node are a control set.
abbrev pub AreNodes : System → List Node → Type 0
AreNodes s nodes = All (λ n. IsControlSet s n.control) nodes

-- One node, with these control states.
pub record IsFirstTree (first : Frozen) (nodes : List Node) : Type 0 where
  pub node : Node
  pub one : nodes ≡ node ∷ []
  pub control : node.control ≡ first

-- the cases that lead on from a node: from the first one those of the initial control states
abbrev pub cases_of : Plan → ℕ → List Case
cases_of p zero = p.first
cases_of p (suc n) = p.others

-- The relation is that of the system in the store, and the plan and the nodes belong to the system.
pub record IsSetting (s : System) (d : Diagrams) (r : Relation) (p : Plan) (made : List Node) : Type 0 where
  pub relation : IsRelationOf s d r
  pub plan : IsPlanOf s p
  pub nodes : AreNodes s made
