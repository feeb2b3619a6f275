-- Which states are predecessors of those of an abstract value by a case.
use Rattle.std.specs.Prelude.{◌≡◌, ℤ, List, ◌++◌, length}
use Rattle.rv_diagram.specs.Nodes.{Valuation}
use Rattle.rv_rows.specs.Forms.{values}
use Rattle.rv_poly.specs.Points.{HasPoint}
use Rattle.rv_proofs.specs.{Systems.System, Systems.HasSameState, Systems.Agrees, Systems.updates_of, Scopes.IsIn, declared.report.Case.Case}
use Rattle.rv_state.specs.declared.value.Abstract.{Abstract}

-- The state of valuation w and the point is a predecessor of one of the value's states by the case: a valuation of the case with that control
-- state leads into the control set, and the point, which together with some whole inputs agrees with that valuation, becomes a point of the
-- rows by its updates.
pub record IsPredecessor (s : System) (a : Abstract) (c : Case) (w : Valuation) (point : List ℤ) : Type 0 where
  pub valuation : Valuation
  pub inputs : List ℤ
  pub same : HasSameState s valuation w
  pub inside : IsIn c.condition valuation
  pub leads : IsIn a.control (s.next valuation)
  pub size : length point ≡ s.memories
  pub agrees : Agrees s valuation (point ++ inputs)
  pub after : HasPoint a.poly.rows (values (updates_of s valuation) (point ++ inputs))
