-- Reports of what is left.
use Rattle.std.specs.Prelude.{◌≡◌, ◌↔◌, ℕ, ◌*◌, ◌<◌, List, [], length, slice_index}
use Rattle.rv_diagram.specs.{Nodes.Valuation, declared.frozen.Frozen.Frozen}
use Rattle.rv_proofs.specs.{Systems.System, Scopes.IsIn, Accepted.IsAccepted, Left.IsLeftReport, declared.report.LeftReport.LeftReport}
use Rattle.rv_split.specs.{declared.partition.Partition.Partition, Partitions.IsPartition, Partitions.IsInSome}

-- the state variables in rising order
pub record IsStateList (s : System) (state : List ℕ) : Type 0 where
  pub size : length state ≡ s.states
  pub each : (i : ℕ) → i < s.states → slice_index state i ≡ 2 * i

-- A partition of a set of control states of a system, of at most so many parts.
pub record IsParted (s : System) (limit : ℕ) (reached : Frozen) (p : Partition) : Type 0 where
  pub partition : IsPartition s.variables p
  pub state : IsStateList s p.state
  pub limit_is : p.limit ≡ limit
  pub union : (v : Valuation) → IsInSome p.parts v ↔ IsIn reached v

-- The certificate is accepted where nothing is left, and otherwise the report is one of a left partition.
pub record IsRight (s : System) (limit : ℕ) (r : LeftReport) : Type 0 where
  pub accepted : r.left ≡ [] → IsAccepted s r.partition
  pub left_over : ¬ (r.left ≡ []) → IsLeftReport s limit r
