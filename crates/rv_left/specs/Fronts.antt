-- Sets of control states that grow until they are closed.
use Rattle.std.specs.Prelude.{◌≡◌, ◌⊎◌, Bool, true, false}
use Rattle.rv_diagram.specs.{Nodes.Valuation, declared.frozen.Frozen.Frozen}
use Rattle.rv_proofs.specs.{Systems.System, Ranges.IsControlSet, Reached.IsControlClosed}
use Rattle.rv_walk.specs.Ends.{has}

-- A set of control states and what of it is new: all holds the initial ones, and the next one of each allowed valuation whose control state is
-- in it and is not new.
pub record IsFront (s : System) (fresh all : Frozen) : Type 0 where
  pub fresh_control : IsControlSet s fresh
  pub all_control : IsControlSet s all
  pub initial : (v : Valuation) → s.initial v ≡ true → has all v ≡ true
  pub inside : (v : Valuation) → s.allowed v ≡ true → has all v ≡ true → (has fresh v ≡ true) ⊎ (has all (s.next v) ≡ true)

-- The set holds the initial control states, and with the control state of each allowed valuation the next one.
pub record IsClosedSet (s : System) (set : Frozen) : Type 0 where
  pub control : IsControlSet s set
  pub closed : IsControlClosed s (has set)

-- there is something new, or the set is closed
abbrev pub IsReaching : System → Bool → Frozen → Frozen → Type 0
IsReaching s true fresh all = IsFront s fresh all
IsReaching s false fresh all = IsClosedSet s all
