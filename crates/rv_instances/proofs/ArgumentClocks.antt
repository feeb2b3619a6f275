-- The clocks of the arguments of calls are flows of their node.
use Rattle.std.proofs.Common.{◌≡◌, ℕ, []}
use Rattle.std.specs.List.{Contains}
use Rattle.rv_tree.specs.Tree.{NodeTree, ProgramTree}
use Rattle.rv_types.specs.Names.{is_declared, node_names, is_value, name_faults}
use Rattle.rv_types.specs.{declared.typed.Clock.Clock, declared.typed.Clock.TheVariants.Base, declared.fault.Pace.Pace, declared.fault.Pace.TheVariants.At}
use Rattle.rv_types.specs.{Clocks.clock_at, Clocks.pace_of_all, Instances.CallTree, Instances.calls, Instances.taken, Instances.clock_of_args}
use Rattle.rv_instances.specs.Flowing.{IsKnownClock, IsKnownPace}
use Rattle.rv_instances.proofs.{Known.uses_of, ClockFlows.all_known, ClockFlows.clocks_known, CallsInside.call_known}

-- what a known pace takes of a known clock
pub taken_known : (n : NodeTree) (k : Clock) (p : Pace) → IsKnownClock n k → IsKnownPace n p → IsKnownClock n (taken k p)
taken_known n k (At c) h v = v
taken_known n k _ h v = h

module _ (p : ProgramTree) (named : name_faults p ≡ []) (n : NodeTree) (there : Contains p.nodes n) where
  -- the clock of each flow is known
  pub flow_clock_known : (i : ℕ) → IsKnownClock n (clock_at n i)
  flow_clock_known i = clocks_known n (uses_of p named n there).0 i

  -- and of the arguments of a call
  pub arguments_clock_known : (c : CallTree) → Contains (calls n) c → IsKnownClock n (clock_of_args n c.args)
  arguments_clock_known c w =
      taken_known n Base (pace_of_all n c.args) tt (all_known n (is_value p n) (is_declared (node_names p)) flow_clock_known c.args
      (call_known p named n there c w))
