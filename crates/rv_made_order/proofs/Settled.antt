-- A made program meets every rule of names, types and clocks.
use Rattle.std.proofs.Common.{ℕ, ◌^◌, ◌<◌, [], map, refl}
use Rattle.std.specs.Prelude.{codes}
use Rattle.rv_types.specs.{declared.typed.Typed.Typed, Kinds.flow_kinds, Clocks.flow_clocks, Settled.IsSettled}
use Rattle.rv_make.specs.Chains.{Offsets, chain_program}
use Rattle.rv_made_order.proofs.{Named.named, Kinded.typed, Paced.clocked}

-- the types and clocks of all flows; there are no constants
abbrev pub typed_of : Offsets → ℕ → Typed
typed_of o n = record {
  main = 1;
  kinds = map (flow_kinds (chain_program o n)) (chain_program o n).nodes;
  clocks = map flow_clocks (chain_program o n).nodes;
  constants = [];
}

pub settled : (o : Offsets) (n : ℕ) → n < 2 ^ 64 → IsSettled (chain_program o n) (codes "main") (typed_of o n)
settled o n few = record {
  has_main = refl;
  names = named o n few;
  types = typed o n few;
  clocks = clocked o n;
  observer = refl;
  main_number = refl;
  flow_types = refl;
  flow_times = refl;
  values = refl;
}
