-- A system whose allowed valuations are those that a claim takes, without integers.
use Rattle.std.specs.Prelude.{Bool}
use Rattle.rv_diagram.specs.Nodes.{Valuation}
use Rattle.rv_proofs.specs.Systems.{System}

-- The system with these allowed valuations, of whose integers nothing is left.
abbrev pub narrowed : System → (Valuation → Bool) → System
narrowed s open_at = record {
  states = s.states;
  variables = s.variables;
  memories = 0;
  columns = 0;
  tests = 0;
  initial = s.initial;
  allowed = open_at;
  row = s.row;
  update = s.update;
  observer = s.observer;
  next = s.next;
}
