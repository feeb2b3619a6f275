-- Locations that steps lead into.
use Rattle.std.specs.Prelude.{◌≡◌, List, true}
use Rattle.rv_diagram.specs.{declared.Triple.Triple, Nodes.IsRef, Nodes.Valuation, Nodes.value_of}
use Rattle.rv_proofs.specs.{Systems.System, Ranges.AreKept}
use Rattle.rv_cover.specs.declared.several.Target.{Target}

-- Where a step may lead into the location is a reference of the store, and the rows that it has to prove are those of a document.
pub record IsTarget (s : System) (nodes : List Triple) (t : Target) : Type 0 where
  pub into : IsRef nodes t.into
  pub wanted : AreKept s t.wanted

-- A step may lead into the location at a valuation.
abbrev pub LeadsInto : List Triple → Valuation → Target → Type 0
LeadsInto nodes v t = value_of nodes t.into v ≡ true
