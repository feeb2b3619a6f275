-- The tables by which the expressions of a program are read, once its names are known to be right.
use Rattle.std.specs.Prelude.{true}
use Rattle.rv_tree.specs.Tree.{ProgramTree}
use Rattle.rv_types.specs.ConstantTables.{AreTablesOf, AreNodeTablesOf}
use Rattle.rv_types.specs.{declared.reading.ProgramTables.ProgramTables, declared.reading.NodeTables.NodeTables, Tables.Tables}

-- These are the tables of a program.
pub record AreTables (p : ProgramTree) (t : ProgramTables) : Type 0 where
  pub globals : AreTablesOf p t.spaces.types t.types t.spaces.constants t.spaces.labels t.places
  pub nodes : AreNodeTablesOf p t.constant_kinds t.spaces.nodes t.signatures

-- the tables of a program and those of one of its nodes together
abbrev pub view_of : ProgramTables → NodeTables → Tables
view_of t n = record {
  flows = n.flows;
  flow_kinds = n.kinds;
  constants = t.spaces.constants;
  constant_kinds = t.constant_kinds;
  labels = t.spaces.labels;
  places = t.places;
  nodes = t.spaces.nodes;
  signatures = t.signatures;
  moves = true;
}
