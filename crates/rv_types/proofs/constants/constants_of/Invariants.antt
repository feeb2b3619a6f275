use Rattle.std.proofs.Common.{◌≡◌, map, take, reverse}
use Rattle.rv_tree.specs.Tree.{constant_tree, program_tree}
use Rattle.rv_types.specs.Scopes.{constant_kinds_of, constant_values_of, constant_types}
use Rattle.rv_types.specs.{Earliest.first, ValueTables.known_in, ValueTables.AreSmall}
use Rattle.rv_types.proofs.constants.constants_of.Given as goal

abbrev pub invariant-loop-c : goal.invariant-loop-c
invariant-loop-c l =
    let before = reverse (take l.c-index (map constant_tree l.constants)) in
    record {
      kinds : l.found.kinds ≡ constant_kinds_of (program_tree l.p) before;
      values : l.found.values ≡ constant_values_of (program_tree l.p) before;
      fault : l.found.fault ≡ first (constant_types (program_tree l.p) before);
      small : AreSmall (known_in l.globals.constants.now l.found.values l.globals.labels.now l.globals.places.now);
    }
