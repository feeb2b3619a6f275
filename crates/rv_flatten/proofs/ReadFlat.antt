-- A flat system that is read from its program, and has its names and lists, is one of that program.
use Rattle.std.proofs.Common.{◌≡◌, ◌<◌, [], length, map, slice_index_or, ◌∙◌, sym, subst}
use Rattle.rv_tree.specs.{Tree.ProgramTree, Places.Identifier, Places.names}
use Rattle.rv_types.specs.Instances.{node_of, IsFlow, IsNode}
use Rattle.rv_types.specs.{Lists.AreVariables, Lists.AreColumns, Variables.variable_count, WellFormed.AreWell}
use Rattle.rv_meaning.specs.{Runs.observer_place, Givers.AreDefined}
use Rattle.rv_instances.specs.Weights.{AreLight}
use Rattle.rv_agreement.specs.Translation.{IsTranslated}
use Rattle.rv_flat.specs.{declared.flat.Flat.Flat, Lists.variable_of, Lists.column_of, FlatInstants.places, FlatInstants.system_of, FlatOf.numbers_of}
use Rattle.rv_flat.specs.{FlatOf.IsFlatOf, Inlined.IsTable, Thresholds.AreThresholds}
use Rattle.rv_flatten.specs.{Kinded.IsKinded, Readings.IsRead, Readings.AreKinds}
use Rattle.rv_flatten.proofs.ReadInstants.{flow_count, instant_read, row_read, next_read, assertions_read}
use Rattle.rv_flatten.proofs.SymbolicRead.{system_read, symbolic_there, symbolic_back, comparison_there, comparison_only}
use Rattle.rv_flatten.proofs.{AgreedLaws.Laws, KindedParts.are_kinded, NamedParts.keeps_products, OnePlace.one_raw, ReadChecks.is_checked}
use Rattle.rv_flatten.proofs.{ReadChecks.is_inlined, Translated.AreAlike, Translated.is_translated}
use Rattle.rv_flat.proofs.{Inlining.is_table, PlaceNumbers.row_again, Running.within_places}

module _ (laws : Laws) (program : ProgramTree) (main : Identifier) (well : AreWell program) (named : IsNode program main) (weights : AreLight program main)
    (defined : AreDefined program main) (f : Flat) where
  -- what a flat system has of its program beside the readings of its expressions
  pub record HasParts : Type 0 where
    pub name : f.main ≡ main
    pub inputs : map (λ i. i.name) f.inputs ≡ names (node_of program main).inputs
    pub variables : AreVariables program main (map variable_of f.variables)
    pub counted : length f.variables ≡ variable_count program main
    pub columns : AreColumns program main (map column_of f.columns)
    pub observer : slice_index_or (places f) f.observer [] ≡ observer_place program main
    pub thresholds : AreThresholds program f.thresholds

  module _ (read : IsRead program main f.flows f.memories f.inputs f.variables f.assertions) (types : AreKinds program main f.flows f.inputs f.labels) where
    table : IsTable f.memories
    table = is_table f.memories f.ends

    alike : AreAlike program main (numbers_of f)
    alike = one_raw program main well named (numbers_of f)

    translated : IsTranslated program main (numbers_of f) (system_of f)
    translated = is_translated program main f.flows f.memories f.inputs f.variables f.assertions read table alike f.labels f.observer

    kinded : IsKinded program main (numbers_of f) (system_of f)
    kinded = are_kinded f.flows f.memories f.inputs f.assertions f.variables f.labels f.observer program main types

    within : (has : HasParts) → f.observer < length (places f)
    within has = within_places (places f) f.observer (length (node_of program main).inputs) has.observer

    pub is_flat_of : HasParts → IsFlatOf program main f
    is_flat_of has = record {
      name = has.name;
      inputs = has.inputs;
      input_kinds = types.input;
      memories = read.list;
      variables = has.variables;
      counted = has.counted;
      columns = has.columns;
      sequence = read.sequence;
      kinds = types.flow;
      observer = has.observer;
      labels = types.label;
      thresholds = has.thresholds;
      instants = λ state inputs instant is. instant_read laws program main well named weights f read table alike state inputs instant is;
      rows = λ state inputs row is. row_read laws program main well named weights f read table alike state inputs defined row is;
      kept = λ row many. row_again (places f) row read.sequence.once (many ∙ sym (flow_count laws program main well named weights f read table alike));
      next = λ state next inputs instant is is_next. next_read laws program main well named weights f read table alike state inputs instant is next is_next;
      assertions = λ state inputs instant q is. assertions_read laws program main well named weights f read table alike state inputs instant is q;
      system =
          system_read laws program main well named defined f.flows f.memories f.inputs f.variables f.assertions f.labels f.observer read types translated
          (laws.well (system_of f) (is_checked program main (numbers_of f) (system_of f) translated well named kinded f.observed)
          (is_inlined program main (numbers_of f) (system_of f) translated))
          (subst (IsFlow program main) has.observer (read.sequence.only f.observer (within has))) (within has) has.observer;
      products = keeps_products program main well named weights;
      symbolic = λ v cells is none. symbolic_there laws program main well named defined f.flows f.memories f.inputs f.variables f.assertions f.labels f.observer
          read types translated v cells is none;
      symbolic_rows = λ v row is. symbolic_back laws program main well named defined f.flows f.memories f.inputs f.variables f.assertions f.labels f.observer
          read types translated v row is;
      compares = λ c is. comparison_there laws program main well named defined f.flows f.memories f.inputs f.variables f.assertions f.labels f.observer read
          types translated c is;
      compares_only = λ d w. comparison_only laws program main well named defined f.flows f.memories f.inputs f.variables f.assertions f.labels f.observer read
          types translated d w;
    }
