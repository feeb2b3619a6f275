use Rattle.std.proofs.Common.{◌≡◌, ◌≤◌, true, [], ◌∷◌, length, get_or, sym, ◌∙◌, ap, subst}
use Rattle.rv_tree.specs.{Places.index_of, Places.is_same, Tree.ProgramTree, Tree.NodeTree}
use Rattle.rv_types.specs.{Instances.node_of, Lists.sites_of}
use Rattle.rv_flat.specs.{Facts.all_few, Facts.integers, Facts.numbers_among, Lists.tick_places, Systems.places_of}
use Rattle.rv_flatten.specs.Building.{program_given, main_given, numbers_of}
use Rattle.rv_flatten.proofs.Assembled.{first_given, is_named, is_read, are_kinds, main_number, observer_there, observer_kind, observer_within, all_ticks_known}
use Rattle.rv_flatten.proofs.Assembled.{same_flows}
use Rattle.rv_flatten.proofs.CountedVariables.{few_integers, few_variables, few_labels as few_label_lists}
use Rattle.rv_flatten.proofs.ReadKeeps.{ends, flows_are, memories_are, assertions_are, clocks_are, ticks_are_apart, memories_are_apart, comparisons_are_apart}
use Rattle.rv_flatten.proofs.ReadKeeps.{flows_are_light, memories_are_light, assertions_are_light}
use Rattle.rv_flatten.proofs.{FlowTotals.some_instance, AgreedLaws.Laws, ReadFlat.is_flat_of, VariableCount.counted_variables}
use Rattle.rv_types.proofs.Members.{text_itself}
use Rattle.rv_instances.proofs.ExpandedLaws.{node_in}
use Rattle.rv_flatten.proofs.build.flat_by.Goals as goal

pub node-main-requires-clause-within : goal.node-main-requires-clause-within
node-main-requires-clause-within c = some_instance (program_given c.args.given.now) (main_given c.args.given.now) c.args.given.now.expanded.now.instances.now
    c.requires.given.known.expanded

pub invariant_of-result : goal.invariant_of-result
invariant_of-result c =
    let g = c.args.given.now in let d = c.args.found.now in let p : ProgramTree = program_given g in
    let main = main_given g in let given = c.requires.given in let known = given.known.expanded in
    let instances = g.expanded.now.instances.now in
    let node : (c.node-main.result.now.inputs) ≡ (node_of p main).inputs = ap (λ (n : NodeTree). n.inputs) (c.node-main.ensures ∙ first_given g given) in
    let fl = c.in_ok-parts.parts.flows in let ms = c.in_ok-parts.parts.memories in let is = c.in_ok-declared.declared.inputs in
    let vs = c.in_ok-declared.declared.variables in let as_ = c.in_ok-parts.parts.assertions in let ls = c.in_ok-told.told.labels in
    let made = c.in_ok-parts.ensures in let observer = c.number_at-observer.result in let kinds = c.in_ok-declared.ensures.kinds in
    let ticks : tick_places vs ≡ sites_of d.ticks = c.in_ok-declared.ensures.ticks in
    let labels = c.in_ok-told.ensures.labels in
    let read = is_read g d given c.requires.found fl ms is vs as_ made.flows made.memories made.assertions kinds ticks in
    let types = are_kinds g d given c.requires.found fl ms is vs as_ made.flows made.memories made.assertions kinds ticks ls labels in
    let named = is_named p main instances known in let many = ap length node in
    let number : observer ≡ index_of (sites_of g.sequence.now) (length (node_of p main).inputs ∷ []) =
    c.number_at-observer.ensures ∙ ap (λ k. get_or d.numbering.flows k 0) (c.len.ensures ∙ many)
    ∙ main_number p main instances known c.instance_numbers.ensures g.layout.now given.layout (numbers_of g d) d.numbering
    c.requires.found.numbering (length (node_of p main).inputs) (observer_within p main instances known c.requires.observer) in
    let light = given.light in
    let flows = same_flows g d given c.requires.found fl ms is vs as_ made.flows made.memories made.assertions kinds ticks in
    let tick_flows : c.in_ok-told.told.tick_flows ≡ numbers_among (places_of fl) (tick_places vs) =
    c.in_ok-told.ensures.tick_flows ∙ c.requires.found.tick_flows ∙ (λ i. numbers_among (sym flows i) (sym ticks i)) in
    record {
      ends = ends p main known.well named light fl ms is vs as_ ls observer read types;
      flows_fit = flows_are p main known.well named light fl ms is vs as_ ls observer read types;
      memories_fit = memories_are p main known.well named light fl ms is vs as_ ls observer read types;
      assertions_fit = assertions_are p main known.well named light fl ms is vs as_ ls observer read types;
      observed = observer_kind g d given c.requires.found fl ms is vs as_ made.flows made.memories made.assertions kinds ticks c.requires.observer observer
          number;
      ticks = all_ticks_known p main instances known (places_of fl) (tick_places vs) read.sequence read.ticks;
      tick_numbers = subst (λ l. is_same l (numbers_among (places_of fl) (tick_places vs)) ≡ true) (sym tick_flows)
          (text_itself (numbers_among (places_of fl) (tick_places vs)));
      tick_clocks = clocks_are p main known.well named light fl ms is vs as_ ls observer read types;
      ticks_apart = ticks_are_apart p main known.well named light fl ms is vs as_ ls observer read types;
      memories_apart = memories_are_apart p main known.well named light fl ms is vs as_ ls observer read types;
      comparisons_apart = ∣ comparisons_are_apart p main known.well named light fl ms is vs as_ ls observer read types ∣₁;
      flows_light = flows_are_light p main known.well named light fl ms is vs as_ ls observer read types;
      memories_light = memories_are_light p main known.well named light fl ms is vs as_ ls observer read types;
      assertions_light = assertions_are_light p main known.well named light fl ms is vs as_ ls observer read types;
      few_variables = few_variables p main c.requires.counted.all vs c.in_ok-declared.ensures.variables c.requires.limits.variables;
      few_memories = few_integers p main c.requires.counted.all ms read.list c.requires.limits.memories;
      few_inputs = subst (λ ks. integers ks ≤ 64) (sym kinds) c.requires.limits.inputs;
      few_labels = subst (λ l. all_few 256 l ≡ true) (sym labels) (few_label_lists p.types c.requires.limits.labels);
      few_expressions = c.requires.few;
    }

pub returns-clause-flat : goal.returns-clause-flat
returns-clause-flat c =
    let g = c.args.given.now in let d = c.args.found.now in let p : ProgramTree = program_given g in
    let main = main_given g in let given = c.requires.given in let known = given.known.expanded in
    let instances = g.expanded.now.instances.now in
    let node : (c.node-main.result.now.inputs) ≡ (node_of p main).inputs = ap (λ (n : NodeTree). n.inputs) (c.node-main.ensures ∙ first_given g given) in
    let fl = c.in_ok-parts.parts.flows in let ms = c.in_ok-parts.parts.memories in let is = c.in_ok-declared.declared.inputs in
    let vs = c.in_ok-declared.declared.variables in let as_ = c.in_ok-parts.parts.assertions in let ls = c.in_ok-told.told.labels in
    let made = c.in_ok-parts.ensures in let observer = c.number_at-observer.result in let kinds = c.in_ok-declared.ensures.kinds in
    let ticks : tick_places vs ≡ sites_of d.ticks = c.in_ok-declared.ensures.ticks in
    let labels = c.in_ok-told.ensures.labels in
    let read = is_read g d given c.requires.found fl ms is vs as_ made.flows made.memories made.assertions kinds ticks in
    let types = are_kinds g d given c.requires.found fl ms is vs as_ made.flows made.memories made.assertions kinds ticks ls labels in
    let named = is_named p main instances known in let many = ap length node in
    let number : observer ≡ index_of (sites_of g.sequence.now) (length (node_of p main).inputs ∷ []) =
    c.number_at-observer.ensures ∙ ap (λ k. get_or d.numbering.flows k 0) (c.len.ensures ∙ many)
    ∙ main_number p main instances known c.instance_numbers.ensures g.layout.now given.layout (numbers_of g d) d.numbering
    c.requires.found.numbering (length (node_of p main).inputs) (observer_within p main instances known c.requires.observer) in
    let laws : Laws = record {
      whole = c.translated_expressions.ensures.whole;
      meaning = c.one_meaning.ensures;
      instants = c.translated_systems.ensures.instants;
      rows = c.translated_systems.ensures.rows;
      comparisons = c.translated_systems.ensures.comparisons;
      only = c.translated_systems.ensures.only;
      well = c.checked_is_well.ensures;
    } in
    is_flat_of laws p main known.well named given.light (c.defined_flows.ensures p main known.well named) _ read types (record {
      name = c.in_ok-told.ensures.name;
      inputs = c.in_ok-declared.ensures.names;
      variables = c.in_ok-declared.ensures.variables;
      counted = counted_variables p main known.sited known.well.numbered (node_in p main instances known) c.requires.counted.all
          c.requires.counted.only vs c.in_ok-declared.ensures.variables;
      columns = c.in_ok-declared.ensures.columns;
      observer = observer_there g d given c.requires.found fl ms is vs as_ made.flows made.memories made.assertions kinds ticks c.requires.observer observer
          number;
      thresholds = c.in_ok-told.ensures.thresholds;
    })
