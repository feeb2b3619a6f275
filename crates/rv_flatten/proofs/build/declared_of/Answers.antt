use Rattle.std.proofs.Common.{◌≡◌, ◌≤◌, ◌∷◌, ◌++◌, map, length, sym, ◌∙◌, ap, subst, arith}
use Rattle.rv_tree.specs.{Bounded.most, Places.names, Tree.ProgramTree, Tree.NodeTree}
use Rattle.rv_types.specs.Lists.{MainTick, Tick, sites_of, with_copies, memory_variables, input_variables, test_variables, memory_columns, input_columns}
use Rattle.rv_types.specs.{Instances.node_of, Values.labels_at}
use Rattle.rv_flatten.specs.{Kept.kept_memory, Kept.found_comparison, Building.program_given, Building.main_given}
use Rattle.rv_flatten.proofs.Assembled.{taken_kinds, inputs_within, kinds_within, given_kinds, few_taken, first_given}
use Rattle.rv_flatten.proofs.FlowTotals.{some_instance}
use Rattle.rv_instances.proofs.LabelCodes.{few_labels}
use Rattle.rv_flatten.proofs.build.declared_of.Goals as goal

pub node-main-requires-clause-within : goal.node-main-requires-clause-within
node-main-requires-clause-within c = some_instance (program_given c.args.given.now) (main_given c.args.given.now) c.args.given.now.expanded.now.instances.now
    c.requires.given.known.expanded

pub at-requires : goal.at-requires
at-requires c = kinds_within (program_given c.args.given.now) (main_given c.args.given.now) c.args.given.now.expanded.now.instances.now
    c.requires.given.known.expanded c.args.given.now.kinds.now c.args.typed.now.main c.requires.given.kinds c.requires.main

pub inputs_of-requires : goal.inputs_of-requires
inputs_of-requires c =
    let g = c.args.given.now in
    let own = ap length (c.as_slice-kinds.ensures ∙ given_kinds g c.requires.given c.args.typed.now.main c.at.result.now c.requires.main c.at.ensures.value) in
    let inputs = ap length c.as_slice.ensures ∙ ap (λ (n : NodeTree). length n.inputs) (c.node-main.ensures ∙ first_given g c.requires.given) in
    omega (arith, own, inputs, inputs_within (program_given g) (node_of (program_given g) (main_given g)))

pub variables_of-requires-clause-few : goal.variables_of-requires-clause-few
variables_of-requires-clause-few c = λ k. subst (λ ts. labels_at ts k ≤ most) (sym c.as_slice-2.ensures)
    (few_labels (program_given c.args.given.now) c.requires.given.known.expanded.bounded k)

pub variables_of-requires-clause-few_inputs : goal.variables_of-requires-clause-few_inputs
variables_of-requires-clause-few_inputs c =
    let g = c.args.given.now in
    few_taken g c.requires.given c.len.result c.as_slice-kinds.result.now
    (c.len.ensures ∙ ap (λ (n : NodeTree). length n.inputs) (c.node-main.ensures ∙ first_given g c.requires.given))
    (c.as_slice-kinds.ensures ∙ given_kinds g c.requires.given c.args.typed.now.main c.at.result.now c.requires.main c.at.ensures.value)

pub columns_of-requires : goal.columns_of-requires
columns_of-requires c =
    let g = c.args.given.now in
    few_taken g c.requires.given c.len-2.result c.as_slice-kinds.result.now
    (c.len-2.ensures ∙ ap (λ (n : NodeTree). length n.inputs) (c.node-main.ensures ∙ first_given g c.requires.given))
    (c.as_slice-kinds.ensures ∙ given_kinds g c.requires.given c.args.typed.now.main c.at.result.now c.requires.main c.at.ensures.value)

pub returns-clause-names : goal.returns-clause-names
returns-clause-names c =
    c.in_ok-inputs.ensures.names
    ∙ ap names (c.as_slice.ensures ∙ ap (λ (n : NodeTree). n.inputs) (c.node-main.ensures ∙ first_given c.args.given.now c.requires.given))

pub returns-clause-kinds : goal.returns-clause-kinds
returns-clause-kinds c =
    let g = c.args.given.now in
    let p : ProgramTree = program_given g in
    let node : (c.node-main.result.now.inputs) ≡ (node_of p (main_given g)).inputs = ap (λ (n : NodeTree). n.inputs)
    (c.node-main.ensures ∙ first_given g c.requires.given) in
    c.in_ok-inputs.ensures.kinds ∙ taken_kinds p (node_of p (main_given g)) (length c.as_slice.result.now) c.as_slice-kinds.result.now
    (ap length c.as_slice.ensures ∙ ap length node)
    (c.as_slice-kinds.ensures ∙ given_kinds g c.requires.given c.args.typed.now.main c.at.result.now c.requires.main c.at.ensures.value)

pub returns-clause-ticks : goal.returns-clause-ticks
returns-clause-ticks c = c.in_ok-variables.ensures.ticks ∙ ap sites_of c.as_slice-3.ensures

pub returns-clause-variables : goal.returns-clause-variables
returns-clause-variables c =
    let g = c.args.given.now in
    let p : ProgramTree = program_given g in
    let n : NodeTree = node_of p (main_given g) in
    let node : (c.node-main.result.now.inputs) ≡ n.inputs = ap (λ (n : NodeTree). n.inputs) (c.node-main.ensures ∙ first_given g c.requires.given) in
    let own = c.as_slice-kinds.ensures ∙ given_kinds g c.requires.given c.args.typed.now.main c.at.result.now c.requires.main c.at.ensures.value in
    record {
      ticks = sites_of c.args.found.now.ticks;
      memories = map kept_memory c.args.found.now.kept;
      comparisons = map found_comparison c.args.found.now.comparisons;
      are_ticks = c.requires.found.ticks;
      are_memories = c.requires.found.kept.list;
      are_comparisons = c.requires.found.comparisons;
      list = c.in_ok-variables.ensures.list p (sym c.as_slice-2.ensures)
          ∙ (λ i. with_copies (MainTick ∷ map Tick (sites_of (c.as_slice-3.ensures i)) ++ memory_variables p (map kept_memory (c.as_slice-4.ensures i)))
          ++ (input_variables p 0 (taken_kinds p n c.len.result c.as_slice-kinds.result.now (c.len.ensures ∙ ap length node) own i)
          ++ test_variables (map found_comparison (c.as_slice-5.ensures i))));
    }

pub returns-clause-columns : goal.returns-clause-columns
returns-clause-columns c =
    let g = c.args.given.now in
    let p : ProgramTree = program_given g in
    let n : NodeTree = node_of p (main_given g) in
    let node : (c.node-main.result.now.inputs) ≡ n.inputs = ap (λ (n : NodeTree). n.inputs) (c.node-main.ensures ∙ first_given g c.requires.given) in
    let own = c.as_slice-kinds.ensures ∙ given_kinds g c.requires.given c.args.typed.now.main c.at.result.now c.requires.main c.at.ensures.value in
    record {
      memories = map kept_memory c.args.found.now.kept;
      are_memories = c.requires.found.kept.list;
      list = c.in_ok-columns.ensures
          ∙ (λ i. memory_columns (map kept_memory (c.as_slice-6.ensures i))
          ++ input_columns 0 (taken_kinds p n c.len-2.result c.as_slice-kinds.result.now (c.len-2.ensures ∙ ap length node) own i));
    }
