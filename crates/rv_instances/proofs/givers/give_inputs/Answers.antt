use Rattle.std.proofs.Common.{◌<◌, length, ap, arith, below_more}
use Rattle.rv_tree.specs.Tree.{NodeTree}
use Rattle.rv_types.specs.Instances.{main_instance, is_main}
use Rattle.rv_instances.specs.{Expanded.program_of, Expanded.main_of, Giving.IsGiven, Layouts.node_at}
use Rattle.rv_instances.proofs.{ExpandedLaws.main_at, ExpandedLaws.node_is, GivenFlows.input_placed, GivenFlows.input_few, GivenFlows.input_more}
use Rattle.rv_instances.proofs.givers.give_inputs.Goals as goal

pub node-requires-clause-within : goal.node-requires-clause-within
node-requires-clause-within c = let x = c.args.expanded.now in (main_at (program_of x) (main_of x) x.instances.now c.requires.known.expanded).0

pub overflow_cast-input : goal.overflow_cast-input
overflow_cast-input c =
    let x = c.args.expanded.now in
    let lt : c.loop-input.input < length (node_at (program_of x) x.instances.now 0).inputs = omega arith in
    omega (arith, input_few (program_of x) (main_of x) x.instances.now c.requires.known.expanded c.loop-input.input lt)

pub set-requires : goal.set-requires
set-requires c =
    let x = c.args.expanded.now in
    let lt : c.loop-input.input < length (node_at (program_of x) x.instances.now 0).inputs = omega arith in
    let size = c.loop-input.invariant.given.size in
    omega (arith, (input_placed (program_of x) (main_of x) x.instances.now c.requires.known.expanded c.loop-input.input lt).0, size)

pub loop-input-preserved : goal.loop-input-preserved
loop-input-preserved c =
    let x = c.args.expanded.now in
    let lt : c.loop-input.input < length (node_at (program_of x) x.instances.now 0).inputs = omega arith in
    let more = input_more (program_of x) (main_of x) x.instances.now c.requires.known.expanded c.loop-input.input lt c.loop-input.found c.set.new.self
    c.loop-input.invariant.given c.set.ensures in
    record {
      given = more.given;
      inputs = below_more (IsGiven c.set.new.self) c.loop-input.input (λ j less. more.kept j (c.loop-input.invariant.inputs j less)) more.told;
      end = c.loop-input.invariant.end;
    }

pub returns-clause-inputs : goal.returns-clause-inputs
returns-clause-inputs c j lt =
    let x = c.args.expanded.now in
    let root = node_is (program_of x) (main_of x) x.instances.now c.requires.known.expanded 0 (main_instance (program_of x) (main_of x)) is_main
    (main_at (program_of x) (main_of x) x.instances.now c.requires.known.expanded).1 in
    let all = ap (λ (n : NodeTree). length n.inputs) root in
    c.loop-input.invariant.inputs j (omega (arith, lt, all, c.loop-input.invariant.end, c.loop-input-test.false))
