use Rattle.std.proofs.Common.{◌∙◌, ap, arith, List, count_by}
use Rattle.rv_types.specs.Variables.{is_integer}
use Rattle.rv_flat.specs.declared.parts.FlatMemory.{FlatMemory}
use Rattle.rv_invariant.specs.Shapes.{is_next, is_test}
use Rattle.rv_invariant.proofs.Counting.{few-memories, shape-is}
use Rattle.rv_invariant.proofs.counts.shape_of.Goals as goal

pub overflow_cast-result-3 : goal.overflow_cast-result-3
overflow_cast-result-3 c =
    let e = c.count_memories-memories.ensures ∙ ap (λ (ms : List FlatMemory). count_by (λ (m : FlatMemory). is_integer m.kind) ms) c.as_slice-2.ensures in
    let few = few-memories c.args.flat.now in
    omega (arith, e, few)

pub returns : goal.returns
returns c =
    shape-is c.args.flat.now c.count_states-states.result c.len-variables.result c.count_memories-memories.result c.count_tests-tests.result
    (c.count_states-states.ensures ∙ ap (count_by is_next) c.as_slice.ensures) c.len-variables.ensures
    (c.count_memories-memories.ensures ∙ ap (λ (ms : List FlatMemory). count_by (λ (m : FlatMemory). is_integer m.kind) ms) c.as_slice-2.ensures)
    (c.count_tests-tests.ensures ∙ ap (count_by is_test) c.as_slice-3.ensures)
