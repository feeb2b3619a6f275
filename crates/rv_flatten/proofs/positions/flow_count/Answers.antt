use Rattle.std.proofs.Common.{◌-◌, ◌<◌, ◌^◌, length, sym, ◌∙◌, ap, arith, subst}
use Rattle.rv_instances.specs.Expanded.{program_of, main_of}
use Rattle.rv_instances.proofs.LaidFlows.{laid_size}
use Rattle.rv_flatten.proofs.FlowTotals.{some_instance, few_flows, last_end}
use Rattle.rv_flatten.proofs.positions.flow_count.Goals as goal

pub overflow_sub-last : goal.overflow_sub-last
overflow_sub-last c =
    let x = c.args.expanded.now in
    omega (arith, some_instance (program_of x) (main_of x) x.instances.now c.requires.known.expanded, c.len-last.ensures)

pub at-requires : goal.at-requires
at-requires c =
    let x = c.args.expanded.now in
    let laid = ap length c.requires.layout.laid ∙ laid_size (program_of x) x.instances.now (length x.instances.now) in
    omega (arith, some_instance (program_of x) (main_of x) x.instances.now c.requires.known.expanded, c.len-last.ensures, laid)

pub returns-clause-count : goal.returns-clause-count
returns-clause-count c =
    let x = c.args.expanded.now in
    let some = some_instance (program_of x) (main_of x) x.instances.now c.requires.known.expanded in
    let size = c.len-last.ensures in
    last_end (program_of x) (main_of x) x.instances.now c.requires.known.expanded c.args.layout.now.laid (c.len-last.result - 1) c.at.result.now c.count.result
    (omega (arith, some, size)) c.requires.layout.laid c.at.ensures.value c.count.ensures.count

pub returns-clause-few : goal.returns-clause-few
returns-clause-few c =
    let x = c.args.expanded.now in
    subst (λ n. n < 2 ^ 32) (sym (returns-clause-count c)) (few_flows (program_of x) (main_of x) x.instances.now c.requires.known.expanded)
