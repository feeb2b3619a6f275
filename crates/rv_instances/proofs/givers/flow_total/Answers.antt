use Rattle.std.proofs.Common.{◌≡◌, suc, ◌+◌, ◌-◌, ◌<◌, length, sym, ◌∙◌, ap, arith}
use Rattle.rv_instances.specs.{Expanded.program_of, Expanded.main_of, Flowing.flow_count, Layouts.flows_before}
use Rattle.rv_instances.proofs.{CallsHere.first_read, ExpandedLaws.main_at, LaidFlows.laid_size, LaidFlows.places_size}
use Rattle.rv_instances.proofs.givers.flow_total.Goals as goal

pub overflow_sub-last : goal.overflow_sub-last
overflow_sub-last c =
    let x = c.args.expanded.now in
    omega (arith, (main_at (program_of x) (main_of x) x.instances.now c.requires.known.expanded).0, c.len-last.ensures)

pub at-requires : goal.at-requires
at-requires c =
    let x = c.args.expanded.now in
    let all = ap length c.requires.layout.laid ∙ laid_size (program_of x) x.instances.now (length x.instances.now) in
    omega (arith, (main_at (program_of x) (main_of x) x.instances.now c.requires.known.expanded).0, c.len-last.ensures, all)

pub returns : goal.returns
returns c =
    let x = c.args.expanded.now in let p = program_of x in let ins = x.instances.now in
    let last = c.len-last.result - 1 in
    let some = (main_at p (main_of x) ins c.requires.known.expanded).0 in
    let size = c.len-last.ensures in
    let within : last < length ins = omega (arith, some, size) in
    let next : suc last ≡ length ins = omega (arith, some, size) in
    let first = first_read p ins c.args.layout.now.laid last c.at.result.now within c.requires.layout.laid c.at.ensures.value in
    let count = c.count.ensures.count in
    let all = ap (flows_before (flow_count p ins)) next ∙ sym (places_size p ins) in
    (λ t. first t + count t) ∙ all
