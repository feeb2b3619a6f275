use Rattle.std.proofs.Common.{◌≡◌, ℕ, ◌+◌, length, set, Some, ◌∙◌, ap, arith, below_more, unwrap_or}
use Rattle.rv_instances.specs.{Expanded.program_of, Expanded.main_of, Giving.IsGiven, Giving.first_of, Layouts.callee_or_main}
use Rattle.rv_instances.proofs.GivenFlows.{set_given, callee_there, argument_placed, argument_stands}
use Rattle.rv_instances.proofs.{CallsHere.first_read, LaidFlows.laid_size}
use Rattle.rv_instances.proofs.givers.give_call.Goals as goal

pub at-requires : goal.at-requires
at-requires c =
    let x = c.args.expanded.now in
    let size = ap length c.requires.layout.laid ∙ laid_size (program_of x) x.instances.now (length x.instances.now) in
    let lt = callee_there (program_of x) (main_of x) x.instances.now c.requires.known.expanded c.args.layout.now.callees c.requires.layout.callees
    c.args.instance c.requires.within c.args.call.now c.requires.call in
    let is = c.unwrap_or-callee.ensures ∙ ap (λ o. unwrap_or o 0) c.callee.ensures in
    omega (arith, size, lt, is)

pub set-requires : goal.set-requires
set-requires c =
    let x = c.args.expanded.now in let ins = x.instances.now in let table = c.args.layout.now.callees in
    let m = c.args.instance in let j = c.loop-number.number in
    let is : c.unwrap_or-callee.result ≡ callee_or_main table m c.args.call.now.site = c.unwrap_or-callee.ensures ∙ ap (λ o. unwrap_or o 0) c.callee.ensures in
    let lt = callee_there (program_of x) (main_of x) ins c.requires.known.expanded table c.requires.layout.callees m c.requires.within c.args.call.now
    c.requires.call in
    let first = first_read (program_of x) ins c.args.layout.now.laid c.unwrap_or-callee.result c.at.result.now
    (omega (arith, is, lt)) c.requires.layout.laid c.at.ensures.value ∙ ap (first_of (program_of x) ins) is in
    let placed = (argument_placed (program_of x) (main_of x) ins c.requires.known.expanded table c.requires.layout.callees m c.requires.within c.args.call.now
    c.requires.call j c.index-arguments-number.result c.loop-number-test.true c.index-arguments-number.is).0 in
    omega (arith, first, placed, c.loop-number.invariant.given.size)

pub loop-number-preserved : goal.loop-number-preserved
loop-number-preserved c =
    let x = c.args.expanded.now in let ins = x.instances.now in let table = c.args.layout.now.callees in
    let m = c.args.instance in let j = c.loop-number.number in let g = c.body_of-giver.result in
    let is : c.unwrap_or-callee.result ≡ callee_or_main table m c.args.call.now.site = c.unwrap_or-callee.ensures ∙ ap (λ o. unwrap_or o 0) c.callee.ensures in
    let lt = callee_there (program_of x) (main_of x) ins c.requires.known.expanded table c.requires.layout.callees m c.requires.within c.args.call.now
    c.requires.call in
    let first = first_read (program_of x) ins c.args.layout.now.laid c.unwrap_or-callee.result c.at.result.now
    (omega (arith, is, lt)) c.requires.layout.laid c.at.ensures.value ∙ ap (first_of (program_of x) ins) is in
    let placed = (argument_placed (program_of x) (main_of x) ins c.requires.known.expanded table c.requires.layout.callees m c.requires.within c.args.call.now
    c.requires.call j c.index-arguments-number.result c.loop-number-test.true c.index-arguments-number.is).0 in
    let f = argument_stands (program_of x) (main_of x) ins c.requires.known.expanded table c.requires.layout.callees m c.requires.within c.args.call.now
    c.requires.call j c.index-arguments-number.result c.loop-number-test.true c.index-arguments-number.is g c.body_of-giver.ensures in
    let more = set_given (program_of x) (main_of x) ins c.loop-number.found c.set.new.self
    (first_of (program_of x) ins (callee_or_main table m c.args.call.now.site) + j) g f.0 c.loop-number.invariant.given
    (c.set.ensures ∙ ap (λ k. set c.loop-number.found (k + j) (Some g)) first) placed f.1 f.2 in
    record {
      given = more.given;
      kept = λ k v. more.kept k (c.loop-number.invariant.kept k v);
      arguments = below_more (λ (n : ℕ). IsGiven c.set.new.self (first_of (program_of x) ins (callee_or_main table m c.args.call.now.site) + n)) j
          (λ n less. more.kept _ (c.loop-number.invariant.arguments n less)) more.told;
      end = c.loop-number.invariant.end;
    }
