use Rattle.std.proofs.Common.{◌≡◌, ◌+◌, ◌++◌, length, length-append, arith}
use Rattle.rv_proofs.specs.Scopes.{each, before, after}
use Rattle.rv_accept.proofs.Ranged.{named_list, named_both, there_of}
use Rattle.rv_accept.proofs.naming.mark_turn_tests.Goals as goal

pub mark_all_weights-requires : goal.mark_all_weights-requires
mark_all_weights-requires c = there_of (length c.args.location.now.entry + length c.args.flags.now)
    (c.len.result + length c.args.flags.now) c.args.first.now (omega (arith, c.len.ensures)) c.requires.first

pub mark_all_weights-requires-2 : goal.mark_all_weights-requires-2
mark_all_weights-requires-2 c = there_of (length c.args.location.now.first + length c.args.flags.now)
    (c.len-2.result + length c.mark_all_weights.new.flags) c.args.before_all.now
    (omega (arith, c.len-2.ensures, c.mark_all_weights.ensures.size)) c.requires.before_all

pub mark_all_weights-requires-3 : goal.mark_all_weights-requires-3
mark_all_weights-requires-3 c = there_of (length c.args.location.now.around + length c.args.location.now.state + length c.args.flags.now)
    (c.len-3.result + c.len-4.result + length c.mark_all_weights-2.new.flags)
    c.args.around.now (omega (arith, c.len-3.ensures, c.len-4.ensures, c.mark_all_weights.ensures.size, c.mark_all_weights-2.ensures.size)) c.requires.around

pub mark_all_weights-requires-4 : goal.mark_all_weights-requires-4
mark_all_weights-requires-4 c = there_of (length c.args.location.now.around + length c.args.location.now.state + length c.args.flags.now)
    (c.len-3.result + c.len-4.result + length c.mark_all_weights-3.new.flags)
    c.args.state.now
    (omega (
      arith,
      c.len-3.ensures,
      c.len-4.ensures,
      c.mark_all_weights.ensures.size,
      c.mark_all_weights-2.ensures.size,
      c.mark_all_weights-3.ensures.size,
    )) c.requires.state

pub returns : goal.returns
returns c =
    let both = c.args.location.now.around ++ c.args.location.now.state in
    let given : c.len-3.result + c.len-4.result ≡ length both = omega
    (arith, length-append c.args.location.now.around c.args.location.now.state, c.len-3.ensures, c.len-4.ensures) in
    let one = each after c.args.location.now.entry c.args.location.now.first c.args.first.now in
    let two = each before c.args.location.now.first c.args.location.now.around c.args.before_all.now in
    let three = each after both c.args.location.now.around c.args.around.now in
    let four = each after both c.args.location.now.state c.args.state.now in
    named_both one (two ++ (three ++ four)) c.args.flags.now c.mark_all_weights.new.flags c.mark_all_weights-4.new.flags
    (named_list c.args.flags.now c.mark_all_weights.new.flags after c.args.location.now.entry c.args.location.now.first c.args.first.now c.len.result
    c.len.ensures c.requires.many_first c.mark_all_weights.ensures)
    (named_both two (three ++ four) c.mark_all_weights.new.flags c.mark_all_weights-2.new.flags c.mark_all_weights-4.new.flags
    (named_list c.mark_all_weights.new.flags c.mark_all_weights-2.new.flags before c.args.location.now.first c.args.location.now.around
    c.args.before_all.now c.len-2.result c.len-2.ensures
    c.requires.many_before c.mark_all_weights-2.ensures)
    (named_both three four c.mark_all_weights-2.new.flags c.mark_all_weights-3.new.flags c.mark_all_weights-4.new.flags
    (named_list c.mark_all_weights-2.new.flags c.mark_all_weights-3.new.flags after both c.args.location.now.around c.args.around.now
    (c.len-3.result + c.len-4.result) given
    c.requires.many_around c.mark_all_weights-3.ensures)
    (named_list c.mark_all_weights-3.new.flags c.mark_all_weights-4.new.flags after both c.args.location.now.state c.args.state.now
    (c.len-3.result + c.len-4.result) given
    c.requires.many_state c.mark_all_weights-4.ensures)))
