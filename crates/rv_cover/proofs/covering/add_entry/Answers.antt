use Rattle.std.proofs.Common.{arith}
use Rattle.rv_cover.specs.Entries.{IsReadable}
use Rattle.rv_cover.proofs.Chaining.{ref_later, short_more}
use Rattle.rv_cover.proofs.covering.add_entry.Goals as goal

pub returns-in_ok-push-in-Some-clause-cover : goal.returns-in_ok-push-in-Some-clause-cover
returns-in_ok-push-in-Some-clause-cover c n is kind =
    let read : IsReadable c.args.frame.now c.in-Some.condition = rw c.in-Some.is at c.in_ok-condition.ensures in
    record {
      entries = short_more c.args.frame.now n c.args.cover.entries c.push.new.self c.in-Some.condition c.args.kind is.entries
          (omega (arith, c.len.ensures, c.if-len-ge-MOST.false)) read kind c.in_ok-push-in-Some.ensures.ok;
      left = ref_later c.without.new.store c.without-2.new.store c.in_ok-left.left c.without-2.ensures.extends c.in_ok-left.ensures.found;
      rest = c.in_ok-rest.ensures.found;
    }
