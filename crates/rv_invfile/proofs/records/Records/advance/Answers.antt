use Rattle.std.proofs.Common.{◌+◌, ◌<◌, length, arith, sym, ap, ◌∙◌, subst}
use Rattle.rv_invfile.specs.{Ahead.after_one, Readers.Ahead}
use Rattle.rv_invfile.proofs.Taking.{kept, took, stands, goes-on}
use Rattle.rv_invfile.proofs.records.Records.advance.Goals as goal

pub invariant_of-self : goal.invariant_of-self
invariant_of-self c =
    let there = stands c.self.inside.here c.self.inside.row c.self.inside.reader c.self.inside.taken
    (subst (λ (s : Ahead). 0 < length s.rest) (sym c.self.view_is) c.requires) c.self.invariant in
    let i = there.0 in
    kept c.in-Ok.here c.self.inside.reader c.read_byte_record.new.self i.bytes.0 c.read_byte_record.new.row (c.self.inside.taken + 1) i.config i.bytes.1 i.trim
    i.flexible c.in-Ok.ensures.flexible (c.in-Ok.ensures.reads i.trim i.ready) (c.in-Ok.ensures.ready i.trim) (omega (arith, i.few))

pub returns-in-Ok-clause-ok : goal.returns-in-Ok-clause-ok
returns-in-Ok-clause-ok c =
    let there = stands c.self.inside.here c.self.inside.row c.self.inside.reader c.self.inside.taken
    (subst (λ (s : Ahead). 0 < length s.rest) (sym c.self.view_is) c.requires) c.self.invariant in
    let i = there.0 in
    goes-on c.self.inside.here c.in-Ok.here c.self.inside.row c.read_byte_record.new.row c.self.inside.reader c.read_byte_record.new.self
    c.self.inside.taken there.1
    (took c.in-Ok.here c.self.inside.reader c.read_byte_record.new.self i.bytes.0 c.read_byte_record.new.row i.config i.bytes.1.0
    (c.in-Ok.ensures.reads i.trim i.ready))
    ∙ ap after_one c.self.view_is
