use Rattle.std.proofs.{Common.◌≡◌, Common.◌∙◌, Common.sym, Common.subst, lemmas.Option.same_Some}
use Rattle.rv_proofs.specs.declared.certificate.Location.{Location}
use Rattle.rv_accept.specs.Passing.{AreAsked}
use Rattle.rv_accept.proofs.Ranged.{needed_list}
use Rattle.rv_accept.proofs.naming.mark_memories.Goals as goal

pub returns-in-Go : goal.returns-in-Go
returns-in-Go c = let (s, size, asked) = c.requires in
    let d = rw c.in-Go.is at asked in
    let same : d.0 ≡ c.at-into.result.now = same_Some d.0 c.at-into.result.now (sym d.1 ∙ c.at-into.ensures.value) in
    let a = subst (λ (l : Location). AreAsked s c.args.location.now.state l.entry c.in-Go.reach) same d.2 in
    rw (c.in-Go.is, c.at-into.ensures.value)
    (needed_list c.args.flags.now c.mark_rows.new.flags c.args.location.now.state c.at-into.result.now.entry c.in-Go.reach a.counts c.mark_rows.ensures)
