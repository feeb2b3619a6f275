use Rattle.std.proofs.Common.{◌≡◌, true, length, sym, subst}
use Rattle.rv_diagram.specs.Nodes.{IsRef, value_of}
use Rattle.rv_diagram.proofs.Growing.{extends_trans}
use Rattle.rv_symbolic.specs.{declared.relation.Parts.Parts, Growing.Finds}
use Rattle.rv_boxes.specs.{Layering.ArePartsWith, Narrowed.narrowed}
use Rattle.rv_boxes.proofs.Relating.{parts_refs, parts_narrowed}
use Rattle.rv_open.specs.{Columns.is_counted, Given.HoldOfTests}
use Rattle.rv_open.proofs.{Carried.counted_system, Carried.parts_counted, Rest.open_counted}
use Rattle.rv_open.proofs.counting.counted.Goals as goal

pub open_in-requires-clause-from : goal.open_in-requires-clause-from
open_in-requires-clause-from c =
    let (s, given) = c.requires in
    let r = given.relation in
    let out = r.laid_out in
    let refs = out.refs in
    subst (λ (x : Parts). IsRef c.args.store.now.nodes x.allowed) (sym c.parts-given.ensures) refs.allowed

pub open_in-requires-clause-questions : goal.open_in-requires-clause-questions
open_in-requires-clause-questions c = let (s, given) = c.requires in (s, given.questions)

pub new-requires : goal.new-requires
new-requires c =
    let (s, given) = c.requires in
    let r = given.relation in
    let out = r.laid_out in
    let left = c.in_ok-kept.ensures.left in
    let refs = c.relation_stays.ensures.refs c.args.store.now c.open_in.new.store c.args.relation.now.parts c.open_in.ensures.extends out.refs in
    let w : ArePartsWith c.args.relation.now.parts c.in_ok-kept.kept c.in_ok-parts.parts = subst
    (λ (x : Parts). ArePartsWith x c.in_ok-kept.kept c.in_ok-parts.parts) c.parts-given.ensures c.in_ok-parts.ensures in
    parts_refs c.open_in.new.store c.args.relation.now.parts c.in_ok-parts.parts c.in_ok-kept.kept refs left.found w

pub returns-clause-extends : goal.returns-clause-extends
returns-clause-extends c = extends_trans c.args.store.now c.open_in.new.store c.new.new.store c.open_in.ensures.extends c.new.ensures.extends

pub returns-clause-counted : goal.returns-clause-counted
returns-clause-counted c s given =
    let r = given.relation in
    let p = r.parts in
    let out = r.laid_out in
    let left : Finds c.args.store.now c.open_in.new.store (λ v. (value_of c.args.store.now.nodes c.args.relation.now.parts.allowed v ≡ true)
    × HoldOfTests c.args.store.now.nodes c.args.questions.now (length c.args.questions.now.rows) v) c.in_ok-kept.kept =
    subst (λ (x : Parts). Finds c.args.store.now c.open_in.new.store (λ v. (value_of c.args.store.now.nodes x.allowed v ≡ true)
    × HoldOfTests c.args.store.now.nodes c.args.questions.now (length c.args.questions.now.rows) v) c.in_ok-kept.kept) c.parts-given.ensures
    c.in_ok-kept.ensures.left in
    let parts = c.relation_stays.ensures.parts s c.args.store.now c.open_in.new.store c.args.relation.now.parts c.open_in.ensures.extends out.refs p in
    let w : ArePartsWith c.args.relation.now.parts c.in_ok-kept.kept c.in_ok-parts.parts = subst
    (λ (x : Parts). ArePartsWith x c.in_ok-kept.kept c.in_ok-parts.parts) c.parts-given.ensures c.in_ok-parts.ensures in
    let means = open_counted s c.args.store.now c.args.questions.now given.questions given.columns c.open_in.new.store
    c.args.relation.now.parts.allowed c.in_ok-kept.kept p.allowed left in
    c.new.ensures.means (narrowed s (is_counted s)) (counted_system s r.system)
    (parts_counted s c.open_in.new.store c.in_ok-parts.parts (value_of c.open_in.new.store.nodes c.in_ok-kept.kept) means
    (parts_narrowed s c.open_in.new.store c.args.relation.now.parts c.in_ok-parts.parts c.in_ok-kept.kept parts w))
