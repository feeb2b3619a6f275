use Rattle.std.proofs.{Common.◌≡◌, Common.◌<◌, Common.◌&&◌, Common.◌∙◌, Common.[], Common.length, Common.subst, Common.arith, lemmas.List.get_or_default}
use Rattle.rv_diagram.specs.{declared.store.several.Part.Part, Nodes.Answers, Nodes.value_of, Several.part_at}
use Rattle.rv_symbolic.proofs.Wording.{met_more}
use Rattle.rv_symbolic.proofs.words.met.Goals as goal

pub loop-part-preserved : goal.loop-part-preserved
loop-part-preserved c =
    let within : c.loop-part.part-index < length c.args.links.now = omega arith in
    let item : c.part-item.result ≡ part_at c.args.links.now c.loop-part.part-index = c.part-item.is
    ∙ get_or_default c.args.links.now c.loop-part.part-index c.part-item.result (record { relation = 0; over = [] }) within in
    met_more c.args.store.now c.loop-part.store c.and.new.self c.args.set c.loop-part.whole c.in_ok-whole.whole c.loop-part.part-index
    c.args.links.now within c.requires.links c.loop-part.invariant
    (subst (λ (p : Part). Answers c.loop-part.store c.and.new.self (λ v. value_of c.loop-part.store.nodes c.loop-part.whole v
    && value_of c.loop-part.store.nodes p.relation v) c.in_ok-whole.whole) item c.in_ok-whole.ensures.ok)
