use Rattle.std.proofs.{Common.◌∙◌, Common.rules, Common.None as Nothing, lemmas.Option.get_or_from_slice_get}
use Rattle.rv_calls.proofs.{Turned.reversed_graph, Parting.seen_fresh, Parting.parts_fresh, Parting.still, Parting.parted_more}
use Rattle.rv_calls.proofs.components.assign.Goals as goal

pub reach-requires-clause-vertices : goal.reach-requires-clause-vertices
reach-requires-clause-vertices c = reversed_graph c.args.graph.now c.args.turned.now c.requires.turned

pub reach-requires-clause-start : goal.reach-requires-clause-start
reach-requires-clause-start c = get_or_from_slice_get c.args.parts.now c.args.root c.at.result.now Nothing c.at.ensures.value ∙ c.in-None.is

pub reach-requires-clause-fresh : goal.reach-requires-clause-fresh
reach-requires-clause-fresh c =
    let free = get_or_from_slice_get c.args.parts.now c.args.root c.at.result.now Nothing c.at.ensures.value ∙ c.in-None.is in
    seen_fresh c.args.graph.now c.args.turned.now c.requires.turned c.args.seen.now c.args.parts.now c.args.root c.requires.parted free

pub returns-in-Some-clause-root : goal.returns-in-Some-clause-root
returns-in-Some-clause-root c =
    (c.in-Some.field-0, get_or_from_slice_get c.args.parts.now c.args.root c.at.result.now Nothing c.at.ensures.value ∙ c.in-Some.is)

pub reach-requires-in-None-clause-fresh : goal.reach-requires-in-None-clause-fresh
reach-requires-in-None-clause-fresh c =
    let free = get_or_from_slice_get c.args.parts.now c.args.root c.at.result.now Nothing c.at.ensures.value ∙ c.in-None.is in
    parts_fresh c.args.graph.now c.args.turned.now c.requires.turned c.args.seen.now c.args.parts.now c.args.root c.requires.parted free

pub returns-in_ok-reach-in-None-clause-parted : goal.returns-in_ok-reach-in-None-clause-parted
returns-in_ok-reach-in-None-clause-parted c =
    let free = get_or_from_slice_get c.args.parts.now c.args.root c.at.result.now Nothing c.at.ensures.value ∙ c.in-None.is in
    let more = parted_more c.args.graph.now c.args.turned.now c.requires.turned c.args.seen.now c.args.parts.now c.args.root c.requires.parted free
    c.reach.new.marks c.reach-in-None.new.marks c.in_ok-reach-in-None.ensures in
    search (rules, more)

pub returns-in_ok-reach-in-None-clause-kept : goal.returns-in_ok-reach-in-None-clause-kept
returns-in_ok-reach-in-None-clause-kept c =
    let free = get_or_from_slice_get c.args.parts.now c.args.root c.at.result.now Nothing c.at.ensures.value ∙ c.in-None.is in
    let kept = still c.args.graph.now c.args.turned.now c.requires.turned c.args.seen.now c.args.parts.now c.args.root c.requires.parted free c.reach.new.marks
    c.reach-in-None.new.marks c.in_ok-reach-in-None.ensures in
    search (rules, kept)
