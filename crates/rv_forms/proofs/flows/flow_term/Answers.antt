use Rattle.std.proofs.{Common.length, Common.ap, Common.arith, lemmas.List.length-map}
use Rattle.rv_types.specs.Variables.{is_integer}
use Rattle.rv_flat.specs.Systems.{flow_item}
use Rattle.rv_forms.proofs.{Flowing.flow_low, Flowing.flow_kind_is, Flowing.other_flow, Steps.zero_here}
use Rattle.rv_symbolic.proofs.Extending.{map_ok}
use Rattle.rv_forms.proofs.flows.flow_term.Goals as goal

pub returns-in-Bool-clause-ok : goal.returns-in-Bool-clause-ok
returns-in-Bool-clause-ok c =
    let x = c.args.around.now in
    let f = x.flat.now in
    let w = c.args.wholes.now in
    let n = length w.flows in
    let flow = c.args.flow.now in
    let low = flow_low f n flow c.requires.flow in
    let many = length-map f.flows (flow_item f.memories) in
    map_ok c.zero_term.result _ _
    (λ u made. other_flow f c.args.store.now x.read.now n flow.kind u.parts c.requires.ready.around.flows (omega (arith, low, many, c.requires.ready.complete))
    (flow_kind_is f n flow c.requires.flow) (ap is_integer c.in-Bool.is) (zero_here x w c.args.store.now u.parts c.requires.ready.wholes made))
    c.zero_term.ensures.exact

pub returns-in-Labels-clause-ok : goal.returns-in-Labels-clause-ok
returns-in-Labels-clause-ok c =
    let x = c.args.around.now in
    let f = x.flat.now in
    let w = c.args.wholes.now in
    let n = length w.flows in
    let flow = c.args.flow.now in
    let low = flow_low f n flow c.requires.flow in
    let many = length-map f.flows (flow_item f.memories) in
    map_ok c.zero_term-in-Labels.result _ _
    (λ u made. other_flow f c.args.store.now x.read.now n flow.kind u.parts c.requires.ready.around.flows (omega (arith, low, many, c.requires.ready.complete))
    (flow_kind_is f n flow c.requires.flow) (ap is_integer c.in-Labels.is) (zero_here x w c.args.store.now u.parts c.requires.ready.wholes made))
    c.zero_term-in-Labels.ensures.exact
