use Rattle.std.proofs.Common.{◌∙◌, ap}
use Rattle.rv_diagram.specs.Nodes.{Diagrams}
use Rattle.rv_rise.proofs.rounds.one_round.Goals as goal

pub steps_of-requires : goal.steps_of-requires
steps_of-requires c = c.requires

pub take_steps-requires : goal.take_steps-requires
take_steps-requires c =
    let (s, given, asked, kept, begun) = c.requires in
    let r = given.relation in
    let p = r.parts in (
      s,
      c.args.frame.now,
      r.system,
      given.frame,
      ap (λ (d : Diagrams). d.variables) c.steps_of.ensures.same ∙ p.variables,
      kept,
      c.in_ok-steps.ensures.steps s given asked kept begun,
    )

pub returns-clause-grown : goal.returns-clause-grown
returns-clause-grown c s given asked kept begun =
    let r = given.relation in
    let p = r.parts in
    c.take_steps.ensures.taken s c.args.frame.now r.system given.frame (ap (λ (d : Diagrams). d.variables) c.steps_of.ensures.same ∙ p.variables) kept
    (c.in_ok-steps.ensures.steps s given asked kept begun)
