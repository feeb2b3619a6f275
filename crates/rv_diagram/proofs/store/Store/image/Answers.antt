use Rattle.std.proofs.Common.{◌≡◌, ◌+◌, ◌*◌, ◌≤◌, ◌<◌, ◌∙◌, length, take, subst, sym, arith, OnErr}
use Rattle.rv_diagram.specs.{declared.store.StoreFault.TheVariants.Nodes, Nodes.steps_growth, Room.step_room}
use Rattle.rv_diagram.proofs.{Calls.IsSettled, Calls.settled_err, Room.image_fits, Room.short_new, Room.grown_all, Calls.settled_growth}
use Rattle.rv_diagram.proofs.store.Store.image.Goals.{After-settle}
use Rattle.rv_diagram.proofs.store.Store.image.Goals as goal

-- what is kept of what was built
kept_of : (c : After-settle) → IsSettled c.args.self.now c.image_in-answer.new.self c.settle.new.self c.image_in-answer.result c.settle.result
kept_of c = record {
  same = c.settle.ensures.same;
  kept = c.settle.ensures.kept;
  undone = subst (λ n. OnErr c.settle.result (c.settle.new.self ≡ record c.image_in-answer.new.self { nodes = take n c.image_in-answer.new.self.nodes }))
      c.mark-mark.ensures.is c.settle.ensures.undone;
  variables = c.image_in-answer.ensures.variables;
  limit = c.image_in-answer.ensures.limit;
  within = c.settle.ensures.within;
  reduced = c.settle.ensures.reduced;
}

pub returns-clause-grown : goal.returns-clause-grown
returns-clause-grown c few =
    let fits : length c.args.parts.now * steps_growth c.args.self.now.variables ≤ step_room c.args.self.now.variables =
    image_fits c.args.self.now.variables (length c.args.parts.now) few in
    let all : length c.settle.new.self.nodes ≤ length c.args.self.now.nodes + length c.args.parts.now * steps_growth c.args.self.now.variables =
    grown_all c.args.self.now c.settle.new.self (length c.args.parts.now * steps_growth c.args.self.now.variables) c.settle.result
    (settled_growth c.args.self.now c.image_in-answer.new.self c.settle.new.self _ c.image_in-answer.result c.settle.result (kept_of c)
    c.image_in-answer.ensures.growth)
    (settled_err c.args.self.now c.image_in-answer.new.self c.settle.new.self c.image_in-answer.result c.settle.result (kept_of c)
    c.image_in-answer.ensures.begins) in
    omega arith

pub returns-clause-short : goal.returns-clause-short
returns-clause-short c h few =
    let fits : length c.args.parts.now * steps_growth c.args.self.now.variables ≤ step_room c.args.self.now.variables = image_fits c.args.self.now.variables (length c.args.parts.now) few in
    short_new c.args.self.now c.settle.new.self c.settle.result Nodes h
    (settled_err c.args.self.now c.image_in-answer.new.self c.settle.new.self c.image_in-answer.result c.settle.result (kept_of c)
    c.image_in-answer.ensures.begins)
    (omega (arith, c.image_in-answer.ensures.room (sym c.settle.ensures.same ∙ h), fits))
