use Rattle.rv_alike.proofs.Flats.{same_systems}
use Rattle.rv_alike.proofs.laws.alike_systems.Goals as goal

pub returns : goal.returns
returns c = λ program main f g well named first second. same_systems program main f g
    (record {
      from_program = λ numbers s v cells is at. c.same_symbolic_instants.ensures.from_program program main numbers s v cells well named is at;
      from_system = λ numbers s v row is at. c.same_symbolic_instants.ensures.from_system program main numbers s v row well named is at;
      allowed = λ numbers s v cells is at. c.same_symbolic_instants.ensures.allowed program main numbers s v cells well named is at;
      updates = λ numbers s v cells i d is at kept. c.same_symbolic_instants.ensures.updates program main numbers s v cells i d well named is at kept;
      one = c.one_symbolic_instant.ensures;
      read = c.translated_expressions.ensures.symbolic program;
      tight = c.tightened_rows.ensures.one;
    })
    first second
