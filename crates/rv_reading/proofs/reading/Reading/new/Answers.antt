use Rattle.rv_control.specs.Control.{control_of}
use Rattle.rv_proofs.specs.Systems.{IsSystem}
use Rattle.rv_reading.proofs.{Columns.columns_many, Representing.questions_kept}
use Rattle.rv_reading.proofs.reading.Reading.new.Goals as goal

pub returns-clause-read : goal.returns-clause-read
returns-clause-read c =
    let f = c.args.flat.now in
    let system : IsSystem (control_of f) = c.control_is_a_system.ensures c.requires.program.0 c.requires.program.1 f c.requires.program.2 c.requires.program.3
    c.requires.program.4 in
    let asked = c.in_ok-parts.ensures.questions in
    record {
      relation = c.in_ok-relation.ensures.means (control_of f) system c.in_ok-parts.ensures.parts;
      questions = questions_kept (control_of f) c.read_control.new.store c.new-2.new.store c.in_ok-parts.field-0.questions c.in_ok-relation.ensures.extends
          asked.0;
      distinct = asked.1;
      wide = columns_many c.requires.program.0 c.requires.program.1 f c.requires.program.4;
    }
