use Rattle.std.proofs.Common.{sym, subst}
use Rattle.rv_diagram.specs.Nodes.{IsMeant}
use Rattle.rv_symbolic.specs.declared.relation.Parts.{Parts}
use Rattle.rv_reading.specs.Read.{system_read, diagrams_of}
use Rattle.rv_reading.proofs.reading.Reading.cases.Goals as goal

pub cases-requires : goal.cases-requires
cases-requires c =
    let r = c.args.self.now in
    let read = c.requires.read in (
      system_read r,
      read.relation.system,
      read.questions,
      subst (λ (p : Parts). IsMeant (diagrams_of r).nodes (system_read r).allowed p.allowed) (sym c.parts.ensures)
          (read.relation.laid_out.refs.allowed, read.relation.parts.allowed),
      c.requires.from,
    )

pub returns-clause-parted : goal.returns-clause-parted
returns-clause-parted c =
    let r = c.args.self.now in
    let read = c.requires.read in
    c.cases.ensures.parted (system_read r) read.relation.system read.questions
    (subst (λ (p : Parts). IsMeant (diagrams_of r).nodes (system_read r).allowed p.allowed) (sym c.parts.ensures)
    (read.relation.laid_out.refs.allowed, read.relation.parts.allowed))
    c.requires.from

pub returns-clause-different : goal.returns-clause-different
returns-clause-different c = c.cases.ensures.different (system_read c.args.self.now) c.requires.read.questions c.requires.read.distinct
