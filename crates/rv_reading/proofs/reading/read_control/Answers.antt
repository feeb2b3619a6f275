use Rattle.std.proofs.Common.{◌∙◌, ◌≤◌, length, sym, subst, rules}
use Rattle.rv_flat.proofs.Inlining.{is_table}
use Rattle.rv_control.specs.Control.{control_of}
use Rattle.rv_proofs.specs.Systems.{IsSystem}
use Rattle.rv_symbolic.specs.Represented.{AreParts, HaveRefs}
use Rattle.rv_diagram.proofs.Growing.{extends_trans}
use Rattle.rv_reading.proofs.Representing.{parts_are, refs_are}
use Rattle.rv_reading.proofs.reading.read_control.Goals as goal

pub ask_system-requires-clause-around : goal.ask_system-requires-clause-around
ask_system-requires-clause-around c =
    let f = c.args.flat.now in
    let read = c.in_ok-parts.ensures.ok in
    record {
      few = f.few_variables;
      variables = subst (λ n. length f.variables ≤ n) (sym (read.parts.extends.variables ∙ c.requires.variables)) (search rules);
      table = is_table f.memories f.ends;
      well = c.requires.program.4.system.well;
      tables = read.tables;
      flows = read.flows;
    }

pub ask_system-requires-clause-complete : goal.ask_system-requires-clause-complete
ask_system-requires-clause-complete c = c.in_ok-parts.ensures.ok.complete

pub ask_system-requires-clause-shown : goal.ask_system-requires-clause-shown
ask_system-requires-clause-shown c = c.in_ok-parts.ensures.ok.after

pub ask_system-requires-clause-system : goal.ask_system-requires-clause-system
ask_system-requires-clause-system c =
    c.control_is_a_system.ensures c.requires.program.0 c.requires.program.1 c.args.flat.now c.requires.program.2 c.requires.program.3 c.requires.program.4

pub ask_system-requires-clause-variables : goal.ask_system-requires-clause-variables
ask_system-requires-clause-variables c = c.in_ok-parts.ensures.ok.parts.extends.variables ∙ c.requires.variables

pub ask_system-requires-clause-observer : goal.ask_system-requires-clause-observer
ask_system-requires-clause-observer c =
    let f = c.args.flat.now in
    let read = c.in_ok-parts.ensures.ok in
    let are : AreParts (control_of f) c.read_system.new.store c.in_ok-parts.field-0.parts =
    parts_are f c.requires.program.4.system.well c.computed_instants.ensures.symbolic c.args.store.now c.read_system.new.store c.in_ok-parts.field-0.parts
    c.requires.variables read.parts in
    (read.parts.observer_ref, are.observer)

pub returns-clause-refs : goal.returns-clause-refs
returns-clause-refs c =
    let f = c.args.flat.now in
    let read = c.in_ok-parts.ensures.ok in
    let system : IsSystem (control_of f) = c.control_is_a_system.ensures c.requires.program.0 c.requires.program.1 f c.requires.program.2 c.requires.program.3
    c.requires.program.4 in
    c.relation_stays.ensures.refs c.read_system.new.store c.ask_system.new.store c.in_ok-parts.field-0.parts c.in_ok-questions.ensures.extends
    (refs_are f c.requires.program.4.system.well c.computed_instants.ensures.symbolic c.args.store.now c.read_system.new.store c.in_ok-parts.field-0.parts
    c.requires.variables read.parts system)

pub returns-clause-parts : goal.returns-clause-parts
returns-clause-parts c =
    let f = c.args.flat.now in
    let read = c.in_ok-parts.ensures.ok in
    let system : IsSystem (control_of f) = c.control_is_a_system.ensures c.requires.program.0 c.requires.program.1 f c.requires.program.2 c.requires.program.3
    c.requires.program.4 in
    let p = c.in_ok-parts.field-0.parts in
    let s = c.read_system.new.store in
    let refs : HaveRefs s p = refs_are f c.requires.program.4.system.well c.computed_instants.ensures.symbolic c.args.store.now s p c.requires.variables
    read.parts system in
    let are : AreParts (control_of f) s p = parts_are f c.requires.program.4.system.well c.computed_instants.ensures.symbolic c.args.store.now s p
    c.requires.variables read.parts in
    c.relation_stays.ensures.parts (control_of f) s c.ask_system.new.store p c.in_ok-questions.ensures.extends refs are

pub returns-clause-extends : goal.returns-clause-extends
returns-clause-extends c = extends_trans c.args.store.now c.read_system.new.store c.ask_system.new.store c.in_ok-parts.ensures.ok.parts.extends
    c.in_ok-questions.ensures.extends
