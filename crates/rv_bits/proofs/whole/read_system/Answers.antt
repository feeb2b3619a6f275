use Rattle.std.proofs.Common.{◌∙◌, ◌&&◌}
use Rattle.rv_control.specs.{Control.state_bits, Control.memories_named, Control.inputs_named, Named.named, Named.variables_of}
use Rattle.rv_flat.specs.{FlatInstants.system_of, Steps.label_counts}
use Rattle.rv_diagram.specs.Growing.{Extends}
use Rattle.rv_diagram.proofs.Growing.{extends_trans}
use Rattle.rv_bits.proofs.{Keeping.tables_kept, Keeping.flows_kept, Keeping.after_kept, Making.ref_kept, Wholes.allowed_is, Wholes.next_between}
use Rattle.rv_bits.proofs.whole.read_system.Goals as goal

pub read_initial-requires-clause-tables : goal.read_initial-requires-clause-tables
read_initial-requires-clause-tables c =
    tables_kept c.args.flat.now c.read_tables.new.store c.read_rest.new.store c.in_ok-tables.tables c.in_ok-met.ensures.ok.extends
    c.in_ok-tables.ensures.ok.tables

pub returns-clause-ok : goal.returns-clause-ok
returns-clause-ok c =
    let f = c.args.flat.now in
    let a = c.args.store.now in
    let s = c.read_tables.new.store in
    let mid = c.read_rest.new.store in
    let later = c.read_initial.new.store in
    let new = c.read_coded.new.store in
    let tables = c.in_ok-tables.ensures.ok in
    let rest = c.in_ok-met.ensures.ok in
    let met = c.in_ok-met.field-0.met in
    let observer = c.in_ok-met.field-0.observer in
    let initial = c.in_ok-initial.ensures.ok in
    let allowed = c.in_ok-allowed.ensures.ok in
    let last : Extends mid new = extends_trans mid later new initial.extends allowed.extends in
    record {
      parts = record {
        extends = extends_trans a s new tables.extends (extends_trans s mid new rest.extends last);
        allowed_ref = allowed.found;
        allowed = λ v row instant. allowed.means v
            ∙ (λ i. (memories_named (label_counts f) (named f v) (system_of f).memories && inputs_named (label_counts f) (named f v) 0 (system_of f).inputs) &&
            (initial.extends.kept met rest.met_ref v ∙ rest.met v row instant) i)
            ∙ allowed_is (system_of f) (named f v) row;
        observer_ref = ref_kept mid new observer last rest.observer_ref;
        observer = λ v row instant. last.kept observer rest.observer_ref v ∙ rest.observer v row instant;
        initial_ref = ref_kept later new c.in_ok-initial.initial allowed.extends initial.found;
        initial = λ v. allowed.extends.kept c.in_ok-initial.initial initial.found v ∙ initial.means v;
        next = next_between f a s mid new (state_bits (variables_of f)) c.in_ok-met.field-0.next tables.extends rest.next last;
      };
      tables = tables_kept f s new c.in_ok-tables.tables (extends_trans s mid new rest.extends last) tables.tables;
      flows = flows_kept f mid new c.in_ok-met.field-0.read last rest.flows;
      complete = rest.complete;
      after = after_kept f mid new c.in_ok-met.field-0.shown last rest.after;
    }
