use Rattle.std.proofs.Common.{◌≡◌, ◌∙◌, ◌<◌, ◌≤◌, ℕ, List, length, ap, subst, sym, arith}
use Rattle.std.proofs.lemmas.List.{length-map}
use Rattle.rv_diagram.specs.{Nodes.value_of, Nodes.IsRef, Several.ref_at}
use Rattle.rv_diagram.specs.Growing.{Extends}
use Rattle.rv_diagram.proofs.Growing.{extends_refl, extends_trans}
use Rattle.rv_flat.specs.Systems.{flow_item}
use Rattle.rv_flat.proofs.Inlining.{is_table}
use Rattle.rv_control.specs.{Control.state_bits, Named.variables_of}
use Rattle.rv_bits.proofs.{Keeping.tables_kept, Keeping.flows_kept, Keeping.after_kept, Making.any_ref, Making.ref_kept, Wholes.next_between}
use Rattle.rv_bits.proofs.whole.read_rest.Goals as goal

pub read_assertions-requires-clause-around : goal.read_assertions-requires-clause-around
read_assertions-requires-clause-around c =
    let f = c.args.flat.now in
    let e = c.in_ok-read.ensures.ok.extends in
    record {
      few = f.few_variables;
      variables = subst (λ n. length f.variables ≤ n) (sym e.variables) c.requires.variables;
      table = is_table f.memories f.ends;
      well = c.requires.well;
      tables = tables_kept f c.args.store.now c.read_flows.new.store c.args.tables.now e c.requires.tables;
      flows = c.in_ok-read.ensures.ok.flows;
    }

pub read_afters-requires-clause-around : goal.read_afters-requires-clause-around
read_afters-requires-clause-around c =
    let f = c.args.flat.now in
    let s = c.read_flows.new.store in
    let d = c.read_assertions.new.store in
    let last = c.in_ok-met.ensures.ok.extends in
    let e : Extends c.args.store.now d = extends_trans c.args.store.now s d c.in_ok-read.ensures.ok.extends last in
    record {
      few = f.few_variables;
      variables = subst (λ n. length f.variables ≤ n) (sym e.variables) c.requires.variables;
      table = is_table f.memories f.ends;
      well = c.requires.well;
      tables = tables_kept f c.args.store.now d c.args.tables.now e c.requires.tables;
      flows = flows_kept f s d c.in_ok-read.read last c.in_ok-read.ensures.ok.flows;
    }

pub read_next-requires-clause-around : goal.read_next-requires-clause-around
read_next-requires-clause-around c =
    let f = c.args.flat.now in
    let s = c.read_flows.new.store in
    let d = c.read_afters.new.store in
    let last : Extends s d = extends_trans s c.read_assertions.new.store d c.in_ok-met.ensures.ok.extends c.in_ok-after.ensures.ok.extends in
    let e : Extends c.args.store.now d = extends_trans c.args.store.now s d c.in_ok-read.ensures.ok.extends last in
    record {
      few = f.few_variables;
      variables = subst (λ n. length f.variables ≤ n) (sym e.variables) c.requires.variables;
      table = is_table f.memories f.ends;
      well = c.requires.well;
      tables = tables_kept f c.args.store.now d c.args.tables.now e c.requires.tables;
      flows = flows_kept f s d c.in_ok-read.read last c.in_ok-read.ensures.ok.flows;
    }

pub returns-clause-ok : goal.returns-clause-ok
returns-clause-ok c =
    let f = c.args.flat.now in
    let a = c.args.store.now in
    let s = c.read_flows.new.store in
    let mid = c.read_assertions.new.store in
    let later = c.read_afters.new.store in
    let new = c.read_next.new.store in
    let read = c.in_ok-read.read in
    let flows = c.in_ok-read.ensures.ok in
    let met = c.in_ok-met.ensures.ok in
    let next = c.in_ok-next.ensures.ok in
    let last : Extends mid new = extends_trans mid later new c.in_ok-after.ensures.ok.extends next.extends in
    let after_flows : Extends s new = extends_trans s mid new met.extends last in
    let before_next : Extends a later = extends_trans a s later flows.extends (extends_trans s mid later met.extends c.in_ok-after.ensures.ok.extends) in
    let same : c.ref_of-observer.result ≡ ref_at read.on f.observer = c.ref_of-observer.ensures ∙ ap (λ (l : List ℕ). ref_at l f.observer) c.as_slice.ensures in
    let found : IsRef s.nodes (ref_at read.on f.observer) = any_ref s.nodes read.on flows.flows.on_refs f.observer in
    let inside : f.observer < length read.on = omega (arith, c.requires.well.observer, flows.size, length-map f.flows (flow_item f.memories)) in
    record {
      extends = extends_trans a s new flows.extends after_flows;
      met_ref = ref_kept mid new c.in_ok-met.met last met.is_ref;
      met = λ v row instant. last.kept c.in_ok-met.met met.is_ref v ∙ met.means v row instant;
      observer_ref = subst (IsRef new.nodes) (sym same) (ref_kept s new (ref_at read.on f.observer) after_flows found);
      observer = λ v row instant. ap (λ r. value_of new.nodes r v) same ∙ after_flows.kept (ref_at read.on f.observer) found v
          ∙ flows.flows.on_shows f.observer v row inside instant;
      next = next_between f a later new new (state_bits (variables_of f)) c.in_ok-next.next before_next next (extends_refl new);
      flows = flows_kept f s new read after_flows flows.flows;
      complete = flows.size;
      after = after_kept f later new c.read_afters.new.shown next.extends c.in_ok-after.ensures.shown;
    }
