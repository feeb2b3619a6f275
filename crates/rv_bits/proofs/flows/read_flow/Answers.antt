use Rattle.std.proofs.Common.{◌∙◌, sym}
use Rattle.rv_bits.specs.{Flows.on_bit, Reads.tree_in}
use Rattle.rv_bits.proofs.{Keeping.flows_kept, Keeping.after_kept, Flowing.reads_longer, Flowing.on_kept}
use Rattle.rv_bits.proofs.flows.read_flow.Goals as goal

pub returns-clause-ok : goal.returns-clause-ok
returns-clause-ok c =
    let x = c.args.around.now in
    let f = c.args.around.now.flat.now in
    let mid = c.read_expr.new.store in
    let new = c.on_ref.new.store in
    let flow = c.args.flow.now in
    let bits = c.in_ok-bits.bits in
    let r = c.in_ok-bits.ensures.ok in
    let made = c.in_ok-on.ensures.ok in
    let flows = flows_kept f c.args.store.now mid x.read.now r.extends c.requires.around.flows in
    record {
      reads = reads_longer f c.args.store.now mid new (tree_in x flow.body) bits r made.extends;
      is_ref = made.found;
      means = λ v. made.means v ∙ (λ i. on_bit mid.nodes (c.as_slice-before.ensures i) flow.kind flow.clock (c.as_slice.ensures i) v)
          ∙ sym (on_kept mid new x.read.now.on bits flow.kind flow.clock v made.extends flows.on_refs r.are_refs);
    }

pub returns-clause-shown : goal.returns-clause-shown
returns-clause-shown c = after_kept c.args.around.now.flat.now c.read_expr.new.store c.on_ref.new.store c.read_expr.new.shown c.in_ok-on.ensures.ok.extends
    c.in_ok-bits.ensures.shown
