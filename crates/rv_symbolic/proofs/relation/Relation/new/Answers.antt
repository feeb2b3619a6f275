use Rattle.std.proofs.Common.{ℕ, List, length, subst, arith}
use Rattle.rv_diagram.specs.Nodes.{valuation_of}
use Rattle.rv_symbolic.specs.{Variables.AreAllBut, Linked.AreParted, Linked.AreScheduled}
use Rattle.rv_symbolic.proofs.Scheduling.{scheduled_links, have_after, parts_after}
use Rattle.rv_symbolic.proofs.relation.Relation.new.Goals as goal

pub returns-clause-means : goal.returns-clause-means
returns-clause-means c s system parts =
    let next : List ℕ = c.args.parts.next in
    let relations : List ℕ = c.in_ok-relations.relations in
    let parted : AreParted c.args.store.now c.relations.new.store next 0 (length next) relations
    = subst (λ (l : List ℕ). AreParted c.args.store.now c.relations.new.store l 0 (length l) relations) c.as_slice.ensures c.in_ok-relations.ensures.ok in
    record {
      system = system;
      laid_out = record {
        refs = have_after c.args.store.now c.relations.new.store c.args.parts parted.extends c.requires;
        few = omega (arith, parted.extends.variables, c.variables-variables.ensures.is, c.variables-variables.ensures.within);
        forth = scheduled_links c.args.store.now c.relations.new.store next relations c.in_ok-all_but_copies.all_but_copies 1
            c.in_ok-forth.forth c.requires.next parted
            (subst (λ (l : List ℕ). AreScheduled c.relations.new.store.nodes l c.in_ok-all_but_copies.all_but_copies c.in_ok-forth.forth)
            c.as_slice-2.ensures c.in_ok-forth.ensures)
            (subst (λ (m : ℕ). AreAllBut m (length next) 1 (valuation_of c.in_ok-all_but_copies.all_but_copies)) c.variables-variables.ensures.is
            (subst (λ (n : ℕ). AreAllBut c.variables-variables.result n 1 (valuation_of c.in_ok-all_but_copies.all_but_copies)) c.len-bits.ensures
            c.in_ok-all_but_copies.ensures));
        back = scheduled_links c.args.store.now c.relations.new.store next relations c.in_ok-all_but_bits.all_but_bits 0
            c.in_ok-back.back c.requires.next parted
            (subst (λ (l : List ℕ). AreScheduled c.relations.new.store.nodes l c.in_ok-all_but_bits.all_but_bits c.in_ok-back.back)
            c.as_slice-3.ensures c.in_ok-back.ensures)
            (subst (λ (m : ℕ). AreAllBut m (length next) 0 (valuation_of c.in_ok-all_but_bits.all_but_bits)) c.variables-variables.ensures.is
            (subst (λ (n : ℕ). AreAllBut c.variables-variables.result n 0 (valuation_of c.in_ok-all_but_bits.all_but_bits)) c.len-bits.ensures
            c.in_ok-all_but_bits.ensures));
      };
      parts = parts_after s c.args.store.now c.relations.new.store c.args.parts parted.extends c.requires parts;
    }
