use Rattle.std.proofs.Common.{true, cond, ℕ, List, length, subst, sym}
use Rattle.rv_agreement.specs.{Agreement.IsNamed, Trees.Item}
use Rattle.rv_flat.specs.Inlined.{inlined, table_of}
use Rattle.rv_symbolic.specs.Growing.{Makes}
use Rattle.rv_symbolic.proofs.Extending.{map_ok}
use Rattle.rv_bits.specs.{Asserted.IsMetRead, Bits.bit, Reads.tree_in, Shown.clock_bit}
use Rattle.rv_bits.proofs.{Keeping.flows_kept, Keeping.after_kept, Keeping.on_ok, Asserting.met_made}
use Rattle.rv_bits.proofs.assertions.read_assertion.Goals as goal

pub returns-clause-ok : goal.returns-clause-ok
returns-clause-ok c =
    let x = c.args.around.now in
    let f = c.args.around.now.flat.now in
    let a = c.args.store.now in
    let mid = c.read_expr.new.store in
    let new = c.met_ref.new.store in
    let parts = c.parts_of-parts.result in
    let reads = c.in_ok-bits.ensures.ok in
    let flows = flows_kept f a mid x.read.now reads.extends c.requires.around.flows in
    let within : IsNamed (length x.read.now.on) parts.clock = subst (IsNamed (length x.read.now.on)) (sym c.parts_of-parts.ensures.clock) c.requires.clock in
    map_ok c.met_ref.result (Makes mid new (λ v. cond (clock_bit mid.nodes c.as_slice-on.result.now parts.clock v) (bit mid.nodes c.as_slice.result.now v 0)
    true)) _
    (λ r made. subst (λ (y : Item). IsMetRead f a new y r)
    (λ i. record { clock = c.parts_of-parts.ensures.clock i; body = inlined (table_of f.memories) (c.parts_of-parts.ensures.body i) })
    (met_made f a mid new x.read.now parts.clock (tree_in x parts.body.now) c.in_ok-bits.bits r reads flows within
    (subst (λ (l : List ℕ). Makes mid new (λ v. cond (clock_bit mid.nodes x.read.now.on parts.clock v) (bit mid.nodes l v 0) true) r) c.as_slice.ensures
    (subst (λ (l : List ℕ). Makes mid new (λ v. cond (clock_bit mid.nodes l parts.clock v) (bit mid.nodes c.as_slice.result.now v 0) true) r)
    c.as_slice-on.ensures made))))
    c.met_ref.ensures.ok

pub returns-clause-shown : goal.returns-clause-shown
returns-clause-shown c =
    let mid = c.read_expr.new.store in
    let new = c.met_ref.new.store in
    on_ok c.met_ref.result (Makes mid new (λ v. cond (clock_bit mid.nodes c.as_slice-on.result.now c.parts_of-parts.result.clock v)
    (bit mid.nodes c.as_slice.result.now v 0) true)) _
    (λ r made. after_kept c.args.around.now.flat.now mid new c.read_expr.new.shown made.extends c.in_ok-bits.ensures.shown)
    c.met_ref.ensures.ok
