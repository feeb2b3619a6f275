use Rattle.std.proofs.Common.{◌*◌, ◌^◌, ℕ, sym, subst, FitsSigned, rules}
use Rattle.std.proofs.lemmas.Int.{to_z-of_z}
use Rattle.std.specs.Int.{w128}
use Rattle.rv_diagram.specs.{Nodes.Valuation, Nodes.Diagrams, Growing.Extends}
use Rattle.rv_diagram.proofs.Growing.{extends_trans, grows_extends, equal_extends}
use Rattle.rv_rows.specs.{declared.linear.Form.Form, Forms.CanAdd, Arithmetic.form_sum}
use Rattle.rv_terms.specs.Parts.{form_at, IsTermOf, term_width}
use Rattle.rv_terms.proofs.Combining.{form_width}
use Rattle.rv_ends.specs.{Sides.IsSide}
use Rattle.rv_ends.proofs.Summed.{can_scale, can_add, sum_exact, sum_side}
use Rattle.rv_ends.proofs.peaks.plus_times.Goals as goal

pub scale-requires-clause-room : goal.scale-requires-clause-room
scale-requires-clause-room c =
    let fits : FitsSigned w128 c.args.by = search rules in
    simp to_z-of_z (λ (v : Valuation). can_scale c.args.by (form_at c.args.store.now.nodes c.args.side.now.end.parts v)
    (form_width c.args.store.now.nodes 0 c.args.side.now.end.parts c.requires.side.term v) c.requires.by (c.requires.side.small v))

pub sum-requires-clause-room : goal.sum-requires-clause-room
sum-requires-clause-room c v =
    let fits : FitsSigned w128 c.args.by = search rules in
    let scaled = simp to_z-of_z at c.in_ok-part.ensures.exact in
    let n : ℕ = c.requires.so_far.0 in
    let old = c.args.store.now.nodes in
    let was : IsSide old (n * 2 ^ 101) c.args.so_far.now = c.requires.so_far.2 in
    subst (λ (d : Diagrams). CanAdd (form_at d.nodes c.args.so_far.now.end.parts v) (form_at d.nodes c.in_ok-part.part.parts v)) (sym c.in_ok-part.ensures.same)
    (subst (λ (f : Form). CanAdd (form_at old c.args.so_far.now.end.parts v) f) (sym (scaled.exact v))
    (can_add (form_at old c.args.so_far.now.end.parts v) (form_at old c.args.side.now.end.parts v) c.args.by n
    (form_width old 0 c.args.so_far.now.end.parts was.term v) (form_width old 0 c.args.side.now.end.parts c.requires.side.term v) c.requires.so_far.1
    (was.small v) c.requires.by (c.requires.side.small v)))

pub returns-clause-extends : goal.returns-clause-extends
returns-clause-extends c =
    extends_trans c.args.store.now c.sum.new.store c.and.new.self
    (extends_trans c.args.store.now c.scale.new.store c.sum.new.store (equal_extends c.args.store.now c.scale.new.store c.in_ok-part.ensures.same)
    (grows_extends c.scale.new.store c.sum.new.store c.in_ok-end.ensures.grows))
    (grows_extends c.sum.new.store c.and.new.self c.in_ok-there.ensures.ok.grows)

pub returns-clause-side : goal.returns-clause-side
returns-clause-side c n was =
    let fits : FitsSigned w128 c.args.by = search rules in
    let scaled = simp to_z-of_z at c.in_ok-part.ensures.exact in
    let first : Extends c.args.store.now c.sum.new.store = extends_trans c.args.store.now c.scale.new.store c.sum.new.store
    (equal_extends c.args.store.now c.scale.new.store c.in_ok-part.ensures.same)
    (grows_extends c.scale.new.store c.sum.new.store c.in_ok-end.ensures.grows) in
    sum_side c.args.store.now c.sum.new.store c.and.new.self c.args.so_far.now c.args.side.now
    (record { there = c.in_ok-there.there; end = c.in_ok-end.end }) c.args.by c.in_ok-part.part.parts first
    (grows_extends c.sum.new.store c.and.new.self c.in_ok-there.ensures.ok.grows) c.requires.side scaled
    (subst (λ (d : Diagrams). IsTermOf c.sum.new.store.nodes (term_width c.args.so_far.now.end.parts)
    (λ v. form_sum (form_at d.nodes c.args.so_far.now.end.parts v) (form_at d.nodes c.in_ok-part.part.parts v)) c.in_ok-end.end.parts)
    c.in_ok-part.ensures.same c.in_ok-end.ensures.exact)
    c.in_ok-there.ensures.ok.found c.in_ok-there.ensures.ok.means n c.requires.by was

pub returns-clause-exact : goal.returns-clause-exact
returns-clause-exact c v =
    let fits : FitsSigned w128 c.args.by = search rules in
    let scaled = simp to_z-of_z at c.in_ok-part.ensures.exact in
    let first : Extends c.args.store.now c.sum.new.store = extends_trans c.args.store.now c.scale.new.store c.sum.new.store
    (equal_extends c.args.store.now c.scale.new.store c.in_ok-part.ensures.same)
    (grows_extends c.scale.new.store c.sum.new.store c.in_ok-end.ensures.grows) in
    sum_exact c.args.store.now c.sum.new.store c.and.new.self c.args.so_far.now c.args.side.now
    (record { there = c.in_ok-there.there; end = c.in_ok-end.end }) c.args.by c.in_ok-part.part.parts first
    (grows_extends c.sum.new.store c.and.new.self c.in_ok-there.ensures.ok.grows) c.requires.side scaled
    (subst (λ (d : Diagrams). IsTermOf c.sum.new.store.nodes (term_width c.args.so_far.now.end.parts)
    (λ v. form_sum (form_at d.nodes c.args.so_far.now.end.parts v) (form_at d.nodes c.in_ok-part.part.parts v)) c.in_ok-end.end.parts)
    c.in_ok-part.ensures.same c.in_ok-end.ensures.exact)
    c.in_ok-there.ensures.ok.found c.in_ok-there.ensures.ok.means (c.requires.so_far.0 * 2 ^ 101) c.requires.so_far.2 v
