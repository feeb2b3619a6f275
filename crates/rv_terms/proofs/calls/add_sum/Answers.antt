use Rattle.std.proofs.Common.{◌≡◌, ◌∙◌, ◌&&◌, sym, arith, true}
use Rattle.std.proofs.{lemmas.Bool.false≢true, lemmas.Bool.and_parts, lemmas.Result.on_ok_weaker}
use Rattle.rv_diagram.specs.{Nodes.value_of, declared.store.StoreFault.StoreFault}
use Rattle.rv_diagram.proofs.Growing.{grows_extends}
use Rattle.rv_rows.specs.Arithmetic.{form_sum}
use Rattle.rv_terms.proofs.{Adding.adds_none, Combining.adds_as, Combining.adds_later, Sums.sum_is, Sums.can_add_from, Classes.err_moved}
use Rattle.rv_terms.proofs.{Summing.two_steps, Summing.two_lacks}
use Rattle.rv_terms.proofs.calls.add_sum.Goals as goal

pub returns-then-is_false-clause-added : goal.returns-then-is_false-clause-added
returns-then-is_false-clause-added c =
    adds_later c.args.store.now c.both.new.store c.both.new.store.nodes
    (λ v. value_of c.args.store.now.nodes c.args.a.now.under v && value_of c.args.store.now.nodes c.args.b.now.under v)
    (λ v. form_sum c.args.a.now.form c.args.b.now.form) c.args.parts.now c.args.parts.now
    (grows_extends c.args.store.now c.both.new.store c.in-Ok.ensures.ok.grows)
    (adds_none c.both.new.store.nodes (λ v. value_of c.args.store.now.nodes c.args.a.now.under v && value_of c.args.store.now.nodes c.args.b.now.under v)
    (λ v. form_sum c.args.a.now.form c.args.b.now.form) c.args.parts.now
    (λ v. sym (c.in-Ok.ensures.ok.means v) ∙ c.is_false.ensures.0 c.if-is_false.true v))

pub add-requires-clause-room : goal.add-requires-clause-room
add-requires-clause-room c = can_add_from (value_of c.both.new.store.nodes c.in-Ok.common) c.args.a.now.form c.args.b.now.form
    (λ none. false≢true (sym c.if-is_false.false ∙ c.is_false.ensures.1 none))
    (λ v h. let both : (value_of c.args.store.now.nodes c.args.a.now.under v ≡ true) × (value_of c.args.store.now.nodes c.args.b.now.under v ≡ true) =
    and_parts (value_of c.args.store.now.nodes c.args.a.now.under v) (value_of c.args.store.now.nodes c.args.b.now.under v)
    (sym (c.in-Ok.ensures.ok.means v) ∙ h) in
    c.requires.room v both.0 both.1)

pub returns-clause-added : goal.returns-clause-added
returns-clause-added c = on_ok_weaker c.add_part.result
    (λ a. adds_later c.args.store.now c.both.new.store c.add_part.new.store.nodes
    (λ v. value_of c.args.store.now.nodes c.args.a.now.under v && value_of c.args.store.now.nodes c.args.b.now.under v)
    (λ v. form_sum c.args.a.now.form c.args.b.now.form) c.args.parts.now c.add_part.new.parts
    (grows_extends c.args.store.now c.both.new.store c.in-Ok.ensures.ok.grows)
    (adds_as c.both.new.store.nodes c.add_part.new.store.nodes (value_of c.both.new.store.nodes c.in-Ok.common)
    (λ v. value_of c.args.store.now.nodes c.args.a.now.under v && value_of c.args.store.now.nodes c.args.b.now.under v)
    (λ v. c.in_ok-form.form) (λ v. form_sum c.args.a.now.form c.args.b.now.form) c.args.parts.now c.add_part.new.parts c.in-Ok.ensures.ok.means
    (λ v h. sum_is c.args.a.now.form c.args.b.now.form c.in_ok-form.form c.requires.widths c.in_ok-form.ensures.exact) a))
    c.add_part.ensures.added

pub returns-then-is_false-clause-growth : goal.returns-then-is_false-clause-growth
returns-then-is_false-clause-growth c = record { nodes = omega (arith, c.in-Ok.ensures.few) }

pub returns-clause-growth : goal.returns-clause-growth
returns-clause-growth c = on_ok_weaker c.add_part.result
    (two_steps c.args.store.now c.both.new.store c.add_part.new.store
    (λ v. value_of c.args.store.now.nodes c.args.a.now.under v && value_of c.args.store.now.nodes c.args.b.now.under v)
    (value_of c.both.new.store.nodes c.in-Ok.common) c.in-Ok.ensures.ok.grows.variables c.in-Ok.ensures.ok.means c.in-Ok.ensures.few)
    c.add_part.ensures.few

pub returns-clause-room : goal.returns-clause-room
returns-clause-room c h = two_lacks c.args.store.now c.both.new.store
    (λ v. value_of c.args.store.now.nodes c.args.a.now.under v && value_of c.args.store.now.nodes c.args.b.now.under v)
    (value_of c.both.new.store.nodes c.in-Ok.common) c.in-Ok.ensures.ok.grows.variables c.in-Ok.ensures.ok.grows.limit c.in-Ok.ensures.ok.means
    c.in-Ok.ensures.few
    (c.add_part.ensures.needs h)

pub returns-in-Err-clause-room : goal.returns-in-Err-clause-room
returns-in-Err-clause-room c h = record { nodes = omega (arith, c.in-Err.ensures.needs (err_moved c.in-Err.fault StoreFault.Nodes h)) }
