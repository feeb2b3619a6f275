use Rattle.std.proofs.Common.{◌+◌, ℕ, Bool, List, sym, ap, subst}
use Rattle.rv_diagram.specs.{Nodes.value_of, Nodes.Diagrams, Several.ref_at}
use Rattle.rv_proofs.specs.declared.certificate.Entry.{Entry}
use Rattle.rv_proofs.specs.declared.certificate.EntryKind.TheVariants.{Go}
use Rattle.rv_left.specs.{Meeting.IsEither, Meeting.AreApart, Becoming.IsConditionOf, Targets.IsTarget, Targets.AreTargets}
use Rattle.rv_left.proofs.Aiming.{targets_apart, targets_more}
use Rattle.rv_left.proofs.entering.add_target.Goals as goal

pub meets-requires-clause-b : goal.meets-requires-clause-b
meets-requires-clause-b c = c.requires.refs c.args.j c.requires.there

pub returns-then-not-met-clause-added : goal.returns-then-not-met-clause-added
returns-then-not-met-clause-added c h =
    let apart : AreApart (value_of c.args.store.now.nodes c.args.source.now.image) (value_of c.args.store.now.nodes (ref_at c.args.refs.now c.args.j)) =
    subst (λ (b : Bool). IsEither (value_of c.args.store.now.nodes c.args.source.now.image)
    (value_of c.args.store.now.nodes (ref_at c.args.refs.now c.args.j)) b) c.if-not-met.true c.in_ok-met.ensures.exact in
    targets_apart c.args.store.now c.args.source.now c.args.refs.now c.args.j c.args.entries.now h apart

pub returns-clause-added : goal.returns-clause-added
returns-clause-added c h =
    let here : IsConditionOf c.args.store.now c.args.source.now.within (ref_at c.args.refs.now c.args.j) c.args.source.now.by.items
    c.in_ok-condition.condition =
    subst (λ (l : List ℕ). IsConditionOf c.args.store.now c.args.source.now.within (ref_at c.args.refs.now c.args.j) l c.in_ok-condition.condition)
    c.as_slice.ensures.value
    (subst (λ (d : Diagrams). IsConditionOf d c.args.source.now.within (ref_at c.args.refs.now c.args.j) c.as_slice.result.now
    c.in_ok-condition.condition) c.meets.ensures.same c.in_ok-condition.ensures.made) in
    let is : IsTarget c.args.store.now c.args.source.now c.args.refs.now c.args.j
    (record { condition = c.in_ok-condition.condition; kind = Go c.args.j c.new.result }) =
    record { kind = ap (Go c.args.j) c.new.ensures; condition = here } in
    subst (λ (l : List Entry). AreTargets c.args.store.now c.args.source.now c.args.refs.now (c.args.j + 1) l) (sym c.in_ok-push.ensures.ok)
    (targets_more c.args.store.now c.args.source.now c.args.refs.now c.args.j c.args.entries.now h
    (record { condition = c.in_ok-condition.condition; kind = Go c.args.j c.new.result }) is)
