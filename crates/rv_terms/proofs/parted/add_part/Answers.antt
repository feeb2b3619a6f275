use Rattle.std.proofs.Common.{◌≡◌, ◌≢◌, ◌<◌, ◌∙◌, ◌||◌, ap, sym, subst, length, ℕ, List}
use Rattle.std.proofs.{lemmas.Bool.false≢true, lemmas.Option.get_or_from_slice_get}
use Rattle.rv_diagram.specs.Nodes.{value_of}
use Rattle.rv_diagram.proofs.Growing.{grows_extends}
use Rattle.rv_terms.specs.{declared.parted.Part.Part, Parts.no_form, Parts.part_at, Parts.Adds}
use Rattle.rv_terms.proofs.{Adding.adds_fresh, Adding.adds_merged}
use Rattle.rv_terms.proofs.parted.add_part.Goals as goal

pub returns-in-Ok-clause-added : goal.returns-in-Ok-clause-added
returns-in-Ok-clause-added c =
    let found : (c.in-Some.i < length c.args.parts.now) × ((part_at c.args.parts.now c.in-Some.i).form ≡ c.args.form) =
    subst (λ (l : List Part). (c.in-Some.i < length l) × ((part_at l c.in-Some.i).form ≡ c.args.form)) c.as_slice.ensures c.in-Some.ensures in
    let is : part_at c.args.parts.now c.in-Some.i ≡ c.at.result.now = get_or_from_slice_get c.args.parts.now c.in-Some.i c.at.result.now
    (record { under = 0; form = no_form }) c.at.ensures.value in
    subst (λ (l : List Part). Adds c.args.store.now.nodes c.either.new.store.nodes (value_of c.args.store.now.nodes c.args.under) (λ v. c.args.form)
    c.args.parts.now l) (sym c.set.ensures)
    (adds_merged c.args.store.now c.either.new.store c.args.under c.in-Ok.joined c.in-Some.i c.args.form c.args.parts.now
    (grows_extends c.args.store.now c.either.new.store c.in-Ok.ensures.ok.grows) c.in-Ok.ensures.ok.found found.0 found.1
    (λ v. c.in-Ok.ensures.ok.means v ∙ ap (λ (x : Part). value_of c.args.store.now.nodes x.under v || value_of c.args.store.now.nodes
    c.args.under v) (sym is))
    (λ none. false≢true (sym c.if-is_false.false ∙ c.is_false.ensures.1 none)))

pub returns-in_ok-push-in-None-clause-added : goal.returns-in_ok-push-in-None-clause-added
returns-in_ok-push-in-None-clause-added c =
    subst (λ (l : List Part). Adds c.args.store.now.nodes c.args.store.now.nodes (value_of c.args.store.now.nodes c.args.under) (λ v. c.args.form)
    c.args.parts.now l) (sym c.in_ok-push-in-None.ensures.ok)
    (adds_fresh c.args.store.now c.args.under c.args.form c.args.parts.now c.requires.under
    (λ none. false≢true (sym c.if-is_false.false ∙ c.is_false.ensures.1 none))
    (subst (λ (l : List Part). (i : ℕ) → i < length l → (part_at l i).form ≢ c.args.form) c.as_slice.ensures c.in-None.ensures))
