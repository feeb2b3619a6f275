use Rattle.std.proofs.{Common.◌∙◌, Common.◌&&◌, Common.ap, Common.sym, Common.subst, Common.List, Common.ℕ, lemmas.Bool.false≢true}
use Rattle.rv_diagram.specs.Growing.{Extends}
use Rattle.rv_diagram.proofs.Growing.{grows_extends}
use Rattle.rv_terms.proofs.Finding.{some_from}
use Rattle.rv_cases.specs.Conditions.{is_in, Gathers, AreMeets}
use Rattle.rv_cases.proofs.Gathering.{in_later, gathers_none, gathers_one, meets_later, meets_one}
use Rattle.rv_cases.proofs.splitting.add_meet.Goals as goal

pub returns-then-is_false-clause-gathers : goal.returns-then-is_false-clause-gathers
returns-then-is_false-clause-gathers c = gathers_none c.args.store.now c.and.new.self
    (λ v. is_in c.args.store.now.nodes c.args.conditions.now c.args.i v && is_in c.args.store.now.nodes c.args.answers.now c.args.b v)
    c.args.made.now.items (grows_extends c.args.store.now c.and.new.self c.in_ok-both.ensures.ok.grows)
    (λ v. sym (c.in_ok-both.ensures.ok.means v) ∙ c.is_false.ensures.0 c.if-is_false.true v)

pub returns-then-is_false-clause-met : goal.returns-then-is_false-clause-met
returns-then-is_false-clause-met c = meets_later c.args.store.now c.and.new.self c.args.conditions.now c.args.answers.now c.args.made.now.items
    (grows_extends c.args.store.now c.and.new.self c.in_ok-both.ensures.ok.grows) c.requires.conditions c.requires.answers c.requires.made

pub returns-clause-gathers : goal.returns-clause-gathers
returns-clause-gathers c =
    subst (λ (l : List ℕ). Gathers c.args.store.now.nodes c.and.new.self.nodes
    (λ v. is_in c.args.store.now.nodes c.args.conditions.now c.args.i v && is_in c.args.store.now.nodes c.args.answers.now c.args.b v)
    c.args.made.now.items l) (sym c.in_ok-push.ensures.items)
    (gathers_one c.args.store.now c.and.new.self
    (λ v. is_in c.args.store.now.nodes c.args.conditions.now c.args.i v && is_in c.args.store.now.nodes c.args.answers.now c.args.b v)
    c.in_ok-both.both c.args.made.now.items (grows_extends c.args.store.now c.and.new.self c.in_ok-both.ensures.ok.grows)
    c.in_ok-both.ensures.ok.found c.in_ok-both.ensures.ok.means
    (some_from c.and.new.self.nodes c.and.new.self.variables c.in_ok-both.both c.mark-count.ensures.reads c.in_ok-both.ensures.ok.found
    (λ none. false≢true (sym c.if-is_false.false ∙ c.is_false.ensures.1 none))))

pub returns-clause-met : goal.returns-clause-met
returns-clause-met c h =
    let e : Extends c.args.store.now c.and.new.self = grows_extends c.args.store.now c.and.new.self c.in_ok-both.ensures.ok.grows in
    subst (λ (l : List ℕ). AreMeets c.and.new.self.nodes c.args.conditions.now c.args.answers.now l) (sym c.in_ok-push.ensures.items)
    (meets_one c.and.new.self.nodes c.args.conditions.now c.args.answers.now c.args.made.now.items c.args.i c.args.b c.in_ok-both.both c.requires.i c.requires.b
    (λ v. c.in_ok-both.ensures.ok.means v
    ∙ ap (λ x. x && is_in c.args.store.now.nodes c.args.answers.now c.args.b v)
    (sym (in_later c.args.store.now c.and.new.self c.args.conditions.now e c.requires.conditions c.args.i c.requires.i v))
    ∙ ap (λ x. is_in c.and.new.self.nodes c.args.conditions.now c.args.i v && x)
    (sym (in_later c.args.store.now c.and.new.self c.args.answers.now e c.requires.answers c.args.b c.requires.b v)))
    (meets_later c.args.store.now c.and.new.self c.args.conditions.now c.args.answers.now c.args.made.now.items e c.requires.conditions c.requires.answers
    c.requires.made h))
