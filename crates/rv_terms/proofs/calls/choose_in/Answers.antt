use Rattle.std.proofs.Common.{◌∙◌, sym, subst, List, []}
use Rattle.rv_terms.specs.{declared.parted.Part.Part, Parts.chosen_form, Parts.IsFilledBy, Parts.term_width}
use Rattle.rv_terms.proofs.Combining.{term_later}
use Rattle.rv_terms.proofs.Classes.{classes_as, filled_trans, growth_whole, chosen_later, chosen_had, classes_term}
use Rattle.rv_terms.proofs.calls.choose_in.Goals as goal

pub add_forms-requires-2-clause-yes : goal.add_forms-requires-2-clause-yes
add_forms-requires-2-clause-yes c = term_later c.args.store.now c.add_forms.new.store (term_width c.args.yes.now) c.args.yes.now c.in-Ok.ensures.extends
    c.requires.yes

pub add_forms-requires-2-clause-no : goal.add_forms-requires-2-clause-no
add_forms-requires-2-clause-no c = term_later c.args.store.now c.add_forms.new.store (term_width c.args.yes.now) c.args.no.now c.in-Ok.ensures.extends
    c.requires.no

pub add_forms-requires-2-clause-parts : goal.add_forms-requires-2-clause-parts
add_forms-requires-2-clause-parts c = classes_as c.add_forms.new.store.nodes (term_width c.args.yes.now)
    (chosen_form c.args.store.now.nodes c.args.test c.args.yes.now c.args.no.now)
    (chosen_form c.add_forms.new.store.nodes c.args.test c.args.yes.now c.args.no.now) c.add_forms.new.parts
    (λ v. sym (chosen_later c.args.store.now c.add_forms.new.store (term_width c.args.yes.now) c.args.test c.args.yes.now c.args.no.now
    c.in-Ok.ensures.extends c.requires.test c.requires.yes c.requires.no v)) c.in-Ok.ensures.parts

pub returns-in-Ok-add_forms-clause-growth : goal.returns-in-Ok-add_forms-clause-growth
returns-in-Ok-add_forms-clause-growth c = growth_whole c.args.store.now c.add_forms-2.new.store c.add_forms-2.new.parts
    (filled_trans c.args.store.now c.add_forms.new.store c.add_forms-2.new.store [] c.add_forms.new.parts c.add_forms-2.new.parts
    c.in-Ok.ensures.extends.variables
    (subst (λ (l : List Part). IsFilledBy c.args.store.now c.add_forms.new.store l c.add_forms.new.parts) c.new-parts.ensures c.in-Ok.ensures.growth)
    c.in-Ok-add_forms.ensures.growth)

pub returns-in-Ok-add_forms-clause-exact : goal.returns-in-Ok-add_forms-clause-exact
returns-in-Ok-add_forms-clause-exact c =
    classes_term c.add_forms-2.new.store.nodes (term_width c.args.yes.now) (chosen_form c.args.store.now.nodes c.args.test c.args.yes.now c.args.no.now)
    c.add_forms-2.new.parts
    (classes_as c.add_forms-2.new.store.nodes (term_width c.args.yes.now) (chosen_form c.add_forms.new.store.nodes c.args.test c.args.yes.now c.args.no.now)
    (chosen_form c.args.store.now.nodes c.args.test c.args.yes.now c.args.no.now) c.add_forms-2.new.parts
    (chosen_later c.args.store.now c.add_forms.new.store (term_width c.args.yes.now) c.args.test c.args.yes.now c.args.no.now c.in-Ok.ensures.extends
    c.requires.test c.requires.yes c.requires.no) c.in-Ok-add_forms.ensures.parts)
    (chosen_had c.args.store.now.nodes (term_width c.args.yes.now) c.args.test c.args.yes.now c.args.no.now c.add_forms.new.parts c.add_forms-2.new.parts
    c.requires.yes c.requires.no
    c.in-Ok.ensures.has c.in-Ok-add_forms.ensures.stays (λ k low v e. c.in-Ok-add_forms.ensures.has k low v
    (chosen_later c.args.store.now c.add_forms.new.store (term_width c.args.yes.now) c.args.test c.args.yes.now c.args.no.now c.in-Ok.ensures.extends
    c.requires.test c.requires.yes c.requires.no v ∙ e)))
