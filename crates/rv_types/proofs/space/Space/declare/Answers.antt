use Rattle.std.proofs.Common.{◌≡◌, ◌∙◌, ap, sym, rules, not, cond, true, false, is_some, None, ◌∷◌, ◌++◌, [], nat_eq}
use Rattle.std.specs.{Map.lookup, Cmp.Lexicographic.pointwise}
use Rattle.indexmap.specs.IndexMap.{insert_entry}
use Rattle.indexmap.proofs.CallerLemmas.{insert_entry-new}
use Rattle.rv_types.specs.{Names.is_declared, Firsts.with_name}
use Rattle.rv_types.proofs.Spaced.{declared_looked, entry_added}
use Rattle.rv_types.proofs.space.Space.declare.Goals as goal

pub returns-in-Some-clause-new : goal.returns-in-Some-clause-new
returns-in-Some-clause-new c =
    let some : is_some (lookup (pointwise nat_eq c.args.name.now.text) c.self.inside.names.entries) ≡ true = search rules in
    let looked = declared_looked c.self.inside.names.entries c.args.name.now.text in
    let view = c.self.view_is in
    let there : is_declared c.args.self.now c.args.name.now.text ≡ true = cc in
    sym (ap not there)

pub returns-in-Some-clause-names : goal.returns-in-Some-clause-names
returns-in-Some-clause-names c =
    let some : is_some (lookup (pointwise nat_eq c.args.name.now.text) c.self.inside.names.entries) ≡ true = search rules in
    let looked = declared_looked c.self.inside.names.entries c.args.name.now.text in
    let view = c.self.view_is in
    let there : is_declared c.args.self.now c.args.name.now.text ≡ true = cc in
    sym (ap (λ b. cond b c.args.self.now (c.args.self.now ++ c.args.name.now ∷ [])) there)

pub returns-in_ok-insert-in-None-clause-new : goal.returns-in_ok-insert-in-None-clause-new
returns-in_ok-insert-in-None-clause-new c =
    let none : is_some (lookup (pointwise nat_eq c.args.name.now.text) c.self.inside.names.entries) ≡ false = search rules in
    let looked = declared_looked c.self.inside.names.entries c.args.name.now.text in
    let view = c.self.view_is in
    let absent : is_declared c.args.self.now c.args.name.now.text ≡ false = cc in
    sym (ap not absent)

pub returns-in_ok-insert-in-None-clause-names : goal.returns-in_ok-insert-in-None-clause-names
returns-in_ok-insert-in-None-clause-names c =
    let none : lookup (pointwise nat_eq c.args.name.now.text) c.self.inside.names.entries ≡ None = search rules in
    let copied : c.in_ok-clone-in-None.field-0 ≡ c.args.name.now.text = search rules in
    let new = insert_entry-new (pointwise nat_eq) c.self.inside.names c.args.name.now.text c.args.name.now.at none in
    let entries = c.in_ok-insert-in-None.ensures.entries
    ∙ (λ i. insert_entry (pointwise nat_eq) c.self.inside.names.entries (copied i) c.args.name.now.at) ∙ new in
    entry_added c.self.inside.names.entries c.insert.new.self.entries c.args.name.now none entries ∙ (λ i. with_name (c.self.view_is i) c.args.name.now)
