use Rattle.std.proofs.Common.{◌≡◌, ◌∙◌, ap, sym, rules, Some, None, nat_eq}
use Rattle.std.specs.{Map.lookup, Cmp.Lexicographic.pointwise}
use Rattle.rv_types.specs.Names.{stands_before}
use Rattle.rv_types.proofs.Spaced.{before_looked, is_less}
use Rattle.rv_types.proofs.space.Space.is_before.Goals as goal

pub returns-in-None : goal.returns-in-None
returns-in-None c =
    let none : lookup (pointwise nat_eq c.args.name.now) c.self.inside.names.entries ≡ None = search rules in
    sym (ap (is_less c.args.at) none) ∙ before_looked c.args.at c.self.inside.names.entries c.args.name.now
    ∙ ap (λ names. stands_before c.args.at names c.args.name.now) c.self.view_is

pub returns-in-Some : goal.returns-in-Some
returns-in-Some c =
    let some : lookup (pointwise nat_eq c.args.name.now) c.self.inside.names.entries ≡ Some c.in-Some.first.now = search rules in
    sym (ap (is_less c.args.at) some) ∙ before_looked c.args.at c.self.inside.names.entries c.args.name.now
    ∙ ap (λ names. stands_before c.args.at names c.args.name.now) c.self.view_is
