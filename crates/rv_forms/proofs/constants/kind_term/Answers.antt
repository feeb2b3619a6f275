use Rattle.std.proofs.Common.{List, sym, subst, IfOk}
use Rattle.rv_types.specs.declared.typed.Kind.{Kind}
use Rattle.rv_diagram.specs.declared.Triple.{Triple}
use Rattle.rv_terms.specs.{declared.parted.Term.Term, Parts.IsTermOf}
use Rattle.rv_forms.specs.Columns.{kind_form}
use Rattle.rv_forms.proofs.constants.kind_term.Goals as goal

pub returns-in-Int-clause-exact : goal.returns-in-Int-clause-exact
returns-in-Int-clause-exact c =
    subst (λ (k : Kind). IfOk c.column_term.result
    (λ (t : Term). (nodes : List Triple) → IsTermOf nodes c.args.columns (λ v. kind_form c.args.columns k c.args.column) t.parts))
    (sym c.in-Int.is) c.column_term.ensures.exact

pub returns-in-Bool-clause-exact : goal.returns-in-Bool-clause-exact
returns-in-Bool-clause-exact c =
    subst (λ (k : Kind). IfOk c.zero_term.result
    (λ (t : Term). (nodes : List Triple) → IsTermOf nodes c.args.columns (λ v. kind_form c.args.columns k c.args.column) t.parts))
    (sym c.in-Bool.is) c.zero_term.ensures.exact

pub returns-in-Labels-clause-exact : goal.returns-in-Labels-clause-exact
returns-in-Labels-clause-exact c =
    subst (λ (k : Kind). IfOk c.zero_term-in-Labels.result
    (λ (t : Term). (nodes : List Triple) → IsTermOf nodes c.args.columns (λ v. kind_form c.args.columns k c.args.column) t.parts))
    (sym c.in-Labels.is) c.zero_term-in-Labels.ensures.exact
