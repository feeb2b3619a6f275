-- Calls of a store in turn.
use Rattle.std.proofs.Common.{ℕ, ◌≡◌, Bool, [], ◌++◌, refl, sym, ap, ◌∙◌, subst, arith, Result, Ok, Err, IfOk, OnErr}
use Rattle.std.proofs.lemmas.List.{append-nil, append_assoc}
use Rattle.rv_diagram.specs.Nodes.{Valuation, Diagrams, Grows, Answers}
use Rattle.rv_diagram.specs.{Growing.Extends, Several.Gives}

pub extends_refl : (s : Diagrams) → Extends s s
extends_refl s = record { begins = ([], sym (append-nil s.nodes)); longer = omega arith; kept = λ r h v. refl; variables = refl; limit = refl }

pub extends_trans : (a b c : Diagrams) → Extends a b → Extends b c → Extends a c
extends_trans a b c p q = record {
  begins = (p.begins.0 ++ q.begins.0, q.begins.1 ∙ ap (λ l. l ++ q.begins.0) p.begins.1 ∙ append_assoc a.nodes p.begins.0 q.begins.0);
  longer = omega (arith, p.longer, q.longer);
  kept = λ r h v. q.kept r (omega (arith, p.longer)) v ∙ p.kept r h v;
  variables = q.variables ∙ p.variables;
  limit = q.limit ∙ p.limit;
}

pub grows_extends : (a b : Diagrams) → Grows a b → Extends a b
grows_extends a b g = record { begins = g.begins; longer = g.longer; kept = g.kept; variables = g.variables; limit = g.limit }

pub equal_extends : (a b : Diagrams) → b ≡ a → Extends a b
equal_extends a b e = subst (λ (s : Diagrams). Extends a s) (sym e) (extends_refl a)

-- a call of the store, after which nothing has changed or the list has grown
pub call_extends : {E : Type 0} (a b : Diagrams) (f : Valuation → Bool) (o : Result ℕ E) → IfOk o (λ r. Answers a b f r) → OnErr o (b ≡ a) → Extends a b
call_extends a b f (Ok r) ok err = grows_extends a b ok.grows
call_extends a b f (Err e) ok err = equal_extends a b err

pub gives_extends : {E : Type 0} (a b : Diagrams) (f : Valuation → Type 0) (o : Result ℕ E) → IfOk o (λ r. Gives a b f r) → OnErr o (b ≡ a) → Extends a b
gives_extends a b f (Ok r) ok err = grows_extends a b ok.grows
gives_extends a b f (Err e) ok err = equal_extends a b err
