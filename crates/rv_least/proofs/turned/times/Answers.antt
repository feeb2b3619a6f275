use Rattle.std.proofs.Common.{◌≡◌, ◌*ℤ◌, ℤ, List, IfOk, sym, subst}
use Rattle.rv_rows.specs.Forms.{value}
use Rattle.rv_least.specs.{declared.turned.Sign.Sign, Turned.sign_of}
use Rattle.rv_least.proofs.turned.times.Goals as goal

pub returns-in-Plus-clause-values : goal.returns-in-Plus-clause-values
returns-in-Plus-clause-values c =
    subst (λ (x : Sign). IfOk c.same_form.result (λ f. (point : List ℤ) → value f point ≡ sign_of x *ℤ value c.args.form.now point)) (sym c.in-Plus.is)
    c.same_form.ensures.values

pub returns-in-Minus-clause-values : goal.returns-in-Minus-clause-values
returns-in-Minus-clause-values c =
    subst (λ (x : Sign). IfOk c.opposite_form.result (λ f. (point : List ℤ) → value f point ≡ sign_of x *ℤ value c.args.form.now point))
    (sym c.in-Minus.is) c.opposite_form.ensures.values
