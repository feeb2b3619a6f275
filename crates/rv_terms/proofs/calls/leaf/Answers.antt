use Rattle.std.proofs.Common.{◌≡◌, ◌∙◌, sym, ap, subst, length, List, [], ◌∷◌, ◌++◌}
use Rattle.rv_rows.specs.declared.linear.Form.{Form}
use Rattle.rv_terms.specs.{declared.parted.Part.Part, Parts.IsTermOf}
use Rattle.rv_terms.proofs.Finding.{leaf_made}
use Rattle.rv_terms.proofs.calls.leaf.Goals as goal

pub returns : goal.returns
returns c =
    let parts : c.push.new.self ≡ (record { under = 1; form = c.args.form.now }) ∷ [] =
    c.in_ok-push.ensures.ok ∙ ap (λ (l : List Part). l ++ (record { under = 1; form = c.in_ok-whole.whole }) ∷ []) c.new-parts.ensures
    ∙ ap (λ (f : Form). (record { under = 1; form = f }) ∷ []) c.in_ok-whole.ensures in
    record {
      exact = λ nodes. subst (λ (l : List Part). IsTermOf nodes (length c.args.form.now.coefficients) (λ v. c.args.form.now) l) (sym parts)
          (leaf_made nodes c.args.form.now);
    }
