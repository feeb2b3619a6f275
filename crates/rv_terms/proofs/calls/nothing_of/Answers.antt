use Rattle.std.proofs.Common.{◌≡◌, ◌∙◌, ap, List, [], ◌∷◌, ◌++◌, pos, sym, get_or}
use Rattle.std.proofs.lemmas.List.{get_or_read}
use Rattle.rv_rows.specs.{declared.linear.Form.Form, Arithmetic.form_times}
use Rattle.rv_terms.specs.{declared.parted.Part.Part, Parts.no_form, Parts.part_at}
use Rattle.rv_terms.proofs.Sums.{multiple_is}
use Rattle.rv_terms.proofs.calls.nothing_of.Goals as goal

pub returns : goal.returns
returns c =
    let is : c.index-a-0.result ≡ part_at c.args.a.now 0 =
    get_or_read c.args.a.now 0 c.index-a-0.result c.requires c.index-a-0.is (record { under = 0; form = no_form }) in
    let read : c.index-a-0.result ≡ get_or c.args.a.now 0 c.index-a-0.result =
    get_or_read c.args.a.now 0 c.index-a-0.result c.requires c.index-a-0.is c.index-a-0.result in
    c.in_ok-push.ensures.ok ∙ ap (λ (l : List Part). l ++ (record { under = 1; form = c.in_ok-form.form }) ∷ []) c.new-parts.ensures
    ∙ ap (λ (f : Form). (record { under = 1; form = f }) ∷ [])
    (multiple_is (pos 0) (get_or c.args.a.now 0 c.index-a-0.result).form c.in_ok-form.form c.in_ok-form.ensures.exact
    ∙ ap (λ (x : Part). form_times (pos 0) x.form) (sym read ∙ is))
