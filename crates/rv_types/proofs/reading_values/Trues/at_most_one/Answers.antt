use Rattle.std.proofs.Common.{not, cond, Some, sym, ◌∙◌, ap, None as Nothing}
use Rattle.rv_base.specs.declared.value.Value.TheVariants.{Flag}
use Rattle.rv_types.proofs.ConstantValues.{at_most_form}
use Rattle.rv_types.proofs.reading_values.Trues.at_most_one.Goals as goal

pub returns-then-self-clause-value : goal.returns-then-self-clause-value
returns-then-self-clause-value c s known es is =
    let t = c.args.self in
    (λ i. Some (record { value = c.of_flag.ensures.value i; weight = c.of_flag.ensures.weight i }))
    ∙ ap (λ b. cond b (Some (record { value = Flag (not t.several); weight = 0 })) Nothing) (sym c.if-self.true) ∙ at_most_form s known t es is

pub returns-else-self-clause-value : goal.returns-else-self-clause-value
returns-else-self-clause-value c s known es is =
    let t = c.args.self in
    ap (λ b. cond b (Some (record { value = Flag (not t.several); weight = 0 })) Nothing) (sym c.if-self.false) ∙ at_most_form s known t es is
