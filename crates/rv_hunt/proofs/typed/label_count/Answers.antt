use Rattle.std.proofs.{Common.length, Common.sym, Common.◌∙◌, Common.ap, lemmas.Option.unwrap_or-slice_get, lemmas.Option.slice_get-map}
use Rattle.std.specs.Prelude.{unwrap_or, option_map}
use Rattle.rv_flat.specs.Steps.{label_counts}
use Rattle.rv_hunt.proofs.typed.label_count.Goals as goal

pub returns-in-None : goal.returns-in-None
returns-in-None c =
    let f = c.args.flat.now in
    sym (sym (unwrap_or-slice_get (label_counts f) c.args.declaration 0)
    ∙ ap (λ o. unwrap_or o 0) (slice_get-map (λ ls. length ls) f.labels c.args.declaration ∙ ap (option_map (λ ls. length ls)) (sym c.in-None.ensures.value)))
