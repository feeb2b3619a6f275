use Rattle.std.proofs.{Common.map, Common.◌∙◌, lemmas.Result.IfOk-weaker}
use Rattle.rv_types.specs.Lists.{sites_of}
use Rattle.rv_flatten.specs.Kept.{kept_memory, found_comparison}
use Rattle.rv_flatten.proofs.VariableParts.{list_same, ticks_listed}
use Rattle.rv_flatten.proofs.variables.variables_of.Goals as goal

pub returns-clause-list : goal.returns-clause-list
returns-clause-list c p e =
    IfOk-weaker c.listed_variables.result _ _
    (λ made is. is ∙ list_same p c.args.types.now e (sites_of c.args.ticks.now) (map kept_memory c.args.kept.now) c.args.inputs.now
    (map found_comparison c.args.comparisons.now)) c.listed_variables.ensures

pub returns-clause-ticks : goal.returns-clause-ticks
returns-clause-ticks c =
    IfOk-weaker c.listed_variables.result _ _
    (λ made is. ticks_listed made c.args.types.now (sites_of c.args.ticks.now) (map kept_memory c.args.kept.now) c.args.inputs.now
    (map found_comparison c.args.comparisons.now) is) c.listed_variables.ensures
