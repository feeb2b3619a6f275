use Rattle.std.proofs.Common.{suc, length, sym, ◌∙◌}
use Rattle.rv_types.specs.Clocks.{flow_clocks}
use Rattle.rv_types.proofs.ChainLaws.{ends_after, grounded_ends, ends_grounded}
use Rattle.rv_types.proofs.laws.chains_end.Goals as goal

pub returns : goal.returns
returns c = λ n k. (
  (λ h. ends_grounded n (suc (length (flow_clocks n))) k (sym (ends_after n (suc (length (flow_clocks n))) k) ∙ h)),
  (λ g. ends_after n (suc (length (flow_clocks n))) k ∙ grounded_ends n k g),
)
