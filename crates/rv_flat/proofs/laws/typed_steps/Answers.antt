use Rattle.rv_flat.proofs.Typing.{memories_taken}
use Rattle.rv_flat.proofs.laws.typed_steps.Goals as goal

pub returns : goal.returns
returns c = memories_taken c.typed_instants.ensures.memories c.some_next.ensures
