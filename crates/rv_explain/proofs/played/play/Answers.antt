use Rattle.std.proofs.Common.{◌≡◌, ℕ, ◌<◌, List, [], length, get_or, slice_get, Some, subst, ap}
use Rattle.std.proofs.{lemmas.Option.get_or_from_slice_get, lemmas.Option.slice_get_within}
use Rattle.std.specs.Prelude.{Ok}
use Rattle.rv_base.specs.declared.value.Value.{Value}
use Rattle.rv_flat.specs.Steps.{AreValues, input_kinds}
use Rattle.rv_explain.proofs.played.play.Goals as goal

-- what stands at a number of a list that has it
stands_at : (xs : List (List Value)) (k : ℕ) (x : List Value) → slice_get xs k ≡ Some x → (k < length xs) × (get_or xs k [] ≡ x)
stands_at xs k x e = (slice_get_within xs k x e, get_or_from_slice_get xs k x [] e)

pub take_turn-requires-clause-inputs : goal.take_turn-requires-clause-inputs
take_turn-requires-clause-inputs c =
    let f = c.args.flat.now in
    let k = c.loop-number.number in
    let x = c.at-input.result.now in
    let is = stands_at c.args.trace.now.instants k x c.at-input.ensures.value in
    subst (AreValues f (input_kinds f)) is.1 (c.requires.instants k [] is.0)

pub loop-number-preserved : goal.loop-number-preserved
loop-number-preserved c = c.in-Ok-GoesOn.ensures c.in-Ok-GoesOn.next (ap Ok c.in-Ok-GoesOn.field-0-is)
