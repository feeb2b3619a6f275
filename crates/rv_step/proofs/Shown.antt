-- What memories take that is kept stays so in longer rows.
use Rattle.std.proofs.Common.{◌≡◌, ℕ, ◌<◌, List, [], ◌∷◌, ◌++◌, length, sym, ◌∙◌, arith, length-append, Option, None as Nothing}
use Rattle.std.proofs.lemmas.List.{get_or_append_left}
use Rattle.rv_base.specs.declared.value.Value.{Value}
use Rattle.rv_agreement.specs.Evaluation.{Found}
use Rattle.rv_flat.specs.{declared.parts.FlatMemory.FlatMemory, Filling.AreShown, FlatInstants.Row, FlatInstants.nth, Inlined.table_of}
use Rattle.rv_flat.proofs.NamedTicks.{over_more, same_value}

pub shown_more : (ms : List FlatMemory) (found : Found Value) (row : Row) (value : Option Value) (shown : List (Option Value)) → AreShown ms found row shown
    → AreShown ms found (row ++ value ∷ []) shown
shown_more ms found row value shown are =
    let longer = row ++ value ∷ [] in
    let agree : (k : ℕ) → k < length row → nth row k ≡ nth longer k = λ k lt. sym (get_or_append_left row (value ∷ []) Nothing k lt) in
    let long = length-append row (value ∷ []) in
    record {
      many = are.many;
      each = λ m v is.
          let kept = are.each m v is in
          let body = (table_of ms m).body in
          let over = over_more (length row) (length longer) body (λ k lt. omega (arith, long)) kept.0 in
          (over, kept.1 ∙ same_value found row longer (length row) agree body kept.0);
    }
