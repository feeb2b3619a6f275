-- Elements of a list, and what stands for them past its end.
use Rattle.std.proofs.Common.{◌≡◌, ℕ, ◌<◌, List, length, map, get_or, sym, ◌∙◌, ap, None as Nothing}
use Rattle.std.proofs.{lemmas.List.get_or-map, lemmas.Option.unwrap_or-slice_get}
use Rattle.std.specs.Prelude.{slice_get, unwrap_or}

pub read_nothing : {X : Type 0} (xs : List X) (i : ℕ) (d : X) → slice_get xs i ≡ Nothing → get_or xs i d ≡ d
read_nothing xs i d e = sym (unwrap_or-slice_get xs i d) ∙ ap (λ o. unwrap_or o d) e

-- what a list says of the item of a loop over it
pub read_at : {A B : Type 0} (g : A → B) (list items : List A) (k : ℕ) (item : A) (d : B) → items ≡ list → k < length items → item ≡ get_or items k item
    → get_or (map g list) k d ≡ g item
read_at g list items k item d e lt is = ap (λ xs. get_or (map g xs) k d) (sym e) ∙ get_or-map g items k item d lt ∙ ap g (sym is)
