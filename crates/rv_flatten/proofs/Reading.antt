-- What stands for an element of a list past its end.
use Rattle.std.proofs.Common.{◌≡◌, ℕ, List, get_or, sym, ◌∙◌, ap, None as Nothing}
use Rattle.std.proofs.lemmas.Option.{unwrap_or-slice_get}
use Rattle.std.specs.Prelude.{slice_get, unwrap_or}

pub read_nothing : {X : Type 0} (xs : List X) (i : ℕ) (d : X) → slice_get xs i ≡ Nothing → get_or xs i d ≡ d
read_nothing xs i d e = sym (unwrap_or-slice_get xs i d) ∙ ap (λ o. unwrap_or o d) e
