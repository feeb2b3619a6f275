-- The ticks after an instant, one after the other.
use Rattle.std.proofs.Common.{◌≡◌, ℕ, suc, ◌+◌, ◌<◌, Bool, false, ◌||◌, List, [], ◌∷◌, ◌++◌, map, length, get_or, drop, drop-cons, append_assoc, length-append}
use Rattle.std.proofs.Common.{sym, ◌∙◌, ap, arith, Some}
use Rattle.rv_flat.specs.{Filling.ticks_from, FlatInstants.Row, FlatInstants.is_on_at}

pub one_tick : (row : Row) (ticked : List Bool) (flows : List ℕ) (i : ℕ) (tick : Bool) (old new all : List Bool) → i < length flows
    → tick ≡ (get_or ticked (length old) false || is_on_at row (Some (get_or flows i 0))) → new ≡ old ++ tick ∷ []
    → old ++ ticks_from row ticked (length old) (map (λ k. Some k) (drop i flows)) ≡ all
    → new ++ ticks_from row ticked (length new) (map (λ k. Some k) (drop (i + 1) flows)) ≡ all
one_tick row ticked flows i tick old new all lt is grown had =
    let rest = map (λ (k : ℕ). Some k) (drop (i + 1) flows) in
    let long : length (old ++ tick ∷ []) ≡ length old + 1 = omega (arith, length-append old (tick ∷ [])) in
    let next : suc i ≡ i + 1 = omega arith in
    let cons : drop i flows ≡ get_or flows i 0 ∷ drop (i + 1) flows = drop-cons flows i 0 lt ∙ ap (λ n. get_or flows i 0 ∷ drop n flows) next in
    (λ j. grown j ++ ticks_from row ticked (length (grown j)) rest)
    ∙ ap (λ n. (old ++ tick ∷ []) ++ ticks_from row ticked n rest) long
    ∙ append_assoc old (tick ∷ []) (ticks_from row ticked (length old + 1) rest)
    ∙ ap (λ b. old ++ b ∷ ticks_from row ticked (length old + 1) rest) is
    ∙ ap (λ ds. old ++ ticks_from row ticked (length old) (map (λ k. Some k) ds)) (sym cons)
    ∙ had
