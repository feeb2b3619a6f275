-- What an iterator over the elements of a list of its own has given once it is at its end.
use Rattle.std.proofs.Common.{◌≡◌, List, [], ◌∷◌, ◌++◌, ◌∙◌, ap, sym, append-nil}
use Rattle.std.proofs.lemmas.List.{nil_from_length}
use Rattle.std.specs.Iterator.{DrainsIf, Yields}
use Rattle.std.specs.Vec.Iter.{into_iter_items, into_iter_steps}
use Rattle.std.specs.declared.vec.IntoIter.{IntoIter}

-- what it has given is a front of its items
given_front : {X A : Type 0} (s : IntoIter X A) (xs : List X) (t : IntoIter X A) → Yields into_iter_steps s xs t
    → into_iter_items s ≡ xs ++ into_iter_items t
given_front s [] t y = ap into_iter_items y
given_front s (x ∷ xs) t y = y.1.0 ∙ ap (λ ys. x ∷ ys) (given_front y.0 xs t y.2)

-- at its end it has given all
pub given_all : {X A : Type 0} (W : Type 0) (s : IntoIter X A) (xs : List X) → DrainsIf into_iter_steps W s xs → W → xs ≡ into_iter_items s
given_all W s xs drains whole =
    let t = drains.0 in
    let end = drains.2 whole in
    let empty = nil_from_length (into_iter_items t) (sym t.rest.ok.0 ∙ end.1.0) in
    sym (given_front s xs t drains.1 ∙ (ap (λ ys. xs ++ ys) empty ∙ append-nil xs))
