-- The first fault of two lists joined.
use Rattle.std.proofs.Common.{◌≡◌, ℕ, ◌+◌, ◌<◌, List, [], ◌∷◌, ◌++◌, Option, Some, None, refl, sym, ap, ◌∙◌, arith, length, get_or, take, map, flat_map}
use Rattle.std.proofs.{lemmas.Bool.Decides.nat_tests, lemmas.List.take_more, lemmas.List.map-append, lemmas.List.append-nil, lemmas.Grind.flat_map-append}
use Rattle.rv_types.specs.{declared.fault.NameFault.NameFault, Earliest.sooner, Earliest.first}

pub sooner_none : (a : Option NameFault) → sooner a None ≡ a
sooner_none None = refl
sooner_none (Some f) = refl

pick_assoc : (f g h : NameFault) → sooner (sooner (Some f) (Some g)) (Some h) ≡ sooner (Some f) (sooner (Some g) (Some h))
pick_assoc f g h = grind (arith, nat_tests)

pub sooner_assoc : (a b c : Option NameFault) → sooner (sooner a b) c ≡ sooner a (sooner b c)
sooner_assoc None b c = refl
sooner_assoc (Some f) None c = refl
sooner_assoc (Some f) (Some g) None = sooner_none (sooner (Some f) (Some g))
sooner_assoc (Some f) (Some g) (Some h) = pick_assoc f g h

pub first_append : (xs ys : List NameFault) → first (xs ++ ys) ≡ sooner (first xs) (first ys)
first_append [] ys = refl
first_append (x ∷ xs) ys = ap (sooner (Some x)) (first_append xs ys) ∙ sym (sooner_assoc (Some x) (first xs) (first ys))

-- the faults of one element more
pub mapped_step : {X Y : Type 0} (f : Y → List NameFault) (t : X → Y) (xs : List X) (k : ℕ) (x : X) (fault one both : Option NameFault) → k < length xs
    → x ≡ get_or xs k x
    → fault ≡ first (flat_map f (map t (take k xs))) → one ≡ first (f (t x)) → both ≡ sooner fault one → both ≡ first (flat_map f (map t (take (k + 1) xs)))
mapped_step f t xs k x fault one both h is so_far here joined =
    let longer : take (k + 1) xs ≡ take k xs ++ x ∷ [] = take_more xs k x h ∙ ap (λ y. take k xs ++ y ∷ []) (sym is) in
    let split : flat_map f (map t (take (k + 1) xs)) ≡ flat_map f (map t (take k xs)) ++ f (t x) =
    ap (λ l. flat_map f (map t l)) longer ∙ ap (flat_map f) (map-append t (take k xs) (x ∷ []))
    ∙ flat_map-append f (map t (take k xs)) (t x ∷ []) ∙ ap (λ l. flat_map f (map t (take k xs)) ++ l) (append-nil (f (t x))) in
    joined ∙ (λ i. sooner (so_far i) (here i)) ∙ sym (first_append (flat_map f (map t (take k xs))) (f (t x))) ∙ sym (ap first split)
