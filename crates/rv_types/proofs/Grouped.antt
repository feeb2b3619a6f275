-- Walks over the flows of a section that use what is found of a flow for the rest of its group.
use Rattle.std.proofs.Common.{◌≡◌, ℕ, zero, suc, ◌+◌, ◌<◌, List, [], ◌∷◌, ◌++◌, map, flat_map, take, length, get_or, slice_get, option_map, Option, Some, refl}
use Rattle.std.proofs.Common.{sym, ap, ◌∙◌, subst, arith, append_assoc}
use Rattle.std.proofs.{lemmas.Grind.flat_map-append, lemmas.List.map-append, lemmas.List.append-nil, lemmas.Option.slice_get-get_or}
use Rattle.rv_types.specs.{declared.fault.NameFault.NameFault, Earliest.sooner, Earliest.first}
use Rattle.rv_types.proofs.Joined.{first_append}
use Rattle.rv_base.proofs.Lists.{item_at, take_push}

-- what is found of a part of an item is found of the next one, which has the same part
pub kept : {X A B : Type 0} (part : X → B) (found : B → A) (xs : List X) (i : ℕ) (before : A) (x : X) → 0 < i → i < length xs
    → ((k : ℕ) → k + 1 ≡ i → option_map part (slice_get xs k) ≡ option_map part (slice_get xs i))
    → ((k : ℕ) (y : X) → k + 1 ≡ i → slice_get xs k ≡ Some y → before ≡ found (part y)) → slice_get xs i ≡ Some x → before ≡ found (part x)
kept part found xs zero before x later within alike known is = absurd (omega arith)
kept part found xs (suc k) before x later within alike known is =
    let there : slice_get xs k ≡ Some (get_or xs k x) = slice_get-get_or xs k x (omega arith) in
    let step : k + 1 ≡ suc k = omega arith in
    let same : Some (part (get_or xs k x)) ≡ Some (part x) = sym (ap (option_map part) there) ∙ alike k step ∙ ap (option_map part) is in
    let parts : part (get_or xs k x) ≡ part x = cc in
    known k (get_or xs k x) step there ∙ ap found parts

-- what is found of the item that was read
pub looked_up : {X A : Type 0} (found : X → A) (xs : List X) (i : ℕ) (own : A) (read x : X) → own ≡ found read
    → slice_get xs i ≡ Some read → slice_get xs i ≡ Some x → own ≡ found x
looked_up found xs i own read x e p q = let same : read ≡ x = cc in e ∙ ap found same

-- it is that of the item before the next one
pub here : {X A : Type 0} (found : X → A) (xs : List X) (i : ℕ) (own : A) → ((x : X) → slice_get xs i ≡ Some x → own ≡ found x)
    → (k : ℕ) (x : X) → k + 1 ≡ i + 1 → slice_get xs k ≡ Some x → own ≡ found x
here found xs i own known k x e is = let same : k ≡ i = omega arith in known x (subst (λ j. slice_get xs j ≡ Some x) same is)

-- the faults of one item more
pub fault_step : {X : Type 0} (faults : X → List NameFault) (xs : List X) (i : ℕ) (fault own both : Option NameFault) → i < length xs
    → ((x : X) → slice_get xs i ≡ Some x → own ≡ first (faults x)) → fault ≡ first (flat_map faults (take i xs)) → both ≡ sooner fault own
    → both ≡ first (flat_map faults (take (i + 1) xs))
fault_step faults xs i fault own both within known so_far joined =
    let w = item_at xs i within in
    let split : flat_map faults (take i xs ++ w.0 ∷ []) ≡ flat_map faults (take i xs) ++ faults w.0 =
    flat_map-append faults (take i xs) (w.0 ∷ []) ∙ ap (λ l. flat_map faults (take i xs) ++ l) (append-nil (faults w.0)) in
    joined ∙ (λ j. sooner (so_far j) (known w.0 w.1 j)) ∙ sym (first_append (flat_map faults (take i xs)) (faults w.0))
    ∙ ap first (sym split ∙ ap (flat_map faults) (take_push xs (take i xs) i w.0 refl w.1))

-- what is found of one item more is added
pub pushed_step : {X A : Type 0} (found : X → A) (xs : List X) (i : ℕ) (own : A) (initial old new : List A) → i < length xs
    → ((x : X) → slice_get xs i ≡ Some x → own ≡ found x) → old ≡ initial ++ map found (take i xs) → new ≡ old ++ own ∷ []
    → new ≡ initial ++ map found (take (i + 1) xs)
pushed_step found xs i own initial old new within known so_far pushed =
    let w = item_at xs i within in
    pushed ∙ (λ j. so_far j ++ known w.0 w.1 j ∷ []) ∙ append_assoc initial (map found (take i xs)) (found w.0 ∷ [])
    ∙ ap (λ l. initial ++ l) (sym (map-append found (take i xs) (w.0 ∷ [])) ∙ ap (map found) (take_push xs (take i xs) i w.0 refl w.1))
