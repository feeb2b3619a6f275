-- The groups of flows, as one more flow comes.
use Rattle.std.proofs.Common.{◌≡◌, ◌<◌, ℕ, zero, suc, List, [], ◌∷◌, ◌++◌, length, map, get_or, arith, append_assoc, length-append, refl, sym, ap, ◌∙◌, inl}
use Rattle.std.proofs.Common.{inr, ◌⊎◌}
use Rattle.std.proofs.{lemmas.List.append-nil, lemmas.List.get_or_append_left, Math.Nat.eq-or-lt_of_le, Math.Seq.get_or-append_seam, Math.Seq.take-append_seam}
use Rattle.std.specs.Prelude.{false, Result, Ok, Err, OnOk, OnErr, Option, Some, take, slice_get, option_map}
use Rattle.std.specs.Result.{is_err}
use Rattle.rv_tree.specs.{declared.tree.Decl.Decl, declared.tree.Name.Name, declared.tree.TypeName.TypeName, Groups.AreAlike, Groups.AreGroups, Groups.flow}

slice_get_front : {A : Type 0} → (xs ys : List A) (i : ℕ) → i < length xs → slice_get (xs ++ ys) i ≡ slice_get xs i
slice_get_front [] ys i p = absurd (omega arith)
slice_get_front (x ∷ xs) ys zero p = refl
slice_get_front (x ∷ xs) ys (suc i) p = slice_get_front xs ys i (omega arith)

slice_get_seam : {A : Type 0} → (xs : List A) (y : A) (ys : List A) → slice_get (xs ++ y ∷ ys) (length xs) ≡ Some y
slice_get_seam [] y ys = refl
slice_get_seam (x ∷ xs) y ys = slice_get_seam xs y ys

still_alike : (decls more : List Decl) (first i : ℕ) → i < length decls → AreAlike decls first i → AreAlike (decls ++ more) first i
still_alike decls more first i p alike =
    let q : first < length decls = omega (arith, alike.within) in
    record {
      within = alike.within;
      kind = rw (slice_get_front decls more first q, slice_get_front decls more i p) alike.kind;
      clock = rw (slice_get_front decls more first q, slice_get_front decls more i p) alike.clock;
    }

-- One more flow, with the number of the first of its group.
pub one-more : (firsts : List ℕ) (decls : List Decl) (first : ℕ) (d : Decl) → AreGroups firsts decls → AreAlike (decls ++ d ∷ []) first (length decls)
    → AreGroups (firsts ++ first ∷ []) (decls ++ d ∷ [])
one-more firsts decls first d groups last = record {
  long = omega (arith, groups.long, length-append firsts (first ∷ []), length-append decls (d ∷ []));
  alike = λ i p. at i (eq-or-lt_of_le (omega (arith, p, length-append decls (d ∷ []))));
}
  where
    at : (i : ℕ) → (i ≡ length decls) ⊎ (i < length decls) → AreAlike (decls ++ d ∷ []) (get_or (firsts ++ first ∷ []) i 0) i
    at i (inr p) =
        let q : i < length firsts = omega (arith, groups.long) in
        rw (get_or_append_left firsts (first ∷ []) 0 i q) (still_alike decls (d ∷ []) _ i p (groups.alike i p))
    at i (inl e) =
        let s : get_or (firsts ++ first ∷ []) i 0 ≡ first = rw (e ∙ sym groups.long) (get_or-append_seam firsts first [] 0) in
        rw (s, e) last

-- A flow of a group that begins with the flow of this number.
pub in-group : (old : List Decl) (k : TypeName) (clock : Option Name) (names : List Name) (x : Name)
    → AreAlike ((old ++ map (flow k clock) names) ++ flow k clock x ∷ []) (length old) (length (old ++ map (flow k clock) names))
in-group old k clock [] x = rw append-nil (record { within = omega arith; kind = refl; clock = refl })
in-group old k clock (y ∷ more) x =
    let before : List Decl = old ++ map (flow k clock) (y ∷ more) in
    let here : slice_get (before ++ flow k clock x ∷ []) (length before) ≡ Some (flow k clock x) = slice_get_seam before (flow k clock x) [] in
    let first : slice_get (before ++ flow k clock x ∷ []) (length old) ≡ Some (flow k clock y) =
    rw (append_assoc old (map (flow k clock) (y ∷ more)) (flow k clock x ∷ []))
    (slice_get_seam old (flow k clock y) (map (flow k clock) more ++ flow k clock x ∷ [])) in
    record {
      within = omega (arith, length-append old (map (flow k clock) (y ∷ more)));
      kind = ap (option_map (λ d. d.kind)) first ∙ sym (ap (option_map (λ d. d.kind)) here);
      clock = ap (option_map (λ d. d.clock)) first ∙ sym (ap (option_map (λ d. d.clock)) here);
    }

map-append : {A B : Type 0} → (f : A → B) (xs ys : List A) → map f (xs ++ ys) ≡ map f xs ++ map f ys
map-append f [] ys = refl
map-append f (x ∷ xs) ys = ap (λ l. f x ∷ l) (map-append f xs ys)

-- Some of the names have become flows, the first in their order.
pub some-made : {A B : Type 0} → (f : A → B) (now old : List B) (names done rest : List A) → done ++ rest ≡ names → now ≡ old ++ map f done
    → (k : ℕ) × (now ≡ old ++ take k (map f names))
some-made f now old names done rest e made =
    let t : take (length (map f done)) (map f names) ≡ map f done = rw (← e, map-append f done rest) (take-append_seam (map f done) (map f rest)) in
    (length (map f done), made ∙ ap (λ l. old ++ l) (sym t))

pub on-ok : {T E P : Type 0} → (r : Result T E) → is_err r ≡ false → OnOk r P → P
on-ok (Ok x) e p = p
on-ok (Err x) e p = cc

pub on-err : {T E P : Type 0} → (r : Result T E) → P → OnErr r P
on-err (Ok x) p = tt
on-err (Err x) p = p
