-- What a name means after some declarations of different names, the last of them first, is what stands at its number.
use Rattle.std.proofs.Common.{◌≡◌, Bool, true, false, cond, List, [], ◌∷◌, ◌++◌, map, reverse, length, Option, Some, refl, sym, ap, ◌∙◌, arith, slice_get}
use Rattle.std.proofs.Common.{None as Nothing, length-append, append-nil}
use Rattle.std.proofs.{lemmas.List.reverse-append, lemmas.List.map-append}
use Rattle.rv_tree.specs.{declared.tree.Name.Name, Places.Identifier, Places.is_same, Places.index_of}
use Rattle.rv_types.specs.{Names.texts, Names.is_declared, Names.repeated, Firsts.firsts, Tables.entry_in}
use Rattle.rv_types.proofs.FirstNames.{declared_alike, declared_firsts, repeated_append}
use Rattle.rv_types.proofs.{Entries.entry_found, Entries.found_in, Entries.found_after, Entries.either_of, Members.no_fault, RightNames.both_empty}

-- what a name means after declarations, the last of them first
abbrev pub last_of : {A B : Type 0} → (A → Name) → (List A → A → B) → List A → Identifier → Option B
last_of name mean [] x = Nothing
last_of name mean (c ∷ before) x = cond (is_same (name c).text x) (Some (mean before c)) (last_of name mean before x)

-- what each of them means, in the order of the text
abbrev pub all_of : {A B : Type 0} → (List A → A → B) → List A → List B
all_of mean [] = []
all_of mean (c ∷ before) = all_of mean before ++ mean before c ∷ []

pub all_of-length : {A B : Type 0} (mean : List A → A → B) (cs : List A) → length (all_of mean cs) ≡ length cs
all_of-length mean [] = refl
all_of-length mean (c ∷ cs) = length-append (all_of mean cs) (mean cs c ∷ []) ∙ (let e = all_of-length mean cs in omega arith)

pub all_of-map : {A B : Type 0} (f : A → B) (cs : List A) → all_of (λ before c. f c) cs ≡ map f (reverse cs)
all_of-map f [] = refl
all_of-map f (c ∷ cs) = ap (λ ys. ys ++ f c ∷ []) (all_of-map f cs) ∙ sym (map-append f (reverse cs) (c ∷ [])) ∙ ap (map f) (sym (reverse-append (c ∷ []) cs))

-- the names of declarations, the last of them first, in the order of the text
abbrev pub front_of : {A : Type 0} → (A → Name) → List A → List Name
front_of name cs = all_of (λ before c. name c) cs

either_none : {A : Type 0} (o : Option A) → either_of o Nothing ≡ o
either_none Nothing = refl
either_none (Some a) = refl

found_nothing : {A : Type 0} (names : List Name) (x : Identifier) → found_in {A = A} names [] x ≡ Nothing
found_nothing [] x = refl
found_nothing (n ∷ names) x = refl

as_many : {A B : Type 0} (name : A → Name) (mean : List A → A → B) (cs : List A) → length (front_of name cs) ≡ length (all_of mean cs)
as_many name mean cs = all_of-length (λ before c. name c) cs ∙ sym (all_of-length mean cs)

-- where no name is declared twice, the last declaration of a name is its first one
last_found : {A B : Type 0} (name : A → Name) (mean : List A → A → B) (cs : List A) → repeated [] (front_of name cs) ≡ [] → (x : Identifier)
    → last_of name mean cs x ≡ found_in (front_of name cs) (all_of mean cs) x
last_found name mean [] different x = refl
last_found name mean (c ∷ cs) different x =
    tested (is_same (name c).text x) refl (last_found name mean cs parts.0 x)
    ∙ sym (found_after (front_of name cs) (name c ∷ []) (all_of mean cs) (mean cs c ∷ []) x (as_many name mean cs))
  where
    parts : (repeated [] (front_of name cs) ≡ []) × (repeated (firsts (front_of name cs)) (name c ∷ []) ≡ [])
    parts = both_empty _ _ (sym (repeated_append [] (front_of name cs) (name c ∷ [])) ∙ different)

    tested : (b : Bool) → is_same (name c).text x ≡ b → last_of name mean cs x ≡ found_in (front_of name cs) (all_of mean cs) x
        → cond b (Some (mean cs c)) (last_of name mean cs x) ≡ either_of (found_in (front_of name cs) (all_of mean cs) x) (cond b (Some (mean cs c)) Nothing)
    tested true s before =
        let absent : is_declared (front_of name cs) x ≡ false = sym (declared_alike (front_of name cs) (name c).text x s)
        ∙ sym (declared_firsts (front_of name cs) (name c).text) ∙ (no_fault _ _ _ parts.1).0 in
        let none = sym (entry_found (front_of name cs) (all_of mean cs) x)
        ∙ ap (λ b. cond b (slice_get (all_of mean cs) (index_of (texts (front_of name cs)) x)) Nothing) absent in
        sym (ap (λ o. either_of o (Some (mean cs c))) none)
    tested false s before = before ∙ sym (either_none (found_in (front_of name cs) (all_of mean cs) x))

pub last_is : {A B : Type 0} (name : A → Name) (mean : List A → A → B) (names rest : List Name) (cs : List A) → names ≡ front_of name cs ++ rest
    → repeated [] names ≡ [] → (x : Identifier) → last_of name mean cs x ≡ entry_in names (all_of mean cs) x
last_is name mean names rest cs e different x =
    last_found name mean cs (both_empty _ _ (sym (repeated_append [] (front_of name cs) rest) ∙ sym (ap (repeated []) e) ∙ different)).0 x
    ∙ sym (either_none (found_in (front_of name cs) (all_of mean cs) x))
    ∙ ap (either_of (found_in (front_of name cs) (all_of mean cs) x)) (sym (found_nothing rest x))
    ∙ sym (found_after (front_of name cs) rest (all_of mean cs) [] x (as_many name mean cs))
    ∙ (λ i. found_in (sym e i) (append-nil (all_of mean cs) i) x) ∙ sym (entry_found names (all_of mean cs) x)
