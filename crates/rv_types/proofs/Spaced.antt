-- What a map of names to offsets answers, in the words of lists of names.
use Rattle.std.proofs.Common.{◌≡◌, ℕ, ◌+◌, Bool, true, false, not, cond, ◌||◌, List, [], ◌∷◌, ◌++◌, map, length, refl, sym, ap, ◌∙◌, nat_lt, position, Option}
use Rattle.std.proofs.Common.{Some, IfSome, is_some, arith, None as Nothing}
use Rattle.std.proofs.lemmas.List.{length-map, map-append}
use Rattle.std.specs.{List.position_or_len, Cmp.nat_eq_equiv, Cmp.partial_equiv_from_equiv, Cmp.Lexicographic.lists_per, Map.lookup, Map.keys_of}
use Rattle.rv_tree.specs.{declared.tree.Name.Name, Places.Identifier, Places.is_same, Places.index_of}
use Rattle.rv_types.proofs.NamePlaces.{index_past}
use Rattle.rv_types.specs.{Entries.named, Names.texts, Names.is_declared, Names.stands_before, Firsts.with_name}

abbrev pub Entry : Type 0
Entry = List ℕ × ℕ

-- two names are the same from either side
pub same_back : (x y : Identifier) → is_same x y ≡ is_same y x
same_back x y = (lists_per (partial_equiv_from_equiv nat_eq_equiv)).symm x y

-- a name is declared where one of the keys has its bytes
pub declared_looked : (es : List Entry) (x : Identifier) → is_some (lookup (is_same x) es) ≡ is_declared (map named es) x
declared_looked [] x = refl
declared_looked (e ∷ es) x = ap (λ b. is_some (cond b (Some e.1) (lookup (is_same x) es))) (same_back x e.0)
    ∙ (elim (is_same e.0 x) as (λ b. is_some (cond b (Some e.1) (lookup (is_same x) es)) ≡ (b || is_declared (map named es) x))
    [ true ↦ refl | false ↦ declared_looked es x ])

-- whether its offset is before another
abbrev pub is_less : ℕ → Option ℕ → Bool
is_less at Nothing = false
is_less at (Some k) = nat_lt k at

pub before_looked : (at : ℕ) (es : List Entry) (x : Identifier) → is_less at (lookup (is_same x) es) ≡ stands_before at (map named es) x
before_looked at [] x = refl
before_looked at (e ∷ es) x = ap (λ b. is_less at (cond b (Some e.1) (lookup (is_same x) es))) (same_back x e.0)
    ∙ (elim (is_same e.0 x) as (λ b. is_less at (cond b (Some e.1) (lookup (is_same x) es)) ≡ cond b (nat_lt e.1 at) (stands_before at (map named es) x))
    [ true ↦ refl | false ↦ before_looked at es x ])

-- the number of a name is the place of the first key with its bytes
pub index_position : (es : List Entry) (x : Identifier) → position_or_len (is_same x) (keys_of es) ≡ index_of (texts (map named es)) x
index_position [] x = refl
index_position (e ∷ es) x =
    ap (λ b. cond (not b) (1 + position_or_len (is_same x) (keys_of es)) 0) (same_back x e.0) ∙ tested (is_same e.0 x) (index_position es x)
  where
    tested : (b : Bool) {k l : ℕ} → k ≡ l → cond (not b) (1 + k) 0 ≡ cond b 0 (l + 1)
    tested true f = refl
    tested false f = omega arith

pub position_index : (es : List Entry) (x : Identifier) → IfSome (position (is_same x) (keys_of es)) (λ k. k ≡ index_of (texts (map named es)) x)
position_index es x = elim (nat_lt (position_or_len (is_same x) (keys_of es)) (length (keys_of es))) as
    (λ b. IfSome (cond b (Some (position_or_len (is_same x) (keys_of es))) Nothing) (λ k. k ≡ index_of (texts (map named es)) x))
    [ true ↦ index_position es x | false ↦ tt ]

-- an entry at the end is one name more, where it is not there
pub entry_added : (es fs : List Entry) (x : Name) → lookup (is_same x.text) es ≡ Nothing → fs ≡ es ++ (x.text, x.at) ∷ []
    → map named fs ≡ with_name (map named es) x
entry_added es fs x none added =
    let absent : is_declared (map named es) x.text ≡ false = sym (declared_looked es x.text) ∙ ap is_some none in
    ap (map named) added ∙ map-append named es ((x.text, x.at) ∷ []) ∙ sym (ap (λ b. cond b (map named es) (map named es ++ x ∷ [])) absent)

-- a name that is not there has as its number how many there are
pub index_absent : (xs : List Name) (x : Identifier) → is_declared xs x ≡ false → index_of (texts xs) x ≡ length xs
index_absent xs x h = index_past (texts xs) x h ∙ length-map xs (λ (x : Name). x.text)
