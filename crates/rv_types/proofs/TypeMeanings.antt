-- What the name of a type means is what stands at its number.
use Rattle.std.proofs.Common.{◌≡◌, ℕ, cond, Some, List, [], ◌∷◌, ◌++◌, map, reverse, length, refl, sym, ap, ◌∙◌}
use Rattle.std.proofs.lemmas.List.{map-append}
use Rattle.rv_tree.specs.{declared.tree.Name.Name, declared.tree.TypeDecl.TypeDecl, Places.Identifier, Places.is_same}
use Rattle.rv_types.specs.{declared.typed.Kind.Kind, Names.repeated, Kinds.declared_kind, Kinds.kind_after, Tables.entry_in, TypeTables.declared_kinds}
use Rattle.rv_types.proofs.LastFirst.{last_of, all_of, front_of, last_is, all_of-map, all_of-length}

abbrev meaning : List TypeDecl → TypeDecl → Kind
meaning before d = declared_kind (kind_after before) (length before) d.body

abbrev type_name : TypeDecl → Name
type_name d = d.name

as_all : (ds : List TypeDecl) → declared_kinds ds ≡ all_of meaning ds
as_all [] = refl
as_all (d ∷ ds) = ap (λ ks. ks ++ meaning ds d ∷ []) (as_all ds)

as_last : (ds : List TypeDecl) (t : Identifier) → kind_after ds t ≡ last_of type_name meaning ds t
as_last [] t = refl
as_last (d ∷ ds) t = ap (cond (is_same d.name.text t) (Some (meaning ds d))) (as_last ds t)

-- after some of the declarations
pub means : (types before rest : List TypeDecl) (names : List Name) → names ≡ map type_name types → types ≡ reverse before ++ rest → repeated [] names ≡ []
    → entry_in names (declared_kinds before) ≡ kind_after before
means types before rest names e whole different =
    let front : names ≡ front_of type_name before ++ map type_name rest =
    e ∙ ap (map type_name) whole ∙ map-append type_name (reverse before) rest ∙ ap (λ ns. ns ++ map type_name rest) (sym (all_of-map type_name before)) in
    λ i t. (ap (λ ks. entry_in names ks t) (as_all before) ∙ sym (last_is type_name meaning names (map type_name rest) before front different t)
    ∙ sym (as_last before t)) i

pub kinds-length : (ds : List TypeDecl) → length (declared_kinds ds) ≡ length ds
kinds-length ds = ap length (as_all ds) ∙ all_of-length meaning ds

-- one declaration more
pub one_kind : (types before rest : List TypeDecl) (names : List Name) (ks js : List Kind) (d : TypeDecl) (n : ℕ) (k : Kind) → names ≡ map type_name types
    → types ≡ reverse before ++ rest → repeated [] names ≡ [] → ks ≡ declared_kinds before → js ≡ ks → n ≡ length ks
    → k ≡ declared_kind (entry_in names js) n d.body → ks ++ k ∷ [] ≡ declared_kinds (d ∷ before)
one_kind types before rest names ks js d n k e whole different so_far seen counted is =
    let m : n ≡ length before = counted ∙ ap length so_far ∙ kinds-length before in
    let f : entry_in names js ≡ kind_after before = ap (entry_in names) (seen ∙ so_far) ∙ means types before rest names e whole different in
    (λ i. so_far i ++ (is ∙ (λ j. declared_kind (f j) (m j) d.body)) i ∷ [])
