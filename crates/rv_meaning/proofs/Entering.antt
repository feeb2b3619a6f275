-- What tables have once names and calls were entered in them.
use Rattle.std.proofs.Common.{◌≡◌, ℕ, zero, suc, ◌+◌, ◌<◌, true, false, cond, nat_eq, unwrap_or, List, [], ◌∷◌, ◌++◌, length, refl, sym, ◌∙◌, ap, arith, Option}
use Rattle.std.proofs.Common.{Some, slice_get, add-zero, zero-add, None as Nothing}
use Rattle.std.specs.HashMap as hash
use Rattle.std.specs.{HashMap.HashMap, Option.option_map}
use Rattle.rv_tree.specs.{Tree.NodeTree, Places.Identifier, Places.is_same, Places.index_of}
use Rattle.rv_types.specs.Instances.{CallTree, calls}
use Rattle.rv_meaning.specs.{declared.numbers.Numbers.Numbers, Callings.callings, Callings.first_callee, Callings.callee_in, Leading.callee_in_node}
use Rattle.rv_meaning.specs.{Leading.node_texts, Numbers.entered, Numbers.number_in, Numbers.AreNumbers}
use Rattle.rv_meaning.proofs.{States.first_with, Calling.call_site, Calling.call_name, Calling.node_callee}
use Rattle.rv_base.proofs.Lists.{get_push}

-- names that are entered after others, before them in order
pub entered_both : (k : ℕ) (xs ys : List Identifier) (before : Option ℕ) (x : Identifier)
    → entered k xs (entered (k + length xs) ys before x) x ≡ entered k (xs ++ ys) before x
entered_both k [] ys before x = ap (λ j. entered j ys before x) (add-zero k)
entered_both k (y ∷ xs) ys before x =
    let next : k + length (y ∷ xs) ≡ k + 1 + length xs = omega arith in
    ap (cond (is_same y x) (Some k)) (ap (λ j. entered (k + 1) xs (entered j ys before x) x) next ∙ entered_both (k + 1) xs ys before x)

-- the number of a name is the first place where it stands
pub entered_number : (k : ℕ) (xs : List Identifier) (x : Identifier) → unwrap_or (entered k xs Nothing x) (k + length xs) ≡ k + index_of xs x
entered_number k [] x = refl
entered_number k (y ∷ xs) x =
    let next : k + length (y ∷ xs) ≡ k + 1 + length xs = omega arith in
    let last : k + 1 + index_of xs x ≡ k + (index_of xs x + 1) = omega arith in
    elim (is_same y x) as (λ b. unwrap_or (cond b (Some k) (entered (k + 1) xs Nothing x)) (k + length (y ∷ xs)) ≡ k + cond b 0 (index_of xs x + 1))
    [ true ↦ sym (add-zero k) | false ↦ ap (unwrap_or (entered (k + 1) xs Nothing x)) next ∙ entered_number (k + 1) xs x ∙ last ]

-- what all names were entered into are their numbers
pub are_numbers : (xs : List Identifier) (m : Numbers) → m.count ≡ length xs → ((x : Identifier) → hash.get is_same m.numbers x ≡ entered 0 xs Nothing x)
    → AreNumbers xs m
are_numbers xs m many has = record {
  count = many;
  number = λ x.
      let all : m.count ≡ 0 + length xs = omega (arith, many) in
      (λ i. unwrap_or (has x i) (all i)) ∙ entered_number 0 xs x ∙ zero-add (index_of xs x);
}

-- what calls are found by their callees' numbers
called : (m : Numbers) (cs : List CallTree) (s : ℕ) → first_callee (callings m cs) s ≡ option_map (number_in m)
    (option_map call_name (first_with call_site cs s))
called m [] s = refl
called m (c ∷ cs) s = elim (nat_eq c.site s)
    as (λ b. cond b (Some (number_in m c.name)) (first_callee (callings m cs) s)
    ≡ option_map (number_in m) (option_map call_name (cond b (Some c) (first_with call_site cs s)))) [ true ↦ refl | false ↦ called m cs s ]

-- numbers that are the same for each name are the same for one that may be there
alike : (f g : Identifier → ℕ) → ((x : Identifier) → f x ≡ g x) → (o : Option Identifier) → option_map f o ≡ option_map g o
alike f g same Nothing = refl
alike f g same (Some x) = ap Some (same x)

-- the callee of a call of a node
pub called_in_node : (ns : List NodeTree) (m : Numbers) → AreNumbers (node_texts ns) m → (n : NodeTree) (s : ℕ)
    → first_callee (callings m (calls n)) s ≡ option_map (index_of (node_texts ns)) (callee_in_node n s)
called_in_node ns m are n s = called m (calls n) s ∙ ap (option_map (number_in m)) (sym (node_callee s n))
    ∙ alike (number_in m) (index_of (node_texts ns)) are.number (callee_in_node n s)

module _ {S : Type 0} (tables : List (HashMap ℕ ℕ S)) (table : HashMap ℕ ℕ S) where
  -- one more table leaves the others as they are
  pub others_stay : (k s : ℕ) → k < length tables → callee_in (tables ++ table ∷ []) k s ≡ callee_in tables k s
  others_stay k s lt = ap (λ o. elim o as (λ _. Option ℕ) [ Nothing ↦ Nothing | Some table ↦ hash.get nat_eq table s ]) (front tables k lt)
    where
      front : (ts : List (HashMap ℕ ℕ S)) (k : ℕ) → k < length ts → slice_get (ts ++ table ∷ []) k ≡ slice_get ts k
      front [] k lt = absurd (omega arith)
      front (t ∷ ts) zero lt = refl
      front (t ∷ ts) (suc k) lt = front ts k (omega arith)

  -- and is the last
  pub last_is : (s : ℕ) → callee_in (tables ++ table ∷ []) (length tables) s ≡ hash.get nat_eq table s
  last_is s = ap (λ o. elim o as (λ _. Option ℕ) [ Nothing ↦ Nothing | Some table ↦ hash.get nat_eq table s ]) (get_push tables table)
