-- What a set of names by their hashes answers, in the words of lists of names.
use Rattle.std.proofs.Common.{◌≡◌, ℕ, ◌+◌, Bool, true, false, not, cond, ◌||◌, List, [], ◌∷◌, ◌++◌, length, refl, ap, nat_eq, nat_lt, position, Some, IfSome}
use Rattle.std.proofs.Common.{arith, None as Nothing}
use Rattle.std.specs.{List.list_any, List.position_or_len, Cmp.Lexicographic.pointwise}
use Rattle.rv_tree.specs.Places.{Identifier, is_same, is_among, index_of}
use Rattle.rv_calls.specs.Numbering.{with_name}
use Rattle.indexmap.specs.IndexSet.{insert_key}
use Rattle.rv_types.proofs.Spaced.{same_back}

-- a name is among some where one of them has its bytes
pub among_any : (xs : List Identifier) (x : Identifier) → list_any (is_same x) xs ≡ is_among xs x
among_any [] x = refl
among_any (y ∷ ys) x = (λ i. same_back x y i || among_any ys x i)

-- the number of a name is the place of the first one with its bytes
pub index_position : (xs : List Identifier) (x : Identifier) → position_or_len (is_same x) xs ≡ index_of xs x
index_position [] x = refl
index_position (y ∷ ys) x = tested (is_same x y) (is_same y x) (same_back x y) (index_position ys x)
  where
    tested : (a b : Bool) → a ≡ b → {k l : ℕ} → k ≡ l → cond (not a) (1 + k) 0 ≡ cond b 0 (l + 1)
    tested true true e f = refl
    tested true false e f = cc
    tested false true e f = cc
    tested false false e f = omega arith

pub position_index : (xs : List Identifier) (x : Identifier) → IfSome (position (is_same x) xs) (λ k. k ≡ index_of xs x)
position_index xs x = tested (nat_lt (position_or_len (is_same x) xs) (length xs)) (index_position xs x)
  where
    tested : (b : Bool) {k l : ℕ} → k ≡ l → IfSome (cond b (Some k) Nothing) (λ n. n ≡ l)
    tested true e = e
    tested false e = tt

-- a name is inserted where it is not among them
pub inserted : (xs : List Identifier) (x : Identifier) → insert_key (pointwise nat_eq) xs x ≡ with_name xs x
inserted xs x = ap (λ b. cond b xs (xs ++ x ∷ [])) (among_any xs x)
