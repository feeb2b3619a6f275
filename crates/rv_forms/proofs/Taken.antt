-- Lists that are made item by item.
use Rattle.std.proofs.Common.{◌≡◌, ℕ, ◌+◌, ◌<◌, ◌≤◌, List, [], ◌∷◌, ◌++◌, length, map, take, sym, ◌∙◌, ap, subst}
use Rattle.std.proofs.lemmas.List.{take_more, take_all, get_or-map, length-map}
use Rattle.std.specs.Prelude.{slice_index_or}

-- one item more
pub taken_more : {A : Type 0} (xs : List A) (i : ℕ) (d y : A) (before more : List A) → i < length xs → before ≡ take i xs → more ≡ before ++ y ∷ []
    → slice_index_or xs i d ≡ y → more ≡ take (i + 1) xs
taken_more xs i d y before more lt is push at = push ∙ (λ j. is j ++ sym at j ∷ []) ∙ sym (take_more xs i d lt)

-- one more of what is made of each item of a loop over a list
pub made_more : {A B : Type 0} (g : A → B) (xs items : List A) (i : ℕ) (x d : A) (y : B) (before more : List B) → items ≡ xs → i < length items
    → x ≡ slice_index_or items i d → y ≡ g x → before ≡ take i (map g xs) → more ≡ before ++ y ∷ [] → more ≡ take (i + 1) (map g xs)
made_more g xs items i x d y before more same lt at made is push =
    let low : i < length xs = subst (λ l. i < length l) same lt in
    let here : slice_index_or (map g xs) i (g d) ≡ y =
    get_or-map g xs i d (g d) low ∙ ap g (sym (ap (λ l. slice_index_or l i d) same)) ∙ ap g (sym at) ∙ sym made in
    taken_more (map g xs) i (g d) y before more (subst (λ n. i < n) (sym (length-map xs g)) low) is push here

-- all of it
pub taken_whole : {A : Type 0} (xs : List A) (i : ℕ) (ys : List A) → ys ≡ take i xs → length xs ≤ i → ys ≡ xs
taken_whole xs i ys is le = is ∙ take_all i xs le
