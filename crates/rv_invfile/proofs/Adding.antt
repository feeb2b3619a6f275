-- Records that are written one after the other.
use Rattle.std.proofs.Common.{◌≡◌, ◌+◌, ◌<◌, ◌≤◌, ℕ, zero, suc, List, [], ◌∷◌, ◌++◌, length, map, drop, get_or, refl, sym, ap, ◌∙◌, subst, arith, append_assoc}
use Rattle.std.proofs.Common.{add-one}
use Rattle.std.proofs.lemmas.List.{append-nil}
use Rattle.std.specs.Prelude.{Option, Some, None, Result, Ok, Err, ⊤, OnOk, slice_get}
use Rattle.std.specs.List.{AllByRecursion}
use Rattle.csv.specs.{declared.writer.Writer.Writer, Writing.row_text}
use Rattle.rv_base.specs.declared.value.Value.{Value}
use Rattle.rv_types.specs.declared.typed.Kind.{Kind}
use Rattle.rv_flat.specs.{declared.parts.FlatInput.FlatInput, declared.parts.FlatMemory.FlatMemory}
use Rattle.rv_invfile.specs.{Rules.Fields, Texts.Labels, Texts.label_at, Texts.value_text, Traces.start_record, Traces.start_records, Traces.value_texts}
use Rattle.rv_invfile.specs.{Traces.HaveKinds, Writes.IsWriting, Writes.any_width, Writes.wide, Writes.Adds}

pub wide-joined : (a b : List Fields) → wide (a ++ b) ≡ wide a ++ wide b
unfolding wide
wide-joined [] b = refl
wide-joined (r ∷ a) b = ap (λ l. row_text any_width r ++ l) (wide-joined a b) ∙ sym (append_assoc (row_text any_width r) (wide a) (wide b))

wide-one : (r : Fields) → wide (r ∷ []) ≡ row_text any_width r
unfolding wide
wide-one r = append-nil (row_text any_width r)

module _ {W : Type 0} (contents : W → Option (List ℕ)) where
  pub adds-one : {E : Type 0} (old new : Writer W) (row : Fields) (r : Result ⊤ E)
      → ((text : List ℕ) → IsWriting contents old text → OnOk r (IsWriting contents new (text ++ row_text any_width row)))
      → OnOk r (Adds contents old new (row ∷ []))
  adds-one old new row (Ok u) h = λ text w. subst (λ l. IsWriting contents new (text ++ l)) (sym (wide-one row)) (h text w)
  adds-one old new row (Err e) h = tt

  pub adds-then : (a b c : Writer W) (rows more : List Fields) → Adds contents a b rows → Adds contents b c more → Adds contents a c (rows ++ more)
  adds-then a b c rows more f g text w = subst (λ l. IsWriting contents c l)
      (append_assoc text (wide rows) (wide more) ∙ ap (λ l. text ++ l) (sym (wide-joined rows more))) (g (text ++ wide rows) (f text w))

  pub then-last : {E : Type 0} (a b c : Writer W) (rows more : List Fields) (r : Result ⊤ E) → Adds contents a b rows → OnOk r (Adds contents b c more)
      → OnOk r (Adds contents a c (rows ++ more))
  then-last a b c rows more (Ok u) f g = adds-then a b c rows more f g
  then-last a b c rows more (Err e) f g = tt

  pub adds-none : (a : Writer W) → Adds contents a a []
  unfolding wide
  adds-none a text w = subst (λ l. IsWriting contents a l) (sym (append-nil text)) w

-- a label that is not there is written as nothing
pub no-label : (labels : Labels) (e n : ℕ) → slice_get labels e ≡ None → ◌≡◌ {A = List ℕ} [] (label_at labels e n)
no-label [] e n h = refl
no-label (l ∷ ls) zero n h = cc
no-label (l ∷ ls) (suc e) n h = no-label ls e n h

past-end : (ls : List (List ℕ)) (n : ℕ) → slice_get ls n ≡ None → ◌≡◌ {A = List ℕ} [] (get_or ls n [])
past-end [] n h = refl
past-end (l ∷ ls) zero h = cc
past-end (l ∷ ls) (suc n) h = past-end ls n h

pub no-name : (labels : Labels) (e n : ℕ) (ls : List (List ℕ)) → slice_get labels e ≡ Some ls → slice_get ls n ≡ None
    → ◌≡◌ {A = List ℕ} [] (label_at labels e n)
no-name [] e n ls h k = cc
no-name (l ∷ labels) zero n ls h k = past-end ls n k ∙ ap (λ x. get_or x n []) (same ls l (sym h))
  where
    same : (a b : List (List ℕ)) → Some a ≡ Some b → a ≡ b
    same a b e = cc
no-name (l ∷ labels) (suc e) n ls h k = no-name labels e n ls h k

-- the records of the start values, by one more
pub drop-next : {A : Type 0} (xs : List A) (i : ℕ) (x : A) → slice_get xs i ≡ Some x → drop i xs ≡ x ∷ drop (suc i) xs
drop-next [] i x h = cc
drop-next (y ∷ ys) zero x h = ap (λ z. z ∷ ys) (same y x h)
  where
    same : {A : Type 0} (a b : A) → Some a ≡ Some b → a ≡ b
    same a b e = cc
drop-next (y ∷ ys) (suc i) x h = drop-next ys i x h

drop-at : {A : Type 0} (xs : List A) (i : ℕ) (x : A) → slice_get xs i ≡ Some x → drop i xs ≡ x ∷ drop (i + 1) xs
drop-at xs i x h = drop-next xs i x h ∙ ap (λ k. x ∷ drop k xs) (sym (add-one i))

pub starts-more : (labels : Labels) (ms : List FlatMemory) (vs : List Value) (i : ℕ) (m : FlatMemory) (v : Value) (front whole : List Fields)
    → slice_get ms i ≡ Some m → slice_get vs i ≡ Some v
    → front ++ start_records labels (drop i ms) (drop i vs) ≡ whole → (front ++ start_record labels m v ∷ []) ++ start_records labels (drop (i + 1) ms)
    (drop (i + 1) vs) ≡ whole
starts-more labels ms vs i m v front whole h k kept =
    append_assoc front (start_record labels m v ∷ []) (start_records labels (drop (i + 1) ms) (drop (i + 1) vs))
    ∙ ap (λ l. front ++ l) (sym (ap (λ l. start_records labels l (drop i vs)) (drop-at ms i m h)
    ∙ ap (λ l. start_records labels (m ∷ drop (i + 1) ms) l) (drop-at vs i v k)))
    ∙ kept

pub starts-none : (labels : Labels) (ms : List FlatMemory) (vs : List Value) (i : ℕ) (front whole : List Fields) → length ms ≤ i
    → front ++ start_records labels (drop i ms) (drop i vs) ≡ whole → front ≡ whole
starts-none labels ms vs i front whole l kept = sym (append-nil front) ∙ ap (λ x. front ++ start_records labels x (drop i vs)) (sym (past ms i l)) ∙ kept
  where
    past : (ms : List FlatMemory) (i : ℕ) → length ms ≤ i → drop i ms ≡ []
    past [] zero l = refl
    past [] (suc i) l = refl
    past (x ∷ xs) zero l = absurd (omega arith)
    past (x ∷ xs) (suc i) l = past xs i (omega arith)

-- the texts of an instant, by one more
pub texts-more : (labels : Labels) (is : List FlatInput) (vs : List Value) (i : ℕ) (x : FlatInput) (v : Value) (front whole : Fields) → slice_get is i ≡ Some x
    → slice_get vs i ≡ Some v
    → front ++ value_texts labels (map (λ (y : FlatInput). y.kind) (drop i is)) (drop i vs) ≡ whole
    → (front ++ value_text labels x.kind v ∷ []) ++ value_texts labels (map (λ (y : FlatInput). y.kind) (drop (i + 1) is)) (drop (i + 1) vs) ≡ whole
texts-more labels is vs i x v front whole h k kept =
    append_assoc front (value_text labels x.kind v ∷ []) (value_texts labels (map (λ (y : FlatInput). y.kind) (drop (i + 1) is)) (drop (i + 1) vs))
    ∙ ap (λ l. front ++ l)
    (sym (ap (λ l. value_texts labels (map (λ (y : FlatInput). y.kind) l) (drop i vs)) (drop-at is i x h)
    ∙ ap (λ l. value_texts labels (x.kind ∷ map (λ (y : FlatInput). y.kind) (drop (i + 1) is)) l) (drop-at vs i v k)))
    ∙ kept

-- values of some types are as many
pub kinds-length : (labels : Labels) (ks : List Kind) (vs : List Value) → HaveKinds labels ks vs → length vs ≡ length ks
kinds-length labels [] [] h = refl
kinds-length labels [] (v ∷ vs) h = absurd h
kinds-length labels (k ∷ ks) [] h = absurd h
kinds-length labels (k ∷ ks) (v ∷ vs) h = ap suc (kinds-length labels ks vs h.1)

pub all-at : {X : Type 0} (P : X → Type 0) (xs : List X) (i : ℕ) (x : X) → AllByRecursion P xs → i < length xs → x ≡ get_or xs i x → P x
all-at P [] i x h l e = absurd (omega (arith, l))
all-at P (y ∷ ys) zero x h l e = subst P (sym e) h.0
all-at P (y ∷ ys) (suc i) x h l e = all-at P ys i x h.1 (omega (arith, l)) e

get-at : {A : Type 0} (xs : List A) (i : ℕ) (x : A) → i < length xs → x ≡ get_or xs i x → slice_get xs i ≡ Some x
get-at [] i x l e = absurd (omega (arith, l))
get-at (y ∷ ys) zero x l e = ap Some (sym e)
get-at (y ∷ ys) (suc i) x l e = get-at ys i x (omega (arith, l)) e

-- the records of a list, by one more
pub each-more : {A : Type 0} (record_of : A → Fields) (xs : List A) (i : ℕ) (x : A) (front whole : List Fields) → i < length xs → x ≡ get_or xs i x
    → front ++ map record_of (drop i xs) ≡ whole → (front ++ record_of x ∷ []) ++ map record_of (drop (i + 1) xs) ≡ whole
each-more record_of xs i x front whole l e kept =
    append_assoc front (record_of x ∷ []) (map record_of (drop (i + 1) xs))
    ∙ ap (λ ys. front ++ map record_of ys) (sym (drop-at xs i x (get-at xs i x l e))) ∙ kept

pub each-none : {A : Type 0} (record_of : A → Fields) (xs : List A) (i : ℕ) (front whole : List Fields) → length xs ≤ i
    → front ++ map record_of (drop i xs) ≡ whole → front ≡ whole
each-none record_of xs i front whole l kept = sym (append-nil front) ∙ ap (λ ys. front ++ map record_of ys) (sym (past xs i l)) ∙ kept
  where
    past : {A : Type 0} (xs : List A) (i : ℕ) → length xs ≤ i → drop i xs ≡ []
    past [] zero l = refl
    past [] (suc i) l = refl
    past (x ∷ xs) zero l = absurd (omega arith)
    past (x ∷ xs) (suc i) l = past xs i (omega arith)

-- a row that began with a word
pub row-is : (word : List ℕ) (empty first whole more : Fields) (partial : List ℕ) → empty ≡ [] → partial ≡ [] → first ≡ empty ++ (partial ++ word) ∷ []
    → whole ≡ first ++ more → whole ≡ word ∷ more
row-is word empty first whole more partial e p f w =
    w ∙ ap (λ l. l ++ more) (f ∙ ap (λ l. l ++ (partial ++ word) ∷ []) e ∙ ap (λ b. (b ++ word) ∷ []) p)
