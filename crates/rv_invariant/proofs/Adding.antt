-- Fields and records that are written one after the other.
use Rattle.std.proofs.Common.{◌≡◌, ◌+◌, ◌^◌, ◌<◌, ◌≤◌, ℕ, Bool, true, false, eqb, List, [], ◌∷◌, ◌++◌, length, map, take, get_or, refl, sym, ap, ◌∙◌, subst}
use Rattle.std.proofs.Common.{arith, append_assoc}
use Rattle.std.proofs.lemmas.List.{append-nil, take_more, take_all}
use Rattle.std.proofs.{lemmas.Bool.eqb-true, lemmas.Bool.eqb-false, lemmas.Option.slice_get_within, lemmas.Option.get_or_from_slice_get}
use Rattle.std.specs.Prelude.{Option, Some, Result, Ok, Err, ⊤, OnOk, flat_map, slice_get}
use Rattle.csv.specs.{Records.Row, Records.fields_of, Records.partial_of, declared.writer.Writer.Writer}
use Rattle.rv_diagram.specs.{Nodes.node_at, declared.Triple.Triple}
use Rattle.rv_flat.specs.declared.flat.Flat.{Flat}
use Rattle.rv_control.specs.Control.{control_of}
use Rattle.rv_proofs.specs.{Counts.HasFree, Ranges.IsInRange, declared.certificate.Certificate.Certificate}
use Rattle.rv_invfile.specs.{Rules.Fields, Writes.Adds}
use Rattle.rv_invariant.specs.{Certificates.FitsCertificate, Writes.AllHeld, Writes.HasFields, Writes.Extends}

-- ---- What a list gives, element by element.
module _ {A B : Type 0} (one : A → List B) (all : List A → List B) (nil : all [] ≡ []) (cons : (x : A) (xs : List A) → all (x ∷ xs) ≡ one x ++ all xs) where
  all-joined : (a b : List A) → all (a ++ b) ≡ all a ++ all b
  all-joined [] b = ap (λ l. l ++ all b) (sym nil)
  all-joined (x ∷ a) b = cons x (a ++ b) ∙ ap (λ l. one x ++ l) (all-joined a b) ∙ sym (append_assoc (one x) (all a) (all b))
      ∙ ap (λ l. l ++ all b) (sym (cons x a))

  -- one element more
  pub all-more : (xs : List A) (i : ℕ) (x : A) → slice_get xs i ≡ Some x → all (take i xs) ++ one x ≡ all (take (i + 1) xs)
  all-more xs i x h =
      sym (ap all (take_more xs i x (slice_get_within xs i x h)) ∙ all-joined (take i xs) (get_or xs i x ∷ [])
      ∙ ap (λ y. all (take i xs) ++ all (y ∷ [])) (get_or_from_slice_get xs i x x h)
      ∙ ap (λ l. all (take i xs) ++ l) (cons x [] ∙ ap (λ l. one x ++ l) nil ∙ append-nil (one x)))

  pub all-taken : (xs : List A) (i : ℕ) → length xs ≤ i → all (take i xs) ≡ all xs
  all-taken xs i l = ap all (take_all i xs l)

pub map-more : {A B : Type 0} (f : A → B) (xs : List A) (i : ℕ) (x : A) → slice_get xs i ≡ Some x → map f (take i xs) ++ f x ∷ [] ≡ map f (take (i + 1) xs)
map-more f = all-more (λ x. f x ∷ []) (map f) refl (λ x xs. refl)

pub flat-more : {A B : Type 0} (f : A → List B) (xs : List A) (i : ℕ) (x : A) → slice_get xs i ≡ Some x
    → flat_map f (take i xs) ++ f x ≡ flat_map f (take (i + 1) xs)
flat-more f = all-more f (flat_map f) refl (λ x xs. refl)

pub map-taken : {A B : Type 0} (f : A → B) (xs : List A) (i : ℕ) → length xs ≤ i → map f (take i xs) ≡ map f xs
map-taken f xs i l = ap (map f) (take_all i xs l)

pub flat-taken : {A B : Type 0} (f : A → List B) (xs : List A) (i : ℕ) → length xs ≤ i → flat_map f (take i xs) ≡ flat_map f xs
flat-taken f xs i l = ap (flat_map f) (take_all i xs l)

-- ---- Fields of one record.
pub extends-none : (a : Row) → Extends a a []
extends-none a fields h = (h.0 ∙ sym (append-nil fields), h.1)

pub extends-then : (a b c : Row) (x y : Fields) → Extends a b x → Extends b c y → Extends a c (x ++ y)
extends-then a b c x y f g fields h = let k = g (fields ++ x) (f fields h) in (k.0 ∙ append_assoc fields x y, k.1)

pub extends-last : {E : Type 0} (a b c : Row) (x y : Fields) (r : Result ⊤ E) → Extends a b x → OnOk r (Extends b c y) → OnOk r (Extends a c (x ++ y))
extends-last a b c x y (Ok u) f g = extends-then a b c x y f g
extends-last a b c x y (Err e) f g = tt

pub pushed : (old new : Row) (text : List ℕ) → fields_of new ≡ fields_of old ++ (partial_of old ++ text) ∷ [] → partial_of new ≡ []
    → Extends old new (text ∷ [])
pushed old new text e p fields h = (e ∙ ap (λ q. fields_of old ++ (q ++ text) ∷ []) h.1 ∙ ap (λ l. l ++ text ∷ []) h.0, p)

-- ---- Records.
pub adds-same : {W : Type 0} (contents : W → Option (List ℕ)) (a b : Writer W) (x y : List Fields) → x ≡ y → Adds contents a b x → Adds contents a b y
adds-same contents a b x y e f = subst (Adds contents a b) e f

-- the record that was made is written
pub put-made : {W E : Type 0} (contents : W → Option (List ℕ)) (a b : Writer W) (row : Row) (fields : Fields) (r : Result ⊤ E) → HasFields row fields
    → OnOk r (Adds contents a b (fields_of row ∷ [])) → OnOk r (Adds contents a b (fields ∷ []))
put-made contents a b row fields r h f = subst (λ x. OnOk r (Adds contents a b (x ∷ []))) h.0 f

-- ---- What is held of the first so many.
pub held-more : (nodes : List Triple) (i : ℕ) (t : Triple) → slice_get nodes i ≡ Some t → t.lo < 2 ^ 32 → t.hi < 2 ^ 32
    → ((n : ℕ) → n < i → ((node_at nodes n).lo < 2 ^ 32) × ((node_at nodes n).hi < 2 ^ 32))
    → (n : ℕ) → n < i + 1 → ((node_at nodes n).lo < 2 ^ 32) × ((node_at nodes n).hi < 2 ^ 32)
held-more nodes i t h low high before n l = by (eqb n i) refl
  where
    is : node_at nodes i ≡ t
    is = get_or_from_slice_get nodes i t (record { var = 0; lo = 0; hi = 0 }) h

    by : (b : Bool) → eqb n i ≡ b → ((node_at nodes n).lo < 2 ^ 32) × ((node_at nodes n).hi < 2 ^ 32)
    by true e = subst (λ k. ((node_at nodes k).lo < 2 ^ 32) × ((node_at nodes k).hi < 2 ^ 32)) (sym (eqb-true n i e))
        (subst (λ (x : Triple). (x.lo < 2 ^ 32) × (x.hi < 2 ^ 32)) (sym is) (low, high))
    by false e = let other = eqb-false n i e in before n (omega (arith, other, l))

-- the same of elements of any kind
pub each-more : {A : Type 0} (P : A → Type 0) (xs : List A) (i : ℕ) (x : A) → slice_get xs i ≡ Some x → P x
    → ((j : ℕ) (y : A) → j < i → slice_get xs j ≡ Some y → P y) → (j : ℕ) (y : A) → j < i + 1 → slice_get xs j ≡ Some y → P y
each-more {A = A} P xs i x h p before j y l e = by (eqb j i) refl
  where
    same : (a b : A) → Some a ≡ Some b → a ≡ b
    same a b e = cc

    by : (b : Bool) → eqb j i ≡ b → P y
    by true d = subst P (same x y (sym h ∙ subst (λ k. slice_get xs k ≡ Some y) (eqb-true j i d) e)) p
    by false d = let other = eqb-false j i d in before j y (omega (arith, other, l)) e

-- ---- Records that follow each other, of which the last may fail.
pub settled : {A : Type 0} {E : Type 0} (P : Type 0) (r : Result A E) → P → OnOk r P
settled P (Ok u) p = p
settled P (Err e) p = tt

-- a certificate whose diagrams are held has what a document asks for
pub held-fits : (f : Flat) (c : Certificate) → IsInRange (control_of f) c → HasFree c → AllHeld c.locations → FitsCertificate f c
held-fits f c range free held = record {
  range = range;
  free = free;
  held = λ k l e. record { control = (held k l e).0; conditions = (held k l e).1 };
}
