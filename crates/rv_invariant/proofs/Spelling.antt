-- Records of groups of fields, and the lists of things that they spell.
use Rattle.std.proofs.Common.{◌≡◌, ◌+◌, ◌-◌, ◌*◌, ◌^◌, ◌<◌, ◌≤◌, ℕ, zero, suc, true, List, [], ◌∷◌, ◌++◌, length, map, get_or, refl, sym, ap, ◌∙◌, subst, arith}
use Rattle.std.proofs.lemmas.Bool.{ltb-true, lt-ltb}
use Rattle.std.proofs.lemmas.List.{get_or_append_left, get_or-append_right, length-append, ext_get_or, append-nil}
use Rattle.std.specs.{Prelude.◌&&◌, Prelude.flat_map, Prelude.nat_lt, Prelude.decimal, Str.bytes_eq, List.All, List.AllByRecursion}
use Rattle.rv_invfile.specs.{Rules.Fields, Rules.Rule, Rules.done, Parts.bind, Parts.times, Forms.field, Spells.Spells, Texts.natural}
use Rattle.rv_invfile.proofs.Decimals.{bytes-same, same-bytes, natural-is}
use Rattle.rv_invfile.proofs.{Loops.times_more, Loops.times_none, Spelled.parts-bind, Written.list-first}
use Rattle.rv_invariant.specs.{Groups.upto, Pieces.is_below, Pieces.triple_texts, Pieces.weight_texts}
use Rattle.rv_diagram.specs.declared.Triple.{Triple}
use Rattle.rv_rows.specs.declared.farkas.Weight.{Weight}
use Rattle.rv_invariant.proofs.{Grouping.Width, Upto.upto-at, Upto.upto-length}
use Rattle.rv_base.proofs.Truths.{both_of}

-- what a number below a limit tells
pub below-told : (limit : ℕ) (text : List ℕ) → is_below limit text ≡ true → (text ≡ decimal (natural text)) × (natural text < limit) × (natural text < 2 ^ 32)
below-told limit text h =
    let p = both_of (bytes_eq text (decimal (natural text))) (nat_lt (natural text) limit && nat_lt (natural text) (2 ^ 32)) h in
    let q = both_of (nat_lt (natural text) limit) (nat_lt (natural text) (2 ^ 32)) p.1 in
    (bytes-same text (decimal (natural text)) p.0, ltb-true (natural text) limit q.0, ltb-true (natural text) (2 ^ 32) q.1)

pub below-right : (limit n : ℕ) → n < limit → n < 2 ^ 32 → is_below limit (decimal n) ≡ true
below-right limit n h small =
    let is = natural-is (decimal n) n (omega (arith, small)) refl in
    ap (λ m. bytes_eq (decimal n) (decimal m) && (nat_lt m limit && nat_lt m (2 ^ 32))) is
    ∙ ap (λ b. b && (nat_lt n limit && nat_lt n (2 ^ 32))) (same-bytes (decimal n) (decimal n) refl)
    ∙ ap (λ b. b && nat_lt n (2 ^ 32)) (lt-ltb n limit h) ∙ lt-ltb n (2 ^ 32) small

-- ---- Groups of fields.
-- a width, and how it grows
pub record Grows (w : ℕ) : Type 0 where
  pub none : (j : ℕ) → w * 0 + j ≡ j
  pub back : (k j : ℕ) → (w * suc k + j) - w ≡ w * k + j
  pub least : (k j : ℕ) → w ≤ w * suc k + j
  pub more : (n : ℕ) → w * suc n ≡ w + w * n

module _ {A : Type 0} (w : ℕ) (width : Width w) (grows : Grows w) (texts : A → Fields) (wide : (x : A) → length (texts x) ≡ w) where
  pub flat-length : (xs : List A) → length (flat_map texts xs) ≡ w * length xs
  flat-length [] = sym (omega (arith, grows.none 0))
  flat-length (x ∷ xs) = length-append (texts x) (flat_map texts xs) ∙ ap (λ n. n + length (flat_map texts xs)) (wide x) ∙ ap (λ n. w + n) (flat-length xs)
      ∙ sym (grows.more (length xs))

  flat-at : (xs : List A) (k j : ℕ) (d : A) → k < length xs → j < w → get_or (flat_map texts xs) (w * k + j) [] ≡ get_or (texts (get_or xs k d)) j []
  flat-at [] k j d l h = absurd (omega (arith, l))
  flat-at (x ∷ xs) zero j d l h =
      let room : j < length (texts x) = omega (arith, wide x, h) in
      ap (λ i. get_or (texts x ++ flat_map texts xs) i []) (grows.none j) ∙ get_or_append_left (texts x) (flat_map texts xs) [] j room
  flat-at (x ∷ xs) (suc k) j d l h =
      get_or-append_right (texts x) (flat_map texts xs) w (w * suc k + j) [] (wide x) (grows.least k j)
      ∙ ap (λ i. get_or (flat_map texts xs) i []) (grows.back k j) ∙ flat-at xs k j d (omega (arith, l)) h

  -- the fields of the record of a list
  pub field-at : (a b : List ℕ) (xs : List A) (k j : ℕ) (d : A) → k < length xs → j < w
      → field (a ∷ b ∷ flat_map texts xs) (2 + w * k + j) ≡ get_or (texts (get_or xs k d)) j []
  field-at a b xs k j d l h =
      let e : 2 + w * k + j ≡ suc (suc (w * k + j)) = omega arith in
      ap (λ i. get_or (a ∷ b ∷ flat_map texts xs) i []) e ∙ flat-at xs k j d l h

  pub record-length : (a b : List ℕ) (xs : List A) → length (a ∷ b ∷ flat_map texts xs) ≡ 2 + w * length xs
  record-length a b xs = omega (arith, flat-length xs)

  -- a record whose fields are such is that of the list
  module _ (item : Fields → ℕ → A) (r : Fields) (n : ℕ) (size : length r ≡ 2 + w * n)
      (fields : (k j : ℕ) → k < n → j < w → field r (2 + w * k + j) ≡ get_or (texts (item r k)) j []) where
    abbrev spelled : Fields
    spelled = field r 0 ∷ field r 1 ∷ flat_map texts (upto item r n)

    at-place : (i : ℕ) → i < length r → get_or r i [] ≡ get_or spelled i []
    at-place zero l = refl
    at-place (suc zero) l = refl
    at-place (suc (suc i)) l =
        let p = width.splits (suc (suc i)) n (omega arith) (omega (arith, l, size)) in
        let room : p.0 < length (upto item r n) = omega (arith, upto-length item r n, p.2) in
        ap (λ m. get_or r m []) p.4 ∙ fields p.0 p.1 p.2 p.3 ∙ sym (ap (λ x. get_or (texts x) p.1 []) (upto-at item r n p.0 (item r 0) p.2))
        ∙ sym (field-at (field r 0) (field r 1) (upto item r n) p.0 p.1 (item r 0) room p.3) ∙ sym (ap (λ m. get_or spelled m []) p.4)

    pub same-record : r ≡ spelled
    same-record = ext_get_or [] r spelled (size ∙ sym (record-length (field r 0) (field r 1) (upto item r n) ∙ ap (λ m. 2 + w * m) (upto-length item r n)))
        at-place

-- ---- Lists of records.
module _ {A : Type 0} (part : Rule A) (P : A → Type 0) (record_of : A → Fields) where
  pub times-written : ((a : A) (rs : List Fields) → Spells part a rs → P a × (rs ≡ record_of a ∷ [])) → (n : ℕ) (xs : List A) (rs : List Fields)
      → Spells (times n part) xs rs
      → (length xs ≡ n) × AllByRecursion P xs × (rs ≡ map record_of xs)
  times-written one zero xs rs s =
      let t = subst (λ p. Spells p xs rs) (times_none part) s in
      (ap length t.1, subst (AllByRecursion P) (sym t.1) tt, t.0 ∙ ap (map record_of) (sym t.1))
  times-written one (suc n) xs rs s =
      let t = list-first part (times n part) xs rs (subst (λ p. Spells p xs rs) (times_more n part) s) in
      let a = one t.0 t.2 t.5 in
      let b = times-written one n t.1 t.3 t.6 in (
        ap length t.7 ∙ ap suc b.0,
        subst (AllByRecursion P) (sym t.7) (a.0, b.1),
        t.4 ∙ ap (λ l. l ++ t.3) a.1 ∙ ap (λ l. record_of t.0 ∷ l) b.2 ∙ ap (map record_of) (sym t.7),
      )

  pub times-right : ((a : A) → P a → Spells part a (record_of a ∷ [])) → (xs : List A) → AllByRecursion P xs
      → Spells (times (length xs) part) xs (map record_of xs)
  times-right one [] h = subst (λ p. Spells p [] []) (sym (times_none part)) (refl, refl)
  times-right one (a ∷ xs) h =
      subst (λ p. Spells p (a ∷ xs) (record_of a ∷ map record_of xs)) (sym (times_more (length xs) part))
      (parts-bind part (λ x. bind (times (length xs) part) (λ more. done (x ∷ more))) a (a ∷ xs) (record_of a ∷ []) (map record_of xs) (one a h.0)
      (subst (λ l. Spells (bind (times (length xs) part) (λ more. done (a ∷ more))) (a ∷ xs) l) (append-nil (map record_of xs))
      (parts-bind (times (length xs) part) (λ more. done (a ∷ more)) xs (a ∷ xs) (map record_of xs) [] (times-right one xs h.1) (refl, refl))))

pub all-of : {X : Type 0} (P : X → Type 0) (xs : List X) → AllByRecursion P xs → All P xs
all-of P [] h k d lt = absurd (omega (arith, lt))
all-of P (x ∷ xs) h zero d lt = h.0
all-of P (x ∷ xs) h (suc k) d lt = all-of P xs h.1 k d (omega (arith, lt))

pub each-of : {X : Type 0} (P : X → Type 0) (xs : List X) → All P xs → AllByRecursion P xs
each-of P [] h = tt
each-of P (x ∷ xs) h = (h 0 x (omega arith), each-of P xs (λ k d lt. h (suc k) d (omega (arith, lt))))

pub grows-two : Grows 2
grows-two = record { none = λ j. omega arith; back = λ k j. omega arith; least = λ k j. omega arith; more = λ n. omega arith }

pub grows-three : Grows 3
grows-three = record { none = λ j. omega arith; back = λ k j. omega arith; least = λ k j. omega arith; more = λ n. omega arith }

pub wide-triple : (t : Triple) → length (triple_texts t) ≡ 3
wide-triple t = refl

pub wide-weight : (w : Weight) → length (weight_texts w) ≡ 2
wide-weight w = refl
