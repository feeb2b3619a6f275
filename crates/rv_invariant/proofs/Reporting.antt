-- The records of an unknown report: written as lines, read back, and of one report alone.
use Rattle.std.proofs.Common.{◌≡◌, ◌<◌, ◌^◌, ℕ, zero, suc, List, [], ◌∷◌, length, map, drop, refl, sym, ap, ◌∙◌, subst, arith}
use Rattle.std.proofs.lemmas.Fmt.{decimal_injective}
use Rattle.std.specs.Prelude.{codes, decimal}
use Rattle.std.specs.List.{All, AllByRecursion}
use Rattle.csv.specs.{Reading.strip_bom, Writing.fields_text, Writing.is_blank}
use Rattle.csv.proofs.RoundTrip.{rows_text}
use Rattle.rv_flat.specs.declared.flat.Flat.{Flat}
use Rattle.rv_proofs.specs.{declared.certificate.Certificate.Certificate, declared.report.LeftReport.LeftReport, declared.report.Why.Why}
use Rattle.rv_proofs.specs.declared.report.Why.TheVariants.{Locations, Stuck}
use Rattle.rv_invfile.specs.{Csv.records_of, Rules.Fields, Rules.Rule, Rules.done, Rules.IsDocument, Told.IsTold, Writes.lines, Writes.wide}
use Rattle.rv_invfile.proofs.Lines.{HaveFields, wide-rows, written-read}
use Rattle.rv_invariant.specs.Certificates.{FitsCertificate, body_records, certificate_records, certificate_rule, first_record}
use Rattle.rv_invariant.specs.Unknown.{FitsReport, IsHeldWhy, left_record, left_records, unknown_record, why_record}
use Rattle.rv_invariant.proofs.Lined.{IsClear, body-clear, clear-wide, mapped-quiet, number-quiet}
use Rattle.rv_invariant.proofs.{Located.document-exists, Sounding.body-fields}

-- ---- How it is written.
why-clear : (why : Why) → IsClear (why_record why)
why-clear (Locations count) = (omega arith, (refl, (refl, (number-quiet count, tt))))
why-clear Stuck = (omega arith, (refl, (refl, tt)))

left-clear : (left : List ℕ) → IsClear (left_record left)
left-clear left = (omega arith, (refl, mapped-quiet decimal number-quiet left))

unknown-clear : IsClear unknown_record
unknown-clear = (omega arith, (refl, (refl, (refl, tt))))

-- The records of an unknown report are written as their lines.
pub left-wide : (f : Flat) (l : LeftReport) → IsTold f → wide (left_records f l) ≡ lines (left_records f l)
left-wide f l told = clear-wide (left_records f l) (unknown-clear, (why-clear l.why, (left-clear l.left, body-clear f l.partition told)))

-- ---- How it is read.
why-fields : (why : Why) → 0 < length (why_record why)
why-fields (Locations count) = omega arith
why-fields Stuck = omega arith

left-fields : (f : Flat) (l : LeftReport) → HaveFields (left_records f l)
left-fields f l = (omega arith, (why-fields l.why, (omega arith, body-fields f l.partition)))

-- no byte order mark begins an unknown report
no-mark : (rs : List Fields) → strip_bom (rows_text (unknown_record ∷ rs)) ≡ rows_text (unknown_record ∷ rs)
unfolding strip_bom rows_text fields_text is_blank
no-mark rs = refl

pub left-back : (f : Flat) (l : LeftReport) → records_of (wide (left_records f l)) ≡ left_records f l
left-back f l =
    ap records_of (wide-rows (left_records f l))
    ∙ written-read (left_records f l) (left-fields f l) (no-mark (why_record l.why ∷ left_record l.left ∷ body_records f l.partition))

-- ---- One report has these records.
-- what stands behind the first of two equal lists
tails : {A : Type 0} (x y : A) (xs ys : List A) → x ∷ xs ≡ y ∷ ys → xs ≡ ys
tails x y xs ys e = cc

heads : {A : Type 0} (x y : A) (xs ys : List A) → x ∷ xs ≡ y ∷ ys → x ≡ y
heads x y xs ys e = cc

each-of : {X : Type 0} (P : X → Type 0) (xs : List X) → All P xs → AllByRecursion P xs
each-of P [] h = tt
each-of P (x ∷ xs) h = (h zero x (omega arith), each-of P xs (λ k d l. h (suc k) d (omega (arith, l))))

numbers-same : (xs ys : List ℕ) → AllByRecursion (λ k. k < 2 ^ 32) xs → AllByRecursion (λ k. k < 2 ^ 32) ys → map decimal xs ≡ map decimal ys → xs ≡ ys
numbers-same [] [] h k e = refl
numbers-same [] (y ∷ ys) h k e = cc
numbers-same (x ∷ xs) [] h k e = cc
numbers-same (x ∷ xs) (y ∷ ys) h k e =
    let first = decimal_injective x y (omega (arith, h.0)) (omega (arith, k.0)) (heads (decimal x) (decimal y) (map decimal xs) (map decimal ys) e) in
    let rest = numbers-same xs ys h.1 k.1 (tails (decimal x) (decimal y) (map decimal xs) (map decimal ys) e) in
    ap (λ z. z ∷ xs) first ∙ ap (λ zs. y ∷ zs) rest

whys-same : (a b : Why) → IsHeldWhy a → IsHeldWhy b → why_record a ≡ why_record b → a ≡ b
whys-same (Locations m) (Locations n) h k e = ap Locations (decimal_injective m n (omega (arith, h)) (omega (arith, k)) (last (decimal m) (decimal n) e))
  where
    last : (x y : List ℕ) → codes "why" ∷ codes "locations" ∷ x ∷ [] ≡ codes "why" ∷ codes "locations" ∷ y ∷ [] → x ≡ y
    last x y e = cc
whys-same (Locations m) Stuck h k e = absurd (omega (arith, ap length e))
whys-same Stuck (Locations n) h k e = absurd (omega (arith, ap length e))
whys-same Stuck Stuck h k e = refl

-- a document has one value
values-same : {A : Type 0} (rule : Rule A) (rs : List Fields) (a b : A) → IsDocument rule rs a → IsDocument rule rs b → a ≡ b
values-same rule rs a b h k = same a b (sym h.1 ∙ k.1)
  where
    same : {A : Type 0} (x y : A) → done x ≡ done y → x ≡ y
    same x y e = cc

partitions-same : (f : Flat) (c d : Certificate) → IsTold f → FitsCertificate f c → FitsCertificate f d → body_records f c ≡ body_records f d → c ≡ d
partitions-same f c d told h k e =
    values-same (certificate_rule f) (certificate_records f d) c d
    (subst (λ rs. IsDocument (certificate_rule f) (first_record ∷ rs) c) e (document-exists f c told h)) (document-exists f d told k)

pub reports-same : (f : Flat) (a b : LeftReport) → IsTold f → FitsReport f a → FitsReport f b → left_records f a ≡ left_records f b → a ≡ b
reports-same f a b told h k e =
    let x = ap (drop 1) e in
    let y = ap (drop 2) e in
    let z = ap (drop 3) e in
    let why = whys-same a.why b.why h.why k.why (heads (why_record a.why) (why_record b.why) (left_record a.left ∷ body_records f a.partition)
    (left_record b.left ∷ body_records f b.partition) x) in
    let left = heads (left_record a.left) (left_record b.left) (body_records f a.partition) (body_records f b.partition) y in
    let numbers = numbers-same a.left b.left (each-of (λ n. n < 2 ^ 32) a.left h.left) (each-of (λ n. n < 2 ^ 32) b.left k.left) (tails (codes "left") (codes "left") (map decimal a.left) (map decimal b.left) left) in
    let partition = partitions-same f a.partition b.partition told h.partition k.partition z in
    joined a.partition b.partition a.left b.left a.why b.why partition numbers why
  where
    joined : (c d : Certificate) (xs ys : List ℕ) (v w : Why) → c ≡ d → xs ≡ ys → v ≡ w
        → ◌≡◌ {A = LeftReport} (record { partition = c; left = xs; why = v }) (record { partition = d; left = ys; why = w })
    joined c d xs ys v w p q r = cc
