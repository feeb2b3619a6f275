-- Single records of a certificate are what they are written as.
use Rattle.std.proofs.Common.{◌≡◌, ◌+◌, ◌-◌, ◌*◌, ◌^◌, ◌<◌, ℕ, zero, suc, Bool, true, List, [], ◌∷◌, length, map, get_or, refl, sym, ap, ◌∙◌, arith}
use Rattle.std.specs.Prelude.{◌&&◌, ◌||◌, nat_le, nat_lt, ℤ, codes, decimal, flat_map}
use Rattle.std.specs.{Str.bytes_eq, Fmt.signed_decimal, Int.RustNames.unsigned_abs}
use Rattle.rv_diagram.specs.declared.frozen.Frozen.{Frozen}
use Rattle.rv_rows.specs.{declared.linear.Row.Row, declared.farkas.Multipliers.Multipliers}
use Rattle.rv_invfile.specs.{Rules.Fields, Forms.field, Spells.Spells, Texts.natural, Texts.whole}
use Rattle.rv_invfile.proofs.{Decimals.natural-told, Decimals.bytes-same, Written.Right, Written.single, Written.worded}
use Rattle.rv_invariant.specs.Pieces.{a_diagram, a_proof, a_row, by_form, coefficient_at, diagram, diagram_record, by_record, row_record, frozen_of, is_below}
use Rattle.rv_invariant.specs.Pieces.{is_child, is_divisor, is_node_field, is_pair_field, is_root, is_within, least_at, multipliers_of, row_form, row_of}
use Rattle.rv_invariant.specs.Pieces.{triple_at, triple_texts, variable_at, weight_at, weight_texts}
use Rattle.rv_invariant.specs.{declared.counts.Shape.Shape, Groups.grouped, Groups.group_count, Groups.upto, Shapes.may_stand}
use Rattle.rv_invariant.proofs.Spelling.{Grows, grows-two, grows-three, wide-triple, wide-weight, same-record, below-told}
use Rattle.rv_invariant.proofs.{Grouping.Width, Grouping.two, Grouping.three, Grouping.grouped-is, Ranging.head-right, Ranging.group-right, Rowing.number-test}
use Rattle.rv_base.proofs.Truths.{both_of}

child-text : (r : Fields) (k : ℕ) (text : List ℕ) → is_child r k text ≡ true → text ≡ decimal (natural text)
child-text r k text h =
    (below-told (k + 2) text (both_of (is_below (k + 2) text) (nat_lt (natural text) 2 || nat_lt (variable_at r k) (variable_at r (natural text - 2))) h).0).0

size-of : (w : ℕ) (width : Width w) (word : List ℕ) (r : Fields) (head : Fields → Bool) (right : Fields → ℕ → ℕ → Bool)
    → Right (grouped word w head right) r → length r ≡ 2 + w * group_count w r
size-of w width word r head right ok = let g = grouped-is word w r ok.of_kind in width.counted (length r) g.1 g.2

module _ (s : Shape) (word : List ℕ) (states : Bool) (r : Fields) (ok : Right (diagram s word states) r) where
  node-text : (k j : ℕ) → k < group_count 3 r → j < 3 → field r (2 + 3 * k + j) ≡ get_or (triple_texts (triple_at r k)) j []
  node-text k zero l h =
      let right = group-right 3 three word is_root (is_node_field s states) r ok k 0 l (omega arith) in
      let e : 2 + 3 * k + 0 ≡ 2 + 3 * k = omega arith in
      ap (field r) e ∙ (below-told s.variables (field r (2 + 3 * k)) (both_of (is_below s.variables (field r (2 + 3 * k)))
      (may_stand s states (variable_at r k)) right).0).0
  node-text k (suc zero) l h = child-text r k (field r (2 + 3 * k + 1)) (group-right 3 three word is_root (is_node_field s states) r ok k 1 l (omega arith))
  node-text k (suc (suc zero)) l h = child-text r k (field r (2 + 3 * k + 2)) (group-right 3 three word is_root (is_node_field s states) r ok k 2 l
      (omega arith))
  node-text k (suc (suc (suc j))) l h = absurd (omega (arith, h))

  diagram-same : r ≡ diagram_record word (frozen_of r)
  diagram-same =
      same-record 3 three grows-three triple_texts wide-triple triple_at r (group_count 3 r)
      (size-of 3 three word r is_root (is_node_field s states) ok) node-text
      ∙ ap (λ x. x ∷ field r 1 ∷ flat_map triple_texts (upto triple_at r (group_count 3 r))) (grouped-is word 3 r ok.of_kind).0
      ∙ ap (λ x. word ∷ x ∷ flat_map triple_texts (upto triple_at r (group_count 3 r)))
      (below-told (group_count 3 r + 2) (field r 1) (head-right 3 three word is_root (is_node_field s states) r ok)).0

pub diagram-written : (s : Shape) (word : List ℕ) (states : Bool) (d : Frozen) (rs : List Fields) → Spells (a_diagram s word states) d rs
    → rs ≡ diagram_record word d ∷ []
diagram-written s word states d rs h =
    let o = single (diagram s word states) frozen_of d rs h in
    o.alone ∙ ap (λ r. r ∷ []) (diagram-same s word states o.here o.right ∙ ap (diagram_record word) (sym o.value))

-- ---- Multipliers.
module _ (greatest premises : ℕ) (r : Fields) (ok : Right (by_form greatest premises) r) where
  pair-text : (k j : ℕ) → k < group_count 2 r → j < 2 → field r (2 + 2 * k + j) ≡ get_or (weight_texts (weight_at r k)) j []
  pair-text k zero l h =
      let right = group-right 2 two (codes "by") (is_divisor greatest) (is_pair_field premises) r ok k 0 l (omega arith) in
      let p = both_of (nat_lt k 256) (is_below premises (field r (2 + 2 * k)) && nat_le (least_at r k) (natural (field r (2 + 2 * k)))) right in
      let q = both_of (is_below premises (field r (2 + 2 * k))) (nat_le (least_at r k) (natural (field r (2 + 2 * k)))) p.1 in
      let e : 2 + 2 * k + 0 ≡ 2 + 2 * k = omega arith in
      ap (field r) e ∙ (below-told premises (field r (2 + 2 * k)) q.0).0
  pair-text k (suc zero) l h =
      (natural-told 1 (2 ^ 41) (field r (2 + 2 * k + 1)) (group-right 2 two (codes "by") (is_divisor greatest) (is_pair_field premises) r ok k 1 l
      (omega arith))).0
  pair-text k (suc (suc j)) l h = absurd (omega (arith, h))

  proof-same : r ≡ by_record (multipliers_of r)
  proof-same =
      same-record 2 two grows-two weight_texts wide-weight weight_at r (group_count 2 r)
      (size-of 2 two (codes "by") r (is_divisor greatest) (is_pair_field premises) ok) pair-text
      ∙ ap (λ x. x ∷ field r 1 ∷ flat_map weight_texts (upto weight_at r (group_count 2 r))) (grouped-is (codes "by") 2 r ok.of_kind).0
      ∙ ap (λ x. codes "by" ∷ x ∷ flat_map weight_texts (upto weight_at r (group_count 2 r)))
      (natural-told 1 greatest (field r 1) (head-right 2 two (codes "by") (is_divisor greatest) (is_pair_field premises) r ok)).0

pub proof-written : (greatest premises : ℕ) (m : Multipliers) (rs : List Fields) → Spells (a_proof greatest premises) m rs → rs ≡ by_record m ∷ []
proof-written greatest premises m rs h =
    let o = single (by_form greatest premises) multipliers_of m rs h in
    o.alone ∙ ap (λ r. r ∷ []) (proof-same greatest premises o.here o.right ∙ ap by_record (sym o.value))

-- ---- Rows.
one-wide : Width 1
one-wide = record {
  group = λ k j h. omega arith;
  place = λ k j h. omega arith;
  splits = λ i n h l. (i - 2, 0, omega arith, omega arith, omega arith);
  within = λ k n j h l. omega arith;
  counted = λ l h e. omega arith;
}

grows-one : Grows 1
grows-one = record { none = λ j. omega arith; back = λ k j. omega arith; least = λ k j. omega arith; more = λ n. omega arith }

abbrev number_texts : ℤ → Fields
number_texts z = signed_decimal z ∷ []

numbers-mapped : (zs : List ℤ) → flat_map number_texts zs ≡ map signed_decimal zs
numbers-mapped [] = refl
numbers-mapped (z ∷ zs) = ap (λ l. signed_decimal z ∷ l) (numbers-mapped zs)

within-text : (limit : ℕ) (text : List ℕ) → is_within limit text ≡ true → text ≡ signed_decimal (whole text)
within-text limit text h = bytes-same text (signed_decimal (whole text)) (both_of (bytes_eq text (signed_decimal (whole text)))
    (nat_le (unsigned_abs (whole text)) limit) h).0

module _ (memories : ℕ) (r : Fields) (ok : Right (row_form memories) r) where
  number-text : (k j : ℕ) → k < memories → j < 1 → field r (2 + 1 * k + j) ≡ get_or (number_texts (coefficient_at r k)) j []
  number-text k zero l h =
      let w = worded (codes "row") (memories + 2) r ok.of_kind in
      let e : 2 + 1 * k + 0 ≡ k + 2 = omega arith in
      ap (field r) e ∙ within-text (2 ^ 30) (field r (k + 2)) (sym (number-test r k) ∙ ok.allowed (k + 2) (omega (arith, w.1, l)))
  number-text k (suc j) l h = absurd (omega (arith, h))

  row-same-record : r ≡ row_record (row_of memories r)
  row-same-record =
      let w = worded (codes "row") (memories + 2) r ok.of_kind in
      same-record 1 one-wide grows-one number_texts (λ z. refl) coefficient_at r memories (omega (arith, w.1)) number-text
      ∙ ap (λ x. x ∷ field r 1 ∷ flat_map number_texts (upto coefficient_at r memories)) w.0
      ∙ ap (λ x. codes "row" ∷ x ∷ flat_map number_texts (upto coefficient_at r memories))
      (within-text (2 ^ 60) (field r 1) (ok.allowed 1 (omega (arith, w.1))))
      ∙ ap (λ l. codes "row" ∷ signed_decimal (whole (field r 1)) ∷ l) (numbers-mapped (upto coefficient_at r memories))

pub row-written : (memories : ℕ) (row : Row) (rs : List Fields) → Spells (a_row memories) row rs → rs ≡ row_record row ∷ []
row-written memories row rs h =
    let o = single (row_form memories) (row_of memories) row rs h in
    o.alone ∙ ap (λ r. r ∷ []) (row-same-record memories o.here o.right ∙ ap row_record (sym o.value))
