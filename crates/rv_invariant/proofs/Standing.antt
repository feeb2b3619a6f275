-- What single records of a certificate are written as is read as them.
use Rattle.std.proofs.Common.{◌≡◌, ◌+◌, ◌-◌, ◌*◌, ◌/◌, ◌%◌, ◌^◌, ◌<◌, ◌≤◌, ℕ, zero, suc, Bool, true, false, List, [], ◌∷◌, ◌++◌, length, map, get_or, refl, sym}
use Rattle.std.proofs.Common.{ap, ◌∙◌, subst, arith}
use Rattle.std.proofs.lemmas.Bool.{le-leb, lt-ltb, eq-eqb, ltb-false}
use Rattle.std.proofs.{lemmas.Int.ints, lemmas.List.length-map, lemmas.List.get_or-map, lemmas.Option.slice_get-get_or}
use Rattle.std.specs.Prelude.{◌&&◌, ◌||◌, nat_eq, nat_le, nat_lt, ℤ, pos, negsuc, ◌≤ℤ◌, codes, decimal, flat_map}
use Rattle.std.specs.{Str.bytes_eq, Fmt.signed_decimal, Int.RustNames.unsigned_abs, List.AllByRecursion}
use Rattle.rv_diagram.specs.{Nodes.node_at, Nodes.IsFrom, declared.Triple.Triple, declared.frozen.Frozen.Frozen}
use Rattle.rv_rows.specs.{declared.linear.Row.Row, declared.farkas.Weight.Weight, declared.farkas.Multipliers.Multipliers}
use Rattle.rv_invfile.specs.Texts.{natural, whole, least, greatest}
use Rattle.rv_invfile.specs.{Rules.Fields, Rules.is_plain, Parts.times, Forms.field, Forms.word_of, Forms.counts, Spells.Spells}
use Rattle.rv_invfile.proofs.ReadBack.{right-spells, is_plain_text, decimal-plain, signed-plain, pair-plain, whole-is, counts-right}
use Rattle.rv_invfile.proofs.{Decimals.natural-is, Decimals.same-bytes, Decimals.within, Spelled.parts-bind, Written.Right}
use Rattle.rv_invariant.specs.Pieces.{a_diagram, a_list, a_proof, a_row, by_form, coefficient_at, diagram, diagram_record, by_record, row_record, list_records}
use Rattle.rv_invariant.specs.Pieces.{frozen_of, is_below, is_child, is_divisor, is_node_field, is_pair_field, is_root, is_row_field, is_within, least_at}
use Rattle.rv_invariant.specs.Pieces.{multipliers_of, row_form, row_of, triple_at, triple_texts, variable_at, weight_at, weight_texts}
use Rattle.rv_invariant.specs.{declared.counts.Shape.Shape, Groups.grouped, Groups.group_count, Groups.is_grouped, Judging.AreRight, Shapes.may_stand}
use Rattle.rv_invariant.proofs.Grouping.{Width, two, three, all-right, of-two, of-three}
use Rattle.rv_invariant.proofs.Spelling.{grows-two, grows-three, wide-triple, wide-weight, field-at, record-length, below-right, times-right}
use Rattle.rv_invariant.proofs.{Ranging.SetFits, Ranging.KeptRow, Ranging.ProofFits, Rowing.number-test, Upto.upto-is}
use Rattle.rv_base.proofs.Truths.{both_of}

-- ---- Plain texts.
plain-joined : (a b : Fields) → is_plain a ≡ true → is_plain b ≡ true → is_plain (a ++ b) ≡ true
plain-joined [] b h k = k
plain-joined (x ∷ a) b h k = let p = both_of (is_plain_text x) (is_plain a) h in ap (λ c. c && is_plain (a ++ b)) p.0 ∙ plain-joined a b p.1 k

flat-plain : {A : Type 0} (texts : A → Fields) → ((a : A) → is_plain (texts a) ≡ true) → (xs : List A) → is_plain (flat_map texts xs) ≡ true
flat-plain texts h [] = refl
flat-plain texts h (x ∷ xs) = plain-joined (texts x) (flat_map texts xs) (h x) (flat-plain texts h xs)

triple-plain : (t : Triple) → is_plain (triple_texts t) ≡ true
triple-plain t = ap (λ c. c && is_plain (decimal t.lo ∷ decimal t.hi ∷ [])) (decimal-plain t.var)
    ∙ pair-plain (decimal t.lo) (decimal t.hi) (decimal-plain t.lo) (decimal-plain t.hi)

weight-plain : (w : Weight) → is_plain (weight_texts w) ≡ true
weight-plain w = pair-plain (decimal w.premise) (signed_decimal w.by) (decimal-plain w.premise) (signed-plain w.by)

signed-all-plain : (zs : List ℤ) → is_plain (map signed_decimal zs) ≡ true
signed-all-plain [] = refl
signed-all-plain (z ∷ zs) = ap (λ c. c && is_plain (map signed_decimal zs)) (signed-plain z) ∙ signed-all-plain zs

two-plain : (a b : List ℕ) (more : Fields) → is_plain_text a ≡ true → is_plain_text b ≡ true → is_plain more ≡ true → is_plain (a ∷ b ∷ more) ≡ true
two-plain a b more h k m = ap (λ c. c && is_plain (b ∷ more)) h ∙ ap (λ c. c && is_plain more) k ∙ m

-- ---- Records of groups.
module _ (w : ℕ) (width : Width w) (some : 0 < w) (word : List ℕ) (r : Fields) (n : ℕ) (size : length r ≡ 2 + w * n) where
  count-is : group_count w r ≡ n
  count-is = let e : length r ≡ 2 + w * n + 0 = omega (arith, size) in ap (λ l. (l - 2) / w) e ∙ width.group n 0 some

  kind-is : word_of r ≡ word → is_grouped word w r ≡ true
  kind-is e =
      let long : length r ≡ 2 + w * n + 0 = omega (arith, size) in
      let rest : (length r - 2) % w ≡ 0 = ap (λ l. (l - 2) % w) long ∙ width.place n 0 some in
      ap (λ b. b && (nat_le 2 (length r) && nat_eq ((length r - 2) % w) 0)) (same-bytes (word_of r) word e)
      ∙ ap (λ b. b && nat_eq ((length r - 2) % w) 0) (le-leb 2 (length r) (omega (arith, size))) ∙ eq-eqb ((length r - 2) % w) 0 rest

  group-stands : (head : Fields → Bool) (right : Fields → ℕ → ℕ → Bool) → word_of r ≡ word → is_plain r ≡ true → head r ≡ true → AreRight w n (right r)
      → Right (grouped word w head right) r
  group-stands head right e p h a = record { plain = p; of_kind = kind-is e; of_program = refl; allowed = λ k b. all-right w width head right r n size h a k b }

-- ---- Diagrams.
abbrev no-node : Triple
no-node = record { var = 0; lo = 0; hi = 0 }

module _ (s : Shape) (few : s.variables ≤ 4096) (word : List ℕ) (plain : is_plain_text word ≡ true) (states : Bool) (d : Frozen) (fits : SetFits s states d)
  where
    abbrev as_record : Fields
    as_record = diagram_record word d

    abbrev total : ℕ
    total = length d.nodes

    node-size : length as_record ≡ 2 + 3 * total
    node-size = record-length 3 three grows-three triple_texts wide-triple word (decimal d.root) d.nodes

    node-text : (k j : ℕ) → k < total → j < 3 → field as_record (2 + 3 * k + j) ≡ get_or (triple_texts (node_at d.nodes k)) j []
    node-text k j l h = field-at 3 three grows-three triple_texts wide-triple word (decimal d.root) d.nodes k j no-node l h

    variable-text : (k : ℕ) → k < total → field as_record (2 + 3 * k) ≡ decimal (node_at d.nodes k).var
    variable-text k l = let e : 2 + 3 * k ≡ 2 + 3 * k + 0 = omega arith in ap (field as_record) e ∙ node-text k 0 l (omega arith)

    variable-small : (k : ℕ) → k < total → (node_at d.nodes k).var < 4096
    variable-small k l = let low = fits.ordered.low k l in omega (arith, low, few)

    variable-told : (k : ℕ) → k < total → variable_at as_record k ≡ (node_at d.nodes k).var
    variable-told k l = let small = variable-small k l in natural-is (field as_record (2 + 3 * k)) (node_at d.nodes k).var (omega (arith, small))
        (variable-text k l)

    later-stands : (k c : ℕ) (b : Bool) → nat_lt c 2 ≡ b → k < total → c < k + 2 → IsFrom d.nodes ((node_at d.nodes k).var + 1) c
        → (b || nat_lt (variable_at as_record k) (variable_at as_record (c - 2))) ≡ true
    later-stands k c true e l h from = refl
    later-stands k c false e l h from =
        let many = ltb-false c 2 e in
        let up = from many in
        let here = variable-told k l in
        let there = variable-told (c - 2) (omega (arith, h, l, many)) in
        lt-ltb (variable_at as_record k) (variable_at as_record (c - 2)) (omega (arith, up, here, there))

    child-stands : (k c i : ℕ) → k < total → c < k + 2 → c < 2 ^ 32 → IsFrom d.nodes ((node_at d.nodes k).var + 1) c → field as_record i ≡ decimal c
        → is_child as_record k (field as_record i) ≡ true
    child-stands k c i l h small from e =
        let is = natural-is (decimal c) c (omega (arith, small)) refl in
        ap (is_child as_record k) e
        ∙ ap (λ b. b && (nat_lt (natural (decimal c)) 2 || nat_lt (variable_at as_record k) (variable_at as_record (natural (decimal c) - 2))))
        (below-right (k + 2) c h small)
        ∙ ap (λ m. nat_lt m 2 || nat_lt (variable_at as_record k) (variable_at as_record (m - 2))) is
        ∙ later-stands k c (nat_lt c 2) refl l h from

    first-stands : (k : ℕ) → k < total → is_node_field s states as_record k 0 ≡ true
    first-stands k l =
        let small = variable-small k l in
        ap (λ t. is_below s.variables t && may_stand s states (variable_at as_record k)) (variable-text k l)
        ∙ ap (λ b. b && may_stand s states (variable_at as_record k)) (below-right s.variables (node_at d.nodes k).var (fits.ordered.low k l)
        (omega (arith, small)))
        ∙ ap (may_stand s states) (variable-told k l) ∙ fits.may k l

    node-stands : (k j : ℕ) → k < total → j < 3 → is_node_field s states as_record k j ≡ true
    node-stands k j l h =
        let p = fits.ordered.placed k l in
        of-three (is_node_field s states as_record k) (first-stands k l)
        (child-stands k (node_at d.nodes k).lo (2 + 3 * k + 1) l p.lo_earlier (fits.held.low k l) p.lo_greater (node-text k 1 l (omega arith)))
        (child-stands k (node_at d.nodes k).hi (2 + 3 * k + 2) l p.hi_earlier (fits.held.high k l) p.hi_greater (node-text k 2 l (omega arith))) j h

    node-count : group_count 3 as_record ≡ total
    node-count = count-is 3 three (omega arith) word as_record total node-size

    root-stands : is_root as_record ≡ true
    root-stands = ap (λ n. is_below (n + 2) (decimal d.root)) node-count ∙ below-right (total + 2) d.root fits.ordered.root fits.held.root

    diagram-stands : Right (diagram s word states) as_record
    diagram-stands =
        group-stands 3 three (omega arith) word as_record total node-size is_root (is_node_field s states) refl
        (two-plain word (decimal d.root) (flat_map triple_texts d.nodes) plain (decimal-plain d.root) (flat-plain triple_texts triple-plain d.nodes))
        root-stands node-stands

    node-same : (k : ℕ) → k < total → triple_at as_record k ≡ get_or d.nodes k no-node
    node-same k l =
        let a = variable-told k l in
        let low = fits.held.low k l in
        let high = fits.held.high k l in
        let b = natural-is (field as_record (2 + 3 * k + 1)) (node_at d.nodes k).lo (omega (arith, low)) (node-text k 1 l (omega arith)) in
        let e = natural-is (field as_record (2 + 3 * k + 2)) (node_at d.nodes k).hi (omega (arith, high)) (node-text k 2 l (omega arith)) in
        λ i. record { var = a i; lo = b i; hi = e i }

    diagram-same : frozen_of as_record ≡ d
    diagram-same =
        let root = fits.held.root in
        let a = upto-is triple_at as_record d.nodes no-node node-same (group_count 3 as_record) node-count in
        let b = natural-is (decimal d.root) d.root (omega (arith, root)) refl in
        λ i. record { nodes = a i; root = b i }

    pub diagram-right : Spells (a_diagram s word states) d (diagram_record word d ∷ [])
    diagram-right = subst (λ x. Spells (a_diagram s word states) x (diagram_record word d ∷ [])) diagram-same
        (right-spells (diagram s word states) frozen_of as_record diagram-stands)

-- ---- Multipliers.
pub positive-is : (z : ℤ) → pos 1 ≤ℤ z → (n : ℕ) × (z ≡ pos n) × (1 ≤ n)
positive-is (pos n) h = (n, refl, omega (arith, ints))
positive-is (negsuc n) h = absurd (omega (arith, ints))

pub at-most : (m n : ℕ) → pos m ≤ℤ pos n → m ≤ n
at-most m n h = omega (arith, ints)

-- a record of multipliers is of their kind
pub by-kind : (m : Multipliers) → is_grouped (codes "by") 2 (by_record m) ≡ true
by-kind m =
    kind-is 2 two (omega arith) (codes "by") (by_record m) (length m.weights)
    (record-length 2 two grows-two weight_texts wide-weight (codes "by") (signed_decimal m.divisor) m.weights) refl

abbrev no-weight : Weight
no-weight = record { premise = 0; by = pos 0 }

module _ (most premises : ℕ) (low : most ≤ 2 ^ 30) (few : premises ≤ 2 ^ 32) (m : Multipliers) (fits : ProofFits most premises m) where
  abbrev by_fields : Fields
  by_fields = by_record m

  abbrev pairs : ℕ
  pairs = length m.weights

  abbrev pair : ℕ → Weight
  pair k = get_or m.weights k no-weight

  pair-size : length by_fields ≡ 2 + 2 * pairs
  pair-size = record-length 2 two grows-two weight_texts wide-weight (codes "by") (signed_decimal m.divisor) m.weights

  pair-text : (k j : ℕ) → k < pairs → j < 2 → field by_fields (2 + 2 * k + j) ≡ get_or (weight_texts (pair k)) j []
  pair-text k j l h = field-at 2 two grows-two weight_texts wide-weight (codes "by") (signed_decimal m.divisor) m.weights k j no-weight l h

  premise-text : (k : ℕ) → k < pairs → field by_fields (2 + 2 * k) ≡ decimal (pair k).premise
  premise-text k l = let e : 2 + 2 * k ≡ 2 + 2 * k + 0 = omega arith in ap (field by_fields) e ∙ pair-text k 0 l (omega arith)

  premise-small : (k : ℕ) → k < pairs → ((pair k).premise < premises) × ((pair k).premise < 2 ^ 32)
  premise-small k l = let there = fits.there k no-weight l in (there, omega (arith, there, few))

  premise-told : (k : ℕ) → k < pairs → natural (field by_fields (2 + 2 * k)) ≡ (pair k).premise
  premise-told k l = let small = premise-small k l in natural-is (field by_fields (2 + 2 * k)) (pair k).premise (omega (arith, small.1)) (premise-text k l)

  weight-number : (k : ℕ) → k < pairs → (n : ℕ) × ((pair k).by ≡ pos n) × (1 ≤ n) × (n ≤ 2 ^ 41)
  weight-number k l =
      let w = fits.weighted k no-weight l in
      let p = positive-is (pair k).by w.0 in
      (p.0, p.1, p.2, at-most p.0 (2 ^ 41) (subst (λ z. z ≤ℤ pos (2 ^ 41)) p.1 w.1))

  weight-text : (k : ℕ) (l : k < pairs) → field by_fields (2 + 2 * k + 1) ≡ decimal (weight-number k l).0
  weight-text k l = pair-text k 1 l (omega arith) ∙ ap signed_decimal (weight-number k l).1

  least-stands : (k : ℕ) → k < pairs → least_at by_fields k ≤ (pair k).premise
  least-stands zero l = omega arith
  least-stands (suc k) l =
      let before = premise-told k (omega (arith, l)) in
      let up = fits.rising k (suc k) (pair k) (pair (suc k)) (omega arith) (slice_get-get_or m.weights k no-weight (omega (arith, l)))
      (slice_get-get_or m.weights (suc k) no-weight l) in
      omega (arith, before, up)

  premise-stands : (k : ℕ) → k < pairs → is_pair_field premises by_fields k 0 ≡ true
  premise-stands k l =
      let small = premise-small k l in
      let told = premise-told k l in
      let least_here = least-stands k l in
      let fewer = fits.few in
      ap (λ b. b && (is_below premises (field by_fields (2 + 2 * k)) && nat_le (least_at by_fields k) (natural (field by_fields (2 + 2 * k)))))
      (lt-ltb k 256 (omega (arith, l, fewer)))
      ∙ ap (λ b. b && nat_le (least_at by_fields k) (natural (field by_fields (2 + 2 * k))))
      (ap (is_below premises) (premise-text k l) ∙ below-right premises (pair k).premise small.0 small.1)
      ∙ le-leb (least_at by_fields k) (natural (field by_fields (2 + 2 * k))) (omega (arith, told, least_here))

  weight-stands : (k : ℕ) → k < pairs → is_pair_field premises by_fields k 1 ≡ true
  weight-stands k l =
      let n = weight-number k l in
      within 1 (2 ^ 41) n.0 (field by_fields (2 + 2 * k + 1)) (omega (arith, n.3)) (weight-text k l) n.2 n.3

  divisor-stands : is_divisor most by_fields ≡ true
  divisor-stands =
      let small = fits.small in
      within 1 most fits.divisor (field by_fields 1) (omega (arith, small, low)) (ap signed_decimal fits.divides) fits.positive fits.small

  proof-stands : Right (by_form most premises) by_fields
  proof-stands =
      group-stands 2 two (omega arith) (codes "by") by_fields pairs pair-size (is_divisor most) (is_pair_field premises) refl
      (two-plain (codes "by") (signed_decimal m.divisor) (flat_map weight_texts m.weights) refl (signed-plain m.divisor)
      (flat-plain weight_texts weight-plain m.weights))
      divisor-stands (λ k j l h. of-two (is_pair_field premises by_fields k) (premise-stands k l) (weight-stands k l) j h)

  weight-same : (k : ℕ) → k < pairs → weight_at by_fields k ≡ get_or m.weights k no-weight
  weight-same k l =
      let n = weight-number k l in
      let a = premise-told k l in
      let b = ap pos (natural-is (field by_fields (2 + 2 * k + 1)) n.0 (omega (arith, n.3)) (weight-text k l)) ∙ sym n.1 in
      λ i. record { premise = a i; by = b i }

  proof-same : multipliers_of by_fields ≡ m
  proof-same =
      let small = fits.small in
      let a = ap pos (natural-is (field by_fields 1) fits.divisor (omega (arith, small, low)) (ap signed_decimal fits.divides)) ∙ sym fits.divides in
      let b = upto-is weight_at by_fields m.weights no-weight weight-same (group_count 2 by_fields)
      (count-is 2 two (omega arith) (codes "by") by_fields pairs pair-size) in
      λ i. record { divisor = a i; weights = b i }

  pub proof-right : Spells (a_proof most premises) m (by_record m ∷ [])
  proof-right = subst (λ x. Spells (a_proof most premises) x (by_record m ∷ [])) proof-same
      (right-spells (by_form most premises) multipliers_of by_fields proof-stands)

-- ---- Rows.
abs-least : (z : ℤ) → unsigned_abs z ≤ 2 ^ 60 → least ≤ℤ z
abs-least (pos n) h = omega (arith, ints)
abs-least (negsuc n) h = omega (arith, ints)

abs-greatest : (z : ℤ) → unsigned_abs z ≤ 2 ^ 60 → z ≤ℤ greatest
abs-greatest (pos n) h = omega (arith, ints)
abs-greatest (negsuc n) h = omega (arith, ints)

whole-told : (z : ℤ) → unsigned_abs z ≤ 2 ^ 60 → whole (signed_decimal z) ≡ z
whole-told z h = whole-is z (abs-least z h) (abs-greatest z h)

within-stands : (limit : ℕ) (z : ℤ) → limit ≤ 2 ^ 60 → unsigned_abs z ≤ limit → is_within limit (signed_decimal z) ≡ true
within-stands limit z l h =
    ap (λ y. bytes_eq (signed_decimal z) (signed_decimal y) && nat_le (unsigned_abs y) limit) (whole-told z (omega (arith, l, h)))
    ∙ ap (λ b. b && nat_le (unsigned_abs z) limit) (same-bytes (signed_decimal z) (signed_decimal z) refl) ∙ le-leb (unsigned_abs z) limit h

module _ (memories : ℕ) (row : Row) (fits : KeptRow memories row) where
  abbrev row_fields : Fields
  row_fields = row_record row

  number-text : (k : ℕ) → k < length row.coefficients → field row_fields (k + 2) ≡ signed_decimal (get_or row.coefficients k (pos 0))
  number-text k l =
      let e : k + 2 ≡ suc (suc k) = omega arith in
      ap (field row_fields) e ∙ get_or-map signed_decimal row.coefficients k (pos 0) [] l

  number-small : (k : ℕ) → k < length row.coefficients → unsigned_abs (get_or row.coefficients k (pos 0)) ≤ 2 ^ 30
  number-small k l = fits.1.coefficients k (pos 0) l

  number-stands : (k : ℕ) → k < length row.coefficients → is_row_field row_fields (k + 2) ≡ true
  number-stands k l =
      number-test row_fields k ∙ ap (is_within (2 ^ 30)) (number-text k l)
      ∙ within-stands (2 ^ 30) (get_or row.coefficients k (pos 0)) (omega arith) (number-small k l)

  row-length : length row_fields ≡ memories + 2
  row-length = let size = length-map row.coefficients signed_decimal in let wide = fits.0 in omega (arith, size, wide)

  row-allowed : (k : ℕ) → k < length row_fields → is_row_field row_fields k ≡ true
  row-allowed zero l = refl
  row-allowed (suc zero) l = within-stands (2 ^ 60) row.bound (omega arith) fits.1.bound
  row-allowed (suc (suc k)) l =
      let e : suc (suc k) ≡ k + 2 = omega arith in
      let wide = fits.0 in
      let size = row-length in
      ap (is_row_field row_fields) e ∙ number-stands k (omega (arith, l, wide, size))

  row-stands : Right (row_form memories) row_fields
  row-stands = record {
    plain = two-plain (codes "row") (signed_decimal row.bound) (map signed_decimal row.coefficients) refl (signed-plain row.bound)
        (signed-all-plain row.coefficients);
    of_kind = eq-eqb (length row_fields) (memories + 2) row-length;
    of_program = refl;
    allowed = row-allowed;
  }

  row-same : row_of memories row_fields ≡ row
  row-same =
      let wide = fits.0 in
      let a = upto-is coefficient_at row_fields row.coefficients (pos 0)
      (λ k l. let small = number-small k l in ap whole (number-text k l) ∙ whole-told (get_or row.coefficients k (pos 0)) (omega (arith, small))) memories
      (sym wide) in
      let b = whole-told row.bound fits.1.bound in
      λ i. record { coefficients = a i; bound = b i }

  pub row-right : Spells (a_row memories) row (row_record row ∷ [])
  row-right = subst (λ x. Spells (a_row memories) x (row_record row ∷ [])) row-same (right-spells (row_form memories) (row_of memories) row_fields row-stands)

pub list-right : (memories : ℕ) (word : List ℕ) (low high : ℕ) (rows : List Row) → is_plain_text word ≡ true → low ≤ length rows → length rows ≤ high
    → high < 2 ^ 64
    → AllByRecursion (KeptRow memories) rows → Spells (a_list memories word low high) rows (list_records word rows)
list-right memories word low high rows plain l h small all =
    parts-bind (counts word low high) (λ n. times n (a_row memories)) (length rows) rows ((word ∷ decimal (length rows) ∷ []) ∷ []) (map row_record rows)
    (counts-right word low high (length rows) plain l h small)
    (times-right (a_row memories) (KeptRow memories) row_record (row-right memories) rows all)
