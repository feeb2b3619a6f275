-- What single records of a certificate say is in range.
use Rattle.std.proofs.Common.{◌≡◌, ◌+◌, ◌-◌, ◌*◌, ◌^◌, ◌<◌, ◌≤◌, ℕ, zero, suc, Bool, true, false, List, length, refl, sym, ap, ◌∙◌, subst, arith, eqb}
use Rattle.std.proofs.lemmas.Bool.{eqb-true, eqb-false, leb-true, ltb-true, ltb-false}
use Rattle.std.proofs.{lemmas.Int.ints, lemmas.Option.slice_get_within, lemmas.Option.get_or_from_slice_get}
use Rattle.std.specs.Prelude.{◌&&◌, ◌||◌, nat_le, nat_lt, pos, ◌≤ℤ◌, Some, slice_get, codes}
use Rattle.std.specs.{Str.bytes_eq, Fmt.signed_decimal, Int.RustNames.unsigned_abs, List.All, List.AllByRecursion}
use Rattle.rv_diagram.specs.{Nodes.node_at, Nodes.IsFrom, Nodes.IsOrderedOver, declared.Triple.Triple, declared.frozen.Frozen.Frozen}
use Rattle.rv_rows.specs.{Tight.Fits, declared.linear.Row.Row, declared.farkas.Weight.Weight, declared.farkas.Multipliers.Multipliers}
use Rattle.rv_proofs.specs.Ranges.{IsRecord}
use Rattle.rv_invfile.specs.{Rules.Fields, Rules.Rule, Parts.times, Forms.field, Forms.counts, Spells.Spells, Texts.natural, Texts.whole}
use Rattle.rv_invfile.proofs.Written.{Right, single, worded, counts-written, list-first}
use Rattle.rv_invfile.proofs.{Decimals.natural-told, Loops.times_more, Loops.times_none, Spelled.bind-parts}
use Rattle.rv_invariant.specs.Pieces.{a_diagram, a_list, a_proof, a_row, by_form, coefficient_at, diagram, frozen_of, is_below, is_child, is_divisor}
use Rattle.rv_invariant.specs.Pieces.{is_node_field, is_pair_field, is_root, is_within, least_at, multipliers_of, row_form, row_of, triple_at, variable_at}
use Rattle.rv_invariant.specs.Pieces.{weight_at}
use Rattle.rv_invariant.specs.{declared.counts.Shape.Shape, Certificates.IsHeld, Groups.grouped, Groups.group_count, Groups.upto, Shapes.may_stand}
use Rattle.rv_invariant.proofs.Grouping.{Width, two, three, grouped-is, at-group}
use Rattle.rv_invariant.proofs.{Rowing.number-test, Spelling.below-told, Upto.upto-at, Upto.upto-length}
use Rattle.rv_base.proofs.Truths.{both_of}

-- ---- The fields of a record of groups.
module _ (w : ℕ) (width : Width w) (word : List ℕ) (head : Fields → Bool) (right : Fields → ℕ → ℕ → Bool) (r : Fields)
    (ok : Right (grouped word w head right) r) where
  pub head-right : head r ≡ true
  head-right = let k = grouped-is word w r ok.of_kind in ok.allowed 1 (omega (arith, k.1))

  pub group-right : (k j : ℕ) → k < group_count w r → j < w → right r k j ≡ true
  group-right k j l h =
      let g = grouped-is word w r ok.of_kind in
      let size = width.counted (length r) g.1 g.2 in
      let room = width.within k (group_count w r) j l h in
      sym (at-group w width head right r k j h) ∙ ok.allowed (2 + w * k + j) (omega (arith, size, room))

-- ---- Diagrams.
-- an ordered diagram that reads what it may, and whose references are held
pub record SetFits (s : Shape) (states : Bool) (d : Frozen) : Type 0 where
  pub ordered : IsOrderedOver s.variables d
  pub may : (n : ℕ) → n < length d.nodes → may_stand s states (node_at d.nodes n).var ≡ true
  pub held : IsHeld d

later : (m a b : ℕ) (c : Bool) → nat_lt m 2 ≡ c → (c || nat_lt a b) ≡ true → 2 ≤ m → a + 1 ≤ b
later m a b true e h l = let q = ltb-true m 2 e in absurd (omega (arith, q, l))
later m a b false e h l = let q = ltb-true a b h in omega (arith, q)

child-told : (r : Fields) (k : ℕ) (text : List ℕ) → is_child r k text ≡ true
    → (natural text < k + 2) × (natural text < 2 ^ 32) × (2 ≤ natural text → variable_at r k + 1 ≤ variable_at r (natural text - 2))
child-told r k text h =
    let p = both_of (is_below (k + 2) text) (nat_lt (natural text) 2 || nat_lt (variable_at r k) (variable_at r (natural text - 2))) h in
    let t = below-told (k + 2) text p.0 in
    (t.1, t.2, λ l. later (natural text) (variable_at r k) (variable_at r (natural text - 2)) (nat_lt (natural text) 2) refl p.1 l)

module _ (r : Fields) (n : ℕ) where
  abbrev nodes : List Triple
  nodes = upto triple_at r n

  node-is : (i : ℕ) → i < n → node_at nodes i ≡ triple_at r i
  node-is i l = upto-at triple_at r n i (record { var = 0; lo = 0; hi = 0 }) l

  child-from : (i c v : ℕ) (text : List ℕ) → i < n → v ≡ variable_at r i → c ≡ natural text → is_child r i text ≡ true
      → (c < i + 2) × (c < 2 ^ 32) × IsFrom nodes (v + 1) c
  child-from i c v text l hv hc h =
      let t = child-told r i text h in (
        omega (arith, t.0, hc),
        omega (arith, t.1, hc),
        λ at_least.
            let lower = t.2 (omega (arith, at_least, hc)) in
            let m = ap (λ (x : Triple). x.var) (node-is (natural text - 2) (omega (arith, t.0, at_least, hc, l))) in
            let same : c - 2 ≡ natural text - 2 = omega (arith, hc) in
            let e = ap (λ k. (node_at nodes k).var) same ∙ m in
            omega (arith, lower, e, hv),
      )

diagram-record : (s : Shape) (word : List ℕ) (states : Bool) (r : Fields) → Right (diagram s word states) r → SetFits s states (frozen_of r)
diagram-record s word states r ok =
    let n = group_count 3 r in
    let root = below-told (n + 2) (field r 1) (head-right 3 three word is_root (is_node_field s states) r ok) in
    let field-right = group-right 3 three word is_root (is_node_field s states) r ok in
    let size = upto-length triple_at r n in
    let variable = λ (i : ℕ) (l : i < n). both_of (is_below s.variables (field r (2 + 3 * i))) (may_stand s states (variable_at r i))
    (field-right i 0 l (omega arith)) in
    let is = λ (i : ℕ) (l : i < n). node-is r n i l in
    let low = λ (i : ℕ) (l : i < n). child-from r n i (node_at (upto triple_at r n) i).lo (node_at (upto triple_at r n) i).var (field r (2 + 3 * i + 1)) l
    (ap (λ (t : Triple). t.var) (is i l)) (ap (λ (t : Triple). t.lo) (is i l)) (field-right i 1 l (omega arith)) in
    let high = λ (i : ℕ) (l : i < n). child-from r n i (node_at (upto triple_at r n) i).hi (node_at (upto triple_at r n) i).var
    (field r (2 + 3 * i + 2)) l (ap (λ (t : Triple). t.var) (is i l)) (ap (λ (t : Triple). t.hi) (is i l)) (field-right i 2 l (omega arith)) in
    record {
      ordered = record {
        placed = λ i l. let m : i < n = omega (arith, l, size) in record {
          lo_earlier = (low i m).0;
          hi_earlier = (high i m).0;
          lo_greater = (low i m).2;
          hi_greater = (high i m).2;
        };
        low = λ i l. let m : i < n = omega (arith, l, size) in let t = below-told s.variables (field r (2 + 3 * i)) (variable i m).0 in
            subst (λ (x : Triple). x.var < s.variables) (sym (is i m)) t.1;
        root = omega (arith, root.1, size);
      };
      may = λ i l. let m : i < n = omega (arith, l, size) in subst (λ (x : Triple). may_stand s states x.var ≡ true) (sym (is i m)) (variable i m).1;
      held = record {
        root = root.2;
        low = λ i l. let m : i < n = omega (arith, l, size) in (low i m).1;
        high = λ i l. let m : i < n = omega (arith, l, size) in (high i m).1;
      };
    }

pub diagram-fits : (s : Shape) (word : List ℕ) (states : Bool) (d : Frozen) (rs : List Fields) → Spells (a_diagram s word states) d rs → SetFits s states d
diagram-fits s word states d rs h =
    let o = single (diagram s word states) frozen_of d rs h in
    subst (SetFits s states) (sym o.value) (diagram-record s word states o.here o.right)

-- ---- Rows.
abbrev pub KeptRow : ℕ → Row → Type 0
KeptRow memories r = (length r.coefficients ≡ memories) × Fits r

within-told : (limit : ℕ) (text : List ℕ) → is_within limit text ≡ true → unsigned_abs (whole text) ≤ limit
within-told limit text h = leb-true (unsigned_abs (whole text)) limit (both_of (bytes_eq text (signed_decimal (whole text)))
    (nat_le (unsigned_abs (whole text)) limit) h).1

row-record : (memories : ℕ) (r : Fields) → Right (row_form memories) r → KeptRow memories (row_of memories r)
row-record memories r ok =
    let k = worded (codes "row") (memories + 2) r ok.of_kind in
    let size = upto-length coefficient_at r memories in (
      size,
      record {
        coefficients = λ i d l.
            let m : i < memories = omega (arith, l, size) in
            subst (λ z. unsigned_abs z ≤ 2 ^ 30) (sym (upto-at coefficient_at r memories i d m))
            (within-told (2 ^ 30) (field r (i + 2)) (sym (number-test r i) ∙ ok.allowed (i + 2) (omega (arith, k.1, m))));
        bound = within-told (2 ^ 60) (field r 1) (ok.allowed 1 (omega (arith, k.1)));
      },
    )

pub row-fits : (memories : ℕ) (row : Row) (rs : List Fields) → Spells (a_row memories) row rs → KeptRow memories row
row-fits memories row rs h =
    let o = single (row_form memories) (row_of memories) row rs h in
    subst (KeptRow memories) (sym o.value) (row-record memories o.here o.right)

-- a part so many times
pub times-all : {A : Type 0} (part : Rule A) (P : A → Type 0) → ((a : A) (rs : List Fields) → Spells part a rs → P a)
    → (n : ℕ) (xs : List A) (rs : List Fields) → Spells (times n part) xs rs
    → (length xs ≡ n) × AllByRecursion P xs
times-all part P one zero xs rs s =
    let t = subst (λ p. Spells p xs rs) (times_none part) s in
    (ap length t.1, subst (AllByRecursion P) (sym t.1) tt)
times-all part P one (suc n) xs rs s =
    let t = list-first part (times n part) xs rs (subst (λ p. Spells p xs rs) (times_more n part) s) in
    let a = one t.0 t.2 t.5 in
    let b = times-all part P one n t.1 t.3 t.6 in
    (ap length t.7 ∙ ap suc b.0, subst (AllByRecursion P) (sym t.7) (a, b.1))

pub list-fits : (memories : ℕ) (word : List ℕ) (low high : ℕ) (rows : List Row) (rs : List Fields) → Spells (a_list memories word low high) rows rs
    → (low ≤ length rows) × (length rows ≤ high) × AllByRecursion (KeptRow memories) rows
list-fits memories word low high rows rs s =
    let x = bind-parts (counts word low high) (λ n. times n (a_row memories)) rows rs s in
    let c = counts-written word low high x.value x.front x.first in
    let t = times-all (a_row memories) (KeptRow memories) (row-fits memories) x.value rows x.back x.second in
    (omega (arith, c.1, t.0), omega (arith, c.2, t.0), t.1)

-- ---- Multipliers.
-- multipliers of so many premises, with a divisor of at most this
pub record ProofFits (greatest premises : ℕ) (m : Multipliers) : Type 0 where
  pub divisor : ℕ
  pub divides : m.divisor ≡ pos divisor
  pub positive : 1 ≤ divisor
  pub small : divisor ≤ greatest
  pub few : length m.weights ≤ 256
  pub there : All (λ w. w.premise < premises) m.weights
  pub weighted : All (λ w. pos 1 ≤ℤ w.by × (w.by ≤ℤ pos (2 ^ 41))) m.weights
  pub rising : (i j : ℕ) (u w : Weight) → i < j → slice_get m.weights i ≡ Some u → slice_get m.weights j ≡ Some w → u.premise < w.premise

pub pos-le : (m n : ℕ) → m ≤ n → pos m ≤ℤ pos n
pos-le m n h = grind (arith, ints)

pub is-record : (greatest premises : ℕ) (m : Multipliers) → greatest ≤ 2 ^ 30 → ProofFits greatest premises m → IsRecord premises m
is-record greatest premises m l p = record {
  positive = subst (λ z. pos 1 ≤ℤ z) (sym p.divides) (pos-le 1 p.divisor p.positive);
  divisor = let small = p.small in subst (λ z. z ≤ℤ pos (2 ^ 30)) (sym p.divides) (pos-le p.divisor (2 ^ 30) (omega (arith, small, l)));
  few = p.few;
  there = p.there;
  weighted = p.weighted;
  rising = p.rising;
}

abbrev premise_at : Fields → ℕ → ℕ
premise_at r k = natural (field r (2 + 2 * k))

module _ (premises : ℕ) (r : Fields) (n : ℕ) (right : (k j : ℕ) → k < n → j < 2 → is_pair_field premises r k j ≡ true) where
  premise-told : (k : ℕ) → k < n → (k < 256) × (premise_at r k < premises)
  premise-told k l =
      let p = both_of (nat_lt k 256) (is_below premises (field r (2 + 2 * k)) && nat_le (least_at r k) (premise_at r k)) (right k 0 l (omega arith)) in
      let q = both_of (is_below premises (field r (2 + 2 * k))) (nat_le (least_at r k) (premise_at r k)) p.1 in
      (ltb-true k 256 p.0, (below-told premises (field r (2 + 2 * k)) q.0).1)

  step : (k : ℕ) → suc k < n → premise_at r k < premise_at r (suc k)
  step k l =
      let p = both_of (nat_lt (suc k) 256) (is_below premises (field r (2 + 2 * suc k)) && nat_le (premise_at r k + 1) (premise_at r (suc k)))
      (right (suc k) 0 l (omega arith)) in
      let q = both_of (is_below premises (field r (2 + 2 * suc k))) (nat_le (premise_at r k + 1) (premise_at r (suc k))) p.1 in
      let m = leb-true (premise_at r k + 1) (premise_at r (suc k)) q.1 in
      omega (arith, m)

  rises-by : (i j : ℕ) (b : Bool) → eqb i j ≡ b → i < suc j → suc j < n → (i < j → premise_at r i < premise_at r j) → premise_at r i < premise_at r (suc j)
  rises-by i j true e l m h = subst (λ k. premise_at r k < premise_at r (suc j)) (sym (eqb-true i j e)) (step j m)
  rises-by i j false e l m h = let x = h (omega (arith, eqb-false i j e, l)) in let y = step j m in omega (arith, x, y)

  rises : (i j : ℕ) → i < j → j < n → premise_at r i < premise_at r j
  rises i zero l m = absurd (omega (arith, l))
  rises i (suc j) l m = rises-by i j (eqb i j) refl l m (λ e. rises i j e (omega (arith, m)))

  weight-told : (k : ℕ) → k < n → (1 ≤ natural (field r (2 + 2 * k + 1))) × (natural (field r (2 + 2 * k + 1)) ≤ 2 ^ 41)
  weight-told k l = let t = natural-told 1 (2 ^ 41) (field r (2 + 2 * k + 1)) (right k 1 l (omega arith)) in (t.1, t.2)

  few-by : (b : Bool) → nat_lt 256 n ≡ b → n ≤ 256
  few-by true e = let l = ltb-true 256 n e in let t = (premise-told 256 l).0 in absurd (omega (arith, t))
  few-by false e = let l = ltb-false 256 n e in omega (arith, l)

  abbrev weights : List Weight
  weights = upto weight_at r n

  weight-is : (k : ℕ) (w : Weight) → slice_get weights k ≡ Some w → (k < n) × (w ≡ weight_at r k)
  weight-is k w h =
      let inside = slice_get_within weights k w h in
      let m : k < n = omega (arith, inside, upto-length weight_at r n) in
      (m, sym (get_or_from_slice_get weights k w w h) ∙ upto-at weight_at r n k w m)

  pub weights-fit : (greatest : ℕ) (m : Multipliers) (d : ℕ) → m.weights ≡ weights → m.divisor ≡ pos d → 1 ≤ d → d ≤ greatest → ProofFits greatest premises m
  weights-fit greatest m d e h low high = record {
    divisor = d;
    divides = h;
    positive = low;
    small = high;
    few = let x = few-by (nat_lt 256 n) refl in let size = ap length e ∙ upto-length weight_at r n in omega (arith, x, size);
    there = subst (All (λ w. w.premise < premises)) (sym e) (λ k x l.
        let inside : k < n = omega (arith, l, upto-length weight_at r n) in
        subst (λ (w : Weight). w.premise < premises) (sym (upto-at weight_at r n k x inside)) (premise-told k inside).1);
    weighted = subst (All (λ w. pos 1 ≤ℤ w.by × (w.by ≤ℤ pos (2 ^ 41)))) (sym e) (λ k x l.
        let inside : k < n = omega (arith, l, upto-length weight_at r n) in
        let t = weight-told k inside in
        subst (λ (w : Weight). pos 1 ≤ℤ w.by × (w.by ≤ℤ pos (2 ^ 41))) (sym (upto-at weight_at r n k x inside))
        (pos-le 1 (natural (field r (2 + 2 * k + 1))) t.0, pos-le (natural (field r (2 + 2 * k + 1))) (2 ^ 41) t.1));
    rising = λ i j u w l a b.
        let p = weight-is i u (subst (λ ws. slice_get ws i ≡ Some u) e a) in
        let q = weight-is j w (subst (λ ws. slice_get ws j ≡ Some w) e b) in
        let x = ap (λ (y : Weight). y.premise) p.1 in
        let z = ap (λ (y : Weight). y.premise) q.1 in
        let up = rises i j l q.0 in
        omega (arith, up, x, z);
  }

proof-record : (greatest premises : ℕ) (r : Fields) → Right (by_form greatest premises) r → ProofFits greatest premises (multipliers_of r)
proof-record greatest premises r ok =
    let t = natural-told 1 greatest (field r 1) (head-right 2 two (codes "by") (is_divisor greatest) (is_pair_field premises) r ok) in
    weights-fit premises r (group_count 2 r) (group-right 2 two (codes "by") (is_divisor greatest) (is_pair_field premises) r ok)
    greatest (multipliers_of r) (natural (field r 1)) refl refl t.1 t.2

pub proof-fits : (greatest premises : ℕ) (m : Multipliers) (rs : List Fields) → Spells (a_proof greatest premises) m rs → ProofFits greatest premises m
proof-fits greatest premises m rs h =
    let o = single (by_form greatest premises) multipliers_of m rs h in
    subst (ProofFits greatest premises) (sym o.value) (proof-record greatest premises o.here o.right)
