-- Rows that are premises, rows that can be taken before updates, and what is found by them.
use Rattle.std.proofs.Common.{◌≡◌, ℕ, ◌+◌, ◌<◌, ◌≤◌, ◌≤ℤ◌, ◌^◌, ℤ, pos, negsuc, List, [], ◌∷◌, ◌++◌, length, get_or, All, Some, slice_get, true, arith, refl}
use Rattle.std.proofs.Common.{sym, ap, ◌∙◌}
use Rattle.std.proofs.Common.{subst, ◌⊎◌, inl, inr}
use Rattle.std.proofs.lemmas.List.Elements.{All-weaker, All-push, All-from_get_or}
use Rattle.std.proofs.{lemmas.Option.slice_get_within, lemmas.Option.get_or_from_slice_get, lemmas.List.length_push, lemmas.List.length-append}
use Rattle.std.specs.Int.RustNames.{unsigned_abs}
use Rattle.rv_diagram.specs.{declared.Triple.Triple, Nodes.Valuation, Nodes.Diagrams}
use Rattle.rv_rows.specs.{declared.linear.Row.Row, declared.linear.Form.Form, Rows.row_at, Rows.coefficient, Rows.RowWithin, Forms.CanSubstitute, Tight.Fits}
use Rattle.rv_rows.specs.{declared.farkas.Weight.Weight, declared.farkas.Multipliers.Multipliers}
use Rattle.rv_proofs.specs.{Systems.System, Systems.IsSystem, Systems.IsUpdate, Ranges.AreKept, Ranges.IsRecord, Boxes.HasUnit}
use Rattle.rv_proofs.specs.{declared.certificate.EntryKind.TheVariants.Dead, declared.certificate.EntryKind.TheVariants.Go}
use Rattle.rv_proofs.proofs.Rooms.{has_room}
use Rattle.rv_cases.specs.{declared.asking.Questions.Questions, Conditions.is_in, Conditions.AreRefs, Questions.AreQuestions, Questions.forms_at}
use Rattle.rv_cases.specs.{Questions.memory_answers}
use Rattle.rv_boxes.specs.{declared.peaks.Peak.Peak, declared.ends.End.End, Ends.IsOnlyColumn, Ends.AreEnds, Boxed.ArePremises, Boxed.IsGreatest}
use Rattle.rv_boxes.specs.{Boxed.IsOpenBox}
use Rattle.rv_boxes.specs.{Boxed.IsRefutation, Built.nothing}
use Rattle.rv_boxes.proofs.{Shutting.record_from, BoxLemmas.crossed_none}
use Rattle.rv_seek.specs.Pairs.{HasRanges, WeightInRange}
use Rattle.rv_cover.specs.{declared.frame.By.By, declared.frame.By.TheVariants.Boxes, declared.frame.By.TheVariants.Rows}
use Rattle.rv_cover.specs.{declared.frame.Frame.Frame, declared.finding.Found.Found, Premises.IsPremise, Premises.IsNarrow, Premises.AreOpenEnds}
use Rattle.rv_cover.specs.{Entries.IsPlainKind, Entries.IsFound}
use Rattle.rv_cover.specs.Seeking.{IsWay, IsSearched}

pub got_all : {X : Type 0} (P : X → Type 0) (xs : List X) (i : ℕ) (x : X) → slice_get xs i ≡ Some x → All P xs → P x
got_all P xs i x at all = subst P (get_or_from_slice_get xs i x x at) (all i x (slice_get_within xs i x at))

pub unit_from : (r : Row) (k : ℕ) (z : ℤ) → IsOnlyColumn r k → z ≡ coefficient k r → (z ≡ pos 1) ⊎ (z ≡ negsuc 0) → HasUnit r
unit_from r k z only is (inl e) one = (k, inl (record { here = sym is ∙ e; others = only.others }))
unit_from r k z only is (inr e) one = (k, inr (record { here = sym is ∙ e; others = only.others }))

-- rows each of which can be a premise
pub premises_from : (columns : ℕ) (rows : List Row) → length rows < 2 ^ 32 → ((p : ℕ) → p < length rows → IsPremise columns (row_at rows p))
    → ArePremises columns rows
premises_from columns rows few each = record {
  few = few;
  within = All-from_get_or (RowWithin (2 ^ 60)) rows nothing (λ p l. within (row_at rows p) (each p l));
  wide = λ p l. let is = each p l in is.wide;
  sizes = λ p l. let is = each p l in is.sizes;
  units = λ p l. let is = each p l in is.one;
}
  where
    within : (r : Row) → IsPremise columns r → RowWithin (2 ^ 60) r
    within r is = (
      All-weaker (λ (c : ℤ). unsigned_abs c ≤ 2 ^ 41) (λ (c : ℤ). unsigned_abs c ≤ 2 ^ 60) (λ c l. omega (arith, l)) r.coefficients is.sizes,
      is.bound,
    )

-- kept rows can be taken before updates
pub rooms : (s : System) → IsSystem s → (rows : List Row) → AreKept s rows → (forms : List Form) → length forms ≡ s.memories → All (IsUpdate s) forms
    → All (λ r. CanSubstitute r forms) rows
rooms s is rows kept forms many updates = All-weaker (λ (r : Row). (length r.coefficients ≡ s.memories) × Fits r) (λ (r : Row). CanSubstitute r forms)
    (λ r (size, fits). has_room s is r forms size fits many updates) rows kept.0

-- a list of chosen rows with one more, or not
pub chosen_few : (old new : List Row) (r : Row) (n : ℕ) → (new ≡ old) ⊎ (new ≡ old ++ r ∷ []) → length old ≤ n → length new ≤ n + 1
chosen_few old new r n (inl e) l = let same = ap length e in omega (arith, same, l)
chosen_few old new r n (inr e) l = let same = ap length e in let size = length_push old r in omega (arith, same, size, l)

pub chosen_all : (P : Row → Type 0) (rows old new : List Row) (i : ℕ) (r : Row) → slice_get rows i ≡ Some r → All P rows
    → (new ≡ old) ⊎ (new ≡ old ++ r ∷ []) → All P old → All P new
chosen_all P rows old new i r at all (inl e) are = subst (All P) (sym e) are
chosen_all P rows old new i r at all (inr e) are = subst (All P) (sym e) (All-push P old r are (got_all P rows i r at all))

-- what a memory becomes at a valuation is an update
pub update_told : (s : System) → IsSystem s → (d : Diagrams) (q : Questions) → AreQuestions s d q → (k : ℕ) → k < s.memories
    → (v : Valuation) (i : ℕ) (f : Form)
    → slice_get (forms_at q.forms k) i ≡ Some f → is_in d.nodes (memory_answers q k) i v ≡ true → IsUpdate s f
update_told s is d q a k low v i f got on = subst (IsUpdate s) ((a.updates k low).becomes i f v got on) (is.updates v k low)

-- multipliers on premises among more of them
pub record_wider : (a b : ℕ) (m : Multipliers) → a ≤ b → IsRecord a m → IsRecord b m
record_wider a b m l is = record {
  positive = is.positive;
  divisor = is.divisor;
  few = is.few;
  there = All-weaker (λ (w : Weight). w.premise < a) (λ (w : Weight). w.premise < b) (λ w h. omega (arith, h, l)) m.weights is.there;
  weighted = is.weighted;
  rising = is.rising;
}

-- those of a greatest value
pub record_greatest : (width : ℕ) (rows : List Row) (numbers : List ℤ) (g : Peak) (m : Multipliers) → length numbers ≤ 256 → IsGreatest width rows numbers g
    → m ≡ record { divisor = pos 1; weights = g.weights } → IsRecord (length rows) m
record_greatest width rows numbers g m few great is = subst (IsRecord (length rows)) (sym is)
    (record_from (length rows) (record { divisor = pos 1; weights = g.weights }) refl (let k = great.count in omega (arith, k, few))
    (λ j d n. ((great.units j d n).0, great.weights j d n)) great.rises)

-- how many premises there are
pub premises_few : (s : System) (d : Diagrams) (q : Questions) (f : Frame) (given : List Row) → IsSearched s d q f given
    → length given + length q.rows < 2 ^ 32
premises_few s d q f given is =
    let ask = is.questions in let many = ask.many_tests in let low = is.few in omega (arith, many, low)

narrow_of : (s : System) → IsSystem s → (by : By) → IsWay s by → IsNarrow by
narrow_of s is (Boxes columns) same = let limits = is.limits in let few = limits.columns in omega (arith, few, same)
narrow_of s is Rows way = tt

pub searched_narrow : (s : System) (d : Diagrams) (q : Questions) (f : Frame) (given : List Row) → IsSearched s d q f given → IsNarrow f.by
searched_narrow s d q f given is = narrow_of s is.system f.by is.way

pub questions_few : (s : System) (d : Diagrams) (q : Questions) (f : Frame) (given : List Row) → IsSearched s d q f given → length q.questions < 2 ^ 32
questions_few s d q f given is =
    let fits = is.system in let limits = fits.limits in let few = limits.tests in let less = limits.memories in
    let ask = is.questions in let many = ask.many_tests in let more = ask.many_memories in let have = ask.answers in let all = have.many in
    omega (arith, few, less, many, more, all)

-- what was found with a refutation, and with proofs
pub dead_found : (nodes : List Triple) (n m : ℕ) (by : Multipliers) (found : Found) → found.kind ≡ Dead by → AreRefs nodes found.answers.items
    → IsRecord m by → by.divisor ≡ pos 1 → m ≡ n → IsFound nodes n found
dead_found nodes n m by found kind answers is one size = record {
  kind = subst (IsPlainKind n) (sym kind) (subst (λ (k : ℕ). IsRecord k by) size is, one);
  answers = answers;
}

pub step_found : (nodes : List Triple) (n m target : ℕ) (reach : List Multipliers) (found : Found) → found.kind ≡ Go target reach
    → AreRefs nodes found.answers.items → All (IsRecord m) reach → m ≡ n → IsFound nodes n found
step_found nodes n m target reach found kind answers are size = record {
  kind = subst (IsPlainKind n) (sym kind) (subst (λ (k : ℕ). All (IsRecord k) reach) size are);
  answers = answers;
}

-- ends of a box that is open
pub open_from : (columns : ℕ) (rows : List Row) (ends : List End) → ArePremises columns rows → AreEnds rows columns ends → columns < 256
    → IsOpenBox (length ends) rows → AreOpenEnds rows ends
open_from columns rows ends premises are few opened =
    let size = are.size in
    let same : columns ≡ length ends = sym size in
    let pre : ArePremises (length ends) rows = subst (λ (n : ℕ). ArePremises n rows) same premises in
    let ends_are : AreEnds rows (length ends) ends = subst (λ (n : ℕ). AreEnds rows n ends) same are in
    record {
      premises = pre;
      ends_are = ends_are;
      uncrossed = λ k l x. crossed_none (length ends) rows pre ends ends_are k l x opened.some;
      few = omega (arith, few, size);
    }

-- a refutation of given rows and those of the tests
pub refuted_record : (given told rows : List Row) → rows ≡ given ++ told → (m : Multipliers) → IsRefutation rows m → IsRecord (length given + length told) m
refuted_record given told rows are m is = subst (λ (k : ℕ). IsRecord k m) (ap length are ∙ length-append given told) is.record_of

pub refuted_one : (rows : List Row) (m : Multipliers) → IsRefutation rows m → m.divisor ≡ pos 1
refuted_one rows m is = let r = is.refutes in r.divisor

-- the ranges of multipliers that a search promises are those of a document
pub ranges_record : (n : ℕ) (m : Multipliers) → HasRanges n m → IsRecord n m
ranges_record n m h = record {
  positive = h.positive;
  divisor = h.divisor;
  few = h.most;
  there = All-weaker (WeightInRange n) (λ (w : Weight). w.premise < n) (λ w r. r.premise) m.weights h.weights;
  weighted = All-weaker (WeightInRange n) (λ (w : Weight). (pos 1 ≤ℤ w.by) × (w.by ≤ℤ pos (2 ^ 41))) (λ w r. (r.positive, r.most)) m.weights h.weights;
  rising = λ i j u w less u_at w_at.
      let e = get_or_from_slice_get m.weights i u u u_at in
      let f = get_or_from_slice_get m.weights j w u w_at in
      let r = h.rising i j u less (slice_get_within m.weights j w w_at) in
      along (get_or m.weights i u) u (get_or m.weights j u) w e f r;
}
  where
    along : (a b c d : Weight) → a ≡ b → c ≡ d → a.premise < c.premise → b.premise < d.premise
    along a b c d e f l = omega (arith, ap (λ (x : Weight). x.premise) e, ap (λ (x : Weight). x.premise) f, l)
