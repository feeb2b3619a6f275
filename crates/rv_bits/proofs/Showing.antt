-- What references show of expressions, form by form.
use Rattle.std.proofs.Common.{◌≡◌, ℕ, zero, suc, ◌^◌, ◌<◌, ◌≤◌, Bool, true, false, not, ◌&&◌, ◌||◌, cond, nat_eq, nat_le, max, List, [], ◌∷◌, length, refl, sym}
use Rattle.std.proofs.Common.{◌∙◌, ap, subst, arith, Option, Some, None as Nothing}
use Rattle.std.proofs.Math.Nat.{le-max_left, le-max_right}
use Rattle.rv_base.specs.declared.value.Value.{Value}
use Rattle.rv_base.specs.declared.value.Value.TheVariants.{Flag, Label, Whole}
use Rattle.rv_tree.specs.{declared.tree.Op.Op, Places.Sites}
use Rattle.rv_tree.specs.declared.tree.Op.TheVariants as op
use Rattle.rv_types.specs.{declared.typed.Kind.Kind, Lists.Variable, Lists.Test, Lists.AtMost, Lists.AtLeast, Lists.Side, Variables.is_integer}
use Rattle.rv_types.specs.declared.typed.Kind.TheVariants as kind
use Rattle.rv_diagram.specs.{declared.Triple.Triple, Nodes.Valuation, Nodes.Diagrams, Nodes.IsRef, Nodes.value_of, Several.ref_at}
use Rattle.rv_diagram.proofs.Calls.{value_of-false}
use Rattle.rv_diagram.specs.Growing.{Extends}
use Rattle.rv_diagram.proofs.Growing.{extends_refl, extends_trans}
use Rattle.rv_agreement.specs.Agreement.{Fits, HasKind, IsRule, IsPlaced, IsNamed, IsWell}
use Rattle.rv_agreement.specs.Evaluation.{is_on, nth}
use Rattle.rv_agreement.specs.Trees.{FlatTree, Node, FlatTrees, Constant, Memory, Ticked, Not, Binary, If, AtMostOne, When, Item, nth_item, memory_items}
use Rattle.rv_agreement.specs.Trees.{memory_kinds, kind_at}
use Rattle.rv_agreement.specs.Valuations.{Reading, Truth, Name, Linear, holds_true, is_linear, is_placed, is_same, operated, constant_reading, width, reads_at}
use Rattle.rv_agreement.specs.Valuations.{read, updated, IsSymbolic}
use Rattle.rv_flat.specs.{declared.flat.Flat.Flat, FlatInstants.system_of}
use Rattle.rv_control.specs.Named.{named, variables_of, truth_at}
use Rattle.rv_symbolic.specs.{Growing.Makes, Linked.AreRefs}
use Rattle.rv_bits.specs.Shown.{IsNumber, as_number, Shows, refs_at, found, is_there_at, AreTables, AreFlowRefs, ReadsTo, clock_bit}
use Rattle.rv_bits.specs.{declared.around.Tables.Tables, declared.around.FlowRefs.FlowRefs, Bits.bit, Bits.bit_of, Bits.are_same, Bits.count_true, Bits.Spells}
use Rattle.rv_bits.specs.{Bits.IsSingle, Constants.constant_bit, Operators.same_by, Operators.operated_by, Reads.AreCountedIn, Reads.ShowsTo, Reads.true_at}
use Rattle.rv_bits.proofs.{Codes.bit_past, Codes.same_numbers, Making.any_ref, Making.bit_none, Making.bits_kept}
use Rattle.rv_types.proofs.ChainLaws.{no_flag}

-- NUMBERS

pub truth_bit : (t : Bool) → bit_of (as_number t) 0 ≡ t
truth_bit true = refl
truth_bit false = refl

pub truth_small : (t : Bool) → as_number t < 2 ^ 1
truth_small true = omega arith
truth_small false = omega arith

pub single_number : (nodes : List Triple) (v : Valuation) (r : ℕ) (t : Bool) → value_of nodes r v ≡ t → IsNumber nodes v (r ∷ []) (as_number t)
single_number nodes v r t e zero = e ∙ sym (truth_bit t)
single_number nodes v r t e (suc b) = value_of-false nodes v ∙ sym (bit_past (as_number t) 1 (suc b) (truth_small t) (omega arith))

pub shows_truth : (nodes : List Triple) (v : Valuation) (refs : List ℕ) (a : Reading) → Shows nodes v kind.Bool refs a → a ≡ Truth (bit nodes refs v 0)
shows_truth nodes v refs a (t, is, number) = is ∙ ap Truth (sym (number 0 ∙ truth_bit t))

pub shows_same : (a b : List Triple) (v : Valuation) (j : Kind) (refs other : List ℕ) (x : Reading) → ((k : ℕ) → bit b other v k ≡ bit a refs v k)
    → Shows a v j refs x → Shows b v j other x
shows_same a b v kind.Bool refs other x same (t, is, number) = (t, is, λ k. same k ∙ number k)
shows_same a b v kind.Int refs other x same shows = shows
shows_same a b v (kind.Labels i) refs other x same (l, is, number) = (l, is, λ k. same k ∙ number k)

pub shows_kept : (a b : Diagrams) (v : Valuation) (j : Kind) (refs : List ℕ) (x : Reading) → Extends a b → AreRefs a.nodes refs → Shows a.nodes v j refs x
    → Shows b.nodes v j refs x
shows_kept a b v j refs x e are shows = shows_same a.nodes b.nodes v j refs refs x (bits_kept a b refs e are v) shows

-- CONSTANTS

constant_shows : (nodes : List Triple) (v : Valuation) (labels : List ℕ) (columns : ℕ) (test : Sites → Side → Bool) (j : Kind) (c : Value) (refs : List ℕ)
    → HasKind labels j c → ((b : ℕ) → bit nodes refs v b ≡ constant_bit c b)
    → Shows nodes v j refs (constant_reading columns test c)
constant_shows nodes v labels columns test kind.Bool (Flag t) refs has bits = (t, refl, bits)
constant_shows nodes v labels columns test kind.Bool (Label l) refs has bits = absurd has
constant_shows nodes v labels columns test kind.Bool (Whole z) refs has bits = absurd has
constant_shows nodes v labels columns test kind.Int (Flag t) refs has bits = absurd has
constant_shows nodes v labels columns test kind.Int (Label l) refs has bits = absurd has
constant_shows nodes v labels columns test kind.Int (Whole z) refs has bits = refl
constant_shows nodes v labels columns test (kind.Labels i) (Flag t) refs has bits = absurd has
constant_shows nodes v labels columns test (kind.Labels i) (Label l) refs has bits = (l, refl, bits)
constant_shows nodes v labels columns test (kind.Labels i) (Whole z) refs has bits = absurd has

pub reads_constant : (f : Flat) (d : Diagrams) (at : Sites) (c : Value) (refs : List ℕ) → AreRefs d.nodes refs
    → ((b : ℕ) (v : Valuation) → bit d.nodes refs v b ≡ constant_bit c b)
    → ReadsTo f d d (Node at (Constant c)) refs
reads_constant f d at c refs are bits = record {
  extends = extends_refl d;
  are_refs = are;
  shows = λ v row k j sym fits there. constant_shows d.nodes v (system_of f).labels (width (system_of f)) (named f v).test j c refs fits (λ b. bits b v);
}

-- LEAVES

module _ (f : Flat) (v : Valuation) (row : List (Option Reading)) where
  abbrev there : Option ℕ → Bool
  there k = is_there_at f v row k

  abbrev cell : ℕ → Option Reading
  cell n = nth Reading (reads_at (system_of f) (named f v)) row n

  abbrev value_here : FlatTree → Reading
  value_here t = read (system_of f) (named f v) row t

  -- a flow whose clock is there has what its expression has
  flow_here : IsSymbolic (system_of f) (named f v) row → (n : ℕ) → n < length (system_of f).flows → there (nth_item (system_of f).flows n).clock ≡ true
      → cell n ≡ Some (value_here (nth_item (system_of f).flows n).body)
  flow_here instant n lt on = instant.holds n lt ∙ ap (λ b. cond b (Some (value_here (nth_item (system_of f).flows n).body)) Nothing) on

  -- a flow that is there and true has a clock that is there
  clock_here : IsSymbolic (system_of f) (named f v) row → (n : ℕ) → n < length (system_of f).flows → there (Some n) ≡ true
      → there (nth_item (system_of f).flows n).clock ≡ true
  clock_here instant n lt on = by (there (nth_item (system_of f).flows n).clock) (instant.holds n lt)
    where
      by : (b : Bool) → cell n ≡ cond b (Some (value_here (nth_item (system_of f).flows n).body)) Nothing → b ≡ true
      by true e = refl
      by false e = no_flag (sym (ap (is_on Reading (reads_at (system_of f) (named f v))) e) ∙ on)

pub reads_memory : (f : Flat) (d : Diagrams) (at : Sites) (m : ℕ) (t : Tables) → AreTables f d.nodes t → ReadsTo f d d (Node at (Memory m)) (refs_at t.kept m)
reads_memory f d at m t are = record {
  extends = extends_refl d;
  are_refs = are.kept_refs m;
  shows = λ v row k j instant fits there. subst (λ (x : Kind). Shows d.nodes v x (refs_at t.kept m) ((found f v).kept m)) fits.1 (are.kept m v fits.0);
}

one_ref : (nodes : List Triple) (r : ℕ) → IsRef nodes r → AreRefs nodes (r ∷ [])
one_ref nodes r is zero lt = is
one_ref nodes r is (suc k) lt = absurd (omega arith)

pub shows_single : (nodes : List Triple) (v : Valuation) (j : Kind) (r : ℕ) (t : Bool) → j ≡ kind.Bool → value_of nodes r v ≡ t
    → Shows nodes v j (r ∷ []) (Truth t)
shows_single nodes v j r t e is = subst (λ (x : Kind). Shows nodes v x (r ∷ []) (Truth t)) (sym e) (t, refl, single_number nodes v r t is)

pub reads_tick : (f : Flat) (d : Diagrams) (at : Sites) (n : ℕ) (t : Tables) → AreTables f d.nodes t
    → ReadsTo f d d (Node at (Ticked n)) (ref_at t.ticks n ∷ [])
reads_tick f d at n t are = record {
  extends = extends_refl d;
  are_refs = one_ref d.nodes (ref_at t.ticks n) (any_ref d.nodes t.ticks are.tick_refs n);
  shows = λ v row k j instant fits there. shows_single d.nodes v j (ref_at t.ticks n) ((found f v).ticked n) fits.1 (are.ticks n v fits.0);
}

pub reads_when : (f : Flat) (a b : Diagrams) (at : Sites) (c : ℕ) (e : FlatTree) (refs : List ℕ) → ReadsTo f a b e refs
    → ReadsTo f a b (Node at (When c e)) refs
reads_when f a b at c e refs r = record {
  extends = r.extends;
  are_refs = r.are_refs;
  shows = λ v row k j instant fits there. r.shows v row (nth_item (system_of f).flows c).clock j instant fits.2
      (clock_here f v row instant c fits.1 (ap (is_there_at f v row) (sym fits.0) ∙ there));
}

-- OPERATORS

pub reads_not : (f : Flat) (a b c : Diagrams) (at : Sites) (e : FlatTree) (bits refs : List ℕ) → ReadsTo f a b e bits
    → IsSingle b c (λ v. not (bit b.nodes bits v 0)) refs → ReadsTo f a c (Node at (Not e)) refs
reads_not f a b c at e bits refs r s = record {
  extends = extends_trans a b c r.extends s.made.extends;
  are_refs = subst (AreRefs c.nodes) (sym s.is) (one_ref c.nodes s.one s.made.found);
  shows = λ v row k j instant fits there.
      let own : read (system_of f) (named f v) row e ≡ Truth (bit b.nodes bits v 0) = shows_truth b.nodes v bits (read (system_of f) (named f v) row e)
      (r.shows v row k kind.Bool instant fits.1 there) in
      subst (λ (l : List ℕ). Shows c.nodes v j l (read (system_of f) (named f v) row (Node at (Not e)))) (sym s.is)
      (shows_single c.nodes v j s.one (not (holds_true (read (system_of f) (named f v) row e))) fits.0
      (s.made.means v ∙ ap (λ x. not (holds_true x)) (sym own)));
}

-- the bits of a truth value are none but the first
same_truths : (p q : Bool) → nat_eq (as_number p) (as_number q) ≡ cond p q (not q)
same_truths true true = refl
same_truths true false = refl
same_truths false true = refl
same_truths false false = refl

module _ (nodes : List Triple) (names : List Variable) (columns : ℕ) (at : Sites) (v : Valuation) where
  abbrev tests : Sites → Side → Bool
  tests p side = truth_at names v (Test p side)

  not_placed : (i : Kind) (o : Op) → (is_placed at ≡ false) → (left right : List ℕ)
      → same_by nodes names at left right v ≡ are_same (max (length left) (length right)) (bit nodes left v) (bit nodes right v)
  not_placed i o e left right = ap (λ b. cond b (tests at AtMost && tests at AtLeast)
      (are_same (max (length left) (length right)) (bit nodes left v) (bit nodes right v))) e

  numbers_same : (left right : List ℕ) (l m : ℕ) → IsNumber nodes v left l → IsNumber nodes v right m
      → are_same (max (length left) (length right)) (bit nodes left v) (bit nodes right v) ≡ nat_eq l m
  numbers_same left right l m first second =
      let one : length left ≤ max (length left) (length right) = le-max_left (length left) (length right) in
      let two : length right ≤ max (length left) (length right) = le-max_right (length left) (length right) in
      same_numbers (max (length left) (length right)) l m (bit nodes left v) (bit nodes right v) first second
      (λ b le. bit_none nodes left v b (omega arith)) (λ b le. bit_none nodes right v b (omega arith))

  linear_same : (a b : Reading) → is_linear a ≡ true → is_linear b ≡ true → is_same columns tests at a b ≡ (tests at AtMost && tests at AtLeast)
  linear_same (Truth s) b p q = no_flag p
  linear_same (Name l) b p q = no_flag p
  linear_same (Linear f) (Truth t) p q = no_flag q
  linear_same (Linear f) (Name m) p q = no_flag q
  linear_same (Linear f) (Linear g) p q = refl

  -- operands of one type are the same exactly where their bits, or their tests, say so
  same_shown : (i : Kind) (left right : List ℕ) (a b : Reading) → is_placed at ≡ is_integer i → Shows nodes v i left a → Shows nodes v i right b
      → same_by nodes names at left right v ≡ is_same columns tests at a b
  same_shown kind.Bool left right a b placed (s, is, first) (t, is_too, second) =
      not_placed kind.Bool op.Equal placed left right ∙ numbers_same left right (as_number s) (as_number t) first second ∙ same_truths s t
      ∙ sym (λ i. is_same columns tests at (is i) (is_too i))
  same_shown kind.Int left right a b placed first second =
      ap (λ x. cond x (tests at AtMost && tests at AtLeast) (are_same (max (length left) (length right)) (bit nodes left v) (bit nodes right v))) placed
      ∙ sym (linear_same a b first second)
  same_shown (kind.Labels n) left right a b placed (l, is, first) (m, is_too, second) =
      not_placed (kind.Labels n) op.Equal placed left right ∙ numbers_same left right l m first second
      ∙ sym (λ i. is_same columns tests at (is i) (is_too i))

  truth_of : (i : Kind) (left : List ℕ) (a : Reading) → i ≡ kind.Bool → Shows nodes v i left a → bit nodes left v 0 ≡ holds_true a
  truth_of i left a e shows = sym (ap holds_true (shows_truth nodes v left a (subst (λ (x : Kind). Shows nodes v x left a) e shows)))

  linear_shown : (new : List Triple) (j : Kind) (one : ℕ) (x : Reading) → j ≡ kind.Int → is_linear x ≡ true → Shows new v j (one ∷ []) x
  linear_shown new j one x e is = subst (λ (y : Kind). Shows new v y (one ∷ []) x) (sym e) is

  -- what an operator makes of what its operands show
  pub operator_shown : (new : List Triple) (o : Op) (i j : Kind) (left right : List ℕ) (a b : Reading) (one : ℕ) → IsRule o i j → IsPlaced at o i
      → Shows nodes v i left a → Shows nodes v i right b
      → value_of new one v ≡ operated_by nodes names at left right v o
      → Shows new v j (one ∷ []) (operated columns (λ p side. truth_at names v (Test p side)) at o a b)
  operator_shown new op.Implies i j left right a b one rule placed first second is =
      shows_single new v j one (not (holds_true a) || holds_true b) rule.1
      (is ∙ (λ k. not (truth_of i left a rule.0 first k) || truth_of i right b rule.0 second k))
  operator_shown new op.Or i j left right a b one rule placed first second is =
      shows_single new v j one (holds_true a || holds_true b) rule.1 (is ∙ (λ k. truth_of i left a rule.0 first k || truth_of i right b rule.0 second k))
  operator_shown new op.Xor i j left right a b one rule placed first second is =
      shows_single new v j one (cond (holds_true a) (not (holds_true b)) (holds_true b)) rule.1
      (is ∙ (λ k. cond (truth_of i left a rule.0 first k) (not (truth_of i right b rule.0 second k)) (truth_of i right b rule.0 second k)))
  operator_shown new op.And i j left right a b one rule placed first second is =
      shows_single new v j one (holds_true a && holds_true b) rule.1 (is ∙ (λ k. truth_of i left a rule.0 first k && truth_of i right b rule.0 second k))
  operator_shown new op.Equal i j left right a b one rule placed first second is =
      shows_single new v j one (is_same columns tests at a b) rule (is ∙ same_shown i left right a b (placed (omega arith)) first second)
  operator_shown new op.Differs i j left right a b one rule placed first second is =
      shows_single new v j one (not (is_same columns tests at a b)) rule (is ∙ ap not (same_shown i left right a b (placed (omega arith)) first second))
  operator_shown new op.Less i j left right a b one rule placed first second is = shows_single new v j one (not (tests at AtLeast)) rule.1 is
  operator_shown new op.AtMost i j left right a b one rule placed first second is = shows_single new v j one (tests at AtMost) rule.1 is
  operator_shown new op.Greater i j left right a b one rule placed first second is = shows_single new v j one (not (tests at AtMost)) rule.1 is
  operator_shown new op.AtLeast i j left right a b one rule placed first second is = shows_single new v j one (tests at AtLeast) rule.1 is
  operator_shown new op.Plus i j left right a b one rule placed first second is = linear_shown new j one (operated columns tests at op.Plus a b) rule.1 refl
  operator_shown new op.Minus i j left right a b one rule placed first second is = linear_shown new j one (operated columns tests at op.Minus a b) rule.1 refl
  operator_shown new _ i j left right a b one rule placed first second is = absurd rule

pub reads_binary : (f : Flat) (a b c d : Diagrams) (at : Sites) (o : Op) (e g : FlatTree) (left right : List ℕ) (one : ℕ) → ReadsTo f a b e left
    → ReadsTo f b c g right
    → Makes c d (λ v. operated_by c.nodes (variables_of f) at left right v o) one → ReadsTo f a d (Node at (Binary o e g)) (one ∷ [])
reads_binary f a b c d at o e g left right one first second made = record {
  extends = extends_trans a c d (extends_trans a b c first.extends second.extends) made.extends;
  are_refs = one_ref d.nodes one made.found;
  shows = λ v row k j instant fits there.
      operator_shown c.nodes (variables_of f) (width (system_of f)) at v d.nodes o fits.0 j left right (read (system_of f) (named f v) row e)
      (read (system_of f) (named f v) row g) one fits.1 fits.2
      (shows_kept b c v fits.0 left (read (system_of f) (named f v) row e) second.extends first.are_refs (first.shows v row k fits.0 instant fits.3 there))
      (second.shows v row k fits.0 instant fits.4 there) (made.means v);
}

chosen_shown : (nodes : List Triple) (v : Valuation) (j : Kind) (refs : List ℕ) (t : Bool) (x y : Reading) (one two : ℕ → Bool)
    → ((k : ℕ) → bit nodes refs v k ≡ cond t (one k) (two k))
    → ((other : List Triple) (l : List ℕ) → t ≡ true → ((k : ℕ) → bit other l v k ≡ one k) → Shows other v j l x)
    → ((other : List Triple) (l : List ℕ) → t ≡ false → ((k : ℕ) → bit other l v k ≡ two k) → Shows other v j l y)
    → Shows nodes v j refs (cond t x y)
chosen_shown nodes v j refs true x y one two bits first second = first nodes refs refl bits
chosen_shown nodes v j refs false x y one two bits first second = second nodes refs refl bits

pub reads_if : (f : Flat) (a b c d h : Diagrams) (at : Sites) (e g i : FlatTree) (test one other refs : List ℕ) → ReadsTo f a b e test → ReadsTo f b c g one
    → ReadsTo f c d i other
    → Spells d h (λ k v. cond (value_of d.nodes (ref_at test 0) v) (bit d.nodes one v k) (bit d.nodes other v k)) refs → ReadsTo f a h (Node at (If e g i)) refs
reads_if f a b c d h at e g i test one other refs first second third s =
    let bd : Extends b d = extends_trans b c d second.extends third.extends in
    record {
      extends = extends_trans a d h (extends_trans a b d first.extends bd) s.extends;
      are_refs = s.found;
      shows = λ v row k j instant fits there.
          let own : read (system_of f) (named f v) row e ≡ Truth (bit d.nodes test v 0) =
          shows_truth d.nodes v test (read (system_of f) (named f v) row e)
          (shows_kept b d v kind.Bool test (read (system_of f) (named f v) row e) bd first.are_refs (first.shows v row k kind.Bool instant fits.0 there)) in
          let shown_one : Shows d.nodes v j one (read (system_of f) (named f v) row g) =
          shows_kept c d v j one (read (system_of f) (named f v) row g) third.extends second.are_refs (second.shows v row k j instant fits.1 there) in
          let shown_other : Shows d.nodes v j other (read (system_of f) (named f v) row i) = third.shows v row k j instant fits.2 there in
          subst (λ (t : Bool). Shows h.nodes v j refs (cond t (read (system_of f) (named f v) row g) (read (system_of f) (named f v) row i)))
          (sym (ap holds_true own))
          (chosen_shown h.nodes v j refs (bit d.nodes test v 0) (read (system_of f) (named f v) row g) (read (system_of f) (named f v) row i)
          (bit d.nodes one v) (bit d.nodes other v) (λ n. s.means n v)
          (λ nodes l t same. shows_same d.nodes nodes v j one l (read (system_of f) (named f v) row g) same shown_one)
          (λ nodes l t same. shows_same d.nodes nodes v j other l (read (system_of f) (named f v) row i) same shown_other));
    }

pub reads_most : (f : Flat) (a b c : Diagrams) (at : Sites) (es : FlatTrees) (refs : List ℕ) (one : ℕ) → AreCountedIn f a b es refs
    → Makes b c (λ v. nat_le (count_true (length refs) (bit b.nodes refs v)) 1) one → ReadsTo f a c (Node at (AtMostOne es)) (one ∷ [])
reads_most f a b c at es refs one counted made = record {
  extends = extends_trans a b c counted.extends made.extends;
  are_refs = one_ref c.nodes one made.found;
  shows = λ v row k j instant fits there. shows_single c.nodes v j one (nat_le (true_at f v row es) 1) fits.0
      (made.means v ∙ ap (λ n. nat_le n 1) (counted.counts v row k instant fits.1 there));
}

-- what a memory holds after the instant
pub shows_after : (f : Flat) (a b c : Diagrams) (m : ℕ) (clock : Option ℕ) (t : FlatTree) (tables : Tables) (flows : FlowRefs) (body refs : List ℕ)
    → IsWell (system_of f) → AreTables f b.nodes tables → AreFlowRefs f b.nodes flows
    → nth_item (memory_items (system_of f)) m ≡ record { clock = clock; body = t } → IsNamed (length flows.on) clock
    → ReadsTo f a b t body → Spells b c (λ k v. cond (clock_bit b.nodes flows.on clock v) (bit b.nodes body v k) (bit b.nodes (refs_at tables.kept m) v k)) refs
    → ShowsTo f a c m refs
shows_after f a b c m clock t tables flows body refs well are_tables are_flows item among r s = record {
  extends = extends_trans a b c r.extends s.extends;
  is_after = record {
    are_refs = s.found;
    shows = λ v row lt instant.
        let j : Kind = kind_at (memory_kinds (system_of f)) m in
        let fits : Fits (system_of f) (length (system_of f).flows) clock j t = subst
        (λ (x : Item). Fits (system_of f) (length (system_of f).flows) x.clock j x.body) item (well.memories m lt).1 in
        let same : cond (is_there_at f v row clock) (read (system_of f) (named f v) row t) ((found f v).kept m) ≡ updated (system_of f) (named f v) row m =
        ap (λ (x : Item). cond (is_there_at f v row x.clock) (read (system_of f) (named f v) row x.body) ((found f v).kept m)) (sym item) in
        let on : clock_bit b.nodes flows.on clock v ≡ is_there_at f v row clock = clock_shown clock among v row instant in
        subst (Shows c.nodes v j refs) same
        (chosen_shown c.nodes v j refs (is_there_at f v row clock) (read (system_of f) (named f v) row t) ((found f v).kept m) (bit b.nodes body v)
        (bit b.nodes (refs_at tables.kept m) v)
        (λ n. s.means n v ∙ ap (λ x. cond x (bit b.nodes body v n) (bit b.nodes (refs_at tables.kept m) v n)) on)
        (λ nodes l there bits. shows_same b.nodes nodes v j body l (read (system_of f) (named f v) row t) bits (r.shows v row clock j instant fits there))
        (λ nodes l there bits. shows_same b.nodes nodes v j (refs_at tables.kept m) l ((found f v).kept m) bits (are_tables.kept m v lt)));
  };
}
  where
    clock_shown : (k : Option ℕ) → IsNamed (length flows.on) k → (v : Valuation) (row : List (Option Reading)) → IsSymbolic (system_of f) (named f v) row
        → clock_bit b.nodes flows.on k v ≡ is_there_at f v row k
    clock_shown Nothing within v row instant = refl
    clock_shown (Some n) within v row instant = are_flows.on_shows n v row within instant
