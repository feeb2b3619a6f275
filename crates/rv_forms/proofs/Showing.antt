-- What terms show of expressions, form by form.
use Rattle.std.proofs.Common.{◌≡◌, inl, inr, ℕ, ◌<◌, ◌≤◌, ℤ, pos, max, Bool, true, false, cond, List, length, refl, sym, ◌∙◌, ap, subst, arith, Option, Some}
use Rattle.std.proofs.Common.{None as Nothing}
use Rattle.std.proofs.lemmas.Bool.{cases_lt}
use Rattle.rv_base.specs.declared.value.Value.{Value}
use Rattle.rv_base.specs.declared.value.Value.TheVariants.{Flag, Label, Whole}
use Rattle.rv_tree.specs.{declared.tree.Op.Op, Places.Sites}
use Rattle.rv_tree.specs.declared.tree.Op.TheVariants as op
use Rattle.rv_types.specs.{declared.typed.Kind.Kind, Lists.Side}
use Rattle.rv_types.specs.declared.typed.Kind.TheVariants as kind
use Rattle.rv_meaning.specs.Meaning.{number as whole_number}
use Rattle.rv_rows.specs.{declared.linear.Form.Form, Arithmetic.constant_form, Arithmetic.form_times}
use Rattle.rv_diagram.specs.{declared.Triple.Triple, Nodes.Valuation, Nodes.Diagrams, Nodes.value_of, Several.ref_at}
use Rattle.rv_diagram.proofs.Growing.{extends_refl, extends_trans}
use Rattle.rv_terms.specs.{declared.parted.Part.Part, Parts.form_at, Parts.IsTermOf}
use Rattle.rv_agreement.specs.Agreement.{Fits, HasKind, IsRule, IsNamed, IsWell}
use Rattle.rv_agreement.specs.Evaluation.{held, is_on, nth}
use Rattle.rv_agreement.specs.Trees.{FlatTree, Node, FlatTrees, Constant, Flow, Memory, Ticked, Input, Not, Binary, Scale, If, AtMostOne, When, Item, nth_item}
use Rattle.rv_agreement.specs.Trees.{memory_items, memory_kinds, kind_at}
use Rattle.rv_agreement.specs.Valuations.{Reading, Truth, Linear, holds_true, is_linear, form_of, operated, reads_at, read, updated, IsSymbolic}
use Rattle.rv_flat.specs.{declared.flat.Flat.Flat, Facts.weight_under, Facts.flat_weight, FlatInstants.system_of, Inlined.table_of}
use Rattle.rv_control.specs.Named.{named}
use Rattle.rv_control.proofs.Bounded.{IsBounded, looser, constant_bounded, zero_bounded, sum_bounded, times_bounded, difference_bounded}
use Rattle.rv_bits.specs.Shown.{Shows, refs_at, found, is_there_at, clock_bit, AreTables, AreFlowRefs, ReadsTo}
use Rattle.rv_bits.specs.{declared.around.Tables.Tables, declared.around.FlowRefs.FlowRefs, Bits.bit}
use Rattle.rv_bits.proofs.Showing.{shows_truth}
use Rattle.rv_forms.specs.Terms.{columns_of, weights_of, weight_in, form_read, flow_read, parts_at, IsWithin, GivesTerm, ReadsAs, AreWholes, IsAfterRead}
use Rattle.rv_forms.specs.{declared.over.Wholes.Wholes, Columns.gives_whole, Columns.combined_form}
use Rattle.rv_forms.proofs.{Bounds.form_bounded, Bounds.term_within, Kept.form_kept, Kept.within_kept}
use Rattle.rv_types.proofs.ChainLaws.{no_flag}

-- CONSTANTS

constant_weighs : (columns : ℕ) (ws : List ℕ) (at : Sites) (c : Value)
    → IsBounded columns (flat_weight ws (Node at (Constant c))) (constant_form columns (whole_number c))
constant_weighs columns ws at (Whole z) = constant_bounded columns z
constant_weighs columns ws at _ = zero_bounded columns 0

pub reads_constant : (f : Flat) (d : Diagrams) (at : Sites) (c : Value) (parts : List Part)
    → IsTermOf d.nodes (columns_of f) (λ v. constant_form (columns_of f) (whole_number c)) parts → ReadsAs f d d (Node at (Constant c)) parts
reads_constant f d at c parts is = record {
  extends = extends_refl d;
  within = term_within d.nodes (columns_of f) (weight_in f (Node at (Constant c))) (λ v. constant_form (columns_of f) (whole_number c)) parts is
      (λ v. constant_weighs (columns_of f) (weights_of f) at c);
  shows = λ v row k instant fits there. by c fits (λ v. is.exact v) v row;
}
  where
    by : (x : Value) → HasKind (system_of f).labels kind.Int x → ((v : Valuation) → form_at d.nodes parts v ≡ constant_form (columns_of f) (whole_number x))
        → (v : Valuation) (row : List (Option Reading)) → read (system_of f) (named f v) row (Node at (Constant x)) ≡ Linear (form_at d.nodes parts v)
    by (Flag b) has exact v row = absurd has
    by (Label l) has exact v row = absurd has
    by (Whole z) has exact v row = ap Linear (sym (exact v))

-- what is no integer
pub reads_none : (f : Flat) (d : Diagrams) (t : FlatTree) (parts : List Part)
    → IsTermOf d.nodes (columns_of f) (λ v. constant_form (columns_of f) (pos 0)) parts
    → ((k : Option ℕ) → Fits (system_of f) (length (system_of f).flows) k kind.Int t → ⊥) → ReadsAs f d d t parts
reads_none f d t parts is none = record {
  extends = extends_refl d;
  within = term_within d.nodes (columns_of f) (weight_in f t) (λ v. constant_form (columns_of f) (pos 0)) parts is
      (λ v. zero_bounded (columns_of f) (weight_in f t));
  shows = λ v row k instant fits there. absurd (none k fits);
}

int_bool : kind.Int ≡ kind.Bool → ⊥
int_bool e = cc

pub no_tick : (f : Flat) (at : Sites) (n : ℕ) (k : Option ℕ) → Fits (system_of f) (length (system_of f).flows) k kind.Int (Node at (Ticked n)) → ⊥
no_tick f at n k fits = int_bool fits.1

pub no_not : (f : Flat) (at : Sites) (e : FlatTree) (k : Option ℕ) → Fits (system_of f) (length (system_of f).flows) k kind.Int (Node at (Not e)) → ⊥
no_not f at e k fits = int_bool fits.0

pub no_most : (f : Flat) (at : Sites) (es : FlatTrees) (k : Option ℕ) → Fits (system_of f) (length (system_of f).flows) k kind.Int (Node at (AtMostOne es)) → ⊥
no_most f at es k fits = int_bool fits.0

no_rule : (o : Op) (i : Kind) → gives_whole o ≡ false → IsRule o i kind.Int → ⊥
no_rule op.Arrow i e rule = rule
no_rule op.Equal i e rule = int_bool rule
no_rule op.Differs i e rule = int_bool rule
no_rule op.Plus i e rule = no_flag (sym e)
no_rule op.Minus i e rule = no_flag (sym e)
no_rule op.Times i e rule = rule
no_rule op.Slash i e rule = rule
no_rule op.Div i e rule = rule
no_rule op.Mod i e rule = rule
no_rule _ i e rule = int_bool rule.1

pub no_operator : (f : Flat) (at : Sites) (o : Op) (a b : FlatTree) → gives_whole o ≡ false → (k : Option ℕ)
    → Fits (system_of f) (length (system_of f).flows) k kind.Int (Node at (Binary o a b)) → ⊥
no_operator f at o a b e k fits = no_rule o fits.0 e fits.1

-- LEAVES

linear_is : (f : Flat) (v : Valuation) (a : Reading) → is_linear a ≡ true → a ≡ Linear (form_read f v a)
linear_is f v (Linear g) e = refl
linear_is f v _ e = no_flag e

-- an integer reading of which the form is known
pub linear_shown : (f : Flat) (nodes : List Triple) (v : Valuation) (j : Kind) (refs : List ℕ) (a : Reading) (g : Form) → Shows nodes v j refs a → j ≡ kind.Int
    → g ≡ form_read f v a → a ≡ Linear g
linear_shown f nodes v j refs a g shows whole is =
    linear_is f v a (subst (λ (x : Kind). Shows nodes v x refs a) whole shows) ∙ ap Linear (sym is)

module _ (f : Flat) (v : Valuation) (row : List (Option Reading)) where
  abbrev there : Option ℕ → Bool
  there k = is_there_at f v row k

  abbrev cell : ℕ → Option Reading
  cell n = nth Reading (reads_at (system_of f) (named f v)) row n

  abbrev value_here : FlatTree → Reading
  value_here t = read (system_of f) (named f v) row t

  -- a flow whose clock is there has what its expression has
  flow_here : IsSymbolic (system_of f) (named f v) row → (n : ℕ) → n < length (system_of f).flows → there (nth_item (system_of f).flows n).clock ≡ true
      → cell n ≡ Some (value_here (nth_item (system_of f).flows n).body)
  flow_here instant n lt on = instant.holds n lt ∙ ap (λ b. cond b (Some (value_here (nth_item (system_of f).flows n).body)) Nothing) on

  -- a flow that is there and true has a clock that is there
  clock_here : IsSymbolic (system_of f) (named f v) row → (n : ℕ) → n < length (system_of f).flows → there (Some n) ≡ true
      → there (nth_item (system_of f).flows n).clock ≡ true
  clock_here instant n lt on = by (there (nth_item (system_of f).flows n).clock) (instant.holds n lt)
    where
      by : (b : Bool) → cell n ≡ cond b (Some (value_here (nth_item (system_of f).flows n).body)) Nothing → b ≡ true
      by true e = refl
      by false e = no_flag (sym (ap (is_on Reading (reads_at (system_of f) (named f v))) e) ∙ on)

some_held : (f : Flat) (v : Valuation) (row : List (Option Reading)) (n : ℕ) (a : Reading)
    → nth Reading (reads_at (system_of f) (named f v)) row n ≡ Some a → flow_read f v row n ≡ a
some_held f v row n a e = ap (held Reading (reads_at (system_of f) (named f v))) e

pub reads_flow : (f : Flat) (d : Diagrams) (at : Sites) (n : ℕ) (r : FlowRefs) (w : Wholes) (parts : List Part) → AreFlowRefs f d.nodes r
    → AreWholes f d.nodes w → n < length w.flows → n < length r.on → parts ≡ parts_at w.flows n → ReadsAs f d d (Node at (Flow n)) parts
reads_flow f d at n r w parts refs are lt low is =
    subst (ReadsAs f d d (Node at (Flow n))) (sym is) (record {
      extends = extends_refl d;
      within = are.flows n lt;
      shows = λ v row k instant fits there.
          let a : Reading = read (system_of f) (named f v) row (nth_item (system_of f).flows n).body in
          let here : nth Reading (reads_at (system_of f) (named f v)) row n ≡ Some a =
          flow_here f v row instant n fits.0 (ap (is_there_at f v row) fits.2 ∙ there) in
          let own : flow_read f v row n ≡ a = some_held f v row n a here in
          own ∙ linear_shown f d.nodes v (kind_at (system_of f).kinds n) (refs_at r.bits n) a (form_at d.nodes (parts_at w.flows n) v)
          (refs.shows n v row a low instant here) fits.1 (are.flows_show n v row lt instant ∙ ap (form_read f v) own);
    })

pub reads_memory : (f : Flat) (d : Diagrams) (at : Sites) (m : ℕ) (t : Tables) (w : Wholes) (parts : List Part) → AreTables f d.nodes t → AreWholes f d.nodes w
    → (m < length w.kept → parts ≡ parts_at w.kept m)
    → (length w.kept ≤ m → IsTermOf d.nodes (columns_of f) (λ v. constant_form (columns_of f) (pos 0)) parts) → ReadsAs f d d (Node at (Memory m)) parts
reads_memory f d at m t w parts tables are here past = elim (cases_lt m (length w.kept)) [
  | inl lt ↦ subst (ReadsAs f d d (Node at (Memory m))) (sym (here lt)) (record {
    extends = extends_refl d;
    within = are.kept m lt;
    shows = λ v row k instant fits there. linear_shown f d.nodes v (kind_at (memory_kinds (system_of f)) m) (refs_at t.kept m) ((found f v).kept m)
        (form_at d.nodes (parts_at w.kept m) v) (tables.kept m v fits.0) fits.1 (are.kept_shows m v lt);
  })
  | inr le ↦ reads_none f d (Node at (Memory m)) parts (past le) (λ k fits. let e = are.many_kept in let h = fits.0 in omega (arith, e, h, le))
]

pub reads_input : (f : Flat) (d : Diagrams) (at : Sites) (j : ℕ) (t : Tables) (w : Wholes) (parts : List Part) → AreTables f d.nodes t → AreWholes f d.nodes w
    → (j < length w.given → parts ≡ parts_at w.given j)
    → (length w.given ≤ j → IsTermOf d.nodes (columns_of f) (λ v. constant_form (columns_of f) (pos 0)) parts) → ReadsAs f d d (Node at (Input j)) parts
reads_input f d at j t w parts tables are here past = elim (cases_lt j (length w.given)) [
  | inl lt ↦ subst (ReadsAs f d d (Node at (Input j))) (sym (here lt)) (record {
    extends = extends_refl d;
    within = are.given j lt;
    shows = λ v row k instant fits there. linear_shown f d.nodes v (kind_at (system_of f).inputs j) (refs_at t.given j) ((found f v).given j)
        (form_at d.nodes (parts_at w.given j) v) (tables.given j v fits.0) fits.1 (are.given_shows j v lt);
  })
  | inr le ↦ reads_none f d (Node at (Input j)) parts (past le) (λ k fits. let e = are.many_given in let h = fits.0 in omega (arith, e, h, le))
]

pub reads_when : (f : Flat) (a b : Diagrams) (at : Sites) (c : ℕ) (e : FlatTree) (parts : List Part) → ReadsAs f a b e parts
    → ReadsAs f a b (Node at (When c e)) parts
reads_when f a b at c e parts r = record {
  extends = r.extends;
  within = r.within;
  shows = λ v row k instant fits there. r.shows v row (nth_item (system_of f).flows c).clock instant fits.2
      (clock_here f v row instant c fits.1 (ap (is_there_at f v row) (sym fits.0) ∙ there));
}

-- OPERATORS

module _ (f : Flat) (a b c d : Diagrams) (at : Sites) (o : Op) (e g : FlatTree) (left right parts : List Part)
    (first : ReadsAs f a b e left) (second : ReadsAs f b c g right) (is_whole : gives_whole o ≡ true)
    (made : GivesTerm c d (columns_of f) (λ v. combined_form o (form_at c.nodes left v) (form_at c.nodes right v)) parts) where
  left_later : (v : Valuation) → form_at c.nodes left v ≡ form_at b.nodes left v
  left_later v = form_kept b c (columns_of f) (weight_in f e) left second.extends first.within v

  bounded_left : (v : Valuation) → IsBounded (columns_of f) (weight_in f e) (form_at c.nodes left v)
  bounded_left v = form_bounded c.nodes (columns_of f) (weight_in f e) left
      (within_kept b c (columns_of f) (weight_in f e) left second.extends first.within) v

  bounded_right : (v : Valuation) → IsBounded (columns_of f) (weight_in f g) (form_at c.nodes right v)
  bounded_right v = form_bounded c.nodes (columns_of f) (weight_in f g) right second.within v

  combined_bounded : (p : Op) → gives_whole p ≡ true → (v : Valuation)
      → IsBounded (columns_of f) (weight_under p (weight_in f e) (weight_in f g)) (combined_form p (form_at c.nodes left v) (form_at c.nodes right v))
  combined_bounded op.Plus h v = sum_bounded (columns_of f) (weight_in f e) (weight_in f g) (form_at c.nodes left v) (form_at c.nodes right v)
      (bounded_left v) (bounded_right v)
  combined_bounded op.Minus h v = difference_bounded (columns_of f) (weight_in f e) (weight_in f g) (form_at c.nodes left v) (form_at c.nodes right v)
      (bounded_left v) (bounded_right v)
  combined_bounded _ h v = no_flag h

  -- what the operator makes of two forms
  operated_form : (columns : ℕ) (test : Sites → Side → Bool) (p : Op) → gives_whole p ≡ true → (x y : Form)
      → operated columns test at p (Linear x) (Linear y) ≡ Linear (combined_form p x y)
  operated_form columns test op.Plus h x y = refl
  operated_form columns test op.Minus h x y = refl
  operated_form columns test _ h x y = no_flag h

  operand_kind : (p : Op) (i : Kind) → gives_whole p ≡ true → IsRule p i kind.Int → i ≡ kind.Int
  operand_kind op.Plus i h rule = rule.0
  operand_kind op.Minus i h rule = rule.0
  operand_kind _ i h rule = no_flag h

  pub reads_binary : ReadsAs f a d (Node at (Binary o e g)) parts
  reads_binary = record {
    extends = extends_trans a c d (extends_trans a b c first.extends second.extends) made.extends;
    within = term_within d.nodes (columns_of f) (weight_in f (Node at (Binary o e g))) (λ v. combined_form o (form_at c.nodes left v) (form_at c.nodes right v))
        parts
        made.is (combined_bounded o is_whole);
    shows = λ v row k instant fits there.
        let whole : fits.0 ≡ kind.Int = operand_kind o fits.0 is_whole fits.1 in
        let one : read (system_of f) (named f v) row e ≡ Linear (form_at c.nodes left v) =
        first.shows v row k instant (subst (λ (x : Kind). Fits (system_of f) (length (system_of f).flows) k x e) whole fits.3) there
        ∙ ap Linear (sym (left_later v)) in
        let two : read (system_of f) (named f v) row g ≡ Linear (form_at c.nodes right v) =
        second.shows v row k instant (subst (λ (x : Kind). Fits (system_of f) (length (system_of f).flows) k x g) whole fits.4) there in
        (λ i. operated (columns_of f) (named f v).test at o (one i) (two i))
        ∙ operated_form (columns_of f) (named f v).test o is_whole (form_at c.nodes left v) (form_at c.nodes right v)
        ∙ ap Linear (sym (made.is.exact v));
  }

pub reads_scale : (f : Flat) (a b : Diagrams) (at : Sites) (z : ℤ) (e : FlatTree) (inner parts : List Part) → ReadsAs f a b e inner
    → IsTermOf b.nodes (columns_of f) (λ v. form_times z (form_at b.nodes inner v)) parts → ReadsAs f a b (Node at (Scale z e)) parts
reads_scale f a b at z e inner parts r is = record {
  extends = r.extends;
  within = term_within b.nodes (columns_of f) (weight_in f (Node at (Scale z e))) (λ v. form_times z (form_at b.nodes inner v)) parts is
      (λ v. times_bounded (columns_of f) z (weight_in f e) (form_at b.nodes inner v) (form_bounded b.nodes (columns_of f) (weight_in f e) inner r.within v));
  shows = λ v row k instant fits there.
      ap (λ (x : Reading). Linear (form_times z (form_of (columns_of f) (named f v).test x))) (r.shows v row k instant fits.1 there)
      ∙ ap Linear (sym (is.exact v));
}

pub chosen_bounded : (columns m n : ℕ) (b : Bool) (p q : Form) → IsBounded columns m p → IsBounded columns n q → IsBounded columns (max m n) (cond b p q)
chosen_bounded columns m n true p q x y = looser columns m (max m n) p (omega arith) x
chosen_bounded columns m n false p q x y = looser columns n (max m n) q (omega arith) y

chosen_linear : (b : Bool) (p q : Reading) (x y : Form) → p ≡ Linear x → q ≡ Linear y → cond b p q ≡ Linear (cond b x y)
chosen_linear true p q x y one two = one
chosen_linear false p q x y one two = two

pub reads_if : (f : Flat) (a b c d h : Diagrams) (at : Sites) (e g i : FlatTree) (test : List ℕ) (one other parts : List Part) → ReadsTo f a b e test
    → ReadsAs f b c g one → ReadsAs f c d i other
    → GivesTerm d h (columns_of f) (λ v. cond (value_of d.nodes (ref_at test 0) v) (form_at d.nodes one v) (form_at d.nodes other v)) parts
    → ((v : Valuation) → value_of d.nodes (ref_at test 0) v ≡ value_of b.nodes (ref_at test 0) v)
    → ReadsAs f a h (Node at (If e g i)) parts
reads_if f a b c d h at e g i test one other parts r first second made same =
    let bc = first.extends in
    let cd = second.extends in
    let one_in : IsWithin d.nodes (columns_of f) (weight_in f g) one = within_kept c d (columns_of f) (weight_in f g) one cd first.within in
    record {
      extends = extends_trans a d h (extends_trans a c d (extends_trans a b c r.extends bc) cd) made.extends;
      within = term_within h.nodes (columns_of f) (weight_in f (Node at (If e g i)))
          (λ v. cond (value_of d.nodes (ref_at test 0) v) (form_at d.nodes one v) (form_at d.nodes other v)) parts made.is
          (λ v. chosen_bounded (columns_of f) (weight_in f g) (weight_in f i) (value_of d.nodes (ref_at test 0) v) (form_at d.nodes one v)
          (form_at d.nodes other v)
          (form_bounded d.nodes (columns_of f) (weight_in f g) one one_in v) (form_bounded d.nodes (columns_of f) (weight_in f i) other second.within v));
      shows = λ v row k instant fits there.
          let truth : read (system_of f) (named f v) row e ≡ Truth (bit b.nodes test v 0) =
          shows_truth b.nodes v test (read (system_of f) (named f v) row e) (r.shows v row k kind.Bool instant fits.0 there) in
          let on : holds_true (read (system_of f) (named f v) row e) ≡ value_of d.nodes (ref_at test 0) v = ap holds_true truth ∙ sym (same v) in
          let p : read (system_of f) (named f v) row g ≡ Linear (form_at d.nodes one v) =
          first.shows v row k instant fits.1 there ∙ ap Linear (sym (form_kept c d (columns_of f) (weight_in f g) one cd first.within v)) in
          let q : read (system_of f) (named f v) row i ≡ Linear (form_at d.nodes other v) = second.shows v row k instant fits.2 there in
          ap (λ t. cond t (read (system_of f) (named f v) row g) (read (system_of f) (named f v) row i)) on
          ∙ chosen_linear (value_of d.nodes (ref_at test 0) v) (read (system_of f) (named f v) row g) (read (system_of f) (named f v) row i)
          (form_at d.nodes one v) (form_at d.nodes other v) p q
          ∙ ap Linear (sym (made.is.exact v));
    }

-- MEMORIES

pub there_linear : (b : Bool) (p q : Reading) (x y : Form) → (b ≡ true → p ≡ Linear x) → q ≡ Linear y → cond b p q ≡ Linear (cond b x y)
there_linear true p q x y one two = one refl
there_linear false p q x y one two = two

pub clock_shown : (f : Flat) (nodes : List Triple) (r : FlowRefs) → AreFlowRefs f nodes r → (k : Option ℕ) → IsNamed (length r.on) k → (v : Valuation)
    (row : List (Option Reading)) → IsSymbolic (system_of f) (named f v) row → clock_bit nodes r.on k v ≡ is_there_at f v row k
clock_shown f nodes r are Nothing within v row instant = refl
clock_shown f nodes r are (Some n) within v row instant = are.on_shows n v row within instant

-- what an integer memory holds after the instant
pub reads_after : (f : Flat) (a b c : Diagrams) (m : ℕ) (clock : Option ℕ) (t : FlatTree) (tables : Tables) (r : FlowRefs) (w : Wholes) (body parts : List Part)
    → IsWell (system_of f) → AreTables f b.nodes tables → AreFlowRefs f b.nodes r → AreWholes f b.nodes w → m < length w.kept
    → table_of f.memories m ≡ record { clock = clock; body = t } → nth_item (memory_items (system_of f)) m ≡ record { clock = clock; body = t }
    → IsNamed (length r.on) clock → ReadsAs f a b t body
    → GivesTerm b c (columns_of f) (λ v. cond (clock_bit b.nodes r.on clock v) (form_at b.nodes body v) (form_at b.nodes (parts_at w.kept m) v)) parts
    → IsAfterRead f a c m parts
reads_after f a b c m clock t tables r w body parts well are_tables refs are low table item among reads made =
    let weight : ℕ = weight_in f t in
    let small : IsWithin c.nodes (columns_of f) (max weight 1) parts =
    term_within c.nodes (columns_of f) (max weight 1)
    (λ v. cond (clock_bit b.nodes r.on clock v) (form_at b.nodes body v) (form_at b.nodes (parts_at w.kept m) v)) parts made.is
    (λ v. chosen_bounded (columns_of f) weight 1 (clock_bit b.nodes r.on clock v) (form_at b.nodes body v) (form_at b.nodes (parts_at w.kept m) v)
    (form_bounded b.nodes (columns_of f) weight body reads.within v) (form_bounded b.nodes (columns_of f) 1 (parts_at w.kept m) (are.kept m low) v)) in
    record {
      extends = extends_trans a b c reads.extends made.extends;
      is_after = record {
        within = subst (λ (x : Item). IsWithin c.nodes (columns_of f) (max (weight_in f x.body) 1) parts) (sym table) small;
        shows = λ v row lt whole instant.
            let j : Kind = kind_at (memory_kinds (system_of f)) m in
            let fits : Fits (system_of f) (length (system_of f).flows) clock kind.Int t =
            subst (λ (k : Kind). Fits (system_of f) (length (system_of f).flows) clock k t) whole
            (subst (λ (x : Item). Fits (system_of f) (length (system_of f).flows) x.clock j x.body) item (well.memories m lt).1) in
            let same : updated (system_of f) (named f v) row m ≡ cond (is_there_at f v row clock) (read (system_of f) (named f v) row t) ((found f v).kept m) =
            ap (λ (x : Item). cond (is_there_at f v row x.clock) (read (system_of f) (named f v) row x.body) ((found f v).kept m)) item in
            let on : clock_bit b.nodes r.on clock v ≡ is_there_at f v row clock = clock_shown f b.nodes r refs clock among v row instant in
            let column : (found f v).kept m ≡ Linear (form_at b.nodes (parts_at w.kept m) v) =
            linear_shown f b.nodes v j (refs_at tables.kept m) ((found f v).kept m) (form_at b.nodes (parts_at w.kept m) v) (are_tables.kept m v lt) whole
            (are.kept_shows m v low) in
            same
            ∙ there_linear (is_there_at f v row clock) (read (system_of f) (named f v) row t) ((found f v).kept m) (form_at b.nodes body v)
            (form_at b.nodes (parts_at w.kept m) v) (λ there. reads.shows v row clock instant fits there) column
            ∙ ap (λ x. Linear (cond x (form_at b.nodes body v) (form_at b.nodes (parts_at w.kept m) v))) (sym on)
            ∙ ap Linear (sym (made.is.exact v));
      };
    }

-- past the memories there is none
pub none_after : (f : Flat) (d : Diagrams) (m : ℕ) (parts : List Part) → length (system_of f).memories ≤ m
    → IsTermOf d.nodes (columns_of f) (λ v. constant_form (columns_of f) (pos 0)) parts → IsAfterRead f d d m parts
none_after f d m parts past is = record {
  extends = extends_refl d;
  is_after = record {
    within = term_within d.nodes (columns_of f) (max (weight_in f (table_of f.memories m).body) 1) (λ v. constant_form (columns_of f) (pos 0)) parts is
        (λ v. zero_bounded (columns_of f) (max (weight_in f (table_of f.memories m).body) 1));
    shows = λ v row lt whole instant. absurd (omega arith);
  };
}
