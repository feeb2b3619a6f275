-- Forms that are added one after another.
use Rattle.std.proofs.Common.{ℕ, zero, suc, ◌+◌, ◌<◌, ◌≤◌, ◌≡◌, Bool, true, false, ◌&&◌, ◌||◌, cond, List, [], ◌∷◌, length, refl, sym, ap, ◌∙◌, ⊎_elim, arith}
use Rattle.std.proofs.lemmas.Bool.{cases_eq, cases_Bool, or_cases, and_parts, or_left, or_right}
use Rattle.rv_rows.specs.declared.linear.Form.{Form}
use Rattle.rv_diagram.specs.{declared.Triple.Triple, Nodes.Valuation, Nodes.Diagrams, Nodes.value_of}
use Rattle.rv_diagram.specs.Growing.{Extends}
use Rattle.rv_terms.specs.Parts.{part_at, holds, form_at, AreRefs, AreDisjoint, Covers, IsTerm, IsTermOf, ArePartsOf, Adds, among}
use Rattle.rv_terms.specs.declared.parted.Part.{Part}
use Rattle.rv_terms.proofs.Adding.{parts_as, parts_later}
use Rattle.rv_base.proofs.Truths.{or_assoc}

-- COMPOSITION

-- first some forms, then others, at disjoint valuations
pub adds_both : (old mid new : List Triple) (q r : Valuation → Bool) (g : Valuation → Form) (a b c : List Part) → Adds old mid q g a b → Adds mid new r g b c
    → ((v : Valuation) → q v ≡ true → r v ≡ true → ⊥) → Adds old new (λ v. q v || r v) g a c
adds_both old mid new q r g a b c first second off width p f before apart agree wide =
    let half : ArePartsOf mid width (λ v. p v || q v) f b =
    first width p f before (λ v hp hq. apart v hp (or_left (q v) (r v) hq)) (λ v hq. agree v (or_left (q v) (r v) hq))
    (λ v hq. wide v (or_left (q v) (r v) hq)) in
    parts_as new width (λ v. (p v || q v) || r v) (λ v. p v || (q v || r v)) f c (λ v. or_assoc (p v) (q v) (r v))
    (second width (λ v. p v || q v) f half
    (λ v h hr. ⊎_elim (λ hp. apart v hp (or_right (q v) (r v) hr)) (λ hq. off v hq hr) (or_cases (p v) (q v) h))
    (λ v hr. agree v (or_right (q v) (r v) hr)) (λ v hr. wide v (or_right (q v) (r v) hr)))

-- the same set and the same forms
pub adds_as : (old new : List Triple) (q r : Valuation → Bool) (g h : Valuation → Form) (a b : List Part) → ((v : Valuation) → q v ≡ r v)
    → ((v : Valuation) → r v ≡ true → g v ≡ h v)
    → Adds old new q g a b → Adds old new r h a b
adds_as old new q r g h a b same forms adds width p f before apart agree wide =
    parts_as new width (λ v. p v || q v) (λ v. p v || r v) f b (λ v. ap (λ x. p v || x) (same v))
    (adds width p f before (λ v hp hq. apart v hp (sym (same v) ∙ hq))
    (λ v hq. agree v (sym (same v) ∙ hq) ∙ sym (forms v (sym (same v) ∙ hq)))
    (λ v hq. ap (λ (x : Form). length x.coefficients) (forms v (sym (same v) ∙ hq)) ∙ wide v (sym (same v) ∙ hq)))

-- the store has grown before
pub adds_later : (old mid : Diagrams) (new : List Triple) (q : Valuation → Bool) (g : Valuation → Form) (a b : List Part) → Extends old mid
    → Adds mid.nodes new q g a b → Adds old.nodes new q g a b
adds_later old mid new q g a b e adds width p f before = adds width p f (parts_later old mid width p f a e before)

-- AMONG THE FIRST PARTS

pub among-more : (nodes : List Triple) (parts : List Part) (n : ℕ) (v : Valuation)
    → among nodes parts (n + 1) v ≡ (among nodes parts n v || holds nodes parts n v)
among-more nodes parts n v = ap (λ k. among nodes parts k v) (let e : n + 1 ≡ suc n = omega arith in e)

pub among_some : (nodes : List Triple) (parts : List Part) (n : ℕ) (v : Valuation) → among nodes parts n v ≡ true
    → (k : ℕ) × (k < n) × (holds nodes parts k v ≡ true)
among_some nodes parts zero v h = cc
among_some nodes parts (suc n) v h = ⊎_elim
    (λ one. let s : (k : ℕ) × (k < n) × (holds nodes parts k v ≡ true) = among_some nodes parts n v one in (s.0, omega (arith, s.1), s.2))
    (λ two. (n, omega arith, two))
    (or_cases (among nodes parts n v) (holds nodes parts n v) h)

pub among_has : (nodes : List Triple) (parts : List Part) (n k : ℕ) (v : Valuation) → k < n → holds nodes parts k v ≡ true → among nodes parts n v ≡ true
among_has nodes parts zero k v low h = absurd (omega arith)
among_has nodes parts (suc n) k v low h = ⊎_elim
    (λ e. or_right (among nodes parts n v) (holds nodes parts n v) (ap (λ j. holds nodes parts j v) (sym e) ∙ h))
    (λ off. or_left (among nodes parts n v) (holds nodes parts n v) (among_has nodes parts n k v (omega arith) h))
    (cases_eq k n)

-- ONE FORM AT EACH VALUATION

pub form_is : (nodes : List Triple) (parts : List Part) (i : ℕ) (v : Valuation) → AreDisjoint nodes parts → i < length parts → holds nodes parts i v ≡ true
    → form_at nodes parts v ≡ (part_at parts i).form
form_is nodes [] i v disjoint low h = absurd (omega arith)
form_is nodes (p ∷ ps) zero v disjoint low h = ap (λ b. cond b p.form (form_at nodes ps v)) h
form_is nodes (p ∷ ps) (suc i) v disjoint low h = ⊎_elim
    (λ t. absurd (disjoint 0 (suc i) (omega arith) low v t h))
    (λ f. ap (λ b. cond b p.form (form_at nodes ps v)) f ∙ form_is nodes ps i v
    (λ j k less lt w one two. disjoint (suc j) (suc k) (omega arith) (omega arith) w one two) (omega arith) h)
    (cases_Bool (value_of nodes p.under v))

-- LATER

pub holds_later : (old new : Diagrams) (parts : List Part) → Extends old new → AreRefs old.nodes parts → (i : ℕ) → i < length parts → (v : Valuation)
    → holds new.nodes parts i v ≡ holds old.nodes parts i v
holds_later old new parts e refs i low v = e.kept (part_at parts i).under (refs i low) v

pub disjoint_later : (old new : Diagrams) (parts : List Part) → Extends old new → AreRefs old.nodes parts → AreDisjoint old.nodes parts
    → AreDisjoint new.nodes parts
disjoint_later old new parts e refs disjoint i j less low v one two =
    disjoint i j less low v (sym (holds_later old new parts e refs i (omega arith) v) ∙ one) (sym (holds_later old new parts e refs j low v) ∙ two)

pub covers_later : (old new : Diagrams) (parts : List Part) → Extends old new → AreRefs old.nodes parts → Covers old.nodes parts → Covers new.nodes parts
covers_later old new parts e refs covers v =
    let c : (i : ℕ) × (i < length parts) × (holds old.nodes parts i v ≡ true) = covers v in (c.0, c.1, holds_later old new parts e refs c.0 c.1 v ∙ c.2)

pub form_later : (old new : Diagrams) (parts : List Part) (v : Valuation) → Extends old new → AreRefs old.nodes parts
    → form_at new.nodes parts v ≡ form_at old.nodes parts v
form_later old new [] v e refs = refl
form_later old new (p ∷ ps) v e refs =
    ap (λ b. cond b p.form (form_at new.nodes ps v)) (e.kept p.under (refs 0 (omega arith)) v)
    ∙ ap (λ f. cond (value_of old.nodes p.under v) p.form f) (form_later old new ps v e (λ i low. refs (suc i) (omega arith)))

-- A LOOP OVER THE PARTS OF A TERM

pub and-or : (t a h : Bool) → ((t && a) || (t && h)) ≡ (t && (a || h))
and-or true a h = refl
and-or false a h = refl

pub adds_more : (s a b : Diagrams) (t q : Valuation → Bool) (from : List Part) (i : ℕ) (g whole : Valuation → Form) (p0 p1 p2 : List Part)
    → i < length from → AreRefs s.nodes from → AreDisjoint s.nodes from → Extends s a
    → ((v : Valuation) → q v ≡ (t v && holds s.nodes from i v)) → ((v : Valuation) → t v ≡ true → holds s.nodes from i v ≡ true → g v ≡ whole v)
    → Adds s.nodes a.nodes (λ v. t v && among s.nodes from i v) whole p0 p1 → Adds a.nodes b.nodes q g p1 p2
    → Adds s.nodes b.nodes (λ v. t v && among s.nodes from (i + 1) v) whole p0 p2
adds_more s a b t q from i g whole p0 p1 p2 low refs disjoint e means forms first second =
    let here : Valuation → Bool = λ v. t v && holds s.nodes from i v in
    adds_as s.nodes b.nodes (λ v. (t v && among s.nodes from i v) || (t v && holds s.nodes from i v)) (λ v. t v && among s.nodes from (i + 1) v) whole whole
    p0 p2
    (λ v. and-or (t v) (among s.nodes from i v) (holds s.nodes from i v) ∙ ap (λ x. t v && x) (sym (among-more s.nodes from i v)))
    (λ v h. refl)
    (adds_both s.nodes a.nodes b.nodes (λ v. t v && among s.nodes from i v) here whole p0 p1 p2 first
    (adds_as a.nodes b.nodes q here g whole p1 p2 means (λ v h. let both : (t v ≡ true) × (holds s.nodes from i v ≡ true) = and_parts (t v)
    (holds s.nodes from i v) h in forms v both.0 both.1) second)
    (λ v one two.
    let k : (k : ℕ) × (k < i) × (holds s.nodes from k v ≡ true) = among_some s.nodes from i v (and_parts (t v) (among s.nodes from i v) one).1 in
    disjoint k.0 i k.1 low v k.2 (and_parts (t v) (holds s.nodes from i v) two).1))

pub and-none : (p t : Bool) → p ≡ (p || (t && false))
and-none true t = refl
and-none false true = refl
and-none false false = refl

and-true : (t b : Bool) → b ≡ true → (t && b) ≡ t
and-true true b h = h
and-true false b h = refl

pub adds_first : (nodes : List Triple) (t : Valuation → Bool) (from : List Part) (whole : Valuation → Form) (parts : List Part)
    → Adds nodes nodes (λ v. t v && among nodes from 0 v) whole parts parts
adds_first nodes t from whole parts width p f before apart agree wide = parts_as nodes width p (λ v. p v || (t v && false)) f parts
    (λ v. and-none (p v) (t v)) before

pub adds_all : (s : Diagrams) (new : List Triple) (t : Valuation → Bool) (from : List Part) (n : ℕ) (whole : Valuation → Form) (p0 p1 : List Part)
    → Covers s.nodes from → length from ≤ n
    → Adds s.nodes new (λ v. t v && among s.nodes from n v) whole p0 p1 → Adds s.nodes new t whole p0 p1
adds_all s new t from n whole p0 p1 covers all adds =
    adds_as s.nodes new (λ v. t v && among s.nodes from n v) t whole whole p0 p1
    (λ v. let c : (i : ℕ) × (i < length from) × (holds s.nodes from i v ≡ true) = covers v in
    and-true (t v) (among s.nodes from n v) (among_has s.nodes from n c.0 v (omega (arith, c.1)) c.2))
    (λ v h. refl) adds

-- FROM NOTHING TO A TERM

parts_none : (nodes : List Triple) (width : ℕ) (f : Valuation → Form) → ArePartsOf nodes width (λ v. false) f []
parts_none nodes width f = record {
  refs = λ i low. absurd (omega arith);
  disjoint = λ i j less low. absurd (omega arith);
  covers = λ v h. cc;
  only = λ i low. absurd (omega arith);
  right = λ i low. absurd (omega arith);
  different = λ i j less low. absurd (omega arith);
  widths = λ i low. absurd (omega arith);
  filled = λ i low. absurd (omega arith);
}

pub term_made : (old new : List Triple) (width : ℕ) (f : Valuation → Form) (parts : List Part) → ((v : Valuation) → length (f v).coefficients ≡ width)
    → Adds old new (λ v. true) f [] parts → IsTermOf new width f parts
term_made old new width f parts wide adds =
    let g : ArePartsOf new width (λ v. false || true) f parts = adds width (λ v. false) f (parts_none old width f) (λ v h. cc) (λ v h. refl) (λ v h. wide v) in
    record {
      term = record { refs = g.refs; disjoint = g.disjoint; covers = λ v. g.covers v refl; different = g.different; widths = g.widths };
      width_is = let c : (i : ℕ) × (i < length parts) × (holds new parts i (λ k. false) ≡ true) = g.covers (λ k. false) refl in g.widths 0 (omega (arith, c.1));
      filled = g.filled;
      exact = λ v. let c : (i : ℕ) × (i < length parts) × (holds new parts i v ≡ true) = g.covers v refl in form_is new parts c.0 v g.disjoint c.1 c.2
          ∙ g.right c.0 c.1 v c.2;
    }

-- the form of a term has its width
pub form_width : (nodes : List Triple) (width : ℕ) (parts : List Part) → IsTerm nodes width parts → (v : Valuation)
    → length (form_at nodes parts v).coefficients ≡ width
form_width nodes width parts t v =
    let c : (i : ℕ) × (i < length parts) × (holds nodes parts i v ≡ true) = t.covers v in
    ap (λ (x : Form). length x.coefficients) (form_is nodes parts c.0 v t.disjoint c.1 c.2) ∙ t.widths c.0 c.1

-- a term in a store that has grown
pub term_later : (old new : Diagrams) (width : ℕ) (parts : List Part) → Extends old new → IsTerm old.nodes width parts → IsTerm new.nodes width parts
term_later old new width parts e t = record {
  refs = λ i low. omega (arith, t.refs i low, e.longer);
  disjoint = disjoint_later old new parts e t.refs t.disjoint;
  covers = covers_later old new parts e t.refs t.covers;
  different = t.different;
  widths = t.widths;
}
