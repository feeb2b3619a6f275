-- Terms: forms that hold where the references of their parts are true.
use Rattle.std.specs.Prelude.{◌≡◌, ◌≢◌, ◌↔◌, ◌+◌, ◌*◌, ◌^◌, ◌≤◌, ℕ, zero, suc, ◌<◌, ◌⊎◌, ◌||◌, Bool, true, false, if◌then◌else◌, pos, List, [], ◌∷◌, length}
use Rattle.std.specs.Prelude.{slice_index_or}
use Rattle.rv_rows.specs.declared.linear.Form.{Form}
use Rattle.rv_diagram.specs.{declared.Triple.Triple, Nodes.Valuation, Nodes.Diagrams, Nodes.IsRef, Nodes.value_of}
use Rattle.rv_terms.specs.declared.parted.Part.{Part}
use Rattle.rv_diagram.specs.Counting.{count}

-- the form without columns that is 0
abbrev pub no_form : Form
no_form = record { coefficients = []; constant = pos 0 }

-- part i
abbrev pub part_at : List Part → ℕ → Part
part_at parts i = slice_index_or parts i (record { under = 0; form = no_form })

-- whether part i holds at a valuation
abbrev pub holds : List Triple → List Part → ℕ → Valuation → Bool
holds nodes parts i v = value_of nodes (part_at parts i).under v

-- The form at a valuation: that of the first part that holds there. In a term it is the only one.
abbrev pub form_at : List Triple → List Part → Valuation → Form
form_at nodes [] v = no_form
form_at nodes (p ∷ ps) v = if value_of nodes p.under v then p.form else form_at nodes ps v

-- each part stands under a reference of the list
abbrev pub AreRefs : List Triple → List Part → Type 0
AreRefs nodes parts = (i : ℕ) → i < length parts → IsRef nodes (part_at parts i).under

-- no two parts hold at one valuation
abbrev pub AreDisjoint : List Triple → List Part → Type 0
AreDisjoint nodes parts = (i j : ℕ) → i < j → j < length parts → (v : Valuation) → holds nodes parts i v ≡ true → holds nodes parts j v ≡ true → ⊥

-- no two parts have one form
abbrev pub AreDifferent : List Part → Type 0
AreDifferent parts = (i j : ℕ) → i < j → j < length parts → (part_at parts i).form ≢ (part_at parts j).form

-- each form has this many columns
abbrev pub HaveWidth : ℕ → List Part → Type 0
HaveWidth width parts = (i : ℕ) → i < length parts → length (part_at parts i).form.coefficients ≡ width

-- at each valuation some part holds
abbrev pub Covers : List Triple → List Part → Type 0
Covers nodes parts = (v : Valuation) → (i : ℕ) × (i < length parts) × (holds nodes parts i v ≡ true)

-- The parts are disjoint, cover all valuations, and have different forms, all of one width.
pub record IsTerm (nodes : List Triple) (width : ℕ) (parts : List Part) : Type 0 where
  pub refs : AreRefs nodes parts
  pub disjoint : AreDisjoint nodes parts
  pub covers : Covers nodes parts
  pub different : AreDifferent parts
  pub widths : HaveWidth width parts

-- the width of the first form
abbrev pub term_width : List Part → ℕ
term_width parts = length (part_at parts 0).form.coefficients

-- each part holds somewhere
abbrev pub AreFilled : List Triple → List Part → Type 0
AreFilled nodes parts = (i : ℕ) → i < length parts → ((v : Valuation) → holds nodes parts i v ≡ false) → ⊥

-- An answer: a term without empty parts that has this form at each valuation.
pub record IsTermOf (nodes : List Triple) (width : ℕ) (form : Valuation → Form) (parts : List Part) : Type 0 where
  pub term : IsTerm nodes width parts
  pub width_is : term_width parts ≡ width
  pub filled : AreFilled nodes parts
  pub exact : (v : Valuation) → form_at nodes parts v ≡ form v

-- a is true at no valuation, or at two at which the term has different forms
abbrev pub HasNoSingle : List Triple → List Part → ℕ → Type 0
HasNoSingle nodes parts a = ((v : Valuation) → value_of nodes a v ≡ false)
    ⊎ ((v : Valuation) × (w : Valuation) × (value_of nodes a v ≡ true) × (value_of nodes a w ≡ true) × (form_at nodes parts v ≢ form_at nodes parts w))

-- a is true somewhere, and the term has this form wherever it is
pub record IsSingle (nodes : List Triple) (parts : List Part) (a : ℕ) (form : Form) : Type 0 where
  pub some : (v : Valuation) × (value_of nodes a v ≡ true)
  pub one : (v : Valuation) → value_of nodes a v ≡ true → form_at nodes parts v ≡ form

-- PARTS IN THE MAKING

-- The parts are disjoint, hold exactly where p does, with the forms that f has there, and are different, filled and of one width.
pub record ArePartsOf (nodes : List Triple) (width : ℕ) (p : Valuation → Bool) (f : Valuation → Form) (parts : List Part) : Type 0 where
  pub refs : AreRefs nodes parts
  pub disjoint : AreDisjoint nodes parts
  pub covers : (v : Valuation) → p v ≡ true → (i : ℕ) × (i < length parts) × (holds nodes parts i v ≡ true)
  pub only : (i : ℕ) → i < length parts → (v : Valuation) → holds nodes parts i v ≡ true → p v ≡ true
  pub right : (i : ℕ) → i < length parts → (v : Valuation) → holds nodes parts i v ≡ true → (part_at parts i).form ≡ f v
  pub different : AreDifferent parts
  pub widths : HaveWidth width parts
  pub filled : AreFilled nodes parts

-- Where q is true, the forms of g have been added.
abbrev pub Adds : List Triple → List Triple → (Valuation → Bool) → (Valuation → Form) → List Part → List Part → Type 0
Adds old new q g before after = (width : ℕ) (p : Valuation → Bool) (f : Valuation → Form)
    → ArePartsOf old width p f before
    → ((v : Valuation) → p v ≡ true → q v ≡ true → ⊥)
    → ((v : Valuation) → q v ≡ true → f v ≡ g v)
    → ((v : Valuation) → q v ≡ true → length (g v).coefficients ≡ width)
    → ArePartsOf new width (λ v. p v || q v) f after

-- whether one of the first n parts holds
abbrev pub among : List Triple → List Part → ℕ → Valuation → Bool
among nodes parts zero v = false
among nodes parts (suc n) v = among nodes parts n v || holds nodes parts n v

-- part i meets a at some valuation, and of the first n parts it alone does
pub record IsAlone (nodes : List Triple) (parts : List Part) (a n i : ℕ) : Type 0 where
  pub within : i < n
  pub some : (v : Valuation) × (holds nodes parts i v ≡ true) × (value_of nodes a v ≡ true)
  pub others : (k : ℕ) → k < n → k ≢ i → (v : Valuation) → holds nodes parts k v ≡ true → value_of nodes a v ≡ true → ⊥

-- a meets none of the parts, or two of them
abbrev pub IsMet : List Triple → List Part → ℕ → Type 0
IsMet nodes parts a = ((v : Valuation) → value_of nodes a v ≡ false)
    ⊎ ((i : ℕ) × (j : ℕ) × (i < j) × (j < length parts) × ((v : Valuation) × (holds nodes parts i v ≡ true) × (value_of nodes a v ≡ true))
    × ((v : Valuation) × (holds nodes parts j v ≡ true) × (value_of nodes a v ≡ true)))

-- some part has this form
abbrev pub HasForm : List Part → Form → Type 0
HasForm parts form = (j : ℕ) × (j < length parts) × ((part_at parts j).form ≡ form)

-- Each part holds exactly where f has its form, which is some place; the forms are different and of one width.
pub record AreClasses (nodes : List Triple) (width : ℕ) (f : Valuation → Form) (parts : List Part) : Type 0 where
  pub refs : AreRefs nodes parts
  pub exact : (i : ℕ) → i < length parts → (v : Valuation) → (holds nodes parts i v ≡ true) ↔ (f v ≡ (part_at parts i).form)
  pub different : AreDifferent parts
  pub widths : HaveWidth width parts
  pub filled : AreFilled nodes parts

-- the form that a choice between two terms has at a valuation
abbrev pub chosen_form : List Triple → ℕ → List Part → List Part → Valuation → Form
chosen_form nodes test ons offs v = if value_of nodes test v then form_at nodes ons v else form_at nodes offs v

-- whether one of the parts holds
abbrev pub held : List Triple → List Part → Valuation → Bool
held nodes parts v = among nodes parts (length parts) v

-- The list has grown by at most m nodes for each valuation at which parts hold that did not before.
pub record IsFilledBy (old new : Diagrams) (before after : List Part) : Type 0 where
  pub nodes : length new.nodes + old.variables * count old.variables (held old.nodes before)
      ≤ length old.nodes + old.variables * count old.variables (held new.nodes after)

-- the limit leaves no room for m nodes for each valuation at which no part holds
pub record LacksFew (s : Diagrams) (parts : List Part) : Type 0 where
  pub nodes : s.limit + s.variables * count s.variables (held s.nodes parts) < length s.nodes + s.variables * 2 ^ s.variables
