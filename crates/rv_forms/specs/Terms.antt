-- What terms show of the integers of a flat system at each valuation.
use Rattle.std.specs.Prelude.{◌≡◌, ℕ, ◌<◌, ◌≤◌, max, true, List, [], length, Option, Some, slice_index_or, None as Nothing}
use Rattle.rv_base.specs.Limits.{heaviest}
use Rattle.rv_types.specs.declared.typed.Kind.TheVariants as kind
use Rattle.rv_rows.specs.{declared.linear.Form.Form, Forms.FormWithin}
use Rattle.rv_diagram.specs.{declared.Triple.Triple, Nodes.Valuation, Nodes.Diagrams}
use Rattle.rv_diagram.specs.Growing.{Extends}
use Rattle.rv_terms.specs.{declared.parted.Part.Part, declared.parted.Term.Term, Parts.form_at, Parts.IsTerm, Parts.IsTermOf, Parts.AreFilled}
use Rattle.rv_agreement.specs.Valuations.{Reading, Linear, form_of, width, reads_at, read, updated, IsSymbolic}
use Rattle.rv_agreement.specs.{Agreement.Fits, Evaluation.held, Evaluation.nth, Trees.FlatTree, Trees.kind_at, Trees.memory_kinds}
use Rattle.rv_flat.specs.{declared.flat.Flat.Flat, Facts.flat_weight, Facts.flow_weights, FlatInstants.system_of, Inlined.table_of}
use Rattle.rv_control.specs.{Control.control_of, Named.named}
use Rattle.rv_bits.specs.{declared.around.Around.Around, Shown.found, Shown.is_there_at, Shown.IsAround, Shown.AreAfter}
use Rattle.rv_forms.specs.declared.over.Wholes.{Wholes}

-- how many columns the forms of a flat system have
abbrev pub columns_of : Flat → ℕ
columns_of f = width (system_of f)

-- the weights of its flows
abbrev pub weights_of : Flat → List ℕ
weights_of f = flow_weights (system_of f).flows

-- the weight of an expression
abbrev pub weight_in : Flat → FlatTree → ℕ
weight_in f t = flat_weight (weights_of f) t

-- the form that a reading is, and the constant 0 of what is no integer
abbrev pub form_read : Flat → Valuation → Reading → Form
form_read f v a = form_of (columns_of f) (named f v).test a

-- what a flow has at a valuation, which is no integer where the flow is absent
abbrev pub flow_read : Flat → Valuation → List (Option Reading) → ℕ → Reading
flow_read f v row k = held Reading (reads_at (system_of f) (named f v)) (nth Reading (reads_at (system_of f) (named f v)) row k)

-- the parts of the term with a number; none past the end
abbrev pub parts_at : List Term → ℕ → List Part
parts_at terms k = (slice_index_or terms k (record { parts = [] })).parts

-- The parts are those of a term of forms with so many columns, none is empty, and at each valuation no number of the form has a
-- magnitude above n.
pub record IsWithin (nodes : List Triple) (columns n : ℕ) (parts : List Part) : Type 0 where
  pub term : IsTerm nodes columns parts
  pub filled : AreFilled nodes parts
  pub small : (v : Valuation) → FormWithin n (form_at nodes parts v)

-- The calls gave the parts of a term that shows an integer expression: wherever the clock of the expression is there, it has the form
-- of the term. At each valuation, there or not, the form is within the weight of the expression.
pub record ReadsAs (f : Flat) (old new : Diagrams) (t : FlatTree) (parts : List Part) : Type 0 where
  pub extends : Extends old new
  pub within : IsWithin new.nodes (columns_of f) (weight_in f t) parts
  pub shows : (v : Valuation) (row : List (Option Reading)) (k : Option ℕ) → IsSymbolic (system_of f) (named f v) row
      → Fits (system_of f) (length (system_of f).flows) k kind.Int t → is_there_at f v row k ≡ true
      → read (system_of f) (named f v) row t ≡ Linear (form_at new.nodes parts v)

module _ (f : Flat) (nodes : List Triple) where
  -- The terms show the memories and inputs that an instant finds, and the first flows. Each shows at each valuation the form of what
  -- there is, and the constant 0 where that is no integer, or is absent. Memories and inputs have weight 1, and flows their own.
  pub record AreWholes (w : Wholes) : Type 0 where
    pub columns : w.columns ≡ columns_of f
    pub many_kept : length w.kept ≡ length (system_of f).memories
    pub kept : (m : ℕ) → m < length w.kept → IsWithin nodes (columns_of f) 1 (parts_at w.kept m)
    pub kept_shows : (m : ℕ) (v : Valuation) → m < length w.kept → form_at nodes (parts_at w.kept m) v ≡ form_read f v ((found f v).kept m)
    pub many_given : length w.given ≡ length (system_of f).inputs
    pub given : (j : ℕ) → j < length w.given → IsWithin nodes (columns_of f) 1 (parts_at w.given j)
    pub given_shows : (j : ℕ) (v : Valuation) → j < length w.given → form_at nodes (parts_at w.given j) v ≡ form_read f v ((found f v).given j)
    pub few_flows : length w.flows ≤ length f.flows
    pub flows : (k : ℕ) → k < length w.flows → IsWithin nodes (columns_of f) (slice_index_or (weights_of f) k 0) (parts_at w.flows k)
    pub flows_show : (k : ℕ) (v : Valuation) (row : List (Option Reading)) → k < length w.flows → IsSymbolic (system_of f) (named f v) row
        → form_at nodes (parts_at w.flows k) v ≡ form_read f v (flow_read f v row k)

  -- The term shows what an integer memory holds after the instant: the form of its body where its clock is there, else its column.
  pub record IsAfterAs (m : ℕ) (parts : List Part) : Type 0 where
    pub within : IsWithin nodes (columns_of f) (max (weight_in f (table_of f.memories m).body) 1) parts
    pub shows : (v : Valuation) (row : List (Option Reading)) → m < length (system_of f).memories → kind_at (memory_kinds (system_of f)) m ≡ kind.Int
        → IsSymbolic (system_of f) (named f v) row → updated (system_of f) (named f v) row m ≡ Linear (form_at nodes parts v)

  -- What has been read of the memories shows what each holds after the instant.
  pub record AreKnown (known : List (Option Term)) : Type 0 where
    pub size : length known ≡ length f.memories
    pub each : (m : ℕ) (t : Term) → slice_index_or known m Nothing ≡ Some t → IsAfterAs m t.parts

-- What an integer expression is read over: the references of all flows, the terms of memories, inputs and the first flows, and what has
-- been read of what the memories hold after the instant, in references and in terms.
pub record IsReady (d : Diagrams) (x : Around) (w : Wholes) (shown : List (Option (List ℕ))) (known : List (Option Term)) : Type 0 where
  pub around : IsAround d x
  pub complete : length x.read.now.on ≡ length x.flat.now.flows
  pub wholes : AreWholes x.flat.now d.nodes w
  pub in_refs : AreAfter x.flat.now d.nodes shown
  pub in_terms : AreKnown x.flat.now d.nodes known

-- The calls gave the parts of a term that shows what an integer memory holds after the instant.
pub record IsAfterRead (f : Flat) (old new : Diagrams) (m : ℕ) (parts : List Part) : Type 0 where
  pub extends : Extends old new
  pub is_after : IsAfterAs f new.nodes m parts

-- The calls gave the term of a flow: at each valuation the form of what it has there, the constant 0 where that is no integer or is absent.
pub record IsFlowAs (f : Flat) (old new : Diagrams) (k : ℕ) (parts : List Part) : Type 0 where
  pub extends : Extends old new
  pub within : IsWithin new.nodes (columns_of f) (slice_index_or (weights_of f) k 0) parts
  pub shows : (v : Valuation) (row : List (Option Reading)) → IsSymbolic (system_of f) (named f v) row
      → form_at new.nodes parts v ≡ form_read f v (flow_read f v row k)

-- The calls gave the terms of all memories, inputs and flows.
pub record AreWholesRead (f : Flat) (old new : Diagrams) (w : Wholes) : Type 0 where
  pub extends : Extends old new
  pub wholes : AreWholes f new.nodes w
  pub complete : length w.flows ≡ length f.flows

-- The calls gave one term for each integer memory, in order: at each valuation its form is the update of the memory, which is what the
-- memory becomes, and its own column where its clock is absent. No number of it has a magnitude above the heaviest weight.
pub record AreUpdatesRead (f : Flat) (old new : Diagrams) (terms : List Term) : Type 0 where
  pub extends : Extends old new
  pub many : length terms ≡ (control_of f).memories
  pub each : (k : ℕ) → k < length terms → IsWithin new.nodes (columns_of f) heaviest (parts_at terms k)
  pub becomes : (k : ℕ) (v : Valuation) → k < length terms → form_at new.nodes (parts_at terms k) v ≡ (control_of f).update v k

-- The calls gave a term that has this form of so many columns at each valuation, and no empty part.
pub record GivesTerm (old new : Diagrams) (columns : ℕ) (form : Valuation → Form) (parts : List Part) : Type 0 where
  pub extends : Extends old new
  pub is : IsTermOf new.nodes columns form parts
