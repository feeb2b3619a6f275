-- The document of a trace: how it is written, and by which rule it is read.
use Rattle.std.specs.Prelude.{◌≤◌, ◌+◌, ◌-◌, ◌||◌, ℕ, Bool, true, nat_eq, nat_lt, List, [], ◌∷◌, ◌++◌, length, map, codes, is_some, slice_get, Option, Some}
use Rattle.std.specs.Prelude.{None, ⊤, decimal}
use Rattle.std.specs.{List.All, List.AllByRecursion, Option.unwrap_or, Str.bytes_eq}
use Rattle.rv_base.specs.{declared.value.Value.Value, declared.value.Value.TheVariants.Flag, declared.value.Trace.Trace}
use Rattle.rv_flat.specs.{declared.flat.Flat.Flat, Steps.AreValues, Steps.memory_kinds, declared.parts.FlatMemory.FlatMemory}
use Rattle.rv_types.specs.declared.typed.Kind.{Kind}
use Rattle.rv_invfile.specs.{Rules.Fields, Rules.Form, Rules.Rule, Rules.done, Rules.await, Parts.bind, Parts.each, Parts.times, Forms.field, Forms.is_worded}
use Rattle.rv_invfile.specs.{Forms.exactly, Forms.names, Forms.lists, Forms.counts, Texts.Labels, Texts.dotted, Texts.value_text, Texts.HasKind, Texts.value_of}

-- ---- How a trace is written.
abbrev pub first_record : Fields
first_record = codes "reaver" ∷ codes "trace" ∷ codes "1" ∷ []

abbrev pub last_record : Fields
last_record = codes "end" ∷ []

abbrev pub start_record : Labels → FlatMemory → Value → Fields
start_record labels m v = codes "start" ∷ dotted m.place.sites ∷ value_text labels m.kind v ∷ []

-- one record per memory, in order
abbrev pub start_records : Labels → List FlatMemory → List Value → List Fields
start_records labels [] vs = []
start_records labels (m ∷ ms) [] = []
start_records labels (m ∷ ms) (v ∷ vs) = start_record labels m v ∷ start_records labels ms vs

-- one text per value
abbrev pub value_texts : Labels → List Kind → List Value → Fields
value_texts labels [] vs = []
value_texts labels (k ∷ ks) [] = []
value_texts labels (k ∷ ks) (v ∷ vs) = value_text labels k v ∷ value_texts labels ks vs

abbrev pub instant_record : Flat → List Value → Fields
instant_record f vs = codes "instant" ∷ value_texts f.labels (map (λ i. i.kind) f.inputs) vs

-- what stands before the inputs, and what stands from them on
abbrev pub front_records : Flat → List Value → List Fields
front_records f starts =
    first_record ∷ (codes "main" ∷ f.main ∷ []) ∷ (codes "starts" ∷ decimal (length f.memories) ∷ []) ∷ start_records f.labels f.memories starts

abbrev pub back_records : Flat → List (List Value) → List Fields
back_records f instants =
    (codes "inputs" ∷ map (λ i. i.name) f.inputs) ∷ (codes "instants" ∷ decimal (length instants) ∷ []) ∷ (map (instant_record f) instants ++ last_record ∷ [])

-- the records of a trace
abbrev pub trace_records : Flat → Trace → List Fields
trace_records f t =
    first_record
    ∷ (codes "main" ∷ f.main ∷ [])
    ∷ (codes "starts" ∷ decimal (length f.memories) ∷ [])
    ∷ (start_records f.labels f.memories t.starts
    ++ (codes "inputs" ∷ map (λ i. i.name) f.inputs)
    ∷ (codes "instants" ∷ decimal (length t.instants) ∷ [])
    ∷ (map (instant_record f) t.instants
    ++ last_record ∷ []))

-- these are values of these types, as many
abbrev pub HaveKinds : Labels → List Kind → List Value → Type 0
HaveKinds labels [] [] = ⊤
HaveKinds labels [] (v ∷ vs) = ⊥
HaveKinds labels (k ∷ ks) [] = ⊥
HaveKinds labels (k ∷ ks) (v ∷ vs) = HasKind labels k v × HaveKinds labels ks vs

-- The trace has the counts and ranges of the program's document.
pub record Fits (f : Flat) (t : Trace) : Type 0 where
  pub starts : HaveKinds f.labels (map (λ m. m.kind) f.memories) t.starts
  pub count : length t.instants ≤ 4294967295
  pub instants : AllByRecursion (HaveKinds f.labels (map (λ i. i.kind) f.inputs)) t.instants

-- The same by the values that a flat system takes.
pub record IsTraceOf (f : Flat) (t : Trace) : Type 0 where
  pub starts : AreValues f (memory_kinds f) t.starts
  pub count : length t.instants ≤ 4294967295
  pub instants : All (AreValues f (map (λ i. i.kind) f.inputs)) t.instants

-- ---- By which rule it is read.
-- a value of a type, where the text writes one
abbrev pub read_value : Labels → Kind → List ℕ → Value
read_value labels k text = unwrap_or (value_of labels k text) (Flag true)

abbrev pub is_value : Labels → Kind → List ℕ → Bool
is_value labels k text = is_some (value_of labels k text)

-- the start value of a memory
abbrev pub started : Labels → FlatMemory → Form
started labels m = record {
  is_kind = is_worded (codes "start") 3;
  is_program = λ r. bytes_eq (field r 1) (dotted m.place.sites);
  allows = λ r i. nat_lt i 2 || is_value labels m.kind (field r i);
}

abbrev pub start : Labels → FlatMemory → Rule Value
start labels m = await (started labels m ∷ []) (λ r. done (read_value labels m.kind (field r 2)))

abbrev pub tail_of : Fields → Fields
tail_of [] = []
tail_of (x ∷ xs) = xs

-- the kind of the input with this number
abbrev pub kind_at : List Kind → ℕ → Option Kind
kind_at ks i = slice_get ks i

-- whether a text is a value of such a type
abbrev pub is_value_at : Labels → Option Kind → List ℕ → Bool
is_value_at labels None text = true
is_value_at labels (Some k) text = is_value labels k text

abbrev pub read_values : Labels → List Kind → List (List ℕ) → List Value
read_values labels [] texts = []
read_values labels (k ∷ ks) [] = []
read_values labels (k ∷ ks) (t ∷ ts) = read_value labels k t ∷ read_values labels ks ts

abbrev pub input_kinds : Flat → List Kind
input_kinds f = map (λ i. i.kind) f.inputs

-- one value per input
abbrev pub given : Flat → Form
given f = record {
  is_kind = is_worded (codes "instant") (length f.inputs + 1);
  is_program = λ r. true;
  allows = λ r i. nat_eq i 0 || is_value_at f.labels (slice_get (input_kinds f) (i - 1)) (field r i);
}

abbrev pub instant : Flat → Rule (List Value)
instant f = await (given f ∷ []) (λ r. done (read_values f.labels (input_kinds f) (tail_of r)))

-- what stands from the inputs on
abbrev pub trace_end : Flat → List Value → Rule Trace
trace_end f starts =
    bind (lists (codes "inputs") (map (λ i. i.name) f.inputs)) (λ a.
    bind (counts (codes "instants") 0 4294967295) (λ n.
    bind (times n (instant f)) (λ instants.
    bind (exactly last_record) (λ b.
    done (record { starts = starts; instants = instants })))))

-- the document of a trace
abbrev pub trace_rule : Flat → Rule Trace
trace_rule f =
    bind (exactly first_record) (λ a.
    bind (names (codes "main") f.main) (λ b.
    bind (counts (codes "starts") (length f.memories) (length f.memories)) (λ c.
    bind (each (start f.labels) f.memories) (trace_end f))))
