-- Documents go by the names of a flat system and by the numbers of its system of valuations alone.
use Rattle.std.proofs.Common.{◌≡◌, ℕ, ◌+◌, ◌-◌, ◌||◌, true, nat_eq, List, [], ◌∷◌, ◌++◌, length, map, refl, sym, ◌∙◌, ap, None}
use Rattle.std.proofs.lemmas.List.{length-map}
use Rattle.std.specs.{Prelude.codes, Prelude.decimal, Prelude.flat_map, Prelude.nat_lt, Prelude.replicate, Prelude.slice_get, Str.bytes_eq}
use Rattle.rv_base.specs.{declared.value.Value.Value, declared.value.Trace.Trace}
use Rattle.rv_types.specs.Lists.{MemoryAt}
use Rattle.rv_proofs.specs.declared.certificate.Certificate.{Certificate}
use Rattle.rv_flat.specs.{declared.flat.Flat.Flat, declared.parts.FlatInput.FlatInput, declared.parts.FlatMemory.FlatMemory, Systems.memory_of}
use Rattle.rv_control.specs.Control.{control_of}
use Rattle.rv_invfile.specs.Traces.{trace_rule, trace_records, start, start_records, value_texts, read_value, is_value, read_values, is_value_at, tail_of}
use Rattle.rv_invfile.specs.{Rules.Fields, Rules.Form, Rules.Rule, Rules.done, Rules.await, Parts.bind, Parts.each, Parts.times, Forms.field, Forms.is_worded}
use Rattle.rv_invfile.specs.{Forms.exactly, Forms.names, Forms.lists, Forms.counts, Texts.Labels, Texts.dotted, Texts.value_text}
use Rattle.rv_invfile.specs.Traces as traces
use Rattle.rv_invariant.specs.Certificates.{certificate_rule, certificate_records, location_records, locations_rule}
use Rattle.rv_invariant.specs.{declared.counts.Shape.Shape, Naming.bit_text, Naming.column_text, Shapes.shape_of}
use Rattle.rv_invariant.specs.Certificates as certificates

-- the rule of certificates by the names and numbers
abbrev rule_by : List ℕ → Fields → Fields → Shape → Rule Certificate
rule_by main bits columns s =
    bind
    (bind (exactly certificates.first_record) (λ a.
    bind (names (codes "main") main) (λ b.
    bind (lists (codes "bits") bits) (λ c.
    bind (lists (codes "columns") columns) (λ d.
    counts (codes "locations") 0 4096)))))
    (λ n. locations_rule s n n [] (replicate n None))

-- A memory's start value by its place and type, and what stands from the inputs on by the labels and inputs.
abbrev start_at : Labels → MemoryAt → Rule Value
start_at labels m =
    await
    ((let form : Form = record {
      is_kind = is_worded (codes "start") 3;
      is_program = λ r. bytes_eq (field r 1) (dotted m.place);
      allows = λ r i. nat_lt i 2 || is_value labels m.kind (field r i);
    } in form) ∷ [])
    (λ r. done (read_value labels m.kind (field r 2)))

each_start : (labels : Labels) (ms : List FlatMemory) → each (start labels) ms ≡ each (start_at labels) (map memory_of ms)
unfolding each
each_start labels [] = refl
each_start labels (m ∷ ms) = ap (λ rest. bind (start labels m) (λ a. bind rest (λ more. done (a ∷ more)))) (each_start labels ms)

abbrev given_at : Labels → List FlatInput → Form
given_at labels inputs = record {
  is_kind = is_worded (codes "instant") (length inputs + 1);
  is_program = λ r. true;
  allows = λ r i. nat_eq i 0 || is_value_at labels (slice_get (map (λ x. x.kind) inputs) (i - 1)) (field r i);
}

abbrev end_at : Labels → List FlatInput → List Value → Rule Trace
end_at labels inputs starts =
    bind (lists (codes "inputs") (map (λ x. x.name) inputs)) (λ a.
    bind (counts (codes "instants") 0 4294967295) (λ n.
    bind (times n (await (given_at labels inputs ∷ []) (λ r. done (read_values labels (map (λ x. x.kind) inputs) (tail_of r))))) (λ instants.
    bind (exactly traces.last_record) (λ b.
    done (record { starts = starts; instants = instants })))))

abbrev starts_at : Labels → List MemoryAt → List Value → List Fields
starts_at labels [] vs = []
starts_at labels (m ∷ ms) [] = []
starts_at labels (m ∷ ms) (v ∷ vs) = (codes "start" ∷ dotted m.place ∷ value_text labels m.kind v ∷ []) ∷ starts_at labels ms vs

starts_written : (labels : Labels) (ms : List FlatMemory) (vs : List Value) → start_records labels ms vs ≡ starts_at labels (map memory_of ms) vs
starts_written labels [] vs = refl
starts_written labels (m ∷ ms) [] = refl
starts_written labels (m ∷ ms) (v ∷ vs) = ap (λ rs. (codes "start" ∷ dotted m.place.sites ∷ value_text labels m.kind v ∷ []) ∷ rs) (starts_written labels ms vs)

module _ (f g : Flat) (main : f.main ≡ g.main) (inputs : f.inputs ≡ g.inputs) where
  module _ (variables : f.variables ≡ g.variables) (columns : f.columns ≡ g.columns) where
    pub same_certificate_rule : control_of f ≡ control_of g → certificate_rule f ≡ certificate_rule g
    same_certificate_rule control = λ i. rule_by (main i) (map (bit_text (inputs i)) (variables i)) (map (column_text (inputs i)) (columns i))
        (shape_of (control i))

    pub same_certificate_records : (c : Certificate) → certificate_records f c ≡ certificate_records g c
    same_certificate_records c = λ i.
        certificates.first_record
        ∷ (codes "main" ∷ main i ∷ [])
        ∷ (codes "bits" ∷ map (bit_text (inputs i)) (variables i))
        ∷ (codes "columns" ∷ map (column_text (inputs i)) (columns i))
        ∷ (codes "locations" ∷ decimal (length c.locations) ∷ [])
        ∷ (flat_map location_records c.locations ++ certificates.last_record ∷ [])

  module _ (labels : f.labels ≡ g.labels) (memories : map memory_of f.memories ≡ map memory_of g.memories) where
    same_count : length f.memories ≡ length g.memories
    same_count = sym (length-map f.memories memory_of) ∙ ap length memories ∙ length-map g.memories memory_of

    same_each : each (start f.labels) f.memories ≡ each (start g.labels) g.memories
    same_each = each_start f.labels f.memories ∙ (λ i. each (start_at (labels i)) (memories i)) ∙ sym (each_start g.labels g.memories)

    pub same_trace_rule : trace_rule f ≡ trace_rule g
    same_trace_rule = λ i.
        bind (exactly traces.first_record) (λ a.
        bind (names (codes "main") (main i)) (λ b.
        bind (counts (codes "starts") (same_count i) (same_count i)) (λ c.
        bind (same_each i) (end_at (labels i) (inputs i)))))

    same_starts : (vs : List Value) → start_records f.labels f.memories vs ≡ start_records g.labels g.memories vs
    same_starts vs = starts_written f.labels f.memories vs ∙ (λ i. starts_at (labels i) (memories i) vs) ∙ sym (starts_written g.labels g.memories vs)

    pub same_trace_records : (t : Trace) → trace_records f t ≡ trace_records g t
    same_trace_records t = λ i.
        traces.first_record
        ∷ (codes "main" ∷ main i ∷ [])
        ∷ (codes "starts" ∷ decimal (same_count i) ∷ [])
        ∷ (same_starts t.starts i
        ++ (codes "inputs" ∷ map (λ x. x.name) (inputs i))
        ∷ (codes "instants" ∷ decimal (length t.instants) ∷ [])
        ∷ (map (λ vs. codes "instant" ∷ value_texts (labels i) (map (λ x. x.kind) (inputs i)) vs) t.instants
        ++ traces.last_record ∷ []))
