-- All flat systems of one program await the same records.
use Rattle.std.proofs.Common.{◌≡◌, ℕ, ◌+◌, ◌-◌, true, List, [], ◌∷◌, length, map, refl, sym, ◌∙◌, ap}
use Rattle.std.proofs.lemmas.List.{length-map}
use Rattle.std.specs.{Prelude.◌||◌, Prelude.codes, Prelude.nat_eq, Prelude.nat_lt, Prelude.slice_get, Str.bytes_eq}
use Rattle.rv_base.specs.{declared.value.Trace.Trace, declared.value.Value.Value}
use Rattle.rv_tree.specs.{Tree.ProgramTree, Places.Identifier}
use Rattle.rv_types.specs.{declared.typed.Kind.Kind, Lists.MemoryAt}
use Rattle.rv_flat.specs.{declared.flat.Flat.Flat, declared.parts.FlatInput.FlatInput, declared.parts.FlatMemory.FlatMemory, FlatOf.IsFlatOf, Systems.memory_of}
use Rattle.rv_invfile.proofs.MemoryLists.{one_listing}
use Rattle.rv_invfile.specs.Forms.{field, is_worded, exactly, names, lists, counts}
use Rattle.rv_invfile.specs.Traces.{first_record, last_record, is_value, is_value_at, read_value, read_values, tail_of, start, trace_end, trace_rule}
use Rattle.rv_invfile.specs.{Rules.Rule, Rules.done, Rules.await, Parts.bind, Parts.each, Parts.times, Texts.Labels, Texts.dotted}

-- A rule by what it reads of a flat system: its labels, its memories by place and type, its inputs by name and by type, how many
-- there are of both, and its name.
module _ (labels : Labels) where
  abbrev start_at : MemoryAt → Rule Value
  start_at m =
      await (record {
        is_kind = is_worded (codes "start") 3;
        is_program = λ r. bytes_eq (field r 1) (dotted m.place);
        allows = λ r i. nat_lt i 2 || is_value labels m.kind (field r i);
      } ∷ []) (λ r. done (read_value labels m.kind (field r 2)))

  each_start : (ms : List FlatMemory) → each (start labels) ms ≡ each start_at (map memory_of ms)
  unfolding each
  each_start [] = refl
  each_start (m ∷ ms) = ap (λ (rule : Rule (List Value)). bind (start_at (memory_of m)) (λ v. bind rule (λ more. done (v ∷ more)))) (each_start ms)

  abbrev instant_of : List Kind → ℕ → Rule (List Value)
  instant_of kinds inputs =
      await (record {
        is_kind = is_worded (codes "instant") (inputs + 1);
        is_program = λ r. true;
        allows = λ r i. nat_eq i 0 || is_value_at labels (slice_get kinds (i - 1)) (field r i);
      } ∷ []) (λ r. done (read_values labels kinds (tail_of r)))

  abbrev end_of : List Identifier → List Kind → ℕ → List Value → Rule Trace
  end_of inputs kinds count starts =
      bind (lists (codes "inputs") inputs) (λ a.
      bind (counts (codes "instants") 0 4294967295) (λ n.
      bind (times n (instant_of kinds count)) (λ instants.
      bind (exactly last_record) (λ b.
      done (record { starts = starts; instants = instants })))))

  abbrev rule_of : Identifier → ℕ → List MemoryAt → List Identifier → List Kind → ℕ → Rule Trace
  rule_of main starts memories inputs kinds count =
      bind (exactly first_record) (λ a.
      bind (names (codes "main") main) (λ b.
      bind (counts (codes "starts") starts starts) (λ c.
      bind (each start_at memories) (end_of inputs kinds count))))

by_parts : (f : Flat) → trace_rule f ≡ rule_of f.labels f.main (length f.memories) (map memory_of f.memories) (map (λ (i : FlatInput). i.name) f.inputs)
    (map (λ (i : FlatInput). i.kind) f.inputs) (length f.inputs)
by_parts f =
    ap (λ (rule : Rule (List Value)). bind (exactly first_record) (λ a. bind (names (codes "main") f.main)
    (λ b. bind (counts (codes "starts") (length f.memories) (length f.memories)) (λ c. bind rule (trace_end f)))))
    (each_start f.labels f.memories)

pub one_rule : (p : ProgramTree) (main : Identifier) (f g : Flat) → IsFlatOf p main f → IsFlatOf p main g → trace_rule f ≡ trace_rule g
one_rule p main f g a b =
    let memories : map memory_of f.memories ≡ map memory_of g.memories = one_listing p main (map memory_of f.memories) (map memory_of g.memories) a.memories
    b.memories in
    let inputs : map (λ (i : FlatInput). i.name) f.inputs ≡ map (λ (i : FlatInput). i.name) g.inputs = a.inputs ∙ sym b.inputs in
    let kinds : map (λ (i : FlatInput). i.kind) f.inputs ≡ map (λ (i : FlatInput). i.kind) g.inputs = a.input_kinds ∙ sym b.input_kinds in
    let labels : f.labels ≡ g.labels = a.labels ∙ sym b.labels in
    let name : f.main ≡ g.main = a.name ∙ sym b.name in
    let starts : length f.memories ≡ length g.memories = sym (length-map f.memories memory_of) ∙ ap length memories ∙ length-map g.memories memory_of in
    let count : length f.inputs ≡ length g.inputs = sym (length-map f.inputs (λ (i : FlatInput). i.name)) ∙ ap length inputs
    ∙ length-map g.inputs (λ (i : FlatInput). i.name) in
    by_parts f ∙ (λ i. rule_of (labels i) (name i) (starts i) (memories i) (inputs i) (kinds i) (count i)) ∙ sym (by_parts g)
