use Rattle.std.proofs.Common.{◌≡◌, ◌+◌, List, map, ◌∙◌, ap, subst, arith}
use Rattle.rv_types.specs.declared.typed.Kind.{Kind}
use Rattle.rv_agreement.specs.{Trees.memory_kinds, Valuations.whole_count}
use Rattle.rv_flat.specs.FlatInstants.{system_of}
use Rattle.rv_flat.proofs.SystemRuns.{kept_kinds}
use Rattle.rv_forms.specs.Columns.{AreColumnTerms}
use Rattle.rv_forms.proofs.Flowing.{first_wholes}
use Rattle.rv_control.proofs.System.{count_same}
use Rattle.rv_forms.proofs.flows.first_wholes.Goals as goal

pub overflow_add-columns : goal.overflow_add-columns
overflow_add-columns c =
    let f = c.args.flat.now in
    let memories : c.count_integers-first.result ≡ whole_count (memory_kinds (system_of f)) =
    c.count_integers-first.ensures ∙ ap whole_count (c.as_slice.ensures ∙ c.in_ok-memories.ensures) in
    let inputs : c.count_integers.result ≡ whole_count (system_of f).inputs =
    c.count_integers.ensures ∙ ap whole_count (c.as_slice-2.ensures ∙ c.in_ok-inputs.ensures) in
    let first = ap whole_count (kept_kinds f.memories f.memories) ∙ count_same (map (λ m. m.kind) f.memories) in
    let second = count_same (map (λ i. i.kind) f.inputs) in
    let few = f.few_memories in
    let also = f.few_inputs in
    omega (arith, memories, inputs, first, second, few, also)

pub column_terms-requires : goal.column_terms-requires
column_terms-requires c =
    let f = c.args.flat.now in
    let memories : whole_count c.as_slice-3.result.now ≡ whole_count (memory_kinds (system_of f)) =
    ap whole_count (c.as_slice-3.ensures ∙ c.in_ok-memories.ensures) in
    let first = ap whole_count (kept_kinds f.memories f.memories) ∙ count_same (map (λ m. m.kind) f.memories) in
    let few = f.few_memories in
    omega (arith, memories, first, few)

pub column_terms-requires-2 : goal.column_terms-requires-2
column_terms-requires-2 c =
    let f = c.args.flat.now in
    let memories : c.count_integers-first.result ≡ whole_count (memory_kinds (system_of f)) =
    c.count_integers-first.ensures ∙ ap whole_count (c.as_slice.ensures ∙ c.in_ok-memories.ensures) in
    let inputs : whole_count c.as_slice-4.result.now ≡ whole_count (system_of f).inputs = ap whole_count (c.as_slice-4.ensures ∙ c.in_ok-inputs.ensures) in
    let first = ap whole_count (kept_kinds f.memories f.memories) ∙ count_same (map (λ m. m.kind) f.memories) in
    let second = count_same (map (λ i. i.kind) f.inputs) in
    let few = f.few_memories in
    let also = f.few_inputs in
    omega (arith, memories, inputs, first, second, few, also)

pub returns-clause-ok : goal.returns-clause-ok
returns-clause-ok c nodes =
    let f = c.args.flat.now in
    let first = c.count_integers-first.result in
    let columns = first + c.count_integers.result in
    let memories : first ≡ whole_count (memory_kinds (system_of f)) =
    c.count_integers-first.ensures ∙ ap whole_count (c.as_slice.ensures ∙ c.in_ok-memories.ensures) in
    let inputs : c.count_integers.result ≡ whole_count (system_of f).inputs =
    c.count_integers.ensures ∙ ap whole_count (c.as_slice-2.ensures ∙ c.in_ok-inputs.ensures) in
    first_wholes f nodes columns first c.in_ok-kept.kept c.in_ok-given.given c.new.result (λ i. memories i + inputs i) memories
    (subst (λ (ks : List Kind). AreColumnTerms columns 0 ks c.in_ok-kept.kept) (c.as_slice-3.ensures ∙ c.in_ok-memories.ensures) c.in_ok-kept.ensures.ok)
    (subst (λ (ks : List Kind). AreColumnTerms columns first ks c.in_ok-given.given) (c.as_slice-4.ensures ∙ c.in_ok-inputs.ensures) c.in_ok-given.ensures.ok)
    c.new.ensures
