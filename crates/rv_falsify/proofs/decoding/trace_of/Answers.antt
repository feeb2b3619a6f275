use Rattle.std.proofs.Common.{◌≡◌, ◌+◌, ◌*◌, ◌∙◌, ◌<◌, List, [], length, map, sym, ap, subst, arith}
use Rattle.std.proofs.lemmas.Option.{get_or_from_slice_get}
use Rattle.std.specs.Prelude.{slice_index_or}
use Rattle.rv_types.specs.declared.typed.Kind.{Kind}
use Rattle.rv_flat.specs.Steps.{label_counts, memory_kinds, input_kinds}
use Rattle.rv_control.specs.Spelled.{decoded}
use Rattle.rv_falsify.specs.Decoding.{bits_before, bits_along}
use Rattle.rv_falsify.proofs.{Placed.room, Spelling.all_inputs_spelled, Spelling.starts_spelled}
use Rattle.rv_falsify.proofs.decoding.trace_of.Goals as goal

pub overflow_add-first : goal.overflow_add-first
overflow_add-first c = let p = c.requires.program in omega (arith, c.len-2.ensures, room p.0 p.1 c.args.flat.now p.2)

pub overflow_mul-first : goal.overflow_mul-first
overflow_mul-first c = let p = c.requires.program in omega (arith, c.len-2.ensures, room p.0 p.1 c.args.flat.now p.2)

pub values_from-requires-clause-end : goal.values_from-requires-clause-end
values_from-requires-clause-end c =
    let p = c.requires.program in
    let f = c.args.flat.now in
    let is : c.as_slice.result.now ≡ memory_kinds f = c.as_slice.ensures ∙ c.in_ok-memories.ensures in
    subst (λ (ks : List Kind). 2 * (1 + c.len-2.result) + 2 * bits_before (label_counts f) ks (length ks) < 9223372036854775808) (sym is)
    (omega (arith, c.len-2.ensures, room p.0 p.1 f p.2))

pub bits_of_kinds-requires-clause-end : goal.bits_of_kinds-requires-clause-end
bits_of_kinds-requires-clause-end c =
    let p = c.requires.program in
    let f = c.args.flat.now in
    let is : c.as_slice-3.result.now ≡ memory_kinds f = c.as_slice-3.ensures ∙ c.in_ok-memories.ensures in
    subst (λ (ks : List Kind). bits_before (label_counts f) ks (length ks) < 9223372036854775808) (sym is) (omega (arith, room p.0 p.1 f p.2))

pub overflow_mul-behind : goal.overflow_mul-behind
overflow_mul-behind c =
    let p = c.requires.program in
    let f = c.args.flat.now in
    let is : c.as_slice-3.result.now ≡ memory_kinds f = c.as_slice-3.ensures ∙ c.in_ok-memories.ensures in
    let many = c.bits_of_kinds.ensures ∙ ap (λ (ks : List Kind). bits_before (label_counts f) ks (length ks)) is in
    omega (arith, many, room p.0 p.1 f p.2)

pub overflow_add-behind : goal.overflow_add-behind
overflow_add-behind c =
    let p = c.requires.program in
    let f = c.args.flat.now in
    let is : c.as_slice-3.result.now ≡ memory_kinds f = c.as_slice-3.ensures ∙ c.in_ok-memories.ensures in
    let many = c.bits_of_kinds.ensures ∙ ap (λ (ks : List Kind). bits_before (label_counts f) ks (length ks)) is in
    omega (arith, many, c.len-2.ensures, room p.0 p.1 f p.2)

pub inputs_from-requires-clause-end : goal.inputs_from-requires-clause-end
inputs_from-requires-clause-end c =
    let p = c.requires.program in
    let f = c.args.flat.now in
    let is : c.as_slice-3.result.now ≡ memory_kinds f = c.as_slice-3.ensures ∙ c.in_ok-memories.ensures in
    let many = c.bits_of_kinds.ensures ∙ ap (λ (ks : List Kind). bits_before (label_counts f) ks (length ks)) is in
    let given : c.as_slice-4.result.now ≡ input_kinds f = c.as_slice-4.ensures ∙ c.in_ok-inputs.ensures in
    subst (λ (ks : List Kind). 2 * (1 + c.len-2.result) + 2 * c.bits_of_kinds.result + bits_before (label_counts f) ks (length ks) < 9223372036854775808)
    (sym given)
    (omega (arith, many, c.len-2.ensures, room p.0 p.1 f p.2))

pub returns-clause-starts : goal.returns-clause-starts
returns-clause-starts c =
    let p = c.requires.program in
    let f = c.args.flat.now in
    let words = c.args.words.now in
    let is : c.as_slice.result.now ≡ memory_kinds f = c.as_slice.ensures ∙ c.in_ok-memories.ensures in
    let word : c.as_slice-2.result.now ≡ slice_index_or words 0 [] =
    c.as_slice-2.ensures ∙ sym (get_or_from_slice_get words 0 c.at-word.result.now [] c.at-word.ensures.value) in
    c.in_ok-starts.ensures
    ∙ (λ i. decoded (label_counts f) (is i) (bits_along (label_counts f) (is i) (word i) (2 * (1 + c.len-2.ensures i)) 2) [])
    ∙ starts_spelled p.0 p.1 f p.2 (slice_index_or words 0 [])

pub returns-clause-instants : goal.returns-clause-instants
returns-clause-instants c =
    let p = c.requires.program in
    let f = c.args.flat.now in
    let is : c.as_slice-3.result.now ≡ memory_kinds f = c.as_slice-3.ensures ∙ c.in_ok-memories.ensures in
    let many : c.bits_of_kinds.result ≡ bits_before (label_counts f) (memory_kinds f) (length (memory_kinds f)) =
    c.bits_of_kinds.ensures ∙ ap (λ (ks : List Kind). bits_before (label_counts f) ks (length ks)) is in
    let given : c.as_slice-4.result.now ≡ input_kinds f = c.as_slice-4.ensures ∙ c.in_ok-inputs.ensures in
    c.in_ok-instants.ensures
    ∙ (λ i. map (λ word. decoded (label_counts f) (given i) (bits_along (label_counts f) (given i) word (2 * (1 + c.len-2.ensures i) + 2 * many i) 1) [])
    (c.as_slice-5.ensures i))
    ∙ all_inputs_spelled p.0 p.1 f p.2 c.args.words.now
