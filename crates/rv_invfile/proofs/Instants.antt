-- The values of one instant, and what stands after the start values.
use Rattle.std.proofs.Common.{◌≡◌, ◌+◌, ◌-◌, ◌<◌, ◌≤◌, ℕ, zero, suc, Bool, true, false, cond, List, [], ◌∷◌, ◌++◌, length, map, drop, get_or, refl, sym, ap}
use Rattle.std.proofs.Common.{◌∙◌, arith, append_assoc, add-one, eqb}
use Rattle.std.proofs.{lemmas.List.append-nil, lemmas.Option.slice_get-map, lemmas.Bool.eqb-true, lemmas.Bool.eqb-false, Math.Dec.eqb-suc-zero}
use Rattle.std.specs.Prelude.{◌||◌, Option, Some, None, Ok, slice_get, nat_eq, option_map, codes}
use Rattle.std.specs.Option.{unwrap_or}
use Rattle.rv_base.specs.{declared.value.Value.Value, declared.value.Trace.Trace, declared.value.Value.TheVariants.Flag}
use Rattle.rv_flat.specs.{declared.flat.Flat.Flat, declared.parts.FlatInput.FlatInput}
use Rattle.rv_invfile.specs.Traces.{is_value, is_value_at, read_value, read_values, input_kinds, given, instant, tail_of, start, trace_end, trace_rule}
use Rattle.rv_invfile.specs.Traces.{first_record, last_record}
use Rattle.rv_invfile.specs.{Rules.Fields, Rules.Rule, Rules.done, Rules.first_bad, Readers.Ahead, Readers.run, Parts.bind, Parts.times, Parts.each}
use Rattle.rv_invfile.specs.{Forms.field, Forms.exactly, Forms.names, Forms.lists, Forms.counts, Texts.value_of}
use Rattle.rv_invfile.proofs.{Bound.bind_ok, Adding.drop-next}

-- ---- The first field that is wrong.
pub none-bad : (ok : ℕ → Bool) (at n : ℕ) → ((k : ℕ) → k < at + n → ok k ≡ true) → first_bad ok at n ≡ None
none-bad ok at zero h = refl
none-bad ok at (suc n) h = ap (λ b. cond b (first_bad ok (suc at) n) (Some at)) (h at (omega arith)) ∙ none-bad ok (suc at) n (λ k l. h k (omega arith))

bad-here : (ok : ℕ → Bool) (at i : ℕ) (o : Option ℕ) → at ≡ i → ok i ≡ false → cond (ok at) o (Some at) ≡ Some i
bad-here ok at i o s b = ap (λ c. cond c o (Some at)) (ap ok s ∙ b) ∙ ap Some s

bad-later : (ok : ℕ → Bool) (at i : ℕ) (o : Option ℕ) (e : Bool) → eqb at i ≡ e → at ≤ i → ((k : ℕ) → k < i → ok k ≡ true) → ok i ≡ false
    → (at < i → o ≡ Some i) → cond (ok at) o (Some at) ≡ Some i
bad-later ok at i o true e l h b more = bad-here ok at i o (eqb-true at i e) b
bad-later ok at i o false e l h b more =
    let d : at < i = omega (arith, eqb-false at i e) in
    ap (λ c. cond c o (Some at)) (h at d) ∙ more d

pub one-bad : (ok : ℕ → Bool) (at n i : ℕ) → at ≤ i → i < at + n → ((k : ℕ) → k < i → ok k ≡ true) → ok i ≡ false → first_bad ok at n ≡ Some i
one-bad ok at zero i l m h b = absurd (omega arith)
one-bad ok at (suc n) i l m h b = bad-later ok at i (first_bad ok (suc at) n) (eqb at i) refl l h b
    (λ d. one-bad ok (suc at) n i (omega arith) (omega arith) h b)

-- ---- The fields of an instant.
kind-of : (f : Flat) (i : ℕ) (x : FlatInput) → slice_get f.inputs i ≡ Some x → slice_get (input_kinds f) i ≡ Some x.kind
kind-of f i x h = slice_get-map (λ (i : FlatInput). i.kind) f.inputs i ∙ ap (option_map (λ (i : FlatInput). i.kind)) h

not-zero : (i : ℕ) → nat_eq (i + 1) 0 ≡ false
not-zero i = ap (λ k. nat_eq k 0) (add-one i) ∙ eqb-suc-zero i

pub field-allowed : (f : Flat) (r : Fields) (i : ℕ) (x : FlatInput) → slice_get f.inputs i ≡ Some x
    → (given f).allows r (i + 1) ≡ is_value f.labels x.kind (field r (i + 1))
field-allowed f r i x h =
    let back : (i + 1) - 1 ≡ i = omega arith in
    ap (λ b. b || is_value_at f.labels (slice_get (input_kinds f) ((i + 1) - 1)) (field r (i + 1))) (not-zero i)
    ∙ ap (λ k. is_value_at f.labels (slice_get (input_kinds f) k) (field r (i + 1))) back
    ∙ ap (λ o. is_value_at f.labels o (field r (i + 1))) (kind-of f i x h)

drop-field : (r : Fields) (i : ℕ) → suc i < length r → drop i (tail_of r) ≡ field r (suc i) ∷ drop (suc i) (tail_of r)
drop-field [] i h = absurd (omega arith)
drop-field (w ∷ r) i h = drop-text r i (omega arith)
  where
    drop-text : (r : Fields) (i : ℕ) → i < length r → drop i r ≡ get_or r i [] ∷ drop (suc i) r
    drop-text [] i h = absurd (omega arith)
    drop-text (x ∷ r) zero h = refl
    drop-text (x ∷ r) (suc i) h = drop-text r i (omega arith)

-- one more value
pub values-more : (f : Flat) (r : Fields) (i : ℕ) (x : FlatInput) (v : Value) (front front2 whole : List Value) → slice_get f.inputs i ≡ Some x
    → i + 1 < length r → Some v ≡ value_of f.labels x.kind (field r (i + 1)) → front2 ≡ front ++ v ∷ []
    → front ++ read_values f.labels (drop i (input_kinds f)) (drop i (tail_of r)) ≡ whole
    → front2 ++ read_values f.labels (drop (i + 1) (input_kinds f)) (drop (i + 1) (tail_of r)) ≡ whole
values-more f r i x v front front2 whole h l is e kept =
    let l2 : suc i < length r = omega arith in
    let a = ap (λ ks. read_values f.labels ks (drop i (tail_of r))) (drop-next (input_kinds f) i x.kind (kind-of f i x h)) in
    let b = ap (λ ts. read_values f.labels (x.kind ∷ drop (suc i) (input_kinds f)) ts) (drop-field r i l2) in
    let value : read_value f.labels x.kind (field r (suc i)) ≡ v = ap (λ k. read_value f.labels x.kind (field r k)) (sym (add-one i))
    ∙ ap (λ o. unwrap_or o (Flag true)) (sym is) in
    ap (λ l. l ++ read_values f.labels (drop (i + 1) (input_kinds f)) (drop (i + 1) (tail_of r))) e
    ∙ append_assoc front (v ∷ []) (read_values f.labels (drop (i + 1) (input_kinds f)) (drop (i + 1) (tail_of r)))
    ∙ ap (λ k. front ++ v ∷ read_values f.labels (drop k (input_kinds f)) (drop k (tail_of r))) (add-one i)
    ∙ ap (λ w. front ++ w ∷ read_values f.labels (drop (suc i) (input_kinds f)) (drop (suc i) (tail_of r))) (sym value)
    ∙ ap (λ l. front ++ l) (sym (a ∙ b)) ∙ kept

-- no more
pub values-end : (f : Flat) (r : Fields) (i : ℕ) (front whole : List Value) → length f.inputs ≤ i
    → front ++ read_values f.labels (drop i (input_kinds f)) (drop i (tail_of r)) ≡ whole → front ≡ whole
values-end f r i front whole l kept = sym (append-nil front) ∙ ap (λ ks. front ++ read_values f.labels ks (drop i (tail_of r))) (sym (past f.inputs i l)) ∙ kept
  where
    past : (xs : List FlatInput) (i : ℕ) → length xs ≤ i → drop i (map (λ i. i.kind) xs) ≡ []
    past [] zero l = refl
    past [] (suc i) l = refl
    past (x ∷ xs) zero l = absurd (omega arith)
    past (x ∷ xs) (suc i) l = past xs i (omega arith)

-- ---- Through the parts of a trace.
abbrev pub last_part : List Value → List (List Value) → Rule Trace
last_part starts instants = bind (exactly last_record) (λ b. done (record { starts = starts; instants = instants }))

abbrev pub instants_part : Flat → List Value → ℕ → Rule Trace
instants_part f starts n = bind (times n (instant f)) (last_part starts)

pub to_instants : (f : Flat) (starts : List Value) (n : ℕ) (s s1 s2 : Ahead) → run (lists (codes "inputs") (map (λ i. i.name) f.inputs)) s ≡ Ok (tt, s1)
    → run (counts (codes "instants") 0 4294967295) s1 ≡ Ok (n, s2) → run (trace_end f starts) s ≡ run (instants_part f starts n) s2
to_instants f starts n s s1 s2 a b =
    bind_ok (lists (codes "inputs") (map (λ i. i.name) f.inputs)) (λ a. bind (counts (codes "instants") 0 4294967295) (instants_part f starts)) s s1 tt a
    ∙ bind_ok (counts (codes "instants") 0 4294967295) (instants_part f starts) s1 s2 n b

pub to_last : (f : Flat) (starts : List Value) (n : ℕ) (instants : List (List Value)) (s s1 s2 s3 : Ahead)
    → run (lists (codes "inputs") (map (λ i. i.name) f.inputs)) s ≡ Ok (tt, s1) → run (counts (codes "instants") 0 4294967295) s1 ≡ Ok (n, s2)
    → run (times n (instant f)) s2 ≡ Ok (instants, s3) → run (trace_end f starts) s ≡ run (last_part starts instants) s3
to_last f starts n instants s s1 s2 s3 a b c = to_instants f starts n s s1 s2 a b ∙ bind_ok (times n (instant f)) (last_part starts) s2 s3 instants c

abbrev pub starts_part : Flat → Rule Trace
starts_part f = bind (each (start f.labels) f.memories) (trace_end f)

pub to_starts : (f : Flat) (n : ℕ) (s s1 s2 s3 : Ahead) → run (exactly first_record) s ≡ Ok (tt, s1) → run (names (codes "main") f.main) s1 ≡ Ok (tt, s2)
    → run (counts (codes "starts") (length f.memories) (length f.memories)) s2 ≡ Ok (n, s3)
    → run (trace_rule f) s ≡ run (starts_part f) s3
to_starts f n s s1 s2 s3 a b c =
    bind_ok (exactly first_record) (λ a. bind (names (codes "main") f.main)
    (λ b. bind (counts (codes "starts") (length f.memories) (length f.memories)) (λ c. starts_part f))) s s1 tt a
    ∙ bind_ok (names (codes "main") f.main) (λ b. bind (counts (codes "starts") (length f.memories) (length f.memories)) (λ c. starts_part f)) s1 s2 tt b
    ∙ bind_ok (counts (codes "starts") (length f.memories) (length f.memories)) (λ c. starts_part f) s2 s3 n c
