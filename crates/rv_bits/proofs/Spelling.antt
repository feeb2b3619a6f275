-- Bits that spell what an instant finds.
use Rattle.std.proofs.Common.{◌≡◌, ℕ, zero, suc, ◌<◌, Bool, List, [], ◌∷◌, length, map, refl, sym, ◌∙◌, ap, subst, arith, inl, inr}
use Rattle.std.proofs.{lemmas.Bool.cases_lt, lemmas.List.length-map, Math.ListN.get_or-eq_default}
use Rattle.std.specs.Prelude.{slice_index_or}
use Rattle.rv_tree.specs.Places.{Sites}
use Rattle.rv_types.specs.{declared.typed.Kind.Kind, Lists.Variable, Lists.Input, Variables.bits_for}
use Rattle.rv_types.specs.declared.typed.Kind.TheVariants as kind
use Rattle.rv_types.specs.Lists as lists
use Rattle.rv_meaning.specs.Codes.{code}
use Rattle.rv_rows.specs.declared.linear.Form.{Form}
use Rattle.rv_diagram.specs.{declared.Triple.Triple, Nodes.Valuation, Nodes.Diagrams, Several.ref_at}
use Rattle.rv_diagram.specs.Growing.{Extends}
use Rattle.rv_diagram.proofs.Growing.{extends_trans}
use Rattle.rv_agreement.specs.{Agreement.bit_count, Trees.Kept, Trees.kind_at, Valuations.spelled}
use Rattle.rv_agreement.specs.Trees as trees
use Rattle.rv_control.specs.Named.{variables_of, truth_at}
use Rattle.rv_flat.specs.{declared.flat.Flat.Flat, declared.parts.FlatMemory.FlatMemory, declared.parts.FlatInput.FlatInput, FlatInstants.system_of}
use Rattle.rv_flat.specs.{FlatInstants.memory_places, Steps.label_counts, Steps.memory_kinds, Steps.input_kinds, Systems.kept_of, Systems.tick_flows_of}
use Rattle.rv_symbolic.specs.Linked.{AreRefs}
use Rattle.rv_symbolic.proofs.Extending.{refs_after}
use Rattle.rv_bits.specs.Tables.{AreTickRefs, AreBits, AreBitLists, AreAllBits, memory_bit}
use Rattle.rv_bits.specs.{Shown.IsNumber, Shown.as_number, Shown.Shows, Shown.refs_at, Whole.AreTablesRead, declared.around.Tables.Tables}
use Rattle.rv_bits.proofs.{Codes.bit_of_code, Codes.bit_past, Making.any_ref, Making.bit_none, Nexting.places_same, Listing.are_bits_kept, Showing.truth_bit}
use Rattle.rv_bits.proofs.{Showing.truth_small}
use Rattle.rv_agreement.proofs.Spelled.{code_below}

-- the bits of a type spell what a valuation gives it
pub bits_show : (nodes : List Triple) (names : List Variable) (labels : List ℕ) (j : Kind) (owned : ℕ → Variable) (refs : List ℕ) (v : Valuation) (w : ℕ → Bool)
    (column : Form)
    → AreBits nodes names owned (bit_count labels j) refs → ((b : ℕ) → w b ≡ truth_at names v (owned b)) → Shows nodes v j refs (spelled labels j w column)
bits_show nodes names labels kind.Bool owned refs v w column are same = (w 0, refl, number)
  where
    number : IsNumber nodes v refs (as_number (w 0))
    number zero = are.means 0 v (omega arith) ∙ sym (same 0) ∙ sym (truth_bit (w 0))
    number (suc b) = bit_none nodes refs v (suc b) (omega (arith, are.size)) ∙ sym (bit_past (as_number (w 0)) 1 (suc b) (truth_small (w 0)) (omega arith))
bits_show nodes names labels kind.Int owned refs v w column are same = refl
bits_show nodes names labels (kind.Labels i) owned refs v w column are same = (code (bits_for (slice_index_or labels i 0)) w, refl, number)
  where
    number : IsNumber nodes v refs (code (bits_for (slice_index_or labels i 0)) w)
    number b = elim (cases_lt b (bits_for (slice_index_or labels i 0))) [
      | inl lt ↦ are.means b v lt ∙ sym (same b) ∙ sym (bit_of_code (bits_for (slice_index_or labels i 0)) w b lt)
      | inr le ↦ bit_none nodes refs v b (omega (arith, are.size)) ∙ sym
          (bit_past (code (bits_for (slice_index_or labels i 0)) w) (bits_for (slice_index_or labels i 0)) b
          (code_below (bits_for (slice_index_or labels i 0)) w) le)
    ]

kinds_same : (all ms : List FlatMemory) → map (λ (m : FlatMemory). m.kind) ms ≡ map (λ (y : Kept). y.kind) (map (kept_of all) ms)
kinds_same all [] = refl
kinds_same all (m ∷ ms) = ap (λ l. m.kind ∷ l) (kinds_same all ms)

-- every list has references of the store
list_refs : (labels : List ℕ) (names : List Variable) (owned : ℕ → ℕ → Variable) (kinds : ℕ → Kind) (nodes : List Triple) (n : ℕ) (lists : List (List ℕ))
    → length lists ≡ n → AreAllBits labels names owned kinds nodes n lists
    → (m : ℕ) → AreRefs nodes (refs_at lists m)
list_refs labels names owned kinds nodes n lists size are m = elim (cases_lt m n) [
  | inl lt ↦ (are m lt).found
  | inr le ↦ subst (AreRefs nodes) (sym (get_or-eq_default lists [] (omega arith))) (λ k lt. absurd (omega arith))
]

pub tables_read : (f : Flat) (old a b c : Diagrams) (t : Tables) → AreTickRefs (variables_of f) old a (tick_flows_of f.variables) t.ticks
    → AreBitLists (label_counts f) (variables_of f) (memory_bit f) (kind_at (memory_kinds f)) a b (length f.memories) t.kept
    → AreBitLists (label_counts f) (variables_of f) Input (kind_at (input_kinds f)) b c (length f.inputs) t.given → AreTablesRead f old c t
tables_read f old a b c t ticks kept given =
    let ac : Extends a c = extends_trans a b c kept.extends given.extends in
    let labels = label_counts f in
    let names = variables_of f in
    let all_kept : AreAllBits labels names (memory_bit f) (kind_at (memory_kinds f)) c.nodes (length f.memories) t.kept =
    λ m lt. are_bits_kept b c names (memory_bit f m) (bit_count labels (kind_at (memory_kinds f) m)) (refs_at t.kept m) given.extends (kept.each m lt) in
    record {
      extends = extends_trans old a c ticks.extends ac;
      size = ticks.size;
      kept = all_kept;
      given = given.each;
      tables = record {
        tick_refs = refs_after a c t.ticks ac ticks.found;
        ticks = λ k v lt. ac.kept (ref_at t.ticks k) (any_ref a.nodes t.ticks ticks.found k) v ∙ ticks.means k v lt;
        kept_refs = list_refs labels names (memory_bit f) (kind_at (memory_kinds f)) c.nodes (length f.memories) t.kept kept.size all_kept;
        kept = λ m v lt.
            let inside : m < length f.memories = omega (arith, length-map f.memories (kept_of f.memories)) in
            let same_kind : kind_at (memory_kinds f) m ≡ kind_at (trees.memory_kinds (system_of f)) m = ap (λ l. kind_at l m)
            (kinds_same f.memories f.memories) in
            let place : slice_index_or (memory_places f) m [] ≡ slice_index_or (trees.memory_places (system_of f)) m [] = ap
            (λ (l : List Sites). slice_index_or l m []) (places_same f.memories f.memories) in
            bits_show c.nodes names labels (kind_at (trees.memory_kinds (system_of f)) m) (memory_bit f m) (refs_at t.kept m) v _ _
            (subst (λ (j : Kind). AreBits c.nodes names (memory_bit f m) (bit_count labels j) (refs_at t.kept m)) same_kind (all_kept m inside))
            (λ n. ap (λ (p : Sites). truth_at names v (lists.Kept p n)) (sym place));
        given_refs = list_refs labels names Input (kind_at (input_kinds f)) c.nodes (length f.inputs) t.given given.size given.each;
        given = λ j v lt.
            let inside : j < length f.inputs = omega (arith, length-map f.inputs (λ (y : FlatInput). y.kind)) in
            bits_show c.nodes names labels (kind_at (input_kinds f) j) (Input j) (refs_at t.given j) v _ _ (given.each j inside) (λ n. refl);
      };
    }
