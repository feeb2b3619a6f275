use Rattle.std.proofs.Common.{◌≡◌, ◌∙◌, ◌+◌, ◌&&◌, [], map, nat_lt, ap, subst, sym}
use Rattle.std.specs.Prelude.{slice_index_or}
use Rattle.rv_types.specs.declared.typed.Kind.TheVariants as kind
use Rattle.rv_types.specs.Lists.{Kept}
use Rattle.rv_agreement.specs.{Agreement.bit_count, Trees.kind_at}
use Rattle.rv_flat.specs.{declared.parts.FlatMemory.FlatMemory, FlatInstants.memory_places, Lists.variable_of, Steps.label_counts, Steps.memory_kinds}
use Rattle.rv_control.specs.Named.{truth_at}
use Rattle.rv_bits.specs.Tables.{AreBitLists, memory_bit}
use Rattle.rv_bits.proofs.Listing.{item_in, list_pushed, spells_to}
use Rattle.rv_bits.proofs.tables.memory_refs.Goals as goal

pub loop-memory-preserved : goal.loop-memory-preserved
loop-memory-preserved c =
    let f = c.args.flat.now in
    let n = c.loop-memory.memory-index in
    let s = c.loop-memory.store in
    let new = c.owned_bits.new.store in
    let items = c.as_slice-memory-items.result.now in
    let item = c.memory-item.result in
    let refs = c.in_ok-owned_bits.field-0 in
    let names = map variable_of f.variables in
    let same_kind : kind_at (memory_kinds f) n ≡ item.kind =
    item_in (λ (m : FlatMemory). m.kind) f.memories items n item kind.Bool c.as_slice-memory-items.ensures c.loop-memory-test.true c.memory-item.is in
    let same_place : slice_index_or (memory_places f) n [] ≡ item.place.sites =
    item_in (λ (m : FlatMemory). m.place.sites) f.memories items n item [] c.as_slice-memory-items.ensures c.loop-memory-test.true c.memory-item.is in
    let count : c.bits_of_kind-count.result ≡ bit_count (label_counts f) (kind_at (memory_kinds f) n) = c.bits_of_kind-count.ensures
    ∙ ap (bit_count (label_counts f)) (sym same_kind) in
    record {
      read = subst (AreBitLists (label_counts f) names (memory_bit f) (kind_at (memory_kinds f)) c.args.store.now new (n + 1)) (sym c.in_ok-push.ensures.ok)
          (list_pushed (label_counts f) names (memory_bit f) (kind_at (memory_kinds f)) c.args.store.now s new n c.loop-memory.lists refs
          c.loop-memory.invariant.read (c.in_ok-owned_bits.ensures.size ∙ count)
          (spells_to s new (λ k v. nat_lt k c.bits_of_kind-count.result && truth_at (map variable_of c.as_slice.result.now) v (Kept item.place.sites k))
          (λ k v. nat_lt k (bit_count (label_counts f) (kind_at (memory_kinds f) n)) && truth_at names v (memory_bit f n k)) refs
          (λ k v i. nat_lt k (count i) && truth_at (map variable_of (c.as_slice.ensures i)) v (Kept (sym same_place i) k)) c.in_ok-owned_bits.ensures.ok));
    }
