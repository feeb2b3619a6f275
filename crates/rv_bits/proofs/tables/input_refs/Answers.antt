use Rattle.std.proofs.Common.{◌≡◌, ◌∙◌, ◌+◌, ◌&&◌, map, nat_lt, ap, subst, sym}
use Rattle.rv_types.specs.declared.typed.Kind.TheVariants as kind
use Rattle.rv_types.specs.Lists.{Input}
use Rattle.rv_agreement.specs.{Agreement.bit_count, Trees.kind_at}
use Rattle.rv_flat.specs.{declared.parts.FlatInput.FlatInput, Lists.variable_of, Steps.label_counts, Steps.input_kinds}
use Rattle.rv_control.specs.Named.{truth_at}
use Rattle.rv_bits.specs.Tables.{AreBitLists}
use Rattle.rv_bits.proofs.Listing.{item_in, list_pushed, spells_to}
use Rattle.rv_bits.proofs.tables.input_refs.Goals as goal

pub loop-number-preserved : goal.loop-number-preserved
loop-number-preserved c =
    let f = c.args.flat.now in
    let n = c.loop-number.number in
    let s = c.loop-number.store in
    let new = c.owned_bits.new.store in
    let items = c.as_slice-input-items.result.now in
    let item = c.input-item.result in
    let refs = c.in_ok-owned_bits.field-0 in
    let names = map variable_of f.variables in
    let same_kind : kind_at (input_kinds f) n ≡ item.kind =
    item_in (λ (m : FlatInput). m.kind) f.inputs items n item kind.Bool c.as_slice-input-items.ensures c.loop-number-test.true c.input-item.is in
    let count : c.bits_of_kind-count.result ≡ bit_count (label_counts f) (kind_at (input_kinds f) n) = c.bits_of_kind-count.ensures
    ∙ ap (bit_count (label_counts f)) (sym same_kind) in
    record {
      read = subst (AreBitLists (label_counts f) names Input (kind_at (input_kinds f)) c.args.store.now new (n + 1)) (sym c.in_ok-push.ensures.ok)
          (list_pushed (label_counts f) names Input (kind_at (input_kinds f)) c.args.store.now s new n c.loop-number.lists refs c.loop-number.invariant.read
          (c.in_ok-owned_bits.ensures.size ∙ count)
          (spells_to s new (λ k v. nat_lt k c.bits_of_kind-count.result && truth_at (map variable_of c.as_slice.result.now) v (Input n k))
          (λ k v. nat_lt k (bit_count (label_counts f) (kind_at (input_kinds f) n)) && truth_at names v (Input n k)) refs
          (λ k v i. nat_lt k (count i) && truth_at (map variable_of (c.as_slice.ensures i)) v (Input n k)) c.in_ok-owned_bits.ensures.ok));
    }
