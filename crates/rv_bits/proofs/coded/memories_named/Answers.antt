use Rattle.std.proofs.Common.{◌≡◌, ◌∙◌, ◌+◌, ◌∷◌, ◌<◌, ◌&&◌, ℕ, suc, [], List, length, drop, ap, subst, sym, arith}
use Rattle.std.proofs.{Math.Seq.drop-cons, lemmas.List.length-map}
use Rattle.std.specs.Prelude.{slice_index_or}
use Rattle.rv_tree.specs.Places.{Sites}
use Rattle.rv_types.specs.{declared.typed.Kind.Kind, Lists.Kept}
use Rattle.rv_types.specs.declared.typed.Kind.TheVariants as kind
use Rattle.rv_diagram.specs.Nodes.{Valuation, value_of}
use Rattle.rv_diagram.proofs.Growing.{extends_trans, grows_extends, extends_refl}
use Rattle.rv_agreement.specs.{Agreement.bit_count, Trees.kind_at}
use Rattle.rv_agreement.specs.Trees as trees
use Rattle.rv_control.specs.{Control.names_label, Control.memories_named, Named.named, Named.variables_of, Named.truth_at}
use Rattle.rv_flat.specs.{declared.parts.FlatMemory.FlatMemory, FlatInstants.memory_places, FlatInstants.system_of, Steps.label_counts, Steps.memory_kinds}
use Rattle.rv_flat.specs.{Systems.kept_of}
use Rattle.rv_bits.specs.{Bits.bit, Shown.refs_at}
use Rattle.rv_bits.proofs.Labels.{label_same, and_more, and_all, memories_split, memories_done}
use Rattle.rv_bits.proofs.{Listing.item_in, Making.bits_kept, Making.makes_to}
use Rattle.rv_bits.proofs.coded.memories_named.Goals as goal

pub loop-number-preserved : goal.loop-number-preserved
loop-number-preserved c =
    let f = c.args.flat.now in
    let labels = label_counts f in
    let ms = (system_of f).memories in
    let i = c.loop-number.number in
    let a = c.args.store.now in
    let s = c.loop-number.store in
    let mid = c.label_named.new.store in
    let new = c.and.new.self in
    let items = c.as_slice-memory-items.result.now in
    let item = c.memory-item.result in
    let before = c.loop-number.invariant in
    let long = ap (λ (l : List FlatMemory). length l) c.as_slice-memory-items.ensures in
    let low : i < length f.memories = omega (arith, long) in
    let inside : i < length ms = omega (arith, low, length-map f.memories (kept_of f.memories)) in
    let one : trees.Kept = kept_of f.memories item in
    let here : slice_index_or ms i one ≡ one = item_in (kept_of f.memories) f.memories items i item one c.as_slice-memory-items.ensures c.loop-number-test.true
    c.memory-item.is in
    let same_kind : kind_at (memory_kinds f) i ≡ item.kind = item_in (λ (m : FlatMemory). m.kind) f.memories items i item kind.Bool
    c.as_slice-memory-items.ensures c.loop-number-test.true c.memory-item.is in
    let same_place : slice_index_or (memory_places f) i [] ≡ item.place.sites =
    item_in (λ (m : FlatMemory). m.place.sites) f.memories items i item [] c.as_slice-memory-items.ensures c.loop-number-test.true c.memory-item.is in
    let left : drop i ms ≡ one ∷ drop (i + 1) ms = drop-cons ms i one inside ∙ (λ k. here k ∷ drop (let z : suc i ≡ i + 1 = omega arith in z k) ms) in
    let bits : (v : Valuation) (b : ℕ) → b < bit_count labels item.kind → bit s.nodes c.list_at.result.now v b ≡ (named f v).kept item.place.sites b =
    λ v b lt. ap (λ (l : List ℕ). bit s.nodes l v b) c.list_at.ensures ∙ bits_kept a s (refs_at c.args.kept.now i) before.extends (c.requires i low).found v b
    ∙ (c.requires i low).means b v (subst (λ (k : Kind). b < bit_count labels k) (sym same_kind) lt)
    ∙ ap (λ (p : Sites). truth_at (variables_of f) v (Kept p b)) same_place in
    let made = makes_to s s mid (λ v. names_label labels item.kind (bit s.nodes c.list_at.result.now v))
    (λ v. names_label labels item.kind ((named f v).kept item.place.sites)) c.in_ok-one.one (extends_refl s) c.in_ok-one.ensures.ok
    (λ v. label_same labels item.kind (bit s.nodes c.list_at.result.now v) ((named f v).kept item.place.sites) (bits v)) in
    record {
      extends = extends_trans a s new before.extends (extends_trans s mid new made.extends (grows_extends mid new c.in_ok-all.ensures.ok.grows));
      is_ref = c.in_ok-all.ensures.ok.found;
      means = and_more s mid new c.loop-number.all c.in_ok-one.one c.in_ok-all.all (λ v. names_label labels item.kind ((named f v).kept item.place.sites))
          (λ v. memories_named labels (named f v) (drop (i + 1) ms))
          (λ v. memories_named labels (named f v) ms) before.is_ref made c.in_ok-all.ensures.ok
          (λ v. (λ k. value_of s.nodes c.loop-number.all v && sym (memories_split labels (named f v) ms i one left) k) ∙ before.means v);
    }

pub returns-clause-ok : goal.returns-clause-ok
returns-clause-ok c =
    let f = c.args.flat.now in
    let ms = (system_of f).memories in
    let s = c.loop-number.store in
    let long = ap (λ (l : List FlatMemory). length l) c.as_slice-memory-items.ensures in
    let before = c.loop-number.invariant in
    and_all c.args.store.now s c.loop-number.all (λ v. memories_named (label_counts f) (named f v) ms) before.extends before.is_ref
    (λ v. (λ k. value_of s.nodes c.loop-number.all v && sym (memories_done (label_counts f) (named f v) ms c.loop-number.number
    (omega (arith, long, length-map f.memories (kept_of f.memories)))) k) ∙ before.means v)
