use Rattle.std.proofs.Common.{◌≡◌, ◌∙◌, ◌+◌, ◌∷◌, ◌<◌, ◌&&◌, ℕ, suc, List, length, drop, ap, subst, sym, arith}
use Rattle.std.proofs.{Math.Seq.drop-cons, lemmas.List.length-map}
use Rattle.rv_types.specs.declared.typed.Kind.{Kind}
use Rattle.rv_types.specs.declared.typed.Kind.TheVariants as kind
use Rattle.rv_diagram.specs.Nodes.{Valuation, value_of}
use Rattle.rv_diagram.proofs.Growing.{extends_refl, extends_trans, grows_extends}
use Rattle.rv_agreement.specs.{Agreement.bit_count, Trees.kind_at}
use Rattle.rv_control.specs.{Control.names_label, Control.inputs_named, Named.named}
use Rattle.rv_flat.specs.{declared.parts.FlatInput.FlatInput, FlatInstants.system_of, Steps.label_counts}
use Rattle.rv_bits.specs.{Bits.bit, Shown.refs_at}
use Rattle.rv_bits.proofs.Labels.{label_same, and_more, and_all, inputs_split, inputs_done}
use Rattle.rv_bits.proofs.{Listing.item_in, Making.bits_kept, Making.makes_to}
use Rattle.rv_bits.proofs.coded.inputs_named.Goals as goal

pub loop-number-preserved : goal.loop-number-preserved
loop-number-preserved c =
    let f = c.args.flat.now in
    let labels = label_counts f in
    let ks = (system_of f).inputs in
    let i = c.loop-number.number in
    let a = c.args.store.now in
    let s = c.loop-number.store in
    let mid = c.label_named.new.store in
    let new = c.and.new.self in
    let items = c.as_slice-input-items.result.now in
    let item = c.input-item.result in
    let before = c.loop-number.invariant in
    let long = ap (λ (l : List FlatInput). length l) c.as_slice-input-items.ensures in
    let low : i < length f.inputs = omega (arith, long) in
    let inside : i < length ks = omega (arith, low, length-map f.inputs (λ (y : FlatInput). y.kind)) in
    let same_kind : kind_at ks i ≡ item.kind = item_in (λ (y : FlatInput). y.kind) f.inputs items i item kind.Bool c.as_slice-input-items.ensures
    c.loop-number-test.true c.input-item.is in
    let left : drop i ks ≡ item.kind ∷ drop (i + 1) ks = drop-cons ks i kind.Bool inside
    ∙ (λ k. same_kind k ∷ drop (let z : suc i ≡ i + 1 = omega arith in z k) ks) in
    let bits : (v : Valuation) (b : ℕ) → b < bit_count labels item.kind → bit s.nodes c.list_at.result.now v b ≡ (named f v).input i b =
    λ v b lt. ap (λ (l : List ℕ). bit s.nodes l v b) c.list_at.ensures ∙ bits_kept a s (refs_at c.args.given.now i) before.extends (c.requires i low).found v b
    ∙ (c.requires i low).means b v (subst (λ (k : Kind). b < bit_count labels k) (sym same_kind) lt) in
    let made = makes_to s s mid (λ v. names_label labels item.kind (bit s.nodes c.list_at.result.now v))
    (λ v. names_label labels item.kind ((named f v).input i)) c.in_ok-one.one (extends_refl s) c.in_ok-one.ensures.ok
    (λ v. label_same labels item.kind (bit s.nodes c.list_at.result.now v) ((named f v).input i) (bits v)) in
    record {
      extends = extends_trans a s new before.extends (extends_trans s mid new made.extends (grows_extends mid new c.in_ok-all.ensures.ok.grows));
      is_ref = c.in_ok-all.ensures.ok.found;
      means = and_more s mid new c.loop-number.all c.in_ok-one.one c.in_ok-all.all (λ v. names_label labels item.kind ((named f v).input i))
          (λ v. inputs_named labels (named f v) (i + 1) (drop (i + 1) ks))
          (λ v. inputs_named labels (named f v) 0 ks) before.is_ref made c.in_ok-all.ensures.ok
          (λ v. (λ k. value_of s.nodes c.loop-number.all v && sym (inputs_split labels (named f v) ks i item.kind left) k) ∙ before.means v);
    }

pub returns-clause-ok : goal.returns-clause-ok
returns-clause-ok c =
    let f = c.args.flat.now in
    let ks = (system_of f).inputs in
    let s = c.loop-number.store in
    let long = ap (λ (l : List FlatInput). length l) c.as_slice-input-items.ensures in
    let before = c.loop-number.invariant in
    and_all c.args.store.now s c.loop-number.all (λ v. inputs_named (label_counts f) (named f v) 0 ks) before.extends before.is_ref
    (λ v. (λ k. value_of s.nodes c.loop-number.all v && sym (inputs_done (label_counts f) (named f v) ks c.loop-number.number
    (omega (arith, long, length-map f.inputs (λ (y : FlatInput). y.kind)))) k) ∙ before.means v)
