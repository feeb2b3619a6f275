use Rattle.std.proofs.Common.{◌≡◌, ◌∙◌, ℕ, nat_lt, List, length, map, ap, sym, arith}
use Rattle.std.proofs.lemmas.Bool.{le-ltb}
use Rattle.std.specs.Prelude.{slice_index_or}
use Rattle.rv_types.specs.{declared.typed.Kind.Kind, Variables.bits_for}
use Rattle.rv_meaning.specs.Codes.{code}
use Rattle.rv_control.specs.Control.{names_label}
use Rattle.rv_symbolic.specs.Growing.{Makes}
use Rattle.rv_diagram.proofs.Growing.{extends_refl}
use Rattle.rv_symbolic.proofs.Extending.{map_ok}
use Rattle.rv_bits.specs.Bits.{bit}
use Rattle.rv_bits.proofs.{Making.makes_to, Naming.few_at, Naming.mapped_at, Naming.mapped_past, Labels.constant_made}
use Rattle.rv_bits.proofs.coded.label_named.Goals as goal

pub names_label-requires-clause-few : goal.names_label-requires-clause-few
names_label-requires-clause-few c = omega (
  arith,
  c.len.ensures,
  few_at 256 c.args.labels.now c.in-Labels.number c.in-Some.own.now c.requires.few
      (sym c.in-Some.ensures.value),
)

pub returns-in-Some-clause-ok : goal.returns-in-Some-clause-ok
returns-in-Some-clause-ok c =
    let a = c.args.store.now in
    let b = c.names_label.new.store in
    let labels = map (λ (ls : List (List ℕ)). length ls) c.args.labels.now in
    let count : c.len.result ≡ slice_index_or labels c.in-Labels.number 0 =
    c.len.ensures ∙ sym (mapped_at (λ (ls : List (List ℕ)). length ls) c.args.labels.now c.in-Labels.number 0 c.in-Some.own.now (sym c.in-Some.ensures.value))
    in
    map_ok c.names_label.result (Makes a b (λ v. nat_lt (code (bits_for c.len.result) (bit a.nodes c.args.bits.now v)) c.len.result)) _
    (λ r made. makes_to a a b (λ v. nat_lt (code (bits_for c.len.result) (bit a.nodes c.args.bits.now v)) c.len.result)
    (λ v. names_label labels c.args.kind (bit a.nodes c.args.bits.now v)) r (extends_refl a) made
    (λ v. (λ i. nat_lt (code (bits_for (count i)) (bit a.nodes c.args.bits.now v)) (count i))
    ∙ ap (λ (k : Kind). names_label labels k (bit a.nodes c.args.bits.now v)) (sym c.in-Labels.is)))
    c.names_label.ensures.ok

pub returns-in-None-clause-ok : goal.returns-in-None-clause-ok
returns-in-None-clause-ok c =
    let a = c.args.store.now in
    let labels = map (λ (ls : List (List ℕ)). length ls) c.args.labels.now in
    let count : 0 ≡ slice_index_or labels c.in-Labels.number 0 = sym (mapped_past (λ (ls : List (List ℕ)). length ls) c.args.labels.now c.in-Labels.number 0
    (sym c.in-None.ensures.value)) in
    constant_made a (λ v. names_label labels c.args.kind (bit a.nodes c.args.bits.now v)) c.constant-in-None.result c.constant-in-None.ensures.found
    (λ v. c.constant-in-None.ensures.means v ∙ sym (le-ltb (code (bits_for 0) (bit a.nodes c.args.bits.now v)) 0 (omega arith))
    ∙ (λ i. nat_lt (code (bits_for (count i)) (bit a.nodes c.args.bits.now v)) (count i))
    ∙ ap (λ (k : Kind). names_label labels k (bit a.nodes c.args.bits.now v)) (sym c.in-Labels.is))
