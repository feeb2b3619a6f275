use Rattle.std.proofs.Common.{◌∙◌, ap, sym, length, map, List, ℕ, arith}
use Rattle.rv_types.specs.Variables.{bits_for}
use Rattle.rv_agreement.specs.Agreement.{bit_count}
use Rattle.rv_bits.proofs.Naming.{few_at, mapped_at, mapped_past}
use Rattle.rv_bits.proofs.names.bits_of_kind.Goals as goal

pub label_bits-requires : goal.label_bits-requires
label_bits-requires c = omega (
  arith,
  c.len.ensures,
  few_at 256 c.args.labels.now c.in-Labels.number c.in-Some.labels.now c.requires
      (sym c.in-Some.ensures.value),
)

pub returns-in-Some : goal.returns-in-Some
returns-in-Some c =
    c.label_bits.ensures ∙ ap bits_for (c.len.ensures ∙ sym (mapped_at (λ (ls : List (List ℕ)). length ls) c.args.labels.now c.in-Labels.number 0
    c.in-Some.labels.now (sym c.in-Some.ensures.value)))
    ∙ ap (bit_count (map (λ (ls : List (List ℕ)). length ls) c.args.labels.now)) (sym c.in-Labels.is)

pub returns-in-None : goal.returns-in-None
returns-in-None c =
    ap bits_for (sym (mapped_past (λ (ls : List (List ℕ)). length ls) c.args.labels.now c.in-Labels.number 0 (sym c.in-None.ensures.value)))
    ∙ ap (bit_count (map (λ (ls : List (List ℕ)). length ls) c.args.labels.now)) (sym c.in-Labels.is)
