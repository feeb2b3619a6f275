use Rattle.std.proofs.Common.{◌≡◌, ◌<◌, arith, ap, length, get_or, refl, IsTrue, rules}
use Rattle.std.proofs.lemmas.Option.{slice_get_read}
use Rattle.rv_proofs.proofs.Each.{each-more, each-all}
use Rattle.rv_ranges.specs.Documents.{IsRangedEntry}
use Rattle.rv_ranges.proofs.entries.are_entries.Goals as goal

pub loop-entry-preserved : goal.loop-entry-preserved
loop-entry-preserved c =
    let yes : IsTrue c.is_entry.result = search rules in
    each-more (IsRangedEntry c.args.bounds.now c.args.premises) c.args.entries.now c.loop-entry.entry-index c.entry-item.result
    (omega (arith, ap length c.as_slice-entry-items.ensures)) (search rules) c.loop-entry.invariant (c.is_entry.ensures.0 yes)

pub returns : goal.returns
returns c = (
  (λ yes. each-all (IsRangedEntry c.args.bounds.now c.args.premises) c.args.entries.now c.loop-entry.entry-index
      (omega (arith, ap length c.as_slice-entry-items.ensures)) c.loop-entry.invariant),
  (λ are. search rules),
)

pub returns-then-not-is_entry : goal.returns-then-not-is_entry
returns-then-not-is_entry c = (
  (λ untrue. absurd (cc)),
  (λ are.
      let inside : c.loop-entry.entry-index < length c.args.entries.now = omega (arith, ap length c.as_slice-entry-items.ensures) in
      let is : c.entry-item.result ≡ get_or c.args.entries.now c.loop-entry.entry-index c.entry-item.result = search rules in
      let at = slice_get_read c.args.entries.now (length c.args.entries.now) c.loop-entry.entry-index c.entry-item.result refl inside is in
      let yes = c.is_entry.ensures.1 (are c.loop-entry.entry-index c.entry-item.result at) in
      search rules),
)
