use Rattle.std.proofs.Common.{map, true, refl, sym, ◌∙◌, length}
use Rattle.rv_invfile.specs.{Forms.fixed, Ahead.here}
use Rattle.rv_invfile.proofs.OneRecord.{took_right, right, right_read, plain_kind, no_bad}
use Rattle.rv_invfile.proofs.singles.read_exactly.Goals as goal

pub returns-clause-read : goal.returns-clause-read
returns-clause-read c =
    let f = fixed (map (λ f. f.now) c.args.fields.now) in
    let s = c.args.records.now in
    let kind = plain_kind f.is_kind s.taken s.rest c.in_ok-expect_plain.ensures (sym c.is_row.ensures ∙ c.if-not-is_row.false) in
    took_right f (λ r. tt) s c.advance.result c.advance.new.self (right f s kind refl (no_bad (λ i. true) 0 (length (here s)) (λ i. refl))) c.advance.ensures.ok
    c.advance.ensures.memory

pub returns-clause-memory : goal.returns-clause-memory
returns-clause-memory c h =
    let f = fixed (map (λ f. f.now) c.args.fields.now) in
    let s = c.args.records.now in
    let kind = plain_kind f.is_kind s.taken s.rest c.in_ok-expect_plain.ensures (sym c.is_row.ensures ∙ c.if-not-is_row.false) in
    right_read f (λ r. tt) s (right f s kind refl (no_bad (λ i. true) 0 (length (here s)) (λ i. refl)))
