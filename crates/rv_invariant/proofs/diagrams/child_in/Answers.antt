use Rattle.std.proofs.Common.{◌+◌, ◌∙◌, ap, sym, true, false}
use Rattle.rv_invfile.specs.{Ahead.here, Texts.natural}
use Rattle.rv_invariant.proofs.Bounds.{child-is}
use Rattle.rv_invariant.proofs.diagrams.child_in.Goals as goal

pub returns-then-is_later : goal.returns-then-is_later
returns-then-is_later c = (
  child-is (here c.args.records.now) c.args.triples.now c.requires.before c.args.index (c.len.result + 2) c.in-Some.child c.args.variable c.field.result.now
      true
      c.requires.variable c.field.ensures (ap (λ n. n + 2) c.len.ensures) c.in-Some.ensures.0 c.in-Some.ensures.1 (sym c.if-is_later.true ∙ c.is_later.ensures),
  c.in-Some.ensures.1 ∙ ap natural c.field.ensures,
)

pub returns-else-is_later : goal.returns-else-is_later
returns-else-is_later c =
    child-is (here c.args.records.now) c.args.triples.now c.requires.before c.args.index (c.len.result + 2) c.in-Some.child c.args.variable c.field.result.now
    false
    c.requires.variable c.field.ensures (ap (λ n. n + 2) c.len.ensures) c.in-Some.ensures.0 c.in-Some.ensures.1 (sym c.if-is_later.false ∙ c.is_later.ensures)
