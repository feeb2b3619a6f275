use Rattle.std.proofs.Common.{List, false, [], ◌∷◌, ◌++◌, map, length, refl, sym, ap, ◌∙◌, arith}
use Rattle.std.proofs.{lemmas.Result.err_from_is_err_and, lemmas.List.map_push}
use Rattle.std.specs.Prelude.{Ok, Err}
use Rattle.rv_syntax.specs.declared.token.Mark.TheVariants as mark
use Rattle.rv_syntax.specs.declared.parser.Link.TheVariants as link
use Rattle.rv_syntax.specs.Grammar.{Function, Hash, Invoked}
use Rattle.rv_syntax.specs.Machine.{Brackets, Under, After, Else, Within, held, whole, Want, Have}
use Rattle.rv_syntax.specs.Reads.{from, next_frame, argued_from, held_of, linked, joined_held, sampled_held, chosen_held}
use Rattle.rv_syntax.specs.{declared.fault.Why.TheVariants.Offends, Limited.counts, Limited.leave, Marks.is_mark, Parse.starts}
use Rattle.rv_tree.specs.Tree.{Tree, tree_of}
use Rattle.rv_syntax.proofs.Complete.{below-eight}
use Rattle.rv_syntax.proofs.Steps.{operator-goes, operator-deep, bracket-goes, bracket-deep, none-begins, leaf-goes, leaf-none, link-goes, link-deep, leaves}
use Rattle.rv_syntax.proofs.Steps.{close-goes, comma-goes, last-goes, close-missing, last-missing, part-goes, part-missing, part-wanted, as-test, as-yes}
use Rattle.rv_syntax.proofs.Steps.{made-read, clock-missing, clock-goes, calling, call-goes, call-deep, call-none, hash-goes, hash-deep, hash-missing}
use Rattle.rv_syntax.proofs.Steps.{deep-stop, pass-stop, name-stop, stop-from, tail-short, wanted}
use Rattle.rv_syntax.proofs.parser.Parser.+parser.Goals as goal

-- ---- expr
pub expr-returns-in_err-left-clause-reads : goal.expr-returns-in_err-left-clause-reads
expr-returns-in_err-left-clause-reads t c =
    let p = err_from_is_err_and c.from_residual.result c.from_residual.ensures.1 in
    rw (p.1, p.2) (stop-from _ _ c.in_err-left.ensures.reads (λ x. (x.around, refl)))

pub expr-more-init : goal.expr-more-init
expr-more-init t c = record { shorter = c.in_ok-left.ensures.shorter; low = c.in_ok-left.ensures.reads.0; reads = λ x. c.in_ok-left.ensures.reads.1 x.around }

pub expr-returns-in_err-enter-clause-reads : goal.expr-returns-in_err-enter-clause-reads
expr-returns-in_err-enter-clause-reads t c =
    let p = err_from_is_err_and c.from_residual-in_err-enter.result c.from_residual-in_err-enter.ensures.1 in
    rw (p.1, p.2) (deep-stop _ _ c.in_err-enter.ensures (λ le x.
    c.more.invariant.reads x ∙ link-deep c.more.self c.args.least c.in-Some.link (held_of c.more.left) c.in-Some.ensures le x.around x.wants))

pub expr-returns-in_err-left-2-clause-reads : goal.expr-returns-in_err-left-2-clause-reads
expr-returns-in_err-left-2-clause-reads t c =
    let p = err_from_is_err_and c.from_residual-in_err-left-2.result c.from_residual-in_err-left-2.ensures.1 in
    rw (p.1, p.2) (stop-from _ _ c.in_err-left-2.ensures.reads (λ x. (
      x.around,
      c.more.invariant.reads x
          ∙ link-goes c.more.self c.args.least c.in-Some.link (held_of c.more.left) c.in-Some.ensures c.enter.new.self c.in_ok-enter.ensures x.around x.wants,
    )))

pub expr-more-preserved : goal.expr-more-preserved
expr-more-preserved t c = record {
  shorter = omega (arith, c.in_ok-left-2.ensures.shorter, ap length c.in_ok-enter.ensures.1, tail-short c.more.self.rest, c.more.invariant.shorter);
  low = c.in_ok-left-2.ensures.reads.0;
  reads = λ x. c.more.invariant.reads x
      ∙ link-goes c.more.self c.args.least c.in-Some.link (held_of c.more.left) c.in-Some.ensures c.enter.new.self c.in_ok-enter.ensures x.around x.wants
      ∙ c.in_ok-left-2.ensures.reads.1 x.around;
}

pub expr-returns-clause-reads : goal.expr-returns-clause-reads
expr-returns-clause-reads t c = λ x.
    c.more.invariant.reads x ∙ leaves c.more.self c.args.least (held_of c.more.left) c.more.invariant.low c.in_default.ensures x.around x.wants

-- ---- prefixed
pub prefixed-returns-in_err-enter-clause-reads : goal.prefixed-returns-in_err-enter-clause-reads
prefixed-returns-in_err-enter-clause-reads t c =
    let p = err_from_is_err_and c.from_residual.result c.from_residual.ensures.1 in
    rw (p.1, p.2) (deep-stop _ _ c.in_err-enter.ensures (operator-deep c.args.self.now c.requires (λ h s. refl) (λ w e. e)))

pub prefixed-returns-in_err-inner-clause-reads : goal.prefixed-returns-in_err-inner-clause-reads
prefixed-returns-in_err-inner-clause-reads t c =
    let p = err_from_is_err_and c.from_residual-in_err-inner.result c.from_residual-in_err-inner.ensures.1 in
    rw (p.1, p.2) (stop-from _ _ c.in_err-inner.ensures.reads (λ x. (
      wanted 9 (Under c.args.op c.args.at ∷ x.frames) x.outside refl,
      operator-goes c.args.self.now c.requires (λ h s. refl) (λ w e. e) c.enter.new.self c.in_ok-enter.ensures x,
    )))

pub prefixed-returns-clause-reads : goal.prefixed-returns-clause-reads
prefixed-returns-clause-reads t c = (
  omega arith,
  λ x.
      operator-goes c.args.self.now c.requires (λ h s. refl) (λ w e. e) c.enter.new.self c.in_ok-enter.ensures x
      ∙ c.in_ok-inner.ensures.reads (wanted 9 (Under c.args.op c.args.at ∷ x.frames) x.outside refl)
      ∙ ap (λ e. from c.expr.new.self (Have (held 9 c.in_ok-inner.inner.is_open e)) x) (sym c.in_ok-applied.ensures.value),
)

-- ---- bracketed
pub bracketed-returns-in_err-enter-clause-reads : goal.bracketed-returns-in_err-enter-clause-reads
bracketed-returns-in_err-enter-clause-reads t c =
    let p = err_from_is_err_and c.from_residual.result c.from_residual.ensures.1 in
    rw (p.1, p.2) (deep-stop _ _ c.in_err-enter.ensures (bracket-deep c.args.self.now c.requires))

pub bracketed-returns-in_err-inner-clause-reads : goal.bracketed-returns-in_err-inner-clause-reads
bracketed-returns-in_err-inner-clause-reads t c =
    let p = err_from_is_err_and c.from_residual-in_err-inner.result c.from_residual-in_err-inner.ensures.1 in
    rw (p.1, p.2) (stop-from _ _ c.in_err-inner.ensures.reads (λ x. (
      wanted 0 (Brackets ∷ x.frames) (c.args.self.now.depth ∷ x.outside) refl,
      bracket-goes c.args.self.now c.requires c.enter.new.self c.in_ok-enter.ensures x,
    )))

pub bracketed-returns-then-takes-clause-reads : goal.bracketed-returns-then-takes-clause-reads
bracketed-returns-then-takes-clause-reads t c = (
  omega arith,
  λ x.
      bracket-goes c.args.self.now c.requires c.enter.new.self c.in_ok-enter.ensures x
      ∙ c.in_ok-inner.ensures.reads (wanted 0 (Brackets ∷ x.frames) (c.args.self.now.depth ∷ x.outside) refl)
      ∙ ap (λ d. leave (counts c.expr.new.self.depth (d ∷ x.outside)) (held_of c.in_ok-inner.inner) (Brackets ∷ x.frames) c.expr.new.self.rest)
      (sym c.depth-outside.ensures.value)
      ∙ close-goes c.depth-outside.result c.expr.new.self c.takes.new.self (held_of c.in_ok-inner.inner) c.depth-outside.ensures.within c.if-takes.ensures x,
)

pub bracketed-returns-else-takes-clause-reads : goal.bracketed-returns-else-takes-clause-reads
bracketed-returns-else-takes-clause-reads t c =
    let o = c.if-takes.ensures in
    rw c.fault.ensures (
      refl,
      λ x.
          bracket-goes c.args.self.now c.requires c.enter.new.self c.in_ok-enter.ensures x
          ∙ c.in_ok-inner.ensures.reads (wanted 0 (Brackets ∷ x.frames) (c.args.self.now.depth ∷ x.outside) refl)
          ∙ close-missing c.expr.new.self.rest (counts c.expr.new.self.depth (c.args.self.now.depth ∷ x.outside)) (held_of c.in_ok-inner.inner) x.frames o.0
          ∙ ap (λ a. Err (Offends, a.rest)) (sym o.1),
    )

-- ---- operand
pub operand-returns-in-Other-clause-reads : goal.operand-returns-in-Other-clause-reads
operand-returns-in-Other-clause-reads t c = rw c.fault.ensures (refl, λ x. none-begins c.args.self.now (sym c.in-Other.ensures) x)

-- ---- linked
pub linked-returns-in_err-right-in-Between-clause-reads : goal.linked-returns-in_err-right-in-Between-clause-reads
linked-returns-in_err-right-in-Between-clause-reads t c =
    let p = err_from_is_err_and c.from_residual-in_err-right-in-Between.result c.from_residual-in_err-right-in-Between.ensures.1 in
    rw (p.1, p.2, c.in-Between.is) (stop-from _ _ c.in_err-right-in-Between.ensures.reads (λ x.
    (wanted c.right_need.result (After c.in-Between.op c.in-Between.at (tree_of c.args.left.tree) ∷ x.frames) x.outside (sym c.right_need.ensures), refl)))

pub choice-returns-in_err-enter-clause-reads : goal.choice-returns-in_err-enter-clause-reads
choice-returns-in_err-enter-clause-reads t c =
    let p = err_from_is_err_and c.from_residual.result c.from_residual.ensures.1 in
    rw (p.1, p.2) (deep-stop _ _ c.in_err-enter.ensures (operator-deep c.args.self.now c.requires (λ h s. refl) (λ w e. e)))

pub choice-returns-in_err-test-clause-reads : goal.choice-returns-in_err-test-clause-reads
choice-returns-in_err-test-clause-reads t c =
    let p = err_from_is_err_and c.from_residual-in_err-test.result c.from_residual-in_err-test.ensures.1 in
    rw (p.1, p.2) (stop-from _ _ c.in_err-test.ensures.reads (λ x. (
      as-test c.args.at x,
      operator-goes c.args.self.now c.requires (λ h s. refl) (λ w e. e) c.enter.new.self c.in_ok-enter.ensures x,
    )))

pub choice-returns-in_err-yes-clause-reads : goal.choice-returns-in_err-yes-clause-reads
choice-returns-in_err-yes-clause-reads t c =
    let p = err_from_is_err_and c.from_residual-in_err-yes.result c.from_residual-in_err-yes.ensures.1 in
    rw (p.1, p.2) (stop-from _ _ c.in_err-yes.ensures.reads (λ x. (
      as-yes c.args.at (tree_of c.in_ok-test.test) x,
      operator-goes c.args.self.now c.requires (λ h s. refl) (λ w e. e) c.enter.new.self c.in_ok-enter.ensures x
          ∙ c.in_ok-test.ensures.reads (as-test c.args.at x),
    )))

pub choice-returns-in_err-no-clause-reads : goal.choice-returns-in_err-no-clause-reads
choice-returns-in_err-no-clause-reads t c =
    let p = err_from_is_err_and c.from_residual-in_err-no.result c.from_residual-in_err-no.ensures.1 in
    rw (p.1, p.2) (stop-from _ _ c.in_err-no.ensures.reads (λ x. (
      wanted 0 (Else c.args.at (tree_of c.in_ok-test.test) (tree_of c.in_ok-yes.yes) ∷ x.frames) x.outside refl,
      operator-goes c.args.self.now c.requires (λ h s. refl) (λ w e. e) c.enter.new.self c.in_ok-enter.ensures x
          ∙ c.in_ok-test.ensures.reads (as-test c.args.at x) ∙ c.in_ok-yes.ensures.reads (as-yes c.args.at (tree_of c.in_ok-test.test) x),
    )))

pub choice-returns-clause-reads : goal.choice-returns-clause-reads
choice-returns-clause-reads t c = made-read c.args.self.now c.expr.new.self Want
    (chosen_held c.args.at (tree_of c.in_ok-test.test) (tree_of c.in_ok-yes.yes) (tree_of c.in_ok-no.no.tree)) c.chosen.result (omega arith)
    c.chosen.ensures.value c.chosen.ensures.memory
    (λ x. operator-goes c.args.self.now c.requires (λ h s. refl) (λ w e. e) c.enter.new.self c.in_ok-enter.ensures x
    ∙ c.in_ok-test.ensures.reads (as-test c.args.at x) ∙ c.in_ok-yes.ensures.reads (as-yes c.args.at (tree_of c.in_ok-test.test) x)
    ∙ c.in_ok-no.ensures.reads (wanted 0 (Else c.args.at (tree_of c.in_ok-test.test) (tree_of c.in_ok-yes.yes) ∷ x.frames) x.outside refl))

-- ---- part
pub part-returns-in_err-part-clause-reads : goal.part-returns-in_err-part-clause-reads
part-returns-in_err-part-clause-reads t c =
    let p = err_from_is_err_and c.from_residual.result c.from_residual.ensures.1 in
    rw (p.1, p.2) (stop-from _ _ c.in_err-part.ensures.reads (λ x. (part-wanted c.args.mark x, refl)))

pub part-returns-in_err-pass-clause-reads : goal.part-returns-in_err-pass-clause-reads
part-returns-in_err-pass-clause-reads t c =
    let p = err_from_is_err_and c.from_residual-in_err-pass.result c.from_residual-in_err-pass.ensures.1 in
    rw (p.1, p.2) (pass-stop c.args.mark _ _ _ c.in_err-pass.ensures (λ n x.
    c.in_ok-part.ensures.reads (part-wanted c.args.mark x) ∙ part-missing c.args.mark c.expr.new.self (held_of c.in_ok-part.part) n x))

pub part-returns-clause-reads : goal.part-returns-clause-reads
part-returns-clause-reads t c = λ x.
    c.in_ok-part.ensures.reads (part-wanted c.args.mark x)
    ∙ part-goes c.args.mark c.expr.new.self c.pass.new.self (held_of c.in_ok-part.part) c.in_ok-pass.ensures x
    ∙ ap (λ e. from c.pass.new.self (λ s. Want (next_frame x.part (tree_of e) ∷ s)) x.around) (sym c.in_ok-new.ensures)

pub hashed-returns-in_err-enter-clause-reads : goal.hashed-returns-in_err-enter-clause-reads
hashed-returns-in_err-enter-clause-reads t c =
    let p = err_from_is_err_and c.from_residual.result c.from_residual.ensures.1 in
    rw (p.1, p.2) (deep-stop _ _ c.in_err-enter.ensures (operator-deep c.args.self.now c.requires (λ h s. refl) (λ w e. e)))

pub hashed-returns-then-not-sees-clause-reads : goal.hashed-returns-then-not-sees-clause-reads
hashed-returns-then-not-sees-clause-reads t c =
    rw c.fault.ensures (
      refl,
      λ x.
          operator-goes c.args.self.now c.requires (λ h s. refl) (λ w e. e) c.enter.new.self c.in_ok-enter.ensures x
          ∙ hash-missing c.enter.new.self.rest (counts c.enter.new.self.depth x.outside) c.args.at x.frames (sym c.sees.ensures ∙ c.if-not-sees.true),
    )

pub hashed-returns-in_err-enter-2-clause-reads : goal.hashed-returns-in_err-enter-2-clause-reads
hashed-returns-in_err-enter-2-clause-reads t c =
    let p = err_from_is_err_and c.from_residual-in_err-enter-2.result c.from_residual-in_err-enter-2.ensures.1 in
    rw (p.1, p.2) (deep-stop _ _ c.in_err-enter-2.ensures (λ le x.
    operator-goes c.args.self.now c.requires (λ h s. refl) (λ w e. e) c.enter.new.self c.in_ok-enter.ensures x
    ∙ hash-deep c.enter.new.self c.args.at (sym c.sees.ensures ∙ c.if-not-sees.false) le x))

pub hashed-returns-in_err-arguments-clause-reads : goal.hashed-returns-in_err-arguments-clause-reads
hashed-returns-in_err-arguments-clause-reads t c =
    let p = err_from_is_err_and c.from_residual-in_err-arguments.result c.from_residual-in_err-arguments.ensures.1 in
    rw (p.1, p.2) (stop-from _ _ c.in_err-arguments.ensures.reads (λ x. (
      calling (Hash c.args.at) x,
      operator-goes c.args.self.now c.requires (λ h s. refl) (λ w e. e) c.enter.new.self c.in_ok-enter.ensures x
          ∙ hash-goes c.enter.new.self c.enter-2.new.self c.args.at (sym c.sees.ensures ∙ c.if-not-sees.false) c.in_ok-enter-2.ensures x
          ∙ ap (λ d. argued_from d [] c.enter-2.new.self (calling (Hash c.args.at) x)) (sym c.depth-outside.ensures.value),
    )))

pub hashed-returns-clause-reads : goal.hashed-returns-clause-reads
hashed-returns-clause-reads t c = (
  omega arith,
  λ x.
      operator-goes c.args.self.now c.requires (λ h s. refl) (λ w e. e) c.enter.new.self c.in_ok-enter.ensures x
      ∙ hash-goes c.enter.new.self c.enter-2.new.self c.args.at (sym c.sees.ensures ∙ c.if-not-sees.false) c.in_ok-enter-2.ensures x
      ∙ ap (λ d. argued_from d [] c.enter-2.new.self (calling (Hash c.args.at) x)) (sym c.depth-outside.ensures.value)
      ∙ c.in_ok-arguments.ensures.reads (calling (Hash c.args.at) x) ∙ ap (λ e. from c.arguments.new.self (Have (held 10 false e)) x) (sym c.counted.ensures),
)

pub named-returns-in_err-name-clause-reads : goal.named-returns-in_err-name-clause-reads
named-returns-in_err-name-clause-reads t c =
    let p = err_from_is_err_and c.from_residual.result c.from_residual.ensures.1 in
    rw (p.1, p.2) (call-none _ _ c.args.self.now c.inner_name.new.self (sym c.sees_call.ensures ∙ c.if-sees_call.true) c.in_err-name.ensures.takes)

pub named-returns-in_err-enter-clause-reads : goal.named-returns-in_err-enter-clause-reads
named-returns-in_err-enter-clause-reads t c =
    let p = err_from_is_err_and c.from_residual-in_err-enter.result c.from_residual-in_err-enter.ensures.1 in
    rw (p.1, p.2) (deep-stop _ _ c.in_err-enter.ensures
    (call-deep c.args.self.now c.inner_name.new.self c.in_ok-name.name (sym c.sees_call.ensures ∙ c.if-sees_call.true) c.in_ok-name.ensures.takes))

pub named-returns-in_err-arguments-clause-reads : goal.named-returns-in_err-arguments-clause-reads
named-returns-in_err-arguments-clause-reads t c =
    let p = err_from_is_err_and c.from_residual-in_err-arguments.result c.from_residual-in_err-arguments.ensures.1 in
    rw (p.1, p.2) (stop-from _ _ c.in_err-arguments.ensures.reads (λ x. (
      calling (Function c.in_ok-name.name) x,
      call-goes c.args.self.now c.inner_name.new.self c.enter.new.self c.in_ok-name.name (sym c.sees_call.ensures ∙ c.if-sees_call.true)
          c.in_ok-name.ensures.takes c.in_ok-enter.ensures x
          ∙ ap (λ d. argued_from d [] c.enter.new.self (calling (Function c.in_ok-name.name) x)) (sym c.depth-outside.ensures.value),
    )))

pub named-returns-then-sees_call-clause-reads : goal.named-returns-then-sees_call-clause-reads
named-returns-then-sees_call-clause-reads t c = (
  omega arith,
  λ x.
      call-goes c.args.self.now c.inner_name.new.self c.enter.new.self c.in_ok-name.name (sym c.sees_call.ensures ∙ c.if-sees_call.true)
      c.in_ok-name.ensures.takes c.in_ok-enter.ensures x
      ∙ ap (λ d. argued_from d [] c.enter.new.self (calling (Function c.in_ok-name.name) x)) (sym c.depth-outside.ensures.value)
      ∙ c.in_ok-arguments.ensures.reads (calling (Function c.in_ok-name.name) x)
      ∙ ap (λ e. from c.arguments.new.self (Have (held 10 false e)) x) (sym c.called.ensures),
)

pub named-returns-in_err-leaf-clause-reads : goal.named-returns-in_err-leaf-clause-reads
named-returns-in_err-leaf-clause-reads t c =
    let p = err_from_is_err_and c.from_residual-in_err-leaf.result c.from_residual-in_err-leaf.ensures.1 in
    rw (p.1, p.2) (leaf-none _ _ c.args.self.now c.leaf.new.self c.requires c.in_err-leaf.ensures.takes)

pub named-returns-clause-reads : goal.named-returns-clause-reads
named-returns-clause-reads t c =
    let l = c.in_ok-leaf.ensures.takes in (
      omega arith,
      λ x. leaf-goes c.args.self.now c.leaf.new.self l.0 (tree_of c.in_ok-leaf.leaf) c.requires (sym c.sees_call.ensures ∙ c.if-sees_call.false) l.1
          l.2 l.3 l.4 x,
    )

pub arguments-returns-in_err-last-clause-reads : goal.arguments-returns-in_err-last-clause-reads
arguments-returns-in_err-last-clause-reads t c =
    let p = err_from_is_err_and c.from_residual.result c.from_residual.ensures.1 in
    rw (p.1, p.2) (stop-from _ _ c.in_err-last.ensures.reads (λ x.
    (wanted 0 (Within x.callee [] ∷ x.around.frames) (c.args.outside ∷ x.around.outside) refl, refl)))

pub arguments-more-init : goal.arguments-more-init
arguments-more-init t c = record {
  shorter = c.in_ok-last.ensures.shorter;
  reads = λ x. c.in_ok-last.ensures.reads (wanted 0 (Within x.callee [] ∷ x.around.frames) (c.args.outside ∷ x.around.outside) refl)
      ∙ ap (λ l. leave (counts c.expr.new.self.depth (c.args.outside ∷ x.around.outside)) (held_of c.in_ok-last.last)
      (Within x.callee (map tree_of l) ∷ x.around.frames) c.expr.new.self.rest) (sym c.new-arguments.ensures);
}

pub arguments-returns-in_err-last-2-clause-reads : goal.arguments-returns-in_err-last-2-clause-reads
arguments-returns-in_err-last-2-clause-reads t c =
    let p = err_from_is_err_and c.from_residual-in_err-last-2.result c.from_residual-in_err-last-2.ensures.1 in
    rw (p.1, p.2) (stop-from _ _ c.in_err-last-2.ensures.reads (λ x. (
      wanted 0 (Within x.callee ((map tree_of c.more.arguments) ++ tree_of c.more.last.tree ∷ []) ∷ x.around.frames) (c.args.outside ∷ x.around.outside) refl,
      c.more.invariant.reads x
          ∙ comma-goes c.args.outside c.more.self c.takes.new.self (held_of c.more.last) (map tree_of c.more.arguments) c.requires c.more-test.ensures x,
    )))

pub arguments-more-preserved : goal.arguments-more-preserved
arguments-more-preserved t c = record {
  shorter = omega (arith, c.in_ok-last-2.ensures.shorter, ap length c.more-test.ensures.1, tail-short c.more.self.rest, c.more.invariant.shorter);
  reads = λ x.
      let leaving = λ (l : List Tree). leave (counts c.expr-in-more.new.self.depth (c.args.outside ∷ x.around.outside)) (held_of c.in_ok-last-2.last)
      (Within x.callee l ∷ x.around.frames) c.expr-in-more.new.self.rest in
      c.more.invariant.reads x
      ∙ comma-goes c.args.outside c.more.self c.takes.new.self (held_of c.more.last) (map tree_of c.more.arguments) c.requires c.more-test.ensures x
      ∙ c.in_ok-last-2.ensures.reads (wanted 0 (Within x.callee ((map tree_of c.more.arguments) ++ tree_of c.more.last.tree ∷ []) ∷ x.around.frames)
      (c.args.outside ∷ x.around.outside) refl)
      ∙ ap leaving (sym (map_push tree_of c.more.arguments c.more.last.tree)) ∙ ap (λ l. leaving (map tree_of l)) (sym c.in_ok-push.ensures.ok);
}

pub arguments-returns-then-takes-clause-reads : goal.arguments-returns-then-takes-clause-reads
arguments-returns-then-takes-clause-reads t c = λ x.
    c.more.invariant.reads x
    ∙ ap (λ a. leave (counts a.depth (c.args.outside ∷ x.around.outside)) (held_of c.more.last)
    (Within x.callee (map tree_of c.more.arguments) ∷ x.around.frames) a.rest) (sym c.more-test.ensures.1)
    ∙ last-goes c.args.outside c.takes.new.self c.takes-2.new.self (held_of c.more.last) (map tree_of c.more.arguments) (omega arith) c.if-takes.ensures x
    ∙ ap (λ l. from c.takes-2.new.self (Have (whole (Invoked x.callee l))) x.around)
    (sym (map_push tree_of c.more.arguments c.more.last.tree) ∙ ap (map tree_of) (sym c.in_ok-push-2.ensures.ok))

pub arguments-returns-else-takes-clause-reads : goal.arguments-returns-else-takes-clause-reads
arguments-returns-else-takes-clause-reads t c =
    let o = c.if-takes.ensures in
    rw c.fault.ensures (
      refl,
      λ x.
          c.more.invariant.reads x
          ∙ ap (λ a. leave (counts a.depth (c.args.outside ∷ x.around.outside)) (held_of c.more.last)
          (Within x.callee (map tree_of c.more.arguments) ∷ x.around.frames) a.rest) (sym c.more-test.ensures.1)
          ∙ last-missing c.takes.new.self.rest (counts c.takes.new.self.depth (c.args.outside ∷ x.around.outside)) x.callee (map tree_of c.more.arguments)
          (held_of c.more.last) x.around.frames (ap (λ a. starts (is_mark mark.Comma) a.rest) c.more-test.ensures.1 ∙ c.more-test.ensures.0) o.0
          ∙ ap (λ a. Err (Offends, a.rest)) (sym o.1),
    )

pub linked-returns-in_ok-right-in-Between-clause-reads : goal.linked-returns-in_ok-right-in-Between-clause-reads
linked-returns-in_ok-right-in-Between-clause-reads t c =
    rw c.in-Between.is (made-read c.args.self.now c.expr.new.self (linked (link.Between c.in-Between.op c.in-Between.at) (held_of c.args.left))
    (joined_held c.in-Between.op c.in-Between.at (tree_of c.in_ok-left.left) (held_of c.in_ok-right-in-Between.right)) c.joined.result
    (omega (arith, below-eight c.in-Between.op)) c.joined.ensures.value c.joined.ensures.memory
    (λ x. c.in_ok-right-in-Between.ensures.reads (wanted c.right_need.result (After c.in-Between.op c.in-Between.at (tree_of c.args.left.tree) ∷ x.frames)
    x.outside (sym c.right_need.ensures))
    ∙ ap (λ e. from c.expr.new.self (Have (joined_held c.in-Between.op c.in-Between.at (tree_of e) (held_of c.in_ok-right-in-Between.right))) x)
    (sym c.in_ok-left.ensures)))

pub linked-returns-in_err-clock-in-When-clause-reads : goal.linked-returns-in_err-clock-in-When-clause-reads
linked-returns-in_err-clock-in-When-clause-reads t c =
    let p = err_from_is_err_and c.from_residual-in_err-clock-in-When.result c.from_residual-in_err-clock-in-When.ensures.1 in
    rw (p.1, p.2, c.in-When.is) (name-stop _ _ _ c.in_err-clock-in-When.ensures.takes (λ n x.
    clock-missing c.args.self.now.rest (counts c.args.self.now.depth x.outside) c.in-When.at (tree_of c.args.left.tree) x.frames n))

pub linked-returns-in_ok-clock-in-When-clause-reads : goal.linked-returns-in_ok-clock-in-When-clause-reads
linked-returns-in_ok-clock-in-When-clause-reads t c =
    let p = c.in_ok-clock-in-When.ensures.takes in
    rw c.in-When.is (made-read c.args.self.now c.inner_name.new.self (linked (link.When c.in-When.at) (held_of c.args.left))
    (sampled_held c.in-When.at (tree_of c.in_ok-left.left) c.in_ok-clock-in-When.clock) (Ok c.sampled.result) (omega arith)
    c.sampled.ensures tt
    (λ x. clock-goes c.args.self.now c.inner_name.new.self c.in-When.at (tree_of c.args.left.tree) c.in_ok-clock-in-When.clock p.0 p.1 p.2 x
    ∙ ap (λ e. from c.inner_name.new.self (Have (sampled_held c.in-When.at (tree_of e) c.in_ok-clock-in-When.clock)) x) (sym c.in_ok-left.ensures)))

pub operand-returns-in-Operand-clause-reads : goal.operand-returns-in-Operand-clause-reads
operand-returns-in-Operand-clause-reads t c = c.named.ensures.reads

pub operand-returns-in-Before-clause-reads : goal.operand-returns-in-Before-clause-reads
operand-returns-in-Before-clause-reads t c = c.prefixed.ensures.reads

pub operand-returns-in-Opens-clause-reads : goal.operand-returns-in-Opens-clause-reads
operand-returns-in-Opens-clause-reads t c = c.bracketed.ensures.reads

pub operand-returns-in-Asks-clause-reads : goal.operand-returns-in-Asks-clause-reads
operand-returns-in-Asks-clause-reads t c = c.choice.ensures.reads

pub operand-returns-in-Counts-clause-reads : goal.operand-returns-in-Counts-clause-reads
operand-returns-in-Counts-clause-reads t c = c.hashed.ensures.reads
