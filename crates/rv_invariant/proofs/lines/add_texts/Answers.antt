use Rattle.std.proofs.Common.{◌∷◌, [], ◌++◌, List, ℕ, take, ap, sym, ◌∙◌, subst, arith}
use Rattle.std.proofs.{lemmas.List.take_more, lemmas.List.take_all, lemmas.Option.slice_get_within, lemmas.Option.get_or_from_slice_get}
use Rattle.rv_invariant.specs.Writes.{Extends}
use Rattle.rv_invariant.proofs.Adding.{extends-none, extends-then, pushed}
use Rattle.rv_invariant.proofs.lines.add_texts.Goals as goal

pub loop-index-init : goal.loop-index-init
loop-index-init c = extends-none c.args.row.now

pub loop-index-preserved : goal.loop-index-preserved
loop-index-preserved c =
    let i = c.loop-index.index in
    let ts = c.args.texts.now in
    let t = c.at.result.now in
    let one = subst (λ (x : List ℕ). Extends c.loop-index.row c.push_field.new.self (x ∷ [])) (c.as_bytes.ensures.value ∙ c.as_str.ensures)
    (pushed c.loop-index.row c.push_field.new.self c.as_bytes.result.now c.in_ok-push_field.ensures.fields c.in_ok-push_field.ensures.partial) in
    let more = sym (take_more ts i t (slice_get_within ts i t c.at.ensures.value)
    ∙ ap (λ x. take i ts ++ x ∷ []) (get_or_from_slice_get ts i t t c.at.ensures.value)) in
    subst (Extends c.args.row.now c.push_field.new.self) more
    (extends-then c.args.row.now c.loop-index.row c.push_field.new.self (take i ts) (t ∷ []) c.loop-index.invariant one)

pub returns : goal.returns
returns c =
    subst (Extends c.args.row.now c.loop-index.row)
    (take_all c.loop-index.index c.args.texts.now (omega (arith, c.loop-index-test.false, c.len-index-end.ensures))) c.loop-index.invariant
