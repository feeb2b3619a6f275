use Rattle.std.proofs.Common.{◌≡◌, ◌∙◌, ◌<◌, ◌+◌, ◌-◌, ◌++◌, Bool, take, drop, length, sym, ap, arith, append_assoc}
use Rattle.std.proofs.lemmas.List.{append-nil, take_rest}
use Rattle.rv_syntax.specs.Lexing.{lex, cut, kind_of, emitted, ends_in_tel}
use Rattle.rv_syntax.proofs.Lexed.{piece-at, lex-past}
use Rattle.rv_syntax.proofs.lexer.tokens_of.Goals as goal

pub more-preserved : goal.more-preserved
more-preserved c =
    let h : c.more.at < length c.args.bytes.now = omega arith in
    let k = c.cut-shape.result in
    let tel : Bool = c.more.after_tel in
    let from : take (length c.args.bytes.now - c.more.at) (drop c.more.at c.args.bytes.now) ≡ drop c.more.at c.args.bytes.now = take_rest c.args.bytes.now
    c.more.at in
    let is : k ≡ cut (drop c.more.at c.args.bytes.now) = c.cut-shape.ensures.value ∙ ap cut from in
    let there = piece-at c.args.bytes.now tel c.more.at k h is c.cut-shape.ensures.some in
    let part : take ((c.more.at + k.1) - c.more.at) (drop c.more.at c.args.bytes.now) ≡ take k.1 (drop c.more.at c.args.bytes.now) = ap
    (λ n. take n (drop c.more.at c.args.bytes.now)) (omega arith) in
    record {
      within = omega arith;
      same =
          ap (λ t. c.push_token.new.tokens.items ++ lex 0 t (c.more.at + k.1) (drop (c.more.at + k.1) c.args.bytes.now)) c.ends_in_tel-after_tel.ensures
          ∙ ap (λ l. l ++ lex 0 (ends_in_tel tel k.0) (c.more.at + k.1) (drop (c.more.at + k.1) c.args.bytes.now))
          (c.in_ok-push_token.ensures ∙ ap (λ kind. c.more.tokens.items ++ emitted kind c.more.at) (c.in_ok-kind.ensures ∙ ap (kind_of tel k.0) part))
          ∙ append_assoc c.more.tokens.items (emitted (kind_of tel k.0 (take k.1 (drop c.more.at c.args.bytes.now))) c.more.at)
          (lex 0 (ends_in_tel tel k.0) (c.more.at + k.1) (drop (c.more.at + k.1) c.args.bytes.now))
          ∙ ap (λ l. c.more.tokens.items ++ l) (sym there)
          ∙ c.more.invariant.same;
    }

pub returns : goal.returns
returns c =
    let h = lex-past c.args.bytes.now c.more.after_tel c.more.at c.more.at (omega arith) in
    sym (append-nil c.more.tokens.items) ∙ ap (λ l. c.more.tokens.items ++ l) (sym h) ∙ c.more.invariant.same
