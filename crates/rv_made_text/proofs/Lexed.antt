-- The tokens of a made source are these.
use Rattle.std.proofs.Common.{◌≡◌, ℕ, zero, suc, ◌+◌, Bool, false, List, [], ◌∷◌, ◌++◌, length, decimal, refl, sym, ap, ◌∙◌, append_assoc}
use Rattle.std.specs.Prelude.{codes}
use Rattle.rv_syntax.specs.Lexing.{is_word_byte, lex, cut, declaration_word, expression_word, is_left_out, is_left_out_too, tokens}
use Rattle.rv_syntax.specs.{declared.token.Token.Token, Grammar.fixed}
use Rattle.rv_syntax.specs.declared.token.Mark.TheVariants as mark
use Rattle.rv_make.specs.Made.{line, link_name, declared_links, link_equation, link_equations, link_text, made_text}
use Rattle.rv_made_text.proofs.Tokens.{named, after, declared_end, declaration_tokens, declared_tokens, local_tokens, left_end, argument_end, call_tokens}
use Rattle.rv_made_text.proofs.Tokens.{call_at, calls_tokens, front_tokens, seen_tokens, calls_at, ok_at, ok_tokens, made_tokens}
use Rattle.rv_made_text.proofs.{Numerals.IsNumeral, Numerals.numeral, Words.digits-go-on, Words.lex-name, Words.numbered-name, Words.a-name, Words.seen-name}

-- ---- Names of flows.
numbered : (tel : Bool) (at : ℕ) (ds : List ℕ) (c : ℕ) (rest : List ℕ) → IsNumeral ds → is_word_byte c ≡ false
    → lex 0 tel at (98 ∷ ds ++ c ∷ rest) ≡ named (98 ∷ ds) at ∷ lex 0 false (at + length (98 ∷ ds)) (c ∷ rest)
numbered tel at [] c rest h e = absurd h
numbered tel at (d ∷ ds) c rest h e = lex-name tel at 98 (d ∷ ds) c rest refl refl (digits-go-on (d ∷ ds) h) e (numbered-name d ds h.0)

flow-name : (tel : Bool) (at i c : ℕ) (rest : List ℕ) → is_word_byte c ≡ false
    → lex 0 tel at (link_name i ++ c ∷ rest) ≡ named (link_name i) at ∷ lex 0 false (at + length (link_name i)) (c ∷ rest)
flow-name tel at zero c rest e = lex-name tel at 97 [] c rest refl refl tt e a-name
flow-name tel at (suc i) c rest e = numbered tel at (decimal (suc i)) c rest (numeral (suc i)) e

-- ---- Declarations.
comma : (at : ℕ) (rest : List ℕ) → lex 0 false at (44 ∷ 32 ∷ rest) ≡ fixed mark.Comma at ∷ lex 0 false (after at 2) rest
unfolding lex cut
comma at rest = refl

declared-nest : (d s l r : List ℕ) → (d ++ s ++ l) ++ r ≡ d ++ (s ++ (l ++ r))
declared-nest d s l r = simp append_assoc refl

declared : (n c : ℕ) (rest : List ℕ) → is_word_byte c ≡ false
    → lex 0 false 111 (codes "seen" ++ (declared_links n ++ c ∷ rest)) ≡ local_tokens n ++ lex 0 false (declared_end n) (c ∷ rest)
declared zero c rest e = lex-name false 111 115 (101 ∷ 101 ∷ 110 ∷ []) c rest refl refl (refl, (refl, (refl, tt))) e seen-name
declared (suc n) c rest e =
    let name : List ℕ = link_name (suc n) in
    let now : ℕ = declared_end n in
    let seen : Token = named (codes "seen") 111 in
    let end : List Token = lex 0 false (declared_end (suc n)) (c ∷ rest) in
    ap (λ l. lex 0 false 111 (codes "seen" ++ l)) (declared-nest (declared_links n) (codes ", ") name (c ∷ rest))
    ∙ declared n 44 (32 ∷ (name ++ c ∷ rest)) refl
    ∙ ap (λ l. local_tokens n ++ l) (comma now (name ++ c ∷ rest))
    ∙ ap (λ l. local_tokens n ++ fixed mark.Comma now ∷ l) (flow-name false (after now 2) (suc n) c rest e)
    ∙ ap (λ l. seen ∷ l) (sym (append_assoc (declared_tokens n) (declaration_tokens n) end))

-- ---- Calls.
blanks : (at : ℕ) (rest : List ℕ) → lex 0 false at (codes "  " ++ rest) ≡ lex 0 false (after at 2) rest
unfolding lex cut
blanks at rest = refl

called : (at i : ℕ) (rest : List ℕ)
    → lex 0 false at (codes " = link(" ++ (link_name i ++ rest))
    ≡ fixed mark.Equal (after at 1) ∷ named (codes "link") (after at 3) ∷ fixed mark.Open (after at 7) ∷ lex 0 false (after at 8) (link_name i ++ rest)
unfolding lex cut declaration_word expression_word is_left_out is_left_out_too
called at zero rest = refl
called at (suc i) rest = refl

closed : (at : ℕ) (rest : List ℕ)
    → lex 0 false at (codes ");" ++ (10 ∷ [] ++ rest)) ≡ fixed mark.Close at ∷ fixed mark.Semi (after at 1) ∷ lex 0 false (after at 3) rest
unfolding lex cut
closed at rest = refl

call-nest : (b n m l z e r : List ℕ) → ((b ++ n ++ m ++ l ++ z) ++ e) ++ r ≡ b ++ (n ++ (m ++ (l ++ (z ++ (e ++ r)))))
call-nest b n m l z e r = simp append_assoc refl

call : (at i : ℕ) (rest : List ℕ) → lex 0 false at (link_equation i ++ rest) ≡ call_tokens at i ++ lex 0 false (after (argument_end at i) 3) rest
call at i rest =
    let left : Token = named (link_name (suc i)) (after at 2) in
    let now : ℕ = left_end at i in
    let closing : List ℕ = codes ");" ++ (10 ∷ [] ++ rest) in
    let opening : List Token = left ∷ fixed mark.Equal (after now 1) ∷ named (codes "link") (after now 3) ∷ fixed mark.Open (after now 7) ∷ [] in
    ap (lex 0 false at) (call-nest (codes "  ") (link_name (suc i)) (codes " = link(") (link_name i) (codes ");") (10 ∷ []) rest)
    ∙ blanks at (link_name (suc i) ++ (codes " = link(" ++ (link_name i ++ closing)))
    ∙ flow-name false (after at 2) (suc i) 32 (codes "= link(" ++ (link_name i ++ closing)) refl
    ∙ ap (λ l. left ∷ l) (called now i closing)
    ∙ ap (λ l. opening ++ l) (flow-name false (after now 8) i 41 (codes ";" ++ (10 ∷ [] ++ rest)) refl)
    ∙ ap (λ l. opening ++ named (link_name i) (after now 8) ∷ l) (closed (argument_end at i) rest)

calls : (n at : ℕ) (rest : List ℕ) → lex 0 false at (link_equations n ++ rest) ≡ calls_tokens at n ++ lex 0 false (call_at at n) rest
calls zero at rest = refl
calls (suc n) at rest =
    ap (lex 0 false at) (append_assoc (link_equations n) (link_equation n) rest)
    ∙ calls n at (link_equation n ++ rest)
    ∙ ap (λ l. calls_tokens at n ++ l) (call (call_at at n) n rest)
    ∙ sym (append_assoc (calls_tokens at n) (call_tokens (call_at at n) n) (lex 0 false (call_at at (suc n)) rest))

-- ---- The other lines.
front : (rest : List ℕ)
    → lex 0 false 0 (link_text ++ (line (codes "node main(a: bool) returns (ok: bool);") ++ (codes "var " ++ rest))) ≡ front_tokens ++ lex 0 false 111 rest
unfolding lex cut declaration_word expression_word is_left_out is_left_out_too
front rest = refl

-- the end of the local flows, and the equation of `seen`
abbrev seen_text : List ℕ → List ℕ
seen_text rest = codes ": bool;" ++ (10 ∷ [] ++ (line (codes "let") ++ (line (codes "  seen = a or (false -> pre seen);") ++ rest)))

seen : (at : ℕ) (rest : List ℕ) → lex 0 false at (seen_text rest) ≡ seen_tokens at ++ lex 0 false (after at 47) rest
unfolding lex cut declaration_word expression_word is_left_out is_left_out_too
seen at rest = refl

-- the equation of `ok` up to the flow of the last call
ok-left : (at : ℕ) (rest : List ℕ)
    → lex 0 false at (codes "  ok = not " ++ rest)
    ≡ named (codes "ok") (after at 2) ∷ fixed mark.Equal (after at 5) ∷ fixed mark.Not (after at 7) ∷ lex 0 false (after at 11) rest
unfolding lex cut declaration_word expression_word is_left_out is_left_out_too
ok-left at rest = refl

-- the end of that equation, and of the node
abbrev end_text : List ℕ
end_text = codes " or seen;" ++ (10 ∷ [] ++ line (codes "tel"))

ok-right : (at : ℕ)
    → lex 0 false at end_text
    ≡ fixed mark.Or (after at 1) ∷ named (codes "seen") (after at 4) ∷ fixed mark.Semi (after at 8) ∷ fixed mark.Tel (after at 10) ∷ []
unfolding lex cut declaration_word expression_word is_left_out is_left_out_too
ok-right at = refl

-- the equation of `ok`, and what is left
abbrev ok_text : ℕ → List ℕ
ok_text n = codes "  ok = not " ++ (link_name n ++ end_text)

ok : (at n : ℕ) → lex 0 false at (ok_text n) ≡ ok_tokens at n
ok at n =
    let opening : List Token = named (codes "ok") (after at 2) ∷ fixed mark.Equal (after at 5) ∷ fixed mark.Not (after at 7) ∷ [] in
    ok-left at (link_name n ++ end_text)
    ∙ ap (λ l. opening ++ l) (flow-name false (after at 11) n 32 (codes "or seen;" ++ (10 ∷ [] ++ line (codes "tel"))) refl)
    ∙ ap (λ l. opening ++ named (link_name n) (after at 11) ∷ l) (ok-right (after at 11 + length (link_name n)))

-- ---- The whole text.
made-nest : (k t v d c e a s q o l r z : List ℕ)
    → k ++ (t ++ ((v ++ d ++ c) ++ e) ++ a ++ s ++ q ++ ((o ++ l ++ r) ++ e) ++ z)
    ≡ k ++ (t ++ (v ++ (d ++ (c ++ (e ++ (a ++ (s ++ (q ++ (o ++ (l ++ (r ++ (e ++ z))))))))))))
made-nest k t v d c e a s q o l r z = simp append_assoc refl

-- the first line of the main node
abbrev title : List ℕ
title = line (codes "node main(a: bool) returns (ok: bool);")

pub made-tokens : (n : ℕ) → tokens (made_text n) ≡ made_tokens n
made-tokens n =
    let opening : List ℕ = line (codes "let") in
    let equation : List ℕ = line (codes "  seen = a or (false -> pre seen);") in
    let calling : List ℕ = link_equations n ++ ok_text n in
    let behind : List ℕ = codes " bool;" ++ (10 ∷ [] ++ (opening ++ (equation ++ calling))) in
    let nested = made-nest link_text title (codes "var seen") (declared_links n) (codes ": bool;") (10 ∷ []) opening equation (link_equations n) in
    let at : ℕ = declared_end n in
    ap (lex 0 false 0) (nested (codes "  ok = not ") (link_name n) (codes " or seen;") (line (codes "tel")))
    ∙ front (codes "seen" ++ (declared_links n ++ seen_text calling))
    ∙ ap (λ l. front_tokens ++ l) (declared n 58 behind refl)
    ∙ ap (λ l. front_tokens ++ (local_tokens n ++ l)) (seen at calling)
    ∙ ap (λ l. front_tokens ++ (local_tokens n ++ (seen_tokens at ++ l))) (calls n (calls_at n) (ok_text n))
    ∙ ap (λ l. front_tokens ++ (local_tokens n ++ (seen_tokens at ++ (calls_tokens (calls_at n) n ++ l)))) (ok (ok_at n) n)
