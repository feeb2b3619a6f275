-- Where the tokens of a made source stand, and its tokens.
use Rattle.std.proofs.Common.{ℕ, zero, suc, ◌+◌, List, [], ◌∷◌, ◌++◌, length}
use Rattle.std.specs.Prelude.{codes}
use Rattle.rv_syntax.specs.{declared.token.Token.Token, Grammar.fixed}
use Rattle.rv_syntax.specs.declared.token.Kind.TheVariants as kind
use Rattle.rv_syntax.specs.declared.token.Mark.TheVariants as mark
use Rattle.rv_make.specs.Made.{link_name}

-- a name at an offset
abbrev pub named : List ℕ → ℕ → Token
named text at = record { kind = kind.Name text; at = at }

-- the offset so many bytes further on
abbrev pub after : ℕ → ℕ → ℕ
after at zero = at
after at (suc n) = after (at + 1) n

-- ---- The declarations of the main node.
-- behind the declarations of the first n calls
abbrev pub declared_end : ℕ → ℕ
declared_end zero = 115
declared_end (suc n) = after (declared_end n) 2 + length (link_name (suc n))

-- a comma and the flow of the call with this number
abbrev pub declaration_tokens : ℕ → List Token
declaration_tokens n = fixed mark.Comma (declared_end n) ∷ named (link_name (suc n)) (after (declared_end n) 2) ∷ []

-- the declarations of the first n calls
abbrev pub declared_tokens : ℕ → List Token
declared_tokens zero = []
declared_tokens (suc n) = declared_tokens n ++ declaration_tokens n

-- ---- The equations of the calls, by the offset of the first.
-- behind the name on the left side of the equation at an offset
abbrev pub left_end : ℕ → ℕ → ℕ
left_end at i = after at 2 + length (link_name (suc i))

-- behind the argument of its call
abbrev pub argument_end : ℕ → ℕ → ℕ
argument_end at i = after (left_end at i) 8 + length (link_name i)

-- the equation at an offset of the call with this number
abbrev pub call_tokens : ℕ → ℕ → List Token
call_tokens at i =
    named (link_name (suc i)) (after at 2)
    ∷ fixed mark.Equal (after (left_end at i) 1)
    ∷ named (codes "link") (after (left_end at i) 3)
    ∷ fixed mark.Open (after (left_end at i) 7)
    ∷ named (link_name i) (after (left_end at i) 8)
    ∷ fixed mark.Close (argument_end at i)
    ∷ fixed mark.Semi (after (argument_end at i) 1)
    ∷ []

-- where the equation of the call with this number begins
abbrev pub call_at : ℕ → ℕ → ℕ
call_at at zero = at
call_at at (suc n) = after (argument_end (call_at at n) n) 3

-- the equations of the first n calls
abbrev pub calls_tokens : ℕ → ℕ → List Token
calls_tokens at zero = []
calls_tokens at (suc n) = calls_tokens at n ++ call_tokens (call_at at n) n

-- ---- The other tokens.
-- the node `link`, and the main node up to its first local flow
abbrev pub front_tokens : List Token
front_tokens =
    fixed mark.Node 0 ∷ named (codes "link") 5 ∷ fixed mark.Open 9 ∷ named (codes "a") 10 ∷ fixed mark.Colon 11 ∷ fixed mark.Bool 13 ∷ fixed mark.Close 17
    ∷ fixed mark.Returns 19 ∷ fixed mark.Open 27 ∷ named (codes "b") 28 ∷ fixed mark.Colon 29 ∷ fixed mark.Bool 31 ∷ fixed mark.Close 35 ∷ fixed mark.Semi 36
    ∷ fixed mark.Let 38
    ∷ named (codes "b") 44 ∷ fixed mark.Equal 46 ∷ fixed mark.False 48 ∷ fixed mark.Arrow 54 ∷ fixed mark.Pre 57 ∷ named (codes "a") 61 ∷ fixed mark.Semi 62
    ∷ fixed mark.Tel 64
    ∷ fixed mark.Node 68 ∷ named (codes "main") 73 ∷ fixed mark.Open 77 ∷ named (codes "a") 78 ∷ fixed mark.Colon 79 ∷ fixed mark.Bool 81 ∷ fixed mark.Close 85
    ∷ fixed mark.Returns 87 ∷ fixed mark.Open 95 ∷ named (codes "ok") 96 ∷ fixed mark.Colon 98 ∷ fixed mark.Bool 100 ∷ fixed mark.Close 104
    ∷ fixed mark.Semi 105 ∷ fixed mark.Var 107 ∷ []

-- from the type of the local flows to the end of the equation of `seen`
abbrev pub seen_tokens : ℕ → List Token
seen_tokens at =
    fixed mark.Colon at ∷ fixed mark.Bool (after at 2) ∷ fixed mark.Semi (after at 6)
    ∷ fixed mark.Let (after at 8)
    ∷ named (codes "seen") (after at 14) ∷ fixed mark.Equal (after at 19) ∷ named (codes "a") (after at 21) ∷ fixed mark.Or (after at 23)
    ∷ fixed mark.Open (after at 26) ∷ fixed mark.False (after at 27) ∷ fixed mark.Arrow (after at 33) ∷ fixed mark.Pre (after at 36)
    ∷ named (codes "seen") (after at 40) ∷ fixed mark.Close (after at 44) ∷ fixed mark.Semi (after at 45) ∷ []

-- where the equations of the calls begin
abbrev pub calls_at : ℕ → ℕ
calls_at n = after (declared_end n) 47

-- where the equation of `ok` begins
abbrev pub ok_at : ℕ → ℕ
ok_at n = call_at (calls_at n) n

-- the equation of `ok` and the end of the node
abbrev pub ok_tokens : ℕ → ℕ → List Token
ok_tokens at n =
    let behind : ℕ = after at 11 + length (link_name n) in
    named (codes "ok") (after at 2) ∷ fixed mark.Equal (after at 5) ∷ fixed mark.Not (after at 7) ∷ named (link_name n) (after at 11)
    ∷ fixed mark.Or (after behind 1) ∷ named (codes "seen") (after behind 4) ∷ fixed mark.Semi (after behind 8)
    ∷ fixed mark.Tel (after behind 10) ∷ []

-- the first local flow, and those of the calls
abbrev pub local_tokens : ℕ → List Token
local_tokens n = named (codes "seen") 111 ∷ declared_tokens n

-- all of them
abbrev pub made_tokens : ℕ → List Token
made_tokens n = front_tokens ++ (local_tokens n ++ (seen_tokens (declared_end n) ++ (calls_tokens (calls_at n) n ++ ok_tokens (ok_at n) n)))
