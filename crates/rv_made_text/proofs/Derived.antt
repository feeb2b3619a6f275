-- The grammar derives the tokens of a made source with its tree.
use Rattle.std.proofs.Common.{◌≡◌, ℕ, zero, suc, ◌+◌, List, [], ◌∷◌, ◌++◌, map, length, refl, sym, ap, ◌∙◌, subst, inl, inr, arith, append_assoc, append-nil}
use Rattle.std.proofs.lemmas.List.{map_push}
use Rattle.std.specs.Prelude.{codes, Some, None as Nothing}
use Rattle.rv_syntax.specs.Grammar.{No, Called, Function, Written, Atom, InBrackets, Before, Between, Given, NoneBefore, fixed, name_token, spelling, syntax_of}
use Rattle.rv_syntax.specs.Grammar.{IsGrammatical}
use Rattle.rv_syntax.specs.ProgramText.{IsName, IsNames, IsGroup, IsDecls, IsLocal, IsTitle, IsInputs, IsOutputs, IsVar, Item, Equates, equation_of, IsRight}
use Rattle.rv_syntax.specs.ProgramText.{IsItem, equations_of, assertions_of, IsBody, node_of, IsNode, Section, OneNode, IsSection, IsProgram}
use Rattle.rv_syntax.specs.{declared.token.Token.Token, Rules.Each, Rules.Word}
use Rattle.rv_syntax.specs.declared.token.Mark.TheVariants as mark
use Rattle.rv_syntax.specs.declared.operator.Prefix.TheVariants as prefixed
use Rattle.rv_tree.specs.{declared.tree.Name.Name, declared.tree.Decl.Decl, Groups.flow, Tree.EquationTree, Tree.AssertionTree, Tree.NodeTree}
use Rattle.rv_tree.specs.declared.tree.Op.TheVariants as op
use Rattle.rv_tree.specs.declared.tree.TypeName.TheVariants as type_name
use Rattle.rv_make.specs.{Made.link_name, Chains.named_at, Chains.boolean, Chains.link_flows}
use Rattle.rv_made_text.proofs.Tokens.{named, after, declared_end, declaration_tokens, declared_tokens, local_tokens, left_end, argument_end, call_tokens}
use Rattle.rv_made_text.proofs.Tokens.{call_at, calls_tokens, front_tokens, calls_at, ok_at, made_tokens}
use Rattle.rv_made_text.proofs.Trees.{at_place, main_offsets, flow_at, plain_link, plain_call, plain_calls, plain_seen, plain_ok, plain_equations, plain_main}
use Rattle.rv_made_text.proofs.Trees.{plain_program}

-- ---- Lists of parts.
each-both : {T A : Type 0} (L : A → List T → Type 0) (xs ys : List A) (ts us : List T) → Each L xs ts → Each L ys us → Each L (xs ++ ys) (ts ++ us)
each-both L [] ys ts us h k = subst (λ l. Each L ys (l ++ us)) (sym h) k
each-both L (x ∷ xs) ys ts us h k = (h.0, h.1 ++ us, ap (λ l. l ++ us) h.2 ∙ append_assoc h.0 h.1 us, h.3, each-both L xs ys h.1 us h.4 k)

each-one : {T A : Type 0} (L : A → List T → Type 0) (x : A) (ts : List T) → L x ts → Each L (x ∷ []) ts
each-one L x ts h = (ts, [], sym (append-nil ts), h, refl)

-- ---- Declarations.
-- the names of the flows of the first n calls
abbrev flow_names : ℕ → List Name
flow_names zero = []
flow_names (suc n) = flow_names n ++ named_at (flow_at n) (link_name (suc n)) ∷ []

names-derived : (n : ℕ) → Each (Word mark.Comma IsName) (flow_names n) (declared_tokens n)
names-derived zero = refl
names-derived (suc n) =
    let x : Name = named_at (flow_at n) (link_name (suc n)) in
    each-both (Word mark.Comma IsName) (flow_names n) (x ∷ []) (declared_tokens n) (declaration_tokens n) (names-derived n)
    (each-one (Word mark.Comma IsName) x (declaration_tokens n) (declared_end n, name_token x ∷ [], refl, refl))

one-name : (x : Name) → IsNames (x ∷ []) (name_token x ∷ [])
one-name x = (x, name_token x ∷ [], [], refl, refl, ([], [], [], refl, refl, (refl, refl)))

-- a type behind names
abbrev kind_tokens : ℕ → ℕ → List Token
kind_tokens colon kind = fixed mark.Colon colon ∷ fixed mark.Bool kind ∷ []

group : (xs : List Name) (ts : List Token) (colon kind : ℕ) → IsNames xs ts → IsGroup (xs, type_name.Bool) (ts ++ kind_tokens colon kind)
group xs ts colon kind h =
    let bool : List Token = fixed mark.Bool kind ∷ [] in (
      xs,
      ts,
      kind_tokens colon kind,
      refl,
      h,
      (colon, bool, refl, (type_name.Bool, bool, [], refl, inl (kind, [], refl, (refl, refl)), (refl, refl))),
    )

-- where the tokens of `(NAME: bool)` stand beside the name
record Bracketed : Type 0 where
  up : ℕ
  colon : ℕ
  kind : ℕ
  close : ℕ

-- one Boolean flow
abbrev flow_of : Name → List Decl
flow_of x = flow type_name.Bool Nothing x ∷ []

-- `(NAME: bool)`
abbrev input_tokens : Name → Bracketed → List Token
input_tokens x b = fixed mark.Open b.up ∷ name_token x ∷ (kind_tokens b.colon b.kind ++ fixed mark.Close b.close ∷ [])

-- `returns (NAME: bool);`
abbrev output_tokens : ℕ → Name → Bracketed → ℕ → List Token
output_tokens at x b semi = fixed mark.Returns at ∷ (input_tokens x b ++ fixed mark.Semi semi ∷ [])

one-flow : (x : Name) (colon kind : ℕ) → IsDecls (flow_of x) (name_token x ∷ kind_tokens colon kind)
one-flow x colon kind = (
  (x ∷ [], type_name.Bool),
  name_token x ∷ kind_tokens colon kind,
  [],
  refl,
  group (x ∷ []) (name_token x ∷ []) colon kind (one-name x),
  ([], [], [], refl, refl, (Nothing, [], [], refl, refl, (refl, refl))),
)

one-input : (x : Name) (b : Bracketed) → IsInputs (flow_of x) (input_tokens x b)
one-input x b =
    let flows : List Token = name_token x ∷ kind_tokens b.colon b.kind in
    let close : List Token = fixed mark.Close b.close ∷ [] in
    (b.up, flows ++ close, refl, (flow_of x, flows, close, refl, one-flow x b.colon b.kind, (b.close, [], refl, (refl, refl))))

one-output : (at : ℕ) (x : Name) (b : Bracketed) (semi : ℕ) → IsOutputs (flow_of x) (output_tokens at x b semi)
one-output at x b semi =
    let inputs : List Token = input_tokens x b in
    let end : List Token = fixed mark.Semi semi ∷ [] in
    (at, inputs ++ end, refl, (flow_of x, inputs, end, refl, one-input x b, (Some tt, end, [], refl, (semi, refl), (refl, refl))))

-- the local flows of the main node
abbrev seen_name : Name
seen_name = named_at 111 (codes "seen")

local-names : (n : ℕ) → IsNames (seen_name ∷ flow_names n) (local_tokens n)
local-names n =
    let more : List Token = declared_tokens n in
    (seen_name, name_token seen_name ∷ [], more, refl, refl, (flow_names n, more, [], sym (append-nil more), names-derived n, (refl, refl)))

-- the names of the local flows and their type
abbrev local_group : ℕ → ℕ → ℕ → List Token
local_group n colon kind = local_tokens n ++ kind_tokens colon kind

-- the same with its semicolon
abbrev local_line : ℕ → ℕ → ℕ → ℕ → List Token
local_line n colon kind semi = local_group n colon kind ++ fixed mark.Semi semi ∷ []

-- the local flows
abbrev local_decls : ℕ → List Decl
local_decls n = map (flow type_name.Bool Nothing) (seen_name ∷ flow_names n)

local-line : (n colon kind semi : ℕ) → IsLocal (local_decls n) (local_line n colon kind semi)
local-line n colon kind semi =
    let end : List Token = fixed mark.Semi semi ∷ [] in
    let names : List Name = seen_name ∷ flow_names n in
    inl (
      (names, type_name.Bool),
      local_group n colon kind,
      end,
      refl,
      group names (local_tokens n) colon kind (local-names n),
      (Nothing, [], end, refl, refl, (semi, [], refl, (refl, refl))),
    )

local-flows : (n at colon kind semi : ℕ) → IsVar (local_decls n ++ []) (fixed mark.Var at ∷ local_line n colon kind semi)
local-flows n at colon kind semi =
    let written : List Token = local_line n colon kind semi in (
      at,
      written,
      refl,
      (local_decls n, written, [], sym (append-nil written), local-line n colon kind semi, ([], [], [], refl, refl, (refl, refl))),
    )

-- ---- Equations.
abbrev IsEquation : EquationTree → List Token → Type 0
IsEquation q = IsItem (Equates q)

-- the right side of an equation, by what is written there
abbrev right_tokens : ℕ → Written → ℕ → List Token
right_tokens equal w semi = fixed mark.Equal equal ∷ (spelling w ++ fixed mark.Semi semi ∷ [])

-- an equation of one name
abbrev equation_tokens : Name → ℕ → Written → ℕ → List Token
equation_tokens x equal w semi = name_token x ∷ right_tokens equal w semi

right-side : (equal : ℕ) (w : Written) (semi : ℕ) → IsGrammatical w → IsRight (syntax_of w) (right_tokens equal w semi)
right-side equal w semi h =
    let end : List Token = fixed mark.Semi semi ∷ [] in
    (equal, spelling w ++ end, refl, (syntax_of w, spelling w, end, refl, (w, h, refl, refl), (semi, [], refl, (refl, refl))))

one-equation : (x : Name) (equal : ℕ) (w : Written) (semi : ℕ) → IsGrammatical w
    → IsEquation (equation_of (x ∷ []) (syntax_of w)) (equation_tokens x equal w semi)
one-equation x equal w semi h =
    let right : List Token = right_tokens equal w semi in
    inl (
      x ∷ [],
      name_token x ∷ [],
      right,
      refl,
      inl (one-name x),
      (syntax_of w, right, [], sym (append-nil right), right-side equal w semi h, (refl, refl)),
    )

-- `false -> pre` of a name
abbrev written_delayed : ℕ → ℕ → ℕ → List ℕ → ℕ → Written
written_delayed literal arrow pre text at = Between op.Arrow arrow (Atom No literal) (Before prefixed.Pre pre (Atom (Called text) at))

delayed-grammatical : (literal arrow pre : ℕ) (text : List ℕ) (at : ℕ) → IsGrammatical (written_delayed literal arrow pre text at)
delayed-grammatical literal arrow pre text at = (omega arith, refl, omega arith, tt, (omega arith, tt))

-- the calls
call-derived : (first i : ℕ) → IsEquation (plain_call first i) (call_tokens (call_at first i) i)
call-derived first i =
    let at : ℕ = call_at first i in
    let left : ℕ = left_end at i in
    let argument : Written = Atom (Called (link_name i)) (after left 8) in
    let w : Written = Given (Function (named_at (after left 3) (codes "link"))) (after left 7) NoneBefore argument (argument_end at i) in
    one-equation (named_at (after at 2) (link_name (suc i))) (after left 1) w (after (argument_end at i) 1) (tt, tt)

calls-derived : (first n : ℕ) → Each IsEquation (plain_calls first n) (calls_tokens first n)
calls-derived first zero = refl
calls-derived first (suc n) =
    each-both IsEquation (plain_calls first n) (plain_call first n ∷ []) (calls_tokens first n) (call_tokens (call_at first n) n) (calls-derived first n)
    (each-one IsEquation (plain_call first n) (call_tokens (call_at first n) n) (call-derived first n))

-- the right side of `seen`, behind the local flows
abbrev seen_written : ℕ → Written
seen_written at =
    let delayed : Written = written_delayed (after at 27) (after at 33) (after at 36) (codes "seen") (after at 40) in
    Between op.Or (after at 23) (Atom (Called (codes "a")) (after at 21)) (InBrackets (after at 26) delayed (after at 44))

-- its equation
abbrev seen_equation_tokens : ℕ → List Token
seen_equation_tokens at = equation_tokens (named_at (after at 14) (codes "seen")) (after at 19) (seen_written at) (after at 45)

seen-derived : (n : ℕ) → IsEquation (plain_seen (at_place (main_offsets n))) (seen_equation_tokens (declared_end n))
seen-derived n =
    let at : ℕ = declared_end n in
    one-equation (named_at (after at 14) (codes "seen")) (after at 19) (seen_written at) (after at 45)
    (omega arith, refl, omega arith, tt, delayed-grammatical (after at 27) (after at 33) (after at 36) (codes "seen") (after at 40))

-- the right side of `ok`
abbrev ok_written : ℕ → ℕ → Written
ok_written at n =
    let behind : ℕ = after at 11 + length (link_name n) in
    let last : Written = Before prefixed.Not (after at 7) (Atom (Called (link_name n)) (after at 11)) in
    Between op.Or (after behind 1) last (Atom (Called (codes "seen")) (after behind 4))

-- its equation
abbrev ok_equation_tokens : ℕ → ℕ → List Token
ok_equation_tokens at n = equation_tokens (named_at (after at 2) (codes "ok")) (after at 5) (ok_written at n) (after (after at 11 + length (link_name n)) 8)

ok-derived : (n : ℕ) → IsEquation (plain_ok (at_place (main_offsets n)) n) (ok_equation_tokens (ok_at n) n)
ok-derived n =
    let at : ℕ = ok_at n in
    let semi : ℕ = after (after at 11 + length (link_name n)) 8 in
    one-equation (named_at (after at 2) (codes "ok")) (after at 5) (ok_written at n) semi (omega arith, refl, omega arith, (omega arith, tt), tt)

-- equations, as items of a node's body
items : (qs : List EquationTree) (ts : List Token) → Each IsEquation qs ts → Each IsItem (map Equates qs) ts
items [] ts h = h
items (q ∷ qs) ts h = (h.0, h.1, h.2, h.3, items qs h.1 h.4)

items-equations : (qs : List EquationTree) → equations_of (map Equates qs) ≡ qs
items-equations [] = refl
items-equations (q ∷ qs) = ap (λ l. q ∷ l) (items-equations qs)

items-assertions : (qs : List EquationTree) → assertions_of (map Equates qs) ≡ []
items-assertions [] = refl
items-assertions (q ∷ qs) = items-assertions qs

-- ---- Nodes.
-- 'node' NAME
abbrev title_tokens : ℕ → Name → List Token
title_tokens at x = fixed mark.Node at ∷ name_token x ∷ []

-- 'let' equations 'tel'
abbrev body_tokens : ℕ → List Token → ℕ → List Token
body_tokens opened ts closed = fixed mark.Let opened ∷ (ts ++ fixed mark.Tel closed ∷ [])

body : (qs : List EquationTree) (ts : List Token) (opened closed : ℕ) → Each IsEquation qs ts → IsBody (map Equates qs) (body_tokens opened ts closed)
body qs ts opened closed h =
    let end : List Token = fixed mark.Tel closed ∷ [] in (
      opened,
      ts ++ end,
      refl,
      (map Equates qs, ts, end, refl, items qs ts h, (closed, [], refl, (Nothing, [], [], refl, refl, (refl, refl)))),
    )

node : (x : Name) (ins outs : List Decl) (vars : List (List Decl)) (found : List Item) (t1 t2 t3 t4 t5 : List Token)
    → IsTitle x t1 → IsInputs ins t2 → IsOutputs outs t3 → Each IsVar vars t4 → IsBody found t5
    → IsNode (node_of x ins outs vars found) (t1 ++ (t2 ++ (t3 ++ (t4 ++ t5))))
node x ins outs vars found t1 t2 t3 t4 t5 h1 h2 h3 h4 h5 = (
  x,
  t1,
  t2 ++ (t3 ++ (t4 ++ t5)),
  refl,
  h1,
  (
    ins,
    t2,
    t3 ++ (t4 ++ t5),
    refl,
    h2,
    (outs, t3, t4 ++ t5, refl, h3, (vars, t4, t5, refl, h4, (found, t5, [], sym (append-nil t5), h5, (refl, refl)))),
  ),
)

-- a node with one input and one output, by its name, theirs, and where the tokens of its head stand
record Head : Type 0 where
  at : ℕ
  name : Name
  input : Name
  given : Bracketed
  returns : ℕ
  output : Name
  answered : Bracketed
  semi : ℕ

-- a node, by its head and its other tokens
abbrev head_tokens : Head → List Token → List Token
head_tokens h ts = title_tokens h.at h.name ++ (input_tokens h.input h.given ++ (output_tokens h.returns h.output h.answered h.semi ++ ts))

-- the node with this head, these local flows and these equations
abbrev headed : Head → List (List Decl) → List EquationTree → NodeTree
headed h vars qs = node_of h.name (flow_of h.input) (flow_of h.output) vars (map Equates qs)

one-node : (h : Head) (vars : List (List Decl)) (qs : List EquationTree) (before ts : List Token) (opened closed : ℕ)
    → Each IsVar vars before → Each IsEquation qs ts → IsNode (headed h vars qs) (head_tokens h (before ++ body_tokens opened ts closed))
one-node h vars qs before ts opened closed declared equated =
    let title : List Token = title_tokens h.at h.name in
    let ins : List Token = input_tokens h.input h.given in
    let outs : List Token = output_tokens h.returns h.output h.answered h.semi in
    node h.name (flow_of h.input) (flow_of h.output) vars (map Equates qs) title ins outs before (body_tokens opened ts closed)
    (h.at, name_token h.name ∷ [], refl, refl)
    (one-input h.input h.given)
    (one-output h.returns h.output h.answered h.semi)
    declared
    (body qs ts opened closed equated)

-- the head of the node `link`
abbrev link_head : Head
link_head = record {
  at = 0;
  name = plain_link.name;
  input = named_at 10 (codes "a");
  given = record { up = 9; colon = 11; kind = 13; close = 17 };
  returns = 19;
  output = named_at 28 (codes "b");
  answered = record { up = 27; colon = 29; kind = 31; close = 35 };
  semi = 36;
}

-- the right side of its equation
abbrev link_written : Written
link_written = written_delayed 48 54 57 (codes "a") 61

-- its equation
abbrev link_equation_tokens : List Token
link_equation_tokens = equation_tokens (named_at 44 (codes "b")) 46 link_written 62

-- all its tokens
abbrev link_tokens : List Token
link_tokens = head_tokens link_head (body_tokens 38 link_equation_tokens 64)

link-derived : IsNode plain_link link_tokens
link-derived =
    let q : EquationTree = equation_of (named_at 44 (codes "b") ∷ []) (syntax_of link_written) in
    one-node link_head [] (q ∷ []) [] link_equation_tokens 38 64 refl
    (each-one IsEquation q link_equation_tokens (one-equation (named_at 44 (codes "b")) 46 link_written 62 (delayed-grammatical 48 54 57 (codes "a") 61)))

-- the head of the main node
abbrev main_head : Head
main_head = record {
  at = 68;
  name = named_at 73 (codes "main");
  input = named_at 78 (codes "a");
  given = record { up = 77; colon = 79; kind = 81; close = 85 };
  returns = 87;
  output = named_at 96 (codes "ok");
  answered = record { up = 95; colon = 98; kind = 100; close = 104 };
  semi = 105;
}

-- its equations
abbrev main_equation_tokens : ℕ → List Token
main_equation_tokens n = seen_equation_tokens (declared_end n) ++ (calls_tokens (calls_at n) n ++ ok_equation_tokens (ok_at n) n)

-- its local flows, in one part
abbrev main_vars : ℕ → List (List Decl)
main_vars n = (local_decls n ++ []) ∷ []

-- their tokens
abbrev var_tokens : ℕ → List Token
var_tokens n = fixed mark.Var 107 ∷ local_line n (declared_end n) (after (declared_end n) 2) (after (declared_end n) 6)

-- where it ends
abbrev tel_at : ℕ → ℕ
tel_at n = after (after (ok_at n) 11 + length (link_name n)) 10

-- all its tokens
abbrev main_tokens : ℕ → List Token
main_tokens n = head_tokens main_head (var_tokens n ++ body_tokens (after (declared_end n) 8) (main_equation_tokens n) (tel_at n))

equations-derived : (n : ℕ) → Each IsEquation (plain_equations n) (main_equation_tokens n)
equations-derived n =
    let seen : EquationTree = plain_seen (at_place (main_offsets n)) in
    let ok : EquationTree = plain_ok (at_place (main_offsets n)) n in
    let calls : List EquationTree = plain_calls (calls_at n) n in
    let calling : List Token = calls_tokens (calls_at n) n in
    let last : List Token = ok_equation_tokens (ok_at n) n in
    each-both IsEquation (seen ∷ []) (calls ++ ok ∷ []) (seen_equation_tokens (declared_end n)) (calling ++ last)
    (each-one IsEquation seen (seen_equation_tokens (declared_end n)) (seen-derived n))
    (each-both IsEquation calls (ok ∷ []) calling last (calls-derived (calls_at n) n) (each-one IsEquation ok last (ok-derived n)))

-- as it is derived
abbrev read_main : ℕ → NodeTree
read_main n = headed main_head (main_vars n) (plain_equations n)

read-derived : (n : ℕ) → IsNode (read_main n) (main_tokens n)
read-derived n =
    let at : ℕ = declared_end n in
    one-node main_head (main_vars n) (plain_equations n) (var_tokens n) (main_equation_tokens n) (after at 8) (tel_at n)
    (each-one IsVar (local_decls n ++ []) (var_tokens n) (local-flows n 107 at (after at 2) (after at 6)))
    (equations-derived n)

flows-of-names : (n : ℕ) → map (flow type_name.Bool Nothing) (flow_names n) ≡ link_flows flow_at n
flows-of-names zero = refl
flows-of-names (suc n) =
    let x : Name = named_at (flow_at n) (link_name (suc n)) in
    map_push (flow type_name.Bool Nothing) (flow_names n) x ∙ ap (λ l. l ++ flow_of x) (flows-of-names n)

-- the main node with these local flows, equations and assertions
abbrev main_of : List Decl → List EquationTree → List AssertionTree → NodeTree
main_of locals qs assumed = record {
  name = main_head.name;
  inputs = flow_of main_head.input;
  outputs = flow_of main_head.output;
  locals = locals;
  equations = qs;
  assertions = assumed;
}

read-is : (n : ℕ) → read_main n ≡ plain_main n
read-is n =
    let qs : List EquationTree = plain_equations n in
    let before : List Decl = (local_decls n ++ []) ++ [] in
    let locals : List Decl = boolean 111 (codes "seen") ∷ link_flows flow_at n in
    let same : before ≡ locals = append-nil (local_decls n ++ []) ∙ append-nil (local_decls n) ∙ ap (λ l. boolean 111 (codes "seen") ∷ l) (flows-of-names n) in
    ap (main_of before (equations_of (map Equates qs))) (items-assertions qs)
    ∙ ap (λ l. main_of l (equations_of (map Equates qs)) []) same
    ∙ ap (λ l. main_of locals l []) (items-equations qs)

main-derived : (n : ℕ) → IsNode (plain_main n) (main_tokens n)
main-derived n = subst (λ m. IsNode m (main_tokens n)) (read-is n) (read-derived n)

-- ---- The program.
section : (n : NodeTree) (ts : List Token) → IsNode n ts → IsSection (OneNode n) ts
section n ts h = inr (inr (n, ts, [], sym (append-nil ts), h, (refl, refl)))

program-derived : (n : ℕ) → IsProgram (plain_program n) (link_tokens ++ main_tokens n)
program-derived n =
    let ts : List Token = link_tokens ++ main_tokens n in
    let link : Section = OneNode plain_link in
    let main : Section = OneNode (plain_main n) in (
      link ∷ main ∷ [],
      ts,
      [],
      sym (append-nil ts),
      each-both IsSection (link ∷ []) (main ∷ []) link_tokens (main_tokens n)
          (each-one IsSection link link_tokens (section plain_link link_tokens link-derived))
          (each-one IsSection main (main_tokens n) (section (plain_main n) (main_tokens n) (main-derived n))),
      (refl, refl),
    )

tokens-nest : (d x y u s c o t : List Token) → d ++ (x ++ (y ++ (u ++ (s ++ (c ++ (o ++ t)))))) ≡ ((d ++ x) ++ y) ++ (u ++ ((s ++ (c ++ o)) ++ t))
tokens-nest d x y u s c o t = simp append_assoc refl

-- these are the tokens of the text
tokens-are : (n : ℕ) → made_tokens n ≡ link_tokens ++ main_tokens n
tokens-are n =
    let at : ℕ = declared_end n in
    let kinds : List Token = kind_tokens at (after at 2) in
    let semi : List Token = fixed mark.Semi (after at 6) ∷ [] in
    let opened : List Token = fixed mark.Let (after at 8) ∷ [] in
    let closed : List Token = fixed mark.Tel (tel_at n) ∷ [] in
    let calls : List Token = calls_tokens (calls_at n) n in
    ap (λ l. front_tokens ++ named (codes "seen") 111 ∷ l)
    (tokens-nest (declared_tokens n) kinds semi opened (seen_equation_tokens at) calls (ok_equation_tokens (ok_at n) n) closed)

pub made-derived : (n : ℕ) → IsProgram (plain_program n) (made_tokens n)
made-derived n = subst (IsProgram (plain_program n)) (sym (tokens-are n)) (program-derived n)
