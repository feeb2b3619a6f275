-- The tree of a made source is the one that is derived, with its sites.
use Rattle.std.proofs.Common.{◌≡◌, ℕ, zero, suc, ◌+◌, ◌<◌, ◌≤◌, cond, List, [], ◌∷◌, ◌++◌, map, length, refl, sym, ap, ◌∙◌, inl, inr, arith, append_assoc}
use Rattle.std.proofs.Common.{append-nil, length-append}
use Rattle.std.proofs.{lemmas.Bool.lt-ltb, lemmas.Bool.le-ltb, lemmas.Bool.cases_lt, lemmas.List.map_push}
use Rattle.std.specs.Prelude.{codes, nat_lt, Some}
use Rattle.rv_tree.specs.{Tree.Tree, Tree.Node, Tree.Call, Tree.None, Tree.More, Tree.EquationTree, Tree.NodeTree, Tree.ProgramTree, Places.flows}
use Rattle.rv_tree.specs.{Sites.earlier, Sites.offsets, Sites.equation_offsets, Sites.node_offsets, Sites.site_at, Sites.sited_equation, Sites.with_sites}
use Rattle.rv_syntax.specs.ProgramText.{program_with_sites}
use Rattle.rv_syntax.proofs.Earlier.{length-flows}
use Rattle.rv_make.specs.Made.{link_name}
use Rattle.rv_make.specs.Chains.{boolean, flow_read, equation, link_flows, link_calls, seen_equation, link_node, main_node, chain_program}
use Rattle.rv_made_text.proofs.Tokens.{after, declared_end, call_at, calls_at}
use Rattle.rv_made_text.proofs.Trees.{at_place, main_offsets, flow_at, left_at, invoked_at, argument_at, offsets_of, plain_call, plain_calls, plain_ok}
use Rattle.rv_made_text.proofs.Trees.{plain_equations, plain_main, plain_program}

-- ---- How many of some offsets are less than one.
earlier-both : (at : ℕ) (xs ys : List ℕ) → earlier at (xs ++ ys) ≡ earlier at xs + earlier at ys
earlier-both at [] ys = omega arith
earlier-both at (x ∷ xs) ys = ap (λ n. cond (nat_lt x at) 1 0 + n) (earlier-both at xs ys) ∙ omega arith

-- the first offsets that a function gives
abbrev firsts : (ℕ → ℕ) → ℕ → List ℕ
firsts f zero = []
firsts f (suc n) = firsts f n ++ f n ∷ []

one-earlier : (at x : ℕ) → x < at → earlier at (x ∷ []) ≡ 1
one-earlier at x h = ap (λ b. cond b 1 0 + 0) (lt-ltb x at h)

none-earlier : (at x : ℕ) → at ≤ x → earlier at (x ∷ []) ≡ 0
none-earlier at x h = ap (λ b. cond b 1 0 + 0) (le-ltb x at h)

all-earlier : (f : ℕ → ℕ) (at n : ℕ) → ((i : ℕ) → i < n → f i < at) → earlier at (firsts f n) ≡ n
all-earlier f at zero h = refl
all-earlier f at (suc n) h =
    let before : earlier at (firsts f n) ≡ n = all-earlier f at n (λ i lt. h i (omega arith)) in
    let last : earlier at (f n ∷ []) ≡ 1 = one-earlier at (f n) (h n (omega arith)) in
    earlier-both at (firsts f n) (f n ∷ []) ∙ omega arith

none-of : (f : ℕ → ℕ) (at n : ℕ) → ((i : ℕ) → i < n → at ≤ f i) → earlier at (firsts f n) ≡ 0
none-of f at zero h = refl
none-of f at (suc n) h =
    let before : earlier at (firsts f n) ≡ 0 = none-of f at n (λ i lt. h i (omega arith)) in
    let last : earlier at (f n ∷ []) ≡ 0 = none-earlier at (f n) (h n (omega arith)) in
    earlier-both at (firsts f n) (f n ∷ []) ∙ omega arith

-- of offsets that rise
earlier-place : (f : ℕ → ℕ) → ((i j : ℕ) → i < j → f i < f j) → (n i : ℕ) → i < n → earlier (f i) (firsts f n) ≡ i
earlier-place f rises zero i h = absurd (omega arith)
earlier-place f rises (suc n) i h =
    elim (cases_lt i n) [
      | inl lt ↦
          let before : earlier (f i) (firsts f n) ≡ i = earlier-place f rises n i lt in
          let less : f i < f n = rises i n lt in
          let last : earlier (f i) (f n ∷ []) ≡ 0 = none-earlier (f i) (f n) (omega arith) in
          earlier-both (f i) (firsts f n) (f n ∷ []) ∙ omega arith
      | inr le ↦
          let same : i ≡ n = omega arith in
          let before : earlier (f i) (firsts f n) ≡ n = all-earlier f (f i) n (λ k lt. rises k i (omega arith)) in
          let last : earlier (f i) (f n ∷ []) ≡ 0 = none-earlier (f i) (f n) (let e : f i ≡ f n = ap f same in omega arith) in
          earlier-both (f i) (firsts f n) (f n ∷ []) ∙ omega arith
    ]

-- ---- The calls of the main node stand at rising offsets.
call-further : (first i : ℕ) → call_at first i < invoked_at first i
call-further first i = omega arith

next-further : (first i : ℕ) → invoked_at first i < call_at first (suc i)
next-further first i = omega arith

calls-further : (first i j : ℕ) → i < j → invoked_at first i < call_at first j
calls-further first i zero h = absurd (omega arith)
calls-further first i (suc j) h =
    elim (cases_lt i j) [
      | inl lt ↦ omega (arith, calls-further first i j lt, call-further first j, next-further first j)
      | inr le ↦
          let same : i ≡ j = omega arith in
          let there : invoked_at first i ≡ invoked_at first j = ap (invoked_at first) same in
          omega (arith, there, next-further first j)
    ]

calls-rise : (first i j : ℕ) → i < j → invoked_at first i < invoked_at first j
calls-rise first i j h = omega (arith, calls-further first i j h, call-further first j)

from-first : (first i : ℕ) → first < invoked_at first i
from-first first zero = call-further first 0
from-first first (suc i) = omega (arith, from-first first i, calls-rise first i (suc i) (omega arith))

-- ---- What has a site in the main node.
-- its `pre`, and its calls
abbrev pre_at : ℕ → ℕ
pre_at n = after (declared_end n) 36

equation_offsets-both : (qs rs : List EquationTree) → equation_offsets (qs ++ rs) ≡ equation_offsets qs ++ equation_offsets rs
equation_offsets-both [] rs = refl
equation_offsets-both (q ∷ qs) rs =
    ap (λ l. offsets q.right ++ l) (equation_offsets-both qs rs)
    ∙ sym (append_assoc (offsets q.right) (equation_offsets qs) (equation_offsets rs))

calls-offsets : (first n : ℕ) → equation_offsets (plain_calls first n) ≡ firsts (invoked_at first) n
calls-offsets first zero = refl
calls-offsets first (suc n) =
    equation_offsets-both (plain_calls first n) (plain_call first n ∷ [])
    ∙ ap (λ l. l ++ invoked_at first n ∷ []) (calls-offsets first n)

main-offsets : (n : ℕ) → node_offsets (plain_main n) ≡ pre_at n ∷ firsts (invoked_at (calls_at n)) n
main-offsets n =
    append-nil (equation_offsets (plain_equations n))
    ∙ ap (λ l. pre_at n ∷ l)
    (equation_offsets-both (plain_calls (calls_at n) n) (plain_ok (at_place (main_offsets n)) n ∷ [])
    ∙ append-nil (equation_offsets (plain_calls (calls_at n) n))
    ∙ calls-offsets (calls_at n) n)

length-links : (at : ℕ → ℕ) (n : ℕ) → length (link_flows at n) ≡ n
length-links at zero = refl
length-links at (suc n) = omega (arith, length-append (link_flows at n) (boolean (at n) (link_name (suc n)) ∷ []), length-links at n)

main-flows : (n : ℕ) → length (flows (plain_main n)) ≡ n + 3
main-flows n = omega (arith, length-flows (plain_main n), length-links flow_at n)

-- the site of an offset there
main-site : (n at : ℕ) → site_at (plain_main n) at ≡ (n + 3) + earlier at (pre_at n ∷ firsts (invoked_at (calls_at n)) n)
main-site n at = ap (λ m. m + earlier at (node_offsets (plain_main n))) (main-flows n) ∙ ap (λ l. (n + 3) + earlier at l) (main-offsets n)

pre-first : (n i : ℕ) → pre_at n < invoked_at (calls_at n) i
pre-first n i = let first : calls_at n < invoked_at (calls_at n) i = from-first (calls_at n) i in omega arith

pre-site : (n : ℕ) → site_at (plain_main n) (pre_at n) ≡ n + 3
pre-site n =
    let own : earlier (pre_at n) (pre_at n ∷ []) ≡ 0 = none-earlier (pre_at n) (pre_at n) (omega arith) in
    let call : ℕ → ℕ = invoked_at (calls_at n) in
    let others : earlier (pre_at n) (firsts call n) ≡ 0 =
    none-of call (pre_at n) n (λ i lt. let less : pre_at n < invoked_at (calls_at n) i = pre-first n i in omega arith) in
    main-site n (pre_at n)
    ∙ ap (λ m. (n + 3) + m) (earlier-both (pre_at n) (pre_at n ∷ []) (firsts call n))
    ∙ omega arith

call-site : (n i : ℕ) → i < n → site_at (plain_main n) (invoked_at (calls_at n) i) ≡ (n + 4) + i
call-site n i h =
    let at : ℕ = invoked_at (calls_at n) i in
    let own : earlier at (pre_at n ∷ []) ≡ 1 = one-earlier at (pre_at n) (pre-first n i) in
    let others : earlier at (firsts (invoked_at (calls_at n)) n) ≡ i = earlier-place (invoked_at (calls_at n)) (calls-rise (calls_at n)) n i h in
    main-site n at
    ∙ ap (λ m. (n + 3) + m) (earlier-both at (pre_at n ∷ []) (firsts (invoked_at (calls_at n)) n))
    ∙ omega arith

-- ---- The tree.
sited-calls : (n : ℕ) (f : ℕ → ℕ) (k : ℕ) → ((i : ℕ) → i < k → f (invoked_at (calls_at n) i) ≡ (n + 4) + i)
    → map (sited_equation f) (plain_calls (calls_at n) k) ≡ link_calls (offsets_of n) (n + 4) k
sited-calls n f zero h = refl
sited-calls n f (suc k) h =
    let argument : Tree = flow_read (argument_at (calls_at n) k) (link_name k) in
    let right : ℕ → Tree = λ site. Node (invoked_at (calls_at n) k) (Some site) (Call (codes "link") (More argument None)) in
    let call : ℕ → EquationTree = λ site. equation (left_at (calls_at n) k) (link_name (suc k)) (right site) in
    map_push (sited_equation f) (plain_calls (calls_at n) k) (plain_call (calls_at n) k)
    ∙ ap (λ l. l ++ call (f (invoked_at (calls_at n) k)) ∷ []) (sited-calls n f k (λ i lt. h i (omega arith)))
    ∙ ap (λ site. link_calls (offsets_of n) (n + 4) k ++ call site ∷ []) (h k (omega arith))

-- the main node with these equations
abbrev main_with : ℕ → List EquationTree → NodeTree
main_with n qs = record {
  name = (plain_main n).name;
  inputs = (plain_main n).inputs;
  outputs = (plain_main n).outputs;
  locals = (plain_main n).locals;
  equations = qs;
  assertions = [];
}

main-sited : (n : ℕ) → main_node (offsets_of n) n ≡ with_sites (plain_main n)
main-sited n =
    let f : ℕ → ℕ = site_at (plain_main n) in
    let at : ℕ → ℕ = at_place (main_offsets n) in
    let ok : EquationTree = plain_ok at n in
    let calls : map (sited_equation f) (plain_calls (calls_at n) n) ≡ link_calls (offsets_of n) (n + 4) n = sited-calls n f n (call-site n) in
    let behind : map (sited_equation f) (plain_calls (calls_at n) n ++ ok ∷ []) ≡ link_calls (offsets_of n) (n + 4) n ++ ok ∷ [] =
    map_push (sited_equation f) (plain_calls (calls_at n) n) ok ∙ ap (λ l. l ++ ok ∷ []) calls in
    let seen : seen_equation at (f (pre_at n)) ≡ seen_equation at (n + 3) = ap (seen_equation at) (pre-site n) in
    sym (ap (λ l. main_with n (seen_equation at (f (pre_at n)) ∷ l)) behind ∙ ap (λ q. main_with n (q ∷ (link_calls (offsets_of n) (n + 4) n ++ ok ∷ []))) seen)

pub made-sited : (n : ℕ) → chain_program (offsets_of n) n ≡ program_with_sites (plain_program n)
made-sited n =
    let whole : NodeTree → ProgramTree = λ m. record { types = []; constants = []; nodes = link_node (offsets_of n).link ∷ m ∷ [] } in
    ap whole (main-sited n)
