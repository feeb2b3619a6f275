-- How much the parts of a text's tree are at most: each token has an offset of its own, and tokens are no more than bytes.
use Rattle.std.proofs.Common.{◌≡◌, ℕ, zero, suc, ◌+◌, ◌-◌, ◌<◌, ◌≤◌, Bool, false, cond, ltb, eqb, List, [], ◌∷◌, ◌++◌, length, take, get_or, refl, sym, ap}
use Rattle.std.proofs.Common.{subst, arith, length-append}
use Rattle.std.proofs.{lemmas.List.length-map, lemmas.Bool.Decides.nat_tests}
use Rattle.std.specs.{Prelude.Option, Prelude.Some, Prelude.None, List.All, List.Contains}
use Rattle.rv_base.specs.Limits.{source_limit}
use Rattle.rv_syntax.specs.Lexing.{cut, kind_of, emitted, ends_in_tel, lex, tokens}
use Rattle.rv_syntax.specs.{declared.token.Kind.Kind, declared.token.Token.Token, TextTrees.IsTreeOfText, ProgramText.IsProgram}
use Rattle.rv_tree.specs.Sites.{equation_offsets, assertion_offsets, node_offsets, site_count, with_sites}
use Rattle.rv_tree.specs.{Tree.NodeTree, Tree.ProgramTree, Places.flows, Bounded.IsBounded}
use Rattle.rv_syntax.proofs.Earlier.{length-flows}
use Rattle.rv_syntax.proofs.Spelled.{all_of, of_name, of_flow, of_body, of_type, of_constant, of_node, of_program, of_tokens, tells-program}
use Rattle.rv_base.proofs.Lists.{from_map}

-- ---- Weights: that of one offset alone, and the same of each.
abbrev pub alone : ℕ → ℕ → ℕ
alone x y = cond (eqb y x) 1 0

abbrev pub each : ℕ → ℕ
each y = 1

-- no two tokens stand at one offset, and none before where the text begins
here : (x at : ℕ) → alone x at + cond (ltb x at) 1 0 ≤ cond (ltb x (at + 1)) 1 0
here x at = grind (arith, nat_tests)

later : (x at : ℕ) → cond (ltb x at) 1 0 ≤ cond (ltb x (at + 1)) 1 0
later x at = grind (arith, nat_tests)

emitted-alone : (x : ℕ) (o : Option Kind) (at : ℕ) (ts : List Token) → of_tokens (alone x) (emitted o at ++ ts) ≤ alone x at + of_tokens (alone x) ts
emitted-alone x None at ts = omega arith
emitted-alone x (Some k) at ts = omega arith

lex-alone : (x skip : ℕ) (tel : Bool) (at : ℕ) (bs : List ℕ) → of_tokens (alone x) (lex skip tel at bs) + cond (ltb x at) 1 0 ≤ 1
unfolding lex
lex-alone x skip tel at [] = grind (arith, nat_tests)
lex-alone x (suc skip) tel at (b ∷ bs) = omega (arith, lex-alone x skip tel (at + 1) bs, later x at)
lex-alone x zero tel at (b ∷ bs) =
    omega (
      arith,
      lex-alone x ((cut (b ∷ bs)).1 - 1) (ends_in_tel tel (cut (b ∷ bs)).0) (at + 1) bs,
      here x at,
      emitted-alone x (kind_of tel (cut (b ∷ bs)).0 (take (cut (b ∷ bs)).1 (b ∷ bs))) at
          (lex ((cut (b ∷ bs)).1 - 1) (ends_in_tel tel (cut (b ∷ bs)).0) (at + 1) bs),
    )

pub tokens-alone : (x : ℕ) (bytes : List ℕ) → of_tokens (alone x) (tokens bytes) ≤ 1
tokens-alone x bytes = omega (arith, lex-alone x 0 false 0 bytes)

-- a text has no more tokens than bytes
emitted-each : (o : Option Kind) (at : ℕ) (ts : List Token) → of_tokens each (emitted o at ++ ts) ≤ 1 + of_tokens each ts
emitted-each None at ts = omega arith
emitted-each (Some k) at ts = omega arith

lex-each : (skip : ℕ) (tel : Bool) (at : ℕ) (bs : List ℕ) → of_tokens each (lex skip tel at bs) ≤ length bs
unfolding lex
lex-each skip tel at [] = omega arith
lex-each (suc skip) tel at (b ∷ bs) = omega (arith, lex-each skip tel (at + 1) bs)
lex-each zero tel at (b ∷ bs) =
    omega (
      arith,
      lex-each ((cut (b ∷ bs)).1 - 1) (ends_in_tel tel (cut (b ∷ bs)).0) (at + 1) bs,
      emitted-each (kind_of tel (cut (b ∷ bs)).0 (take (cut (b ∷ bs)).1 (b ∷ bs))) at
          (lex ((cut (b ∷ bs)).1 - 1) (ends_in_tel tel (cut (b ∷ bs)).0) (at + 1) bs),
    )

pub program-short : (bytes : List ℕ) (p : ProgramTree) → IsProgram p (tokens bytes) → of_program each p ≤ length bytes
program-short bytes p h = omega (arith, tells-program each p (tokens bytes) h, lex-each 0 false 0 bytes)

-- ---- Elements of a list.
-- one of them weighs no more than all
pub one-at : {A : Type 0} (f : A → ℕ) (xs : List A) (i : ℕ) (d : A) → i < length xs → f (get_or xs i d) ≤ all_of f xs
one-at f [] i d lt = absurd (omega arith)
one-at f (x ∷ xs) zero d lt = omega arith
one-at f (x ∷ xs) (suc i) d lt = omega (arith, one-at f xs i d (omega arith))

pub one-of : {A : Type 0} (f : A → ℕ) (xs : List A) (x : A) → Contains xs x → f x ≤ all_of f xs
one-of f xs x h = subst (λ y. f y ≤ all_of f xs) h.2 (one-at f xs h.0 x h.1)

-- they are no more than they weigh, where each weighs something
few : {A : Type 0} (f : A → ℕ) → ((x : A) → 1 ≤ f x) → (xs : List A) → length xs ≤ all_of f xs
few f some [] = omega arith
few f some (x ∷ xs) = omega (arith, some x, few f some xs)

-- where each weighs 1, they weigh how many they are
many : {A : Type 0} (f : A → ℕ) → ((x : A) → f x ≡ 1) → (xs : List A) → all_of f xs ≡ length xs
many f is [] = refl
many f is (x ∷ xs) = omega (arith, is x, many f is xs)

-- ---- Programs.
-- the flows of a node, and its sites
pub node-weighs : (n : NodeTree) → length (flows n) + length (node_offsets n) ≤ of_node each n
node-weighs n =
    omega (
      arith,
      length-flows n,
      length-append (equation_offsets n.equations) (assertion_offsets n.assertions),
      many (of_flow each) (λ d. refl) n.inputs,
      many (of_flow each) (λ d. refl) n.outputs,
      many (of_flow each) (λ d. refl) n.locals,
      many each (λ y. refl) (equation_offsets n.equations),
      many each (λ y. refl) (assertion_offsets n.assertions),
    )

-- in the program of a text within the limit, sites fit
pub program-fits : (bytes : List ℕ) (p : ProgramTree) → length bytes ≤ source_limit → IsProgram p (tokens bytes)
    → All (λ n. site_count n ≤ source_limit) p.nodes
program-fits bytes p le h i d lt =
    let n = get_or p.nodes i d in
    omega (arith, node-weighs n, one-at (of_node each) p.nodes i d lt, program-short bytes p h)

pub bounded-text : (t : ProgramTree) → IsTreeOfText t → IsBounded t
bounded-text t h =
    let bytes : List ℕ = h.0 in
    let p : ProgramTree = h.2.0 in
    let short : of_program each p ≤ length bytes = program-short bytes p h.2.2 in
    let few_types : length p.types ≤ all_of (of_type each) p.types = few (of_type each) (λ d. omega arith) p.types in
    let few_constants : length p.constants ≤ all_of (of_constant each) p.constants = few (of_constant each) (λ c. omega arith) p.constants in
    let few_nodes : length p.nodes ≤ all_of (of_node each) p.nodes = few (of_node each) (λ n. omega arith) p.nodes in
    subst IsBounded (sym h.2.1) record {
      types = omega arith;
      constants = omega arith;
      nodes = omega (arith, length-map p.nodes with_sites);
      labels = λ d xs inside is. omega (arith, one-of (of_type each) p.types d inside, ap (of_body each) is, many (of_name each) (λ x. refl) xs);
      node_flows = λ n inside.
          let from = from_map with_sites p.nodes n inside in
          let same : length (flows from.0) ≡ length (flows n) = ap (λ m. length (flows m)) from.2 in
          omega (arith, node-weighs from.0, one-of (of_node each) p.nodes from.0 from.1, same);
    }
