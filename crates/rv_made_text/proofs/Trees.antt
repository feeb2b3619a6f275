-- The tree of a made source without its sites, at the offsets of its tokens.
use Rattle.std.proofs.Common.{ℕ, zero, suc, ◌+◌, List, [], ◌∷◌, ◌++◌, length, get_or}
use Rattle.std.specs.Prelude.{codes, None as Nothing}
use Rattle.rv_tree.specs.declared.tree.Op.TheVariants as op
use Rattle.rv_tree.specs.Tree.{Tree, Node, False, Not, Pre, Binary, Call, None, More, EquationTree, NodeTree, ProgramTree}
use Rattle.rv_make.specs.{Made.link_name, Chains.Offsets, Chains.named_at, Chains.boolean, Chains.flow_read, Chains.equation, Chains.link_flows}
use Rattle.rv_made_text.proofs.Tokens.{after, declared_end, left_end, call_at, calls_at, ok_at}

-- the element of a list at a place
abbrev pub at_place : List ℕ → ℕ → ℕ
at_place xs i = get_or xs i 0

-- the offsets in the node `link`
abbrev pub link_offsets : List ℕ
link_offsets = 5 ∷ 10 ∷ 28 ∷ 44 ∷ 54 ∷ 48 ∷ 57 ∷ 61 ∷ []

-- the offsets in the main node with n calls, beside those of the calls
abbrev pub main_offsets : ℕ → List ℕ
main_offsets n =
    let first : ℕ = declared_end n in
    let last : ℕ = ok_at n in
    let behind : ℕ = after last 11 + length (link_name n) in
    73 ∷ 78 ∷ 96 ∷ 111 ∷ after first 14 ∷ after first 23 ∷ after first 21 ∷ after first 33 ∷ after first 27 ∷ after first 36 ∷ after first 40
    ∷ after last 2 ∷ after behind 1 ∷ after last 7 ∷ after last 11 ∷ after behind 4 ∷ []

-- the declaration of the flow of the call with this number
abbrev pub flow_at : ℕ → ℕ
flow_at i = after (declared_end i) 2

-- the left side of its equation, where the first one begins at this offset
abbrev pub left_at : ℕ → ℕ → ℕ
left_at first i = after (call_at first i) 2

-- the call there
abbrev pub invoked_at : ℕ → ℕ → ℕ
invoked_at first i = after (left_end (call_at first i) i) 3

-- the argument of the call
abbrev pub argument_at : ℕ → ℕ → ℕ
argument_at first i = after (left_end (call_at first i) i) 8

-- all of them
abbrev pub offsets_of : ℕ → Offsets
offsets_of n = record {
  link = at_place link_offsets;
  main = at_place (main_offsets n);
  declared = flow_at;
  left = left_at (calls_at n);
  call = invoked_at (calls_at n);
  argument = argument_at (calls_at n);
}

-- `false -> pre` of a flow
abbrev pub plain_delayed : (ℕ → ℕ) → ℕ → List ℕ → Tree
plain_delayed at first text =
    let delayed : Tree = Node (at (first + 2)) Nothing (Pre (flow_read (at (first + 3)) text)) in
    Node (at first) Nothing (Binary op.Arrow (Node (at (first + 1)) Nothing False) delayed)

-- the node `link`
abbrev pub plain_link : NodeTree
plain_link =
    let at : ℕ → ℕ = at_place link_offsets in
    record {
      name = named_at (at 0) (codes "link");
      inputs = boolean (at 1) (codes "a") ∷ [];
      outputs = boolean (at 2) (codes "b") ∷ [];
      locals = [];
      equations = equation (at 3) (codes "b") (plain_delayed at 4 (codes "a")) ∷ [];
      assertions = [];
    }

-- the equation of the call with this number
abbrev pub plain_call : ℕ → ℕ → EquationTree
plain_call first i =
    let argument : Tree = flow_read (argument_at first i) (link_name i) in
    equation (left_at first i) (link_name (suc i)) (Node (invoked_at first i) Nothing (Call (codes "link") (More argument None)))

-- the equations of the first n calls
abbrev pub plain_calls : ℕ → ℕ → List EquationTree
plain_calls first zero = []
plain_calls first (suc n) = plain_calls first n ++ plain_call first n ∷ []

-- the equation of `seen`
abbrev pub plain_seen : (ℕ → ℕ) → EquationTree
plain_seen at = equation (at 4) (codes "seen") (Node (at 5) Nothing (Binary op.Or (flow_read (at 6) (codes "a")) (plain_delayed at 7 (codes "seen"))))

-- the equation of `ok`
abbrev pub plain_ok : (ℕ → ℕ) → ℕ → EquationTree
plain_ok at n =
    let last : Tree = Node (at 13) Nothing (Not (flow_read (at 14) (link_name n))) in
    equation (at 11) (codes "ok") (Node (at 12) Nothing (Binary op.Or last (flow_read (at 15) (codes "seen"))))

-- all equations of the main node
abbrev pub plain_equations : ℕ → List EquationTree
plain_equations n = plain_seen (at_place (main_offsets n)) ∷ (plain_calls (calls_at n) n ++ plain_ok (at_place (main_offsets n)) n ∷ [])

-- the main node
abbrev pub plain_main : ℕ → NodeTree
plain_main n =
    let at : ℕ → ℕ = at_place (main_offsets n) in
    record {
      name = named_at (at 0) (codes "main");
      inputs = boolean (at 1) (codes "a") ∷ [];
      outputs = boolean (at 2) (codes "ok") ∷ [];
      locals = boolean (at 3) (codes "seen") ∷ link_flows flow_at n;
      equations = plain_equations n;
      assertions = [];
    }

-- the program
abbrev pub plain_program : ℕ → ProgramTree
plain_program n = record { types = []; constants = []; nodes = plain_link ∷ plain_main n ∷ [] }
