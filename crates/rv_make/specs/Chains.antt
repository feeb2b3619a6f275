-- The tree of the source that is made for a number, with any offsets.
use Rattle.std.specs.Prelude.{ℕ, zero, suc, ◌+◌, List, [], ◌∷◌, ◌++◌, codes, Some, None as Nothing}
use Rattle.rv_tree.specs.Tree.{Tree, Node, False, Named, Not, Pre, Binary, Call, None, More, EquationTree, NodeTree, ProgramTree}
use Rattle.rv_tree.specs.{declared.tree.Name.Name, declared.tree.Decl.Decl, declared.tree.TypeName.TheVariants.Bool}
use Rattle.rv_tree.specs.declared.tree.Op.TheVariants as op
use Rattle.rv_make.specs.Made.{link_name}

-- Where the parts stand: those of the node `link`; those of the main node beside its calls; the declaration of each call's flow; and of
-- each call's equation its left side, the call and the argument.
pub record Offsets : Type 0 where
  pub link : ℕ → ℕ
  pub main : ℕ → ℕ
  pub declared : ℕ → ℕ
  pub left : ℕ → ℕ
  pub call : ℕ → ℕ
  pub argument : ℕ → ℕ

abbrev pub named_at : ℕ → List ℕ → Name
named_at at text = record { text = text; at = at }

-- a Boolean flow on the base clock
abbrev pub boolean : ℕ → List ℕ → Decl
boolean at text = record { name = named_at at text; kind = Bool; clock = Nothing }

-- an expression without a site
abbrev pub flow_read : ℕ → List ℕ → Tree
flow_read at text = Node at Nothing (Named text)

abbrev pub equation : ℕ → List ℕ → Tree → EquationTree
equation at text right = record { lefts = named_at at text ∷ []; right = right }

-- `false -> pre` of a flow, whose `pre` has this site
abbrev pub delayed : (ℕ → ℕ) → ℕ → ℕ → List ℕ → Tree
delayed at first site text = Node (at first) Nothing (Binary op.Arrow (Node (at (first + 1)) Nothing False)
    (Node (at (first + 2)) (Some site) (Pre (flow_read (at (first + 3)) text))))

-- node link(a: bool) returns (b: bool); let b = false -> pre a; tel
abbrev pub link_node : (ℕ → ℕ) → NodeTree
link_node at = record {
  name = named_at (at 0) (codes "link");
  inputs = boolean (at 1) (codes "a") ∷ [];
  outputs = boolean (at 2) (codes "b") ∷ [];
  locals = [];
  equations = equation (at 3) (codes "b") (delayed at 4 2 (codes "a")) ∷ [];
  assertions = [];
}

-- the flows of the first n calls
abbrev pub link_flows : (ℕ → ℕ) → ℕ → List Decl
link_flows at zero = []
link_flows at (suc n) = link_flows at n ++ boolean (at n) (link_name (suc n)) ∷ []

-- The equations of the first n calls, of which the first has this site.
abbrev pub link_calls : Offsets → ℕ → ℕ → List EquationTree
link_calls o first zero = []
link_calls o first (suc n) = link_calls o first n
    ++ equation (o.left n) (link_name (suc n))
    (Node (o.call n) (Some (first + n)) (Call (codes "link") (More (flow_read (o.argument n) (link_name n)) None))) ∷ []

-- seen = a or (false -> pre seen)
abbrev pub seen_equation : (ℕ → ℕ) → ℕ → EquationTree
seen_equation at site = equation (at 4) (codes "seen") (Node (at 5) Nothing (Binary op.Or (flow_read (at 6) (codes "a")) (delayed at 7 site (codes "seen"))))

-- ok = not b or seen, for the flow of the last call
abbrev pub ok_equation : (ℕ → ℕ) → ℕ → EquationTree
ok_equation at n = equation (at 11) (codes "ok")
    (Node (at 12) Nothing (Binary op.Or (Node (at 13) Nothing (Not (flow_read (at 14) (link_name n)))) (flow_read (at 15) (codes "seen"))))

-- The main node: its flows have the sites 0 to n + 2, the `pre` of `seen` has the site n + 3, and the calls those from n + 4 on.
abbrev pub main_node : Offsets → ℕ → NodeTree
main_node o n = record {
  name = named_at (o.main 0) (codes "main");
  inputs = boolean (o.main 1) (codes "a") ∷ [];
  outputs = boolean (o.main 2) (codes "ok") ∷ [];
  locals = boolean (o.main 3) (codes "seen") ∷ link_flows o.declared n;
  equations = seen_equation o.main (n + 3) ∷ (link_calls o (n + 4) n ++ ok_equation o.main n ∷ []);
  assertions = [];
}

-- The program: the two nodes.
abbrev pub chain_program : Offsets → ℕ → ProgramTree
chain_program o n = record { types = []; constants = []; nodes = link_node o.link ∷ main_node o n ∷ [] }
