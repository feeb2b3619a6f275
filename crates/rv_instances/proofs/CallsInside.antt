-- What is known of the arguments of the calls of a node whose names are known.
use Rattle.std.proofs.Common.{◌≡◌, ℕ, inl, inr, Bool, List, [], ◌∷◌, ◌++◌, sym, subst, Option, unwrap_or}
use Rattle.std.proofs.lemmas.List.Elements.{Contains-append_left, Contains-append_right, Contains-append_cases}
use Rattle.std.specs.List.{Contains}
use Rattle.rv_tree.specs.Tree.{Tree, Node, Form, Not, Minus, Pre, Current, When, Binary, If, AtMostOne, Call, Trees, None, More, EquationTree, NodeTree}
use Rattle.rv_tree.specs.Tree.{ProgramTree}
use Rattle.rv_tree.specs.Places.{Identifier, is_flow}
use Rattle.rv_types.specs.Parts.{faults_of_all}
use Rattle.rv_types.specs.Names.{is_declared, node_names, is_value, node_uses, equation_uses, name_faults, uses, own_uses}
use Rattle.rv_types.specs.Instances.{CallTree, calls, calls_in, form_calls, calls_in_all, calls_in_equations, calls_in_assertions, IsArgument, head, tail}
use Rattle.rv_instances.proofs.Known.{each_nil, uses_of, of_body, call_is_known}
use Rattle.rv_types.proofs.{Members.cons_cases, Members.nothing_in, RightNames.both_empty, TypedParts.right_calls, CallsWithin.in_body, CallsWithin.of_right}

-- the names in an argument
pub argument_known : (values clocks nodes : Identifier → Bool) (es : Trees) (j : ℕ) (e : Tree) → faults_of_all (own_uses values clocks nodes) es ≡ []
    → IsArgument es j e → uses values clocks nodes e ≡ []
argument_known values clocks nodes _ _ e known head = (both_empty _ _ known).0
argument_known values clocks nodes _ _ e known (tail {es = es} {j = j} rest) = argument_known values clocks nodes es j e (both_empty _ _ known).1 rest

-- The calls in the arguments of a call of an expression are calls of it.

in_either : (xs ys : List CallTree) (c d : CallTree) → (Contains xs c → Contains xs d) → (Contains ys c → Contains ys d) → Contains (xs ++ ys) c
    → Contains (xs ++ ys) d
in_either xs ys c d front back w = elim (Contains-append_cases xs ys c w) [
  | inl u ↦ Contains-append_left xs ys d (front u)
  | inr u ↦ Contains-append_right xs ys d (back u)
]

mutual
  nested : (e : Tree) (c d : CallTree) → Contains (calls_in e) c → Contains (calls_in_all c.args) d → Contains (calls_in e) d
  nested (Node at site form) c d w v = form_nested at site form c d w v

  form_nested : (at : ℕ) (site : Option ℕ) (form : Form) (c d : CallTree) → Contains (form_calls at site form) c → Contains (calls_in_all c.args) d
      → Contains (form_calls at site form) d
  form_nested at site (Not t) c d w v = nested t c d w v
  form_nested at site (Minus t) c d w v = nested t c d w v
  form_nested at site (Pre t) c d w v = nested t c d w v
  form_nested at site (Current t) c d w v = nested t c d w v
  form_nested at site (When t x) c d w v = nested t c d w v
  form_nested at site (Binary o a b) c d w v = in_either (calls_in a) (calls_in b) c d (λ u. nested a c d u v) (λ u. nested b c d u v) w
  form_nested at site (If i a b) c d w v =
      in_either (calls_in i) (calls_in a ++ calls_in b) c d (λ u. nested i c d u v)
      (in_either (calls_in a) (calls_in b) c d (λ u. nested a c d u v) (λ u. nested b c d u v)) w
  form_nested at site (AtMostOne es) c d w v = all_nested es c d w v
  form_nested at site (Call f es) c d w v =
      let call : CallTree = record { at = at; site = unwrap_or site 0; name = f; args = es } in
      Contains-append_right (call ∷ []) (calls_in_all es) d (elim (cons_cases call (calls_in_all es) c w) [
        | inl same ↦ subst (λ (b : CallTree). Contains (calls_in_all b.args) d) (sym same) v
        | inr u ↦ all_nested es c d u v
      ])
  form_nested at site _ c d w v = nothing_in c w

  all_nested : (es : Trees) (c d : CallTree) → Contains (calls_in_all es) c → Contains (calls_in_all c.args) d → Contains (calls_in_all es) d
  all_nested None c d w v = nothing_in c w
  all_nested (More t ts) c d w v = in_either (calls_in t) (calls_in_all ts) c d (λ u. nested t c d u v) (λ u. all_nested ts c d u v) w

-- the calls in the arguments of a call of a node are calls of the node
pub calls_nested : (n : NodeTree) (c d : CallTree) → Contains (calls n) c → Contains (calls_in_all c.args) d → Contains (calls n) d
calls_nested n c d w v =
    in_either (calls_in_equations n.equations) (calls_in_assertions n.assertions) c d
    (λ u. let q = of_right n.equations c u in right_calls n.equations q.0 d q.1 (nested q.0.right c d q.2 v))
    (λ u. let q = of_body n.assertions c u in in_body n.assertions q.0 d q.1 (nested q.0.body c d q.2 v)) w

-- the faults of the names in some expressions of a node
abbrev pub names_of_all : ProgramTree → NodeTree → Trees → Type 0
names_of_all p n es = faults_of_all (own_uses (is_value p n) (is_flow n) (is_declared (node_names p))) es ≡ []

module _ (p : ProgramTree) (named : name_faults p ≡ []) (n : NodeTree) (there : Contains p.nodes n) where
  -- the names in a right side
  pub right_known : (q : EquationTree) → Contains n.equations q → node_uses p n q.right ≡ []
  right_known q w = (both_empty _ _ (each_nil (equation_uses p n) n.equations (uses_of p named n there).1 q w)).1

  -- those in the arguments of a call
  pub call_known : (c : CallTree) → Contains (calls n) c → names_of_all p n c.args
  call_known c w = (call_is_known p named n c there w).1
