-- The expressions that stand in a node: their delays and calls are those of the node.
use Rattle.std.proofs.Common.{ℕ, List, [], ◌∷◌, ◌++◌, sym, subst, inl, inr, unwrap_or, Option}
use Rattle.std.proofs.lemmas.List.Elements.{Contains-append_left, Contains-append_right, Contains-append_cases}
use Rattle.std.specs.List.{Contains}
use Rattle.rv_tree.specs.Tree.{Tree, Node, Form, Not, Minus, Pre, Current, When, Binary, If, AtMostOne, Call, Trees, None, More, EquationTree, AssertionTree}
use Rattle.rv_tree.specs.{Tree.NodeTree, declared.tree.Op.Op, declared.tree.Name.Name, Places.Identifier}
use Rattle.rv_tree.specs.Delays.{Delay, delays, form_delays, delays_of_all, delays_in_equations, delays_in_assertions, node_delays}
use Rattle.rv_types.specs.Instances.{CallTree, calls, calls_in, form_calls, calls_in_all, calls_in_equations, calls_in_assertions, Body, Output, IsRight, alone}
use Rattle.rv_types.specs.Instances.{in_order, IsArgument}
use Rattle.rv_meaning.proofs.{DelayParts.argument_within, DelayParts.of_equation, CallParts.call_of_equation}
use Rattle.rv_types.proofs.{Members.at_head, Members.cons_cases, Members.nothing_in, CallsWithin.in_argument}

-- Each delay and each call of the expression is among these.
pub record Among (e : Tree) (ds : List Delay) (cs : List CallTree) : Type 0 where
  pub delays : (d : Delay) → Contains (delays e) d → Contains ds d
  pub calls : (c : CallTree) → Contains (calls_in e) c → Contains cs c

-- it is among its own
itself : (e : Tree) → Among e (delays e) (calls_in e)
itself e = record { delays = λ d w. w; calls = λ c w. w }

-- and what is among its own is where it is
through : {a e : Tree} {ds : List Delay} {cs : List CallTree} → Among e ds cs → Among a (delays e) (calls_in e) → Among a ds cs
through q p = record { delays = λ d w. q.delays d (p.delays d w); calls = λ c w. q.calls c (p.calls c w) }

-- what is among some is among them and more
in_first : {e : Tree} {ds : List Delay} {cs : List CallTree} → Among e ds cs → (es : List Delay) (bs : List CallTree) → Among e (ds ++ es) (cs ++ bs)
in_first {ds = ds} {cs = cs} a es bs = record {
  delays = λ d w. Contains-append_left ds es d (a.delays d w);
  calls = λ c w. Contains-append_left cs bs c (a.calls c w);
}

in_second : {e : Tree} {es : List Delay} {bs : List CallTree} (ds : List Delay) (cs : List CallTree) → Among e es bs → Among e (ds ++ es) (cs ++ bs)
in_second {es = es} {bs = bs} ds cs a = record {
  delays = λ d w. Contains-append_right ds es d (a.delays d w);
  calls = λ c w. Contains-append_right cs bs c (a.calls c w);
}

-- an argument is among those of all arguments
argument_among : (es : Trees) (j : ℕ) (a : Tree) → IsArgument es j a → Among a (delays_of_all es) (calls_in_all es)
argument_among es j a arg = record { delays = λ d w. argument_within es j a d arg w; calls = λ c w. in_argument es j a c arg w }

-- The arguments of these calls and the operands of these delays are among them.
record Closed (ds : List Delay) (cs : List CallTree) : Type 0 where
  arguments : (c : CallTree) (j : ℕ) (a : Tree) → Contains cs c → IsArgument c.args j a → Among a ds cs
  operands : (d : Delay) → Contains ds d → Among d.operand ds cs

nothing_closed : Closed [] []
nothing_closed = record { arguments = λ c j a w arg. nothing_in c w; operands = λ d w. nothing_in d w }

-- two parts
joined : {ds es : List Delay} {cs bs : List CallTree} → Closed ds cs → Closed es bs → Closed (ds ++ es) (cs ++ bs)
joined {ds = ds} {es = es} {cs = cs} {bs = bs} p q = record {
  arguments = λ c j a w arg. elim (Contains-append_cases cs bs c w) [
    | inl here ↦ in_first (p.arguments c j a here arg) es bs
    | inr there ↦ in_second ds cs (q.arguments c j a there arg)
  ];
  operands = λ d w. elim (Contains-append_cases ds es d w) [ inl here ↦ in_first (p.operands d here) es bs | inr there ↦ in_second ds cs (q.operands d there) ];
}

-- a delay before those of its operand
with_delay : (d : Delay) → Closed (delays d.operand) (calls_in d.operand) → Closed (d ∷ delays d.operand) (calls_in d.operand)
with_delay d p = record {
  arguments = λ c j a w arg. in_second (d ∷ []) [] (p.arguments c j a w arg);
  operands = λ e w. in_second (d ∷ []) [] (elim (cons_cases d (delays d.operand) e w) [
    | inl is ↦ subst (λ (e : Delay). Among e.operand (delays d.operand) (calls_in d.operand)) is (itself d.operand)
    | inr later ↦ p.operands e later
  ]);
}

-- and a call before those of its arguments
with_call : (c : CallTree) → Closed (delays_of_all c.args) (calls_in_all c.args) → Closed (delays_of_all c.args) (c ∷ calls_in_all c.args)
with_call c p = record {
  arguments = λ b j a w arg. in_second [] (c ∷ []) (elim (cons_cases c (calls_in_all c.args) b w) [
    | inl is ↦ argument_among c.args j a (subst (λ (b : CallTree). IsArgument b.args j a) (sym is) arg)
    | inr later ↦ p.arguments b j a later arg
  ]);
  operands = λ d w. in_second [] (c ∷ []) (p.operands d w);
}

mutual
  -- those of an expression are closed
  closed : (e : Tree) → Closed (delays e) (calls_in e)
  closed (Node at site form) = form_closed at site form

  form_closed : (at : ℕ) (site : Option ℕ) (form : Form) → Closed (form_delays site form) (form_calls at site form)
  form_closed at site (Not e) = closed e
  form_closed at site (Minus e) = closed e
  form_closed at site (Pre e) = with_delay (record { site = site; operand = e }) (closed e)
  form_closed at site (Current e) = with_delay (record { site = site; operand = e }) (closed e)
  form_closed at site (When e x) = closed e
  form_closed at site (Binary o a b) = joined (closed a) (closed b)
  form_closed at site (If a b c) = joined (closed a) (joined (closed b) (closed c))
  form_closed at site (AtMostOne es) = all_closed es
  form_closed at site (Call f args) = with_call (record { at = at; site = unwrap_or site 0; name = f; args = args }) (all_closed args)
  form_closed at site _ = nothing_closed

  all_closed : (es : Trees) → Closed (delays_of_all es) (calls_in_all es)
  all_closed None = nothing_closed
  all_closed (More e es) = joined (closed e) (all_closed es)

-- so are those of equations, of assertions and of a node
equations_closed : (qs : List EquationTree) → Closed (delays_in_equations qs) (calls_in_equations qs)
equations_closed [] = nothing_closed
equations_closed (q ∷ qs) = joined (closed q.right) (equations_closed qs)

assertions_closed : (qs : List AssertionTree) → Closed (delays_in_assertions qs) (calls_in_assertions qs)
assertions_closed [] = nothing_closed
assertions_closed (q ∷ qs) = joined (closed q.body) (assertions_closed qs)

node_closed : (n : NodeTree) → Closed (node_delays n) (calls n)
node_closed n = joined (equations_closed n.equations) (assertions_closed n.assertions)

-- The expression stands in the node.
abbrev pub Stands : NodeTree → Tree → Type 0
Stands n e = Among e (node_delays n) (calls n)

module _ (n : NodeTree) where
  -- the right side of an equation stands there
  pub right_stands : (q : EquationTree) → Contains n.equations q → Stands n q.right
  right_stands q w = record { delays = λ d inner. of_equation n q d w inner; calls = λ c inner. call_of_equation n q c w inner }

  -- so does that of a flow
  pub body_stands : (x : Identifier) (e : Tree) → IsRight n x (Body e) → Stands n e
  body_stands x _ (alone q w is) = right_stands q w

  -- and a call with several outputs is one of the node
  pub output_call : (x : Identifier) (c : CallTree) (j : ℕ) → IsRight n x (Output c j) → Contains (calls n) c
  output_call x _ _ (in_order q at site f args j w is several lt name) =
      let own : CallTree = record { at = at; site = site; name = f; args = args } in
      call_of_equation n q own w (subst (λ e. Contains (calls_in e) own) (sym is) (at_head own (calls_in_all args)))

  -- an argument of a call
  pub argument_stands : (c : CallTree) (j : ℕ) (e : Tree) → Contains (calls n) c → IsArgument c.args j e → Stands n e
  argument_stands c j e w arg = (node_closed n).arguments c j e w arg

  -- the operand of a delay
  pub operand_stands : (d : Delay) → Contains (node_delays n) d → Stands n d.operand
  operand_stands d w = (node_closed n).operands d w

  -- the operand of a `pre` or `current` that stands there, and the delay itself
  pub pre_operand : (at : ℕ) (site : Option ℕ) (e : Tree) → Stands n (Node at site (Pre e)) → Contains (node_delays n) (record { site = site; operand = e })
  pre_operand at site e s = s.delays (record { site = site; operand = e }) (at_head (record { site = site; operand = e }) (delays e))

  pub current_operand : (at : ℕ) (site : Option ℕ) (e : Tree) → Stands n (Node at site (Current e))
      → Contains (node_delays n) (record { site = site; operand = e }) × Stands n e
  current_operand at site e s = let own : Delay = record { site = site; operand = e } in
      (s.delays own (at_head own (delays e)), through s (in_second (own ∷ []) [] (itself e)))

  -- the operand of a `when`
  pub when_operand : (at : ℕ) (site : Option ℕ) (e : Tree) (x : Name) → Stands n (Node at site (When e x)) → Stands n e
  when_operand at site e x s = through s (itself e)

  -- the operands of an operator
  pub left_operand : (at : ℕ) (site : Option ℕ) (o : Op) (a b : Tree) → Stands n (Node at site (Binary o a b)) → Stands n a
  left_operand at site o a b s = through s (in_first (itself a) (delays b) (calls_in b))

  pub right_operand : (at : ℕ) (site : Option ℕ) (o : Op) (a b : Tree) → Stands n (Node at site (Binary o a b)) → Stands n b
  right_operand at site o a b s = through s (in_second (delays a) (calls_in a) (itself b))

  -- the last two parts of an `if`
  pub then_part : (at : ℕ) (site : Option ℕ) (a b c : Tree) → Stands n (Node at site (If a b c)) → Stands n b
  then_part at site a b c s = through s (in_second (delays a) (calls_in a) (in_first (itself b) (delays c) (calls_in c)))

  pub else_part : (at : ℕ) (site : Option ℕ) (a b c : Tree) → Stands n (Node at site (If a b c)) → Stands n c
  else_part at site a b c s = through s (in_second (delays a) (calls_in a) (in_second (delays b) (calls_in b) (itself c)))

  -- a call that stands there is one of the node
  pub own_call : (at : ℕ) (site : Option ℕ) (f : Identifier) (args : Trees) → Stands n (Node at site (Call f args))
      → Contains (calls n) (record { at = at; site = unwrap_or site 0; name = f; args = args })
  own_call at site f args s = s.calls _ (at_head (record { at = at; site = unwrap_or site 0; name = f; args = args }) (calls_in_all args))
