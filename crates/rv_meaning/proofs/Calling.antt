-- What is found at a site of a node is a call or a `pre` or `current` of it, and each of them is found.
use Rattle.std.proofs.Common.{◌≡◌, ℕ, Bool, true, false, cond, nat_eq, unwrap_or, List, [], ◌∷◌, ◌++◌, refl, sym, ◌∙◌, ap, arith, Option, Some, None as Nothing}
use Rattle.std.proofs.{lemmas.Bool.eqb-true, lemmas.Option.none-some, lemmas.Option.same_Some}
use Rattle.std.specs.{List.Contains, Option.option_map, Option.option_or}
use Rattle.rv_tree.specs.{Tree.Tree, Tree.Node, Tree.Form, Tree.Not, Tree.Minus, Tree.Pre, Tree.Current, Tree.When, Tree.Binary, Tree.If, Tree.AtMostOne}
use Rattle.rv_tree.specs.{Tree.Call, Tree.Trees, Tree.None, Tree.More, Tree.EquationTree, Tree.AssertionTree, Tree.NodeTree, Places.Identifier, Delays.Delay}
use Rattle.rv_tree.specs.{Delays.delays, Delays.form_delays, Delays.delays_of_all, Delays.delays_in_equations, Delays.delays_in_assertions, Delays.node_delays}
use Rattle.rv_types.specs.Instances.{CallTree, calls, calls_in, form_calls, calls_in_all, calls_in_equations, calls_in_assertions}
use Rattle.rv_meaning.specs.Leading.{callee_within, callee_within_form, callee_within_all, callee_in_equations, callee_in_assertions, callee_in_node}
use Rattle.rv_meaning.specs.Leading.{operand_within, operand_within_form, operand_within_all, operand_in_equations, operand_in_assertions, operand_in_node}
use Rattle.rv_meaning.proofs.States.{first_with, found}
use Rattle.rv_types.proofs.Members.{in_tail}

module _ {X : Type 0} (key : X → ℕ) where
  -- what is found has the number
  pub found_has : (xs : List X) (s : ℕ) (x : X) → first_with key xs s ≡ Some x → Contains xs x × (key x ≡ s)
  found_has [] s x e = absurd (none-some x e)
  found_has (y ∷ ys) s x e = tested (nat_eq (key y) s) refl e (found_has ys s x)
    where
      tested : (b : Bool) → nat_eq (key y) s ≡ b → cond b (Some y) (first_with key ys s) ≡ Some x → (first_with key ys s ≡ Some x → Contains ys x × (key x ≡ s))
          → Contains (y ∷ ys) x × (key x ≡ s)
      tested true is e again = let same = same_Some y x e in ((0, omega arith, same), sym (ap key same) ∙ eqb-true (key y) s is)
      tested false is e again = let r = again e in (in_tail y ys x r.0, r.1)

  module _ {Y : Type 0} (part : X → Y) where
    -- a part of what is found
    abbrev pub picked : List X → ℕ → Option Y
    picked xs s = option_map part (first_with key xs s)

    -- in two lists, one after the other
    both : (xs ys : List X) (s : ℕ) → option_or (picked xs s) (picked ys s) ≡ picked (xs ++ ys) s
    both [] ys s = refl
    both (x ∷ xs) ys s = elim (nat_eq (key x) s) as (λ b. option_or (option_map part (cond b (Some x) (first_with key xs s))) (picked ys s)
        ≡ option_map part (cond b (Some x) (first_with key (xs ++ ys) s))) [ true ↦ refl | false ↦ both xs ys s ]

    -- of one before others
    first : (x : X) (xs : List X) (s : ℕ) (o : Option Y) → o ≡ picked xs s → cond (nat_eq (key x) s) (Some (part x)) o ≡ picked (x ∷ xs) s
    first x xs s o e = elim (nat_eq (key x) s)
        as (λ b. cond b (Some (part x)) o ≡ option_map part (cond b (Some x) (first_with key xs s))) [ true ↦ refl | false ↦ e ]

abbrev pub call_site : CallTree → ℕ
call_site c = c.site

abbrev pub call_name : CallTree → Identifier
call_name c = c.name

abbrev pub delay_site : Delay → ℕ
delay_site d = unwrap_or d.site 0

abbrev delay_operand : Delay → Tree
delay_operand d = d.operand

module _ (s : ℕ) where
  -- What is found at the site is the name of the first of these calls there, and the operand of the first of these delays.
  record Finds (name : Option Identifier) (operand : Option Tree) (cs : List CallTree) (ds : List Delay) : Type 0 where
    callee : name ≡ picked call_site call_name cs s
    delayed : operand ≡ picked delay_site delay_operand ds s

  nothing_found : Finds Nothing Nothing [] []
  nothing_found = record { callee = refl; delayed = refl }

  -- two parts
  joined : {f g : Option Identifier} {t u : Option Tree} {cs bs : List CallTree} {ds es : List Delay} → Finds f t cs ds → Finds g u bs es
      → Finds (option_or f g) (option_or t u) (cs ++ bs) (ds ++ es)
  joined {cs = cs} {bs = bs} {ds = ds} {es = es} p q = record {
    callee = (λ i. option_or (p.callee i) (q.callee i)) ∙ both call_site call_name cs bs s;
    delayed = (λ i. option_or (p.delayed i) (q.delayed i)) ∙ both delay_site delay_operand ds es s;
  }

  -- a delay before those of its operand
  with_delay : (d : Delay) {f : Option Identifier} {t : Option Tree} {cs : List CallTree} {ds : List Delay} → Finds f t cs ds
      → Finds f (cond (nat_eq (delay_site d) s) (Some d.operand) t) cs (d ∷ ds)
  with_delay d {t = t} {ds = ds} p = record { callee = p.callee; delayed = first delay_site delay_operand d ds s t p.delayed }

  mutual
    -- so it is in an expression
    finds : (e : Tree) → Finds (callee_within e s) (operand_within e s) (calls_in e) (delays e)
    finds (Node at site form) = form_finds at site form

    form_finds : (at : ℕ) (site : Option ℕ) (form : Form)
        → Finds (callee_within_form site form s) (operand_within_form site form s) (form_calls at site form) (form_delays site form)
    form_finds at site (Not e) = finds e
    form_finds at site (Minus e) = finds e
    form_finds at site (Pre e) = with_delay (record { site = site; operand = e }) (finds e)
    form_finds at site (Current e) = with_delay (record { site = site; operand = e }) (finds e)
    form_finds at site (When e c) = finds e
    form_finds at site (Binary o a b) = joined (finds a) (finds b)
    form_finds at site (If a b c) = joined (finds a) (joined (finds b) (finds c))
    form_finds at site (AtMostOne es) = all_find es
    form_finds at site (Call f args) =
        let own : CallTree = record { at = at; site = unwrap_or site 0; name = f; args = args } in
        let inner = all_find args in
        record { callee = first call_site call_name own (calls_in_all args) s (callee_within_all args s) inner.callee; delayed = inner.delayed }
    form_finds at site _ = nothing_found

    all_find : (es : Trees) → Finds (callee_within_all es s) (operand_within_all es s) (calls_in_all es) (delays_of_all es)
    all_find None = nothing_found
    all_find (More e es) = joined (finds e) (all_find es)

  -- the same of equations, of assertions, and of a node
  equations_find : (qs : List EquationTree) → Finds (callee_in_equations qs s) (operand_in_equations qs s) (calls_in_equations qs) (delays_in_equations qs)
  equations_find [] = nothing_found
  equations_find (q ∷ qs) = joined (finds q.right) (equations_find qs)

  assertions_find : (qs : List AssertionTree)
      → Finds (callee_in_assertions qs s) (operand_in_assertions qs s) (calls_in_assertions qs) (delays_in_assertions qs)
  assertions_find [] = nothing_found
  assertions_find (q ∷ qs) = joined (finds q.body) (assertions_find qs)

  node_finds : (n : NodeTree) → Finds (callee_in_node n s) (operand_in_node n s) (calls n) (node_delays n)
  node_finds n = joined (equations_find n.equations) (assertions_find n.assertions)

  pub node_callee : (n : NodeTree) → callee_in_node n s ≡ picked call_site call_name (calls n) s
  node_callee n = (node_finds n).callee

-- a part that is picked is that of an element that is found
picked_is : {X Y : Type 0} (part : X → Y) (o : Option X) (y : Y) → option_map part o ≡ Some y → (x : X) × (o ≡ Some x) × (part x ≡ y)
picked_is part Nothing y e = absurd (none-some y e)
picked_is part (Some x) y e = (x, refl, same_Some (part x) y e)

-- what is found at a site is the name of a call of the node at the site
pub callee_there : (n : NodeTree) (s : ℕ) (f : Identifier) → callee_in_node n s ≡ Some f → (c : CallTree) × Contains (calls n) c × (c.site ≡ s) × (c.name ≡ f)
callee_there n s f e =
    let r = picked_is call_name (first_with call_site (calls n) s) f (sym (node_callee s n) ∙ e) in
    let h = found_has call_site (calls n) s r.0 r.1 in (r.0, h.0, h.1, r.2)

-- and the operand of one of its delays
pub operand_there : (n : NodeTree) (s : ℕ) (e : Tree) → operand_in_node n s ≡ Some e
    → (d : Delay) × Contains (node_delays n) d × (unwrap_or d.site 0 ≡ s) × (d.operand ≡ e)
operand_there n s t e =
    let r = picked_is delay_operand (first_with delay_site (node_delays n) s) t (sym (node_finds s n).delayed ∙ e) in
    let h = found_has delay_site (node_delays n) s r.0 r.1 in (r.0, h.0, h.1, r.2)

-- at the site of a call some call is found
pub callee_found : (n : NodeTree) (c : CallTree) → Contains (calls n) c → (d : CallTree) × (callee_in_node n c.site ≡ Some d.name) × Contains (calls n) d
    × (d.site ≡ c.site)
callee_found n c w = let r = found call_site (calls n) c w in (r.0, node_callee c.site n ∙ ap (option_map call_name) r.1, r.2, r.3)

-- and at that of a delay some delay
pub operand_found : (n : NodeTree) (d : Delay) → Contains (node_delays n) d → (g : Delay) × (operand_in_node n (unwrap_or d.site 0) ≡ Some g.operand)
    × Contains (node_delays n) g × (unwrap_or g.site 0 ≡ unwrap_or d.site 0)
operand_found n d w =
    let r = found delay_site (node_delays n) d w in
    (r.0, (node_finds (unwrap_or d.site 0) n).delayed ∙ ap (option_map delay_operand) r.1, r.2, r.3)
