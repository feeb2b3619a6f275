-- What the laws of agreement ask of the names and products in a program holds of an accepted one.
use Rattle.std.proofs.Common.{◌≡◌, ℕ, suc, ◌≤◌, Bool, true, false, ◌||◌, sym, ◌∙◌, ap, Option}
use Rattle.std.specs.List.{Contains}
use Rattle.rv_tree.specs.Tree as tree
use Rattle.rv_tree.specs.{Places.Identifier, Places.Sites, Places.flows, Delays.Delay, Delays.node_delays, Tree.Tree, Tree.Trees, Tree.ProgramTree}
use Rattle.rv_base.specs.Limits.{heaviest}
use Rattle.rv_types.specs.Instances.{Body, Instance, clock_in, IsInstance, IsArgument, head, tail, IsNode}
use Rattle.rv_types.specs.Needs.{Of, Gives, by_equation, by_call}
use Rattle.rv_types.specs.{declared.typed.Kind.Kind, declared.typed.Clock.TheVariants.Base, Constants.value_of, Scopes.node_scope, Scopes.constant_value}
use Rattle.rv_types.specs.{Variables.node_parts, Variables.is_arrow, Lists.delay_place, WellFormed.AreWell, Types.is_constant, declared.typed.Clock.Clock}
use Rattle.rv_types.specs.declared.typed.Kind.TheVariants as kind
use Rattle.rv_meaning.specs.{Meaning.number, Runs.Instant, Instants.State as Brought, Instants.now}
use Rattle.rv_instances.specs.Weights.{weight, AreLight}
use Rattle.rv_agreement.specs.{ProgramAgreement.KeepsProducts, Programs.coefficient, Programs.HasProducts, Programs.AllHaveProducts}
use Rattle.rv_agreement.specs.{Translation.Names, Translation.AllNames, Translation.AreNamed}
use Rattle.rv_flatten.proofs.Standing.{Stands, as_child, of_not, of_minus, of_current, of_when, of_left, of_right, of_condition, of_first, of_second}
use Rattle.rv_flatten.proofs.Standing.{of_operand, stands_in, own_delay, own_current, body_stands, argument_stands, as_assertion, operand_stands}
use Rattle.rv_flatten.proofs.{ConstantOperands.same_number, ConstantOperands.constant_now, KindNumbers.product_scaled, WellInstances.is_light}
use Rattle.rv_flat.proofs.TypedParts.{some_is, IsTyped, not_typed, minus_typed, current_typed, when_typed, binary_typed, if_typed, most_typed}
use Rattle.rv_types.proofs.{ChainLaws.no_flag}
use Rattle.rv_meaning.proofs.{Acceptable.typed, FlowSites.flow_there}

-- an expression that gives a flow stands in its instance and has a type
given_body : (program : ProgramTree) (main : Identifier) → AreWell program → IsNode program main → (q : Sites) (i : Instance) (k : Clock) (e : Tree)
    → Gives program main q (Of i k (Body e)) → IsInstance program main i × Stands i.node e × (j : Kind) × IsTyped program i.node e j
given_body program main well named q _ _ e (by_equation i x _ of right at) =
    let t = (typed program main well named i of).body x e right in (of, body_stands i.node x e right, t.0, t.1)
given_body program main well named q _ _ _ (by_call i c j e of called arg at) =
    let t = (typed program main well named i of).argument c j e called arg in (of, argument_stands i.node c j e called arg, t.0, t.1)

-- Names.
module _ (program : ProgramTree) (main : Identifier) (well : AreWell program) (named : IsNode program main) (IsKept : Sites → Type 0)
    (IsTick : Option Sites → Type 0) (IsClock : Instance → Identifier → Type 0)
    (kept : (i : Instance) (d : Delay) → IsInstance program main i → Contains (node_delays i.node) d → IsKept (delay_place i d))
    (ticked : (i : Instance) (e : Tree) → IsInstance program main i → Contains (node_parts i.node) e → is_arrow e ≡ true → IsTick (clock_in i Base e))
    (clocked : (i : Instance) (x : Identifier) → IsInstance program main i → Contains (flows i.node) x → IsClock i x)
  where
    module _ (i : Instance) (of : IsInstance program main i) where
      mutual
        -- an expression that stands in the instance
        pub names_in : (e : Tree) (k : Kind) → Stands i.node e → IsTyped program i.node e k → Names i IsKept IsTick (IsClock i) e
        names_in (tree.Node at site (tree.Not e)) k s t = names_in e kind.Bool (as_child s of_not) (not_typed program i.node at site e k t).0
        names_in (tree.Node at site (tree.Minus e)) k s t = names_in e kind.Int (as_child s of_minus)
            (minus_typed program i.node at site e k t).0
        names_in (tree.Node at site (tree.Pre e)) k s t = kept i (record { site = site; operand = e }) of (own_delay i.node at site e s)
        names_in (tree.Node at site (tree.Current e)) k s t = (
          kept i (record { site = site; operand = e }) of (own_current i.node at site e s),
          names_in e k (as_child s of_current)
              (current_typed program i.node at site e k t),
        )
        names_in (tree.Node at site (tree.When e c)) k s t =
            let r = when_typed program i.node at site e c k t in
            (clocked i c.text of (flow_there program i.node c.text kind.Bool r.1), names_in e k (as_child s (of_when c)) r.0)
        names_in (tree.Node at site (tree.Binary o a b)) k s t =
            let r = binary_typed program i.node at site o a b k t in (
              λ arrow. ticked i (tree.Node at site (tree.Binary o a b)) of (stands_in i.node (tree.Node at site (tree.Binary o a b)) s)
                  (ap (λ u. is_arrow (tree.Node at site (tree.Binary u a b))) arrow),
              names_in a r.left (as_child s of_left) r.left_is,
              names_in b r.right (as_child s of_right) r.right_is,
            )
        names_in (tree.Node at site (tree.If a b c)) k s t =
            let r = if_typed program i.node at site a b c k t in
            (names_in a kind.Bool (as_child s of_condition) r.0, names_in b k (as_child s of_first) r.1, names_in c k (as_child s of_second) r.2)
        names_in (tree.Node at site (tree.AtMostOne es)) k s t = all_names es (λ j e arg. as_child s (of_operand j arg))
            (most_typed program i.node at site es k t).0
        names_in (tree.Node at site _) k s t = tt

        all_names : (es : Trees) → ((j : ℕ) (e : Tree) → IsArgument es j e → Stands i.node e)
            → ((j : ℕ) (e : Tree) → IsArgument es j e → IsTyped program i.node e kind.Bool) → AllNames i IsKept IsTick (IsClock i) es
        all_names tree.None s t = tt
        all_names (tree.More e es) s t = (
          names_in e kind.Bool (s 0 e head) (t 0 e head),
          all_names es (λ j a arg. s (suc j) a (tail arg))
              (λ j a arg. t (suc j) a (tail arg)),
        )

    -- those of the whole program
    pub are_named : AreNamed program main IsKept IsTick IsClock
    are_named = record {
      flows = λ q i k e gives. let b = given_body program main well named q i k e gives in names_in i b.0 e b.2 b.1 b.3;
      memories = λ i d of w. let t = some_is ((typed program main well named i of).delay d w) in names_in i of d.operand t.0 (operand_stands i.node d w) t.1;
      assertions = λ i a of w. names_in i of a.body kind.Bool (as_assertion a w) ((typed program main well named i of).assertion a w);
    }

-- Products: one operand is constant.
pub other_constant : (a b : Bool) → (a || b) ≡ true → a ≡ false → b ≡ true
other_constant true b e f = no_flag (sym f)
other_constant false b e f = e

module _ (program : ProgramTree) (main : Identifier) (weights : Sites → ℕ) (light : (i : Instance) (e : Tree) → IsInstance program main i → Stands i.node e
    → weight program weights i e ≤ heaviest)
    (state : Brought) (row : Instant) (i : Instance) (of : IsInstance program main i)
  where
    -- the constant operand of a product has its value
    operand_counts : (e : Tree) (j : Kind) → Stands i.node e → IsTyped program i.node e j → is_constant (node_scope program i.node) e ≡ true
        → number (now program state row i e) ≡ coefficient program e
    operand_counts e j s t c = ap number (constant_now program weights i state row (λ x u. light i x of u) e j s t c)
        ∙ same_number (value_of (constant_value program) e)

    mutual
      pub products_in : (e : Tree) (k : Kind) → Stands i.node e → IsTyped program i.node e k → HasProducts program state row i e
      products_in (tree.Node at site (tree.Not e)) k s t = products_in e kind.Bool (as_child s of_not) (not_typed program i.node at site e k t).0
      products_in (tree.Node at site (tree.Minus e)) k s t = products_in e kind.Int (as_child s of_minus)
          (minus_typed program i.node at site e k t).0
      products_in (tree.Node at site (tree.Current e)) k s t = products_in e k (as_child s of_current)
          (current_typed program i.node at site e k t)
      products_in (tree.Node at site (tree.When e c)) k s t = products_in e k (as_child s (of_when c))
          (when_typed program i.node at site e c k t).0
      products_in (tree.Node at site (tree.Binary o a b)) k s t =
          let r = binary_typed program i.node at site o a b k t in let left = as_child s of_left in
          let right = as_child s of_right in (
            products_in a r.left left r.left_is,
            products_in b r.right right r.right_is,
            λ times c. operand_counts a r.left left r.left_is c,
            λ times c. operand_counts b r.right right r.right_is (other_constant (is_constant (node_scope program i.node) a)
                (is_constant (node_scope program i.node) b)
                (product_scaled _ o r.left r.right k r.rule times) c),
          )
      products_in (tree.Node at site (tree.If a b c)) k s t =
          let r = if_typed program i.node at site a b c k t in
          (products_in a kind.Bool (as_child s of_condition) r.0, products_in b k (as_child s of_first) r.1, products_in c k (as_child s of_second) r.2)
      products_in (tree.Node at site (tree.AtMostOne es)) k s t = all_products es (λ j e arg. as_child s (of_operand j arg))
          (most_typed program i.node at site es k t).0
      products_in (tree.Node at site _) k s t = tt

      all_products : (es : Trees) → ((j : ℕ) (e : Tree) → IsArgument es j e → Stands i.node e)
          → ((j : ℕ) (e : Tree) → IsArgument es j e → IsTyped program i.node e kind.Bool) → AllHaveProducts program state row i es
      all_products tree.None s t = tt
      all_products (tree.More e es) s t = (
        products_in e kind.Bool (s 0 e head) (t 0 e head),
        all_products es (λ j a arg. s (suc j) a (tail arg))
            (λ j a arg. t (suc j) a (tail arg)),
      )

-- and so it is at each instant of the program
pub keeps_products : (program : ProgramTree) (main : Identifier) → AreWell program → IsNode program main → AreLight program main → KeepsProducts program main
keeps_products program main well named weights state inputs row starts typed_inputs instant = record {
  flows = λ q i k e gives. let b = given_body program main well named q i k e gives in products i b.0 e b.2 b.1 b.3;
  memories = λ i d is. let t = some_is ((typed program main well named i is.0).delay d is.1) in
      products i is.0 d.operand t.0 (operand_stands i.node d is.1) t.1;
  assertions = λ i a of w. products i of a.body kind.Bool (as_assertion a w) ((typed program main well named i of).assertion a w);
}
  where
    products : (i : Instance) → IsInstance program main i → (e : Tree) (k : Kind) → Stands i.node e → IsTyped program i.node e k
        → HasProducts program state row i e
    products i of = products_in program main weights.0 (is_light program main weights.0 weights.2) state row i of
