-- The flows that clocks, names and calls of an instance stand for, with their types.
use Rattle.std.proofs.Common.{◌≡◌, ℕ, ◌+◌, [], ◌∷◌, ◌++◌, length, slice_get, sym, ap, subst, append_assoc, unwrap_or, Option, Some, None as Nothing}
use Rattle.std.proofs.lemmas.Option.{none-some, same_Some}
use Rattle.std.specs.{Option.option_map, List.Contains}
use Rattle.rv_tree.specs.{Tree.NodeTree, Tree.ProgramTree, Places.Identifier, Places.Sites, Places.flows}
use Rattle.rv_types.specs.Kinds.{decl_kinds, flow_kinds, flow_kind, node_named}
use Rattle.rv_types.specs.Instances.{CallTree, calls, Instance, place, absolute, clock_of_args, callee, main_instance, node_of, output_place, IsInstance}
use Rattle.rv_types.specs.Instances.{is_main, is_callee, IsFlow, IsNode, no_node}
use Rattle.rv_types.specs.{declared.typed.Kind.Kind, declared.typed.Clock.Clock, declared.typed.Clock.TheVariants.Base, declared.typed.Clock.TheVariants.On}
use Rattle.rv_types.specs.{Types.Signature, Scopes.signature_of, Scopes.signature_named, WellFormed.AreWell}
use Rattle.rv_types.specs.declared.typed.Kind.TheVariants as kind
use Rattle.rv_flatten.proofs.ClockKinds.{IsTrueClock, clock_taken, paces_are_true}
use Rattle.rv_meaning.proofs.{Acceptable.typed, FlowSites.flow_at, FlowSites.input_kind, FlowSites.output_kind}

-- a flow of a type stands at the place
pub record HasFlow (program : ProgramTree) (main : Identifier) (q : Sites) (k : Kind) : Type 0 where
  pub instance : Instance
  pub name : Identifier
  pub of : IsInstance program main instance
  pub within : Contains (flows instance.node) name
  pub at : q ≡ place instance name
  pub kind : flow_kind program instance.node name ≡ Some k

-- so it is a flow
pub is_flow : {program : ProgramTree} {main : Identifier} {q : Sites} {k : Kind} → HasFlow program main q k → IsFlow program main q
is_flow h = (h.instance, h.name, h.of, h.within, h.at)

-- the node of a name whose signature is known
known_node : (program : ProgramTree) (o : Option NodeTree) (g : Signature) → option_map (signature_of program) o ≡ Some g
    → signature_of program (unwrap_or o no_node) ≡ g
known_node program Nothing g e = absurd (none-some g e)
known_node program (Some m) g e = same_Some (signature_of program m) g e

pub signature_is : (program : ProgramTree) (f : Identifier) (g : Signature) → signature_named program f ≡ Some g
    → decl_kinds program (node_of program f).outputs ≡ g.gives
signature_is program f g e = ap (λ s. s.gives) (known_node program (node_named program f) g e)

module _ (program : ProgramTree) (main : Identifier) (well : AreWell program) (named : IsNode program main) where
  -- a flow by its site
  pub flow_of_site : (i : Instance) (s : ℕ) (k : Kind) → IsInstance program main i → slice_get (flow_kinds program i.node) s ≡ Some k
      → HasFlow program main (i.path ++ s ∷ []) k
  flow_of_site i s k of e =
      let f = flow_at program main well named i of s k e in
      record { instance = i; name = f.name; of = of; within = f.within; at = ap (λ m. i.path ++ m ∷ []) (sym f.site); kind = f.kind }

  -- the flow of a clock, where that of the base clock is known
  clock_by : (i : Instance) → IsInstance program main i → ((q : Sites) → i.base ≡ Some q → HasFlow program main q kind.Bool) → (c : Clock) (q : Sites)
      → IsTrueClock program i.node c → absolute i c ≡ Some q → HasFlow program main q kind.Bool
  clock_by i of base Base q is e = base q e
  clock_by i of base (On s) q is e = subst (λ p. HasFlow program main p kind.Bool) (same_Some (i.path ++ s ∷ []) q e) (flow_of_site i s kind.Bool of is)

  -- the flow of the base clock
  pub base_flow : (i : Instance) (q : Sites) → IsInstance program main i → i.base ≡ Some q → HasFlow program main q kind.Bool
  base_flow _ q is_main e = absurd (none-some q e)
  base_flow _ q (is_callee {i = i} c of called) e =
      clock_by i of (λ p b. base_flow i p of b) (clock_of_args i.node c.args) q
      (clock_taken program i.node _ (paces_are_true program i.node (typed program main well named i of) c.args
      (λ j a arg. let t = (typed program main well named i of).argument c j a called arg in (t.0, t.1)))) e

  -- and of a clock
  pub clock_flow : (i : Instance) (c : Clock) (q : Sites) → IsInstance program main i → IsTrueClock program i.node c → absolute i c ≡ Some q
      → HasFlow program main q kind.Bool
  clock_flow i c q of is e = clock_by i of (λ p b. base_flow i p of b) c q is e

  -- an output of a call
  pub output_flow : (i : Instance) (c : CallTree) (j : ℕ) (k : Kind) → IsInstance program main i → Contains (calls i.node) c
      → slice_get (decl_kinds program (node_of program c.name).outputs) j ≡ Some k → HasFlow program main (output_place program i c.site c.name j) k
  output_flow i c j k of called e =
      subst (λ p. HasFlow program main p k) (append_assoc i.path (c.site ∷ []) ((length (node_of program c.name).inputs + j) ∷ []))
      (flow_of_site (callee program i c) (length (node_of program c.name).inputs + j) k (is_callee c of called)
      (output_kind program (node_of program c.name) j k e))

  -- an input of what is called, and of main
  pub input_flow : (i : Instance) (c : CallTree) (j : ℕ) (k : Kind) → IsInstance program main i → Contains (calls i.node) c
      → slice_get (decl_kinds program (node_of program c.name).inputs) j ≡ Some k → HasFlow program main (i.path ++ c.site ∷ j ∷ []) k
  input_flow i c j k of called e =
      subst (λ p. HasFlow program main p k) (append_assoc i.path (c.site ∷ []) (j ∷ []))
      (flow_of_site (callee program i c) j k (is_callee c of called) (input_kind program (node_of program c.name) j k e))

  pub main_input : (j : ℕ) (k : Kind) → slice_get (decl_kinds program (node_of program main).inputs) j ≡ Some k → HasFlow program main (j ∷ []) k
  main_input j k e = flow_of_site (main_instance program main) j k is_main (input_kind program (node_of program main) j k e)
