-- The setting of a search in a store that is the same, and its parts.
use Rattle.std.proofs.Common.{◌≡◌, ℕ, zero, suc, List, Option, Some, Result, Ok, IfOk, IfSome, slice_get, subst, sym}
use Rattle.rv_diagram.specs.{Nodes.Diagrams, Nodes.IsMeant, Nodes.IsOrderedOver, declared.frozen.Frozen.Frozen}
use Rattle.rv_proofs.specs.{Systems.System, Ranges.IsControlSet, Cases.IsCase, Cases.AreCases, declared.report.Case.Case}
use Rattle.rv_symbolic.specs.{Represented.IsRelationOf, Represented.parts_of, declared.relation.Relation.Relation, declared.relation.Parts.Parts}
use Rattle.rv_cases.specs.declared.asking.Questions.{Questions}
use Rattle.rv_paths.specs.Searching.{AreUsable, AreNodes, IsPlanOf, IsSetting, cases_of}
use Rattle.rv_paths.specs.{declared.tree.Plan.Plan, declared.tree.Node.Node, Candidates.IsSearchOf}
use Rattle.rv_proofs.proofs.Judging.{All-at as all_at}

pub relation_there : (s : System) (old new : Diagrams) (r : Relation) → new ≡ old → IsRelationOf s old r → IsRelationOf s new r
relation_there s old new r same is = subst (λ (d : Diagrams). IsRelationOf s d r) (sym same) is

pub search_there : (s : System) (old new : Diagrams) (r : Relation) (q : Questions) (columns : ℕ) → new ≡ old → IsSearchOf s old r q columns
    → IsSearchOf s new r q columns
search_there s old new r q columns same is = subst (λ (d : Diagrams). IsSearchOf s d r q columns) (sym same) is

pub ordered_there : (s : System) (d : Diagrams) (f : Frozen) → d.variables ≡ s.variables → IsOrderedOver s.variables f → IsOrderedOver d.variables f
ordered_there s d f same is = subst (λ (m : ℕ). IsOrderedOver m f) (sym same) is

pub node_control : (s : System) (nodes : List Node) (i : ℕ) (n : Node) → AreNodes s nodes → slice_get nodes i ≡ Some n → IsControlSet s n.control
node_control s nodes i n all is = all_at (λ (m : Node). IsControlSet s m.control) nodes i n all is

pub case_usable : (s : System) (p : Plan) (n i : ℕ) (c : Case) → IsPlanOf s p → slice_get (cases_of p n) i ≡ Some c → IsCase s c
case_usable s p zero i c is got = is.first i c got
case_usable s p (suc n) i c is got = is.others i c got

pub cases_usable : (s : System) (from : Frozen) (cases : List Case) → AreCases s from cases → AreUsable s cases
cases_usable s from cases are j c got = let one = are.each j c got in one.given

pub search_allowed : (s : System) (d : Diagrams) (r : Relation) (q : Questions) (columns : ℕ) → IsSearchOf s d r q columns → (p : Parts) → p ≡ parts_of r
    → IsMeant d.nodes s.allowed p.allowed
search_allowed s d r q columns given p is =
    let of = given.relation in
    let parts = of.parts in
    let out = of.laid_out in
    let refs = out.refs in
    let here : IsMeant d.nodes s.allowed r.parts.allowed = (refs.allowed, parts.allowed) in
    subst (λ (x : Parts). IsMeant d.nodes s.allowed x.allowed) (sym is) here

pub relation_variables : (s : System) (d : Diagrams) (r : Relation) → IsRelationOf s d r → d.variables ≡ s.variables
relation_variables s d r of = let parts = of.parts in parts.variables

pub case_there : (s : System) (p : Plan) (n i : ℕ) (cases : List Case) (c : Case) → IsPlanOf s p → cases ≡ cases_of p n → slice_get cases i ≡ Some c
    → IsCase s c
case_there s p n i cases c is same got = case_usable s p n i c is (subst (λ (l : List Case). slice_get l i ≡ Some c) same got)

pub node_ordered : (s : System) (d : Diagrams) (r : Relation) (p : Plan) (nodes : List Node) (i : ℕ) (n : Node) → IsSetting s d r p nodes
    → slice_get nodes i ≡ Some n → IsOrderedOver d.variables n.control
node_ordered s d r p nodes i n set got =
    let control = node_control s nodes i n set.nodes got in
    ordered_there s d n.control (relation_variables s d r set.relation) control.ordered

pub case_ordered : (s : System) (d : Diagrams) (r : Relation) (p : Plan) (nodes : List Node) (n i : ℕ) (cases : List Case) (c : Case)
    → IsSetting s d r p nodes → cases ≡ cases_of p n → slice_get cases i ≡ Some c → IsOrderedOver d.variables c.condition
case_ordered s d r p nodes n i cases c set same got =
    let usable = case_there s p n i cases c set.plan same got in
    let condition = usable.condition in
    ordered_there s d c.condition (relation_variables s d r set.relation) condition.ordered

pub next_control : {E : Type 0} (s : System) (set : Frozen) (o : Result (Option Node) E) → IsControlSet s set
    → IfOk o (λ found. IfSome found (λ n. n.control ≡ set)) → IfOk o (λ found. IfSome found (λ n. IsControlSet s n.control))
next_control s set (Ok (Some n)) is same = subst (IsControlSet s) (sym same) is
next_control s set _ is same = same

pub setting_of : (s : System) (old new : Diagrams) (r : Relation) (p : Plan) (before made : List Node) → new ≡ old → made ≡ before → IsRelationOf s old r
    → IsPlanOf s p → AreNodes s before → IsSetting s new r p made
setting_of s old new r p before made same nodes of plan all = record {
  relation = relation_there s old new r same of;
  plan = plan;
  nodes = subst (λ (l : List Node). AreNodes s l) (sym nodes) all;
}
