-- What is known where no rule of names is broken.
use Rattle.std.proofs.Common.{ap, ◌∙◌, ◌≡◌, ◌≤◌, Bool, true, false, cond, List, [], ◌∷◌, ◌++◌, flat_map, reverse, length, refl, arith}
use Rattle.rv_tree.specs.{declared.tree.Name.Name, declared.tree.TypeBody.TypeBody, declared.tree.TypeBody.TheVariants.Alias}
use Rattle.rv_tree.specs.{declared.tree.TypeBody.TheVariants.Labels, declared.tree.TypeDecl.TypeDecl, Tree.NodeTree, Tree.ProgramTree}
use Rattle.rv_base.specs.Limits.{source_limit}
use Rattle.rv_types.specs.Names.{labels_of, type_names, constant_names, label_names, node_names, repeated, names_in_node, name_faults}
use Rattle.rv_types.specs.{Known.first_spaces, Known.flow_names, TypeTables.declared_kinds, TypeTables.places_from, ConstantTables.AreTablesOf}
use Rattle.rv_types.specs.{declared.spaces.Spaces.Spaces, declared.typed.Kind.Kind, declared.view.Label.Label, declared.fault.NameFault.NameFault}
use Rattle.rv_types.proofs.FirstNames.{all_first}

pub both_empty : {A : Type 0} (xs ys : List A) → xs ++ ys ≡ [] → (xs ≡ []) × (ys ≡ [])
both_empty [] ys e = (refl, e)
both_empty (x ∷ xs) ys e = absurd (let b : ⊥ = cc in b)

-- where a test gives no fault it is passed
pub met : (b : Bool) (f : NameFault) → cond b [] (f ∷ []) ≡ [] → b ≡ true
met true f e = refl
met false f e = cc

pub record AreDifferent (p : ProgramTree) : Type 0 where
  pub nodes : repeated [] (node_names p) ≡ []
  pub types : repeated [] (type_names p) ≡ []
  pub constants : repeated [] (constant_names p) ≡ []
  pub labels : repeated [] (label_names p) ≡ []
  pub in_nodes : flat_map (names_in_node p) p.nodes ≡ []

pub all_different : (p : ProgramTree) → name_faults p ≡ [] → AreDifferent p
all_different p e =
    let whole = both_empty _ _ e in
    let spaces = both_empty _ _ whole.0 in
    let others = both_empty _ _ spaces.1 in
    let values = both_empty _ _ others.1 in
    let own = both_empty _ _ values.0 in
    let uses = both_empty _ _ whole.1 in
    record { nodes = spaces.0; types = others.0; constants = own.0; labels = own.1; in_nodes = uses.1 }

pub flows_different : (p : ProgramTree) (n : NodeTree) → names_in_node p n ≡ [] → repeated [] (flow_names n) ≡ []
flows_different p n e = (both_empty _ _ (both_empty _ _ e).0).0

pub few_labels : (d : TypeDecl) → ((xs : List Name) → d.body ≡ Labels xs → length xs ≤ source_limit) → length (labels_of d) ≤ source_limit
few_labels d h = tested d.body h
  where
    tested : (b : TypeBody) → ((xs : List Name) → b ≡ Labels xs → length xs ≤ source_limit)
        → length (elim b as (λ _. List Name) [ Alias t ↦ [] | Labels xs ↦ xs ]) ≤ source_limit
    tested (Alias t) h = omega arith
    tested (Labels xs) h = h xs refl

pub type_table_is : (p : ProgramTree) (s : Spaces) → name_faults p ≡ [] → s ≡ first_spaces p → s.types ≡ type_names p
type_table_is p s names e = ap (λ (s : Spaces). s.types) e ∙ all_first (type_names p) (all_different p names).types

-- the tables of what a program declares, by its spaces
pub tables_are : (p : ProgramTree) (s : Spaces) (kinds : List Kind) (places : List Label) → name_faults p ≡ [] → s ≡ first_spaces p
    → kinds ≡ declared_kinds (reverse p.types) → places ≡ places_from 0 p.types → AreTablesOf p s.types kinds s.constants s.labels places
tables_are p s kinds places names e k l =
    let d = all_different p names in
    record {
      type_table = type_table_is p s names e;
      kind_table = k;
      constant_table = ap (λ (s : Spaces). s.constants) e ∙ all_first (constant_names p) d.constants;
      label_table = ap (λ (s : Spaces). s.labels) e ∙ all_first (label_names p) d.labels;
      place_table = l;
      different_types = d.types;
      different_constants = d.constants;
    }

pub node_table_is : (p : ProgramTree) (s : Spaces) → name_faults p ≡ [] → s ≡ first_spaces p → s.nodes ≡ node_names p
node_table_is p s names e = ap (λ (s : Spaces). s.nodes) e ∙ all_first (node_names p) (all_different p names).nodes
