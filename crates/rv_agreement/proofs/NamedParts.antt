-- What is asked of the names of an expression holds of the operands of its comparisons, and what follows from it holds too.
use Rattle.std.proofs.Common.{inl, inr, ℕ, subst, Option}
use Rattle.std.specs.List.{Contains}
use Rattle.rv_tree.specs.Tree as tree
use Rattle.rv_tree.specs.{Tree.Tree, Tree.Form, Tree.Trees, Tree.ProgramTree, Places.Identifier, Places.Sites}
use Rattle.rv_types.specs.Instances.{Instance, absolute, clock_of}
use Rattle.rv_agreement.specs.Programs.{Compared, compared, form_compared, compared_all}
use Rattle.rv_agreement.specs.Translation.{Names, FormNames, AllNames}
use Rattle.rv_agreement.proofs.{Suited.stands, Matching.of_two, Matching.of_three}
use Rattle.rv_types.proofs.Members.{nothing_in}

module _ (i : Instance) (P R : Sites → Type 0) (Q S : Option Sites → Type 0) (T U : Identifier → Type 0)
    (kept : (q : Sites) → P q → R q) (ticked : (k : Option Sites) → Q k → S k) (clocked : (x : Identifier) → T x → U x) where
  mutual
    pub names_more : (e : Tree) → Names i P Q T e → Names i R S U e
    names_more (tree.Node at site form) names = form_more site form names

    form_more : (site : Option ℕ) (form : Form) → FormNames i P Q T site form → FormNames i R S U site form
    form_more site (tree.Not e) names = names_more e names
    form_more site (tree.Minus e) names = names_more e names
    form_more site (tree.Pre e) names = kept _ names
    form_more site (tree.Current e) names = (kept _ names.0, names_more e names.1)
    form_more site (tree.When e c) names = (clocked _ names.0, names_more e names.1)
    form_more site (tree.Binary o a b) names = (λ arrow. ticked _ (names.0 arrow), names_more a names.1, names_more b names.2)
    form_more site (tree.If a b c) names = (names_more a names.0, names_more b names.1, names_more c names.2)
    form_more site (tree.AtMostOne es) names = all_more es names
    form_more site _ names = tt

    all_more : (es : Trees) → AllNames i P Q T es → AllNames i R S U es
    all_more tree.None names = tt
    all_more (tree.More e es) names = (names_more e names.0, all_more es names.1)

module _ (program : ProgramTree) (P : Sites → Type 0) (Q : Option Sites → Type 0) where
  abbrev Any : Identifier → Type 0
  Any x = Unit {0}

  -- the operands of a comparison are named
  abbrev pub AreNamedIn : Compared → Type 0
  AreNamedIn c = Names c.within P Q Any c.left × Names c.within P Q Any c.right

  module _ (i : Instance) where
    mutual
      pub operands_named : (k : Option Sites) (e : Tree) → Names i P Q Any e → (c : Compared) → Contains (compared program i k e) c → AreNamedIn c
      operands_named k (tree.Node at site form) names c w = form_named k site form names c w

      form_named : (k : Option Sites) (site : Option ℕ) (form : Form) → FormNames i P Q Any site form → (c : Compared)
          → Contains (form_compared program i k site form) c → AreNamedIn c
      form_named k site (tree.Not e) names c w = operands_named k e names c w
      form_named k site (tree.Minus e) names c w = operands_named k e names c w
      form_named k site (tree.When e x) names c w = operands_named (absolute i (clock_of i.node x.text)) e names.1 c w
      form_named k site (tree.Binary o a b) names c w = elim (stands program i k site o a b c w) [
        | inl own ↦ subst AreNamedIn own (names.1, names.2)
        | inr rest ↦ elim rest [ inl u ↦ operands_named k a names.1 c u | inr u ↦ operands_named k b names.2 c u ]
      ]
      form_named k site (tree.If a b d) names c w =
          of_three _ _ _ c w (operands_named k a names.0 c) (operands_named k b names.1 c) (operands_named k d names.2 c)
      form_named k site (tree.AtMostOne es) names c w = all_named k es names c w
      form_named k site _ names c w = nothing_in c w

      all_named : (k : Option Sites) (es : Trees) → AllNames i P Q Any es → (c : Compared) → Contains (compared_all program i k es) c → AreNamedIn c
      all_named k tree.None names c w = nothing_in c w
      all_named k (tree.More e es) names c w = of_two _ _ c w (operands_named k e names.0 c) (all_named k es names.1 c)
