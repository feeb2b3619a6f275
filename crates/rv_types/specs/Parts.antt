-- What is at fault in an expression: what it has of its own, and what its parts have.
use Rattle.std.specs.Prelude.{ℕ, List, [], ◌++◌}
use Rattle.rv_tree.specs.Tree.{Tree, Form, Trees, Node, True, False, Number, Named, Not, Minus, Pre, Current, When, Binary, If, AtMostOne, Call, None, More}
use Rattle.rv_types.specs.declared.fault.NameFault.{NameFault}

-- the offset of an expression
abbrev pub offset_of : Tree → ℕ
offset_of (Node at site form) = at

module _ (own : Tree → List NameFault) where
  abbrev mutual
    pub faults : Tree → List NameFault
    faults (Node at site form) = own (Node at site form) ++ faults_below form

    pub faults_below : Form → List NameFault
    faults_below True = []
    faults_below False = []
    faults_below (Number n) = []
    faults_below (Named x) = []
    faults_below (Not e) = faults e
    faults_below (Minus e) = faults e
    faults_below (Pre e) = faults e
    faults_below (Current e) = faults e
    faults_below (When e c) = faults e
    faults_below (Binary o a b) = faults a ++ faults b
    faults_below (If a b c) = faults a ++ (faults b ++ faults c)
    faults_below (AtMostOne es) = faults_of_all es
    faults_below (Call f es) = faults_of_all es

    pub faults_of_all : Trees → List NameFault
    faults_of_all None = []
    faults_of_all (More e es) = faults e ++ faults_of_all es
