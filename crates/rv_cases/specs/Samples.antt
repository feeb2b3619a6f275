-- The questions of a small system, which counts in one memory and has two order tests that are present after the first instant.
use Rattle.std.specs.Prelude.{pos, negsuc, List, [], ◌∷◌}
use Rattle.rv_diagram.specs.{declared.Triple.Triple, Nodes.Diagrams}
use Rattle.rv_proofs.specs.Samples.{node, row1, form1}
use Rattle.rv_cases.specs.declared.asking.Questions.{Questions}

-- Reference 6 is true where variable 0, the main tick, is false. References 7 and 8 are true where it is true and variable 2 is true, or
-- false; references 9 and 10 where it is true and variable 3 is true, or false; 11 where 10 is false.
abbrev pub counting_nodes : List Triple
counting_nodes =
    node 3 0 1 ∷ node 3 1 0 ∷ node 2 0 1 ∷ node 2 1 0 ∷ node 0 1 0 ∷ node 0 0 4 ∷ node 0 0 5 ∷ node 0 0 2 ∷ node 0 0 3 ∷ node 0 1 2 ∷ []

abbrev pub counting_diagrams : Diagrams
counting_diagrams = record { nodes = counting_nodes; variables = 4; limit = 100 }

-- Each test is absent, or true, or false; the memory becomes 0, one more, or stays; the observer is true or false.
abbrev pub counting_questions : Questions
counting_questions = record {
  questions = (6 ∷ 7 ∷ 8 ∷ []) ∷ (6 ∷ 9 ∷ 10 ∷ []) ∷ (6 ∷ 7 ∷ 8 ∷ []) ∷ (11 ∷ 10 ∷ []) ∷ [];
  rows = (row1 (pos 1) (pos 9) ∷ row1 (negsuc 0) (negsuc 9) ∷ []) ∷ (row1 (pos 1) (pos 10) ∷ row1 (negsuc 0) (negsuc 10) ∷ []) ∷ [];
  forms = (form1 (pos 0) (pos 0) ∷ form1 (pos 1) (pos 1) ∷ form1 (pos 1) (pos 0) ∷ []) ∷ [];
}
