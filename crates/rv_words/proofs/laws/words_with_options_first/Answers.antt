use Rattle.std.proofs.Common.{◌≡◌, ◌∙◌, ◌++◌, ℕ, List, [], ◌∷◌, true, codes, option_map, refl}
use Rattle.std.specs.List.{fold}
use Rattle.clap.specs.{Faults.turn_fault, Walk.Walk, Walk.walked}
use Rattle.clap.proofs.OnLiterals.{clap_on_literals}
use Rattle.rv_words.specs.{Asked.check, Asked.prove, Plain.is_plain, Words.answer_of, Words.digits_of}
use Rattle.rv_words.proofs.Levels.{behind, by_check, by_prove, leaf, meant, start}
use Rattle.rv_words.proofs.Plain.{Placeable, placed, plain_fault}
use Rattle.rv_words.proofs.laws.words_with_options_first.Goals as goal

-- the walk of a subcommand past its option with a value
abbrev past : ℕ → List ℕ → Walk
past i word = walked (leaf i).rules [] start word

nodes_free : (nodes : List ℕ) → turn_fault (leaf 0) [] start (codes "--nodes=" ++ nodes) ≡ []
unfolding clap_on_literals
nodes_free nodes = refl

nodes_plain : (file node nodes : List ℕ) → is_plain file ≡ true → is_plain node ≡ true
    → Placeable (leaf 0).rules (past 0 (codes "--nodes=" ++ nodes)) (file ∷ node ∷ [])
unfolding clap_on_literals
nodes_plain file node nodes one two = (one, refl, refl, (two, refl, refl, tt))

nodes_is : (file node nodes : List ℕ) → meant (leaf 0) (codes "prove") (plain_fault (leaf 0) (past 0 (codes "--nodes=" ++ nodes)) (file ∷ node ∷ []) [])
    (fold (placed (leaf 0).rules) (past 0 (codes "--nodes=" ++ nodes)) (file ∷ node ∷ [])) ≡ option_map (λ n. prove file node n 256 true)
    (digits_of 1 33554432 nodes)
unfolding clap_on_literals
nodes_is file node nodes = refl

locations_free : (locations : List ℕ) → turn_fault (leaf 0) [] start (codes "--locations=" ++ locations) ≡ []
unfolding clap_on_literals
locations_free locations = refl

locations_plain : (file node locations : List ℕ) → is_plain file ≡ true → is_plain node ≡ true
    → Placeable (leaf 0).rules (past 0 (codes "--locations=" ++ locations)) (file ∷ node ∷ [])
unfolding clap_on_literals
locations_plain file node locations one two = (one, refl, refl, (two, refl, refl, tt))

locations_is : (file node locations : List ℕ) → meant (leaf 0) (codes "prove")
    (plain_fault (leaf 0) (past 0 (codes "--locations=" ++ locations)) (file ∷ node ∷ []) [])
    (fold (placed (leaf 0).rules) (past 0 (codes "--locations=" ++ locations)) (file ∷ node ∷ [])) ≡ option_map (λ n. prove file node 4194304 n true)
    (digits_of 1 4096 locations)
unfolding clap_on_literals
locations_is file node locations = refl

accelerate_free : (answer : List ℕ) → turn_fault (leaf 0) [] start (codes "--accelerate=" ++ answer) ≡ []
unfolding clap_on_literals
accelerate_free answer = refl

accelerate_plain : (file node answer : List ℕ) → is_plain file ≡ true → is_plain node ≡ true
    → Placeable (leaf 0).rules (past 0 (codes "--accelerate=" ++ answer)) (file ∷ node ∷ [])
unfolding clap_on_literals
accelerate_plain file node answer one two = (one, refl, refl, (two, refl, refl, tt))

accelerate_is : (file node answer : List ℕ) → meant (leaf 0) (codes "prove")
    (plain_fault (leaf 0) (past 0 (codes "--accelerate=" ++ answer)) (file ∷ node ∷ []) [])
    (fold (placed (leaf 0).rules) (past 0 (codes "--accelerate=" ++ answer)) (file ∷ node ∷ [])) ≡ option_map (λ yes. prove file node 4194304 256 yes)
    (answer_of answer)
unfolding clap_on_literals
accelerate_is file node answer = refl

check_free : (nodes : List ℕ) → turn_fault (leaf 1) [] start (codes "--nodes=" ++ nodes) ≡ []
unfolding clap_on_literals
check_free nodes = refl

check_plain : (file node invariant nodes : List ℕ) → is_plain file ≡ true → is_plain node ≡ true → is_plain invariant ≡ true
    → Placeable (leaf 1).rules (past 1 (codes "--nodes=" ++ nodes)) (file ∷ node ∷ invariant ∷ [])
unfolding clap_on_literals
check_plain file node invariant nodes one two three = (one, refl, refl, (two, refl, refl, (three, refl, refl, tt)))

check_is : (file node invariant nodes : List ℕ) → meant (leaf 1) (codes "check")
    (plain_fault (leaf 1) (past 1 (codes "--nodes=" ++ nodes)) (file ∷ node ∷ invariant ∷ []) [])
    (fold (placed (leaf 1).rules) (past 1 (codes "--nodes=" ++ nodes)) (file ∷ node ∷ invariant ∷ [])) ≡ option_map (λ n. check file node invariant n)
    (digits_of 1 33554432 nodes)
unfolding clap_on_literals
check_is file node invariant nodes = refl

pub returns-clause-nodes : goal.returns-clause-nodes
returns-clause-nodes c = λ program file node nodes one two. by_prove program ((codes "--nodes=" ++ nodes) ∷ file ∷ node ∷ [])
    ∙ (behind (leaf 0) (codes "prove") (codes "--nodes=" ++ nodes) (past 0 (codes "--nodes=" ++ nodes)) (file ∷ node ∷ []) refl (nodes_free nodes)
    (nodes_plain file node nodes one two) ∙ nodes_is file node nodes)

pub returns-clause-locations : goal.returns-clause-locations
returns-clause-locations c = λ program file node locations one two. by_prove program ((codes "--locations=" ++ locations) ∷ file ∷ node ∷ [])
    ∙ (behind (leaf 0) (codes "prove") (codes "--locations=" ++ locations) (past 0 (codes "--locations=" ++ locations)) (file ∷ node ∷ []) refl
    (locations_free locations)
    (locations_plain file node locations one two) ∙ locations_is file node locations)

pub returns-clause-accelerate : goal.returns-clause-accelerate
returns-clause-accelerate c = λ program file node answer one two. by_prove program ((codes "--accelerate=" ++ answer) ∷ file ∷ node ∷ [])
    ∙ (behind (leaf 0) (codes "prove") (codes "--accelerate=" ++ answer) (past 0 (codes "--accelerate=" ++ answer)) (file ∷ node ∷ []) refl
    (accelerate_free answer)
    (accelerate_plain file node answer one two) ∙ accelerate_is file node answer)

pub returns-clause-check : goal.returns-clause-check
returns-clause-check c = λ program file node invariant nodes one two three. by_check program ((codes "--nodes=" ++ nodes) ∷ file ∷ node ∷ invariant ∷ [])
    ∙ (behind (leaf 1) (codes "check") (codes "--nodes=" ++ nodes) (past 1 (codes "--nodes=" ++ nodes)) (file ∷ node ∷ invariant ∷ []) refl (check_free nodes)
    (check_plain file node invariant nodes one two three) ∙ check_is file node invariant nodes)
