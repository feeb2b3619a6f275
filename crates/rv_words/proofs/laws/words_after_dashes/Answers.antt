use Rattle.std.proofs.Common.{◌≡◌, ◌∙◌, ℕ, List, [], ◌∷◌, Some, true, codes, refl}
use Rattle.std.specs.List.{fold}
use Rattle.clap.specs.{Faults.walk_fault, Walk.walked}
use Rattle.clap.proofs.OnLiterals.{clap_on_literals}
use Rattle.rv_words.specs.{Asked.check, Asked.prove, Asked.replay}
use Rattle.rv_words.proofs.Levels.{by_check, by_plain, by_prove, by_replay, leaf, meant, start}
use Rattle.rv_words.proofs.Plain.{placed, plain_fault}
use Rattle.rv_words.proofs.laws.words_after_dashes.Goals as goal

prove_is : (file node : List ℕ) → meant (leaf 0) (codes "prove") (walk_fault (leaf 0) [] start (codes "--" ∷ file ∷ node ∷ []))
    (fold (walked (leaf 0).rules []) start (codes "--" ∷ file ∷ node ∷ [])) ≡ Some (prove file node 4194304 256 true)
unfolding clap_on_literals
prove_is file node = refl

check_is : (file node invariant : List ℕ) → meant (leaf 1) (codes "check") (walk_fault (leaf 1) [] start (codes "--" ∷ file ∷ node ∷ invariant ∷ []))
    (fold (walked (leaf 1).rules []) start (codes "--" ∷ file ∷ node ∷ invariant ∷ [])) ≡ Some (check file node invariant 4194304)
unfolding clap_on_literals
check_is file node invariant = refl

replay_is : (file node trace : List ℕ) → meant (leaf 2) (codes "replay") (walk_fault (leaf 2) [] start (codes "--" ∷ file ∷ node ∷ trace ∷ []))
    (fold (walked (leaf 2).rules []) start (codes "--" ∷ file ∷ node ∷ trace ∷ [])) ≡ Some (replay file node trace)
unfolding clap_on_literals
replay_is file node trace = refl

last_is : (file node last : List ℕ) → meant (leaf 2) (codes "replay") (plain_fault (leaf 2) start (file ∷ node ∷ [])
    (walk_fault (leaf 2) [] (fold (placed (leaf 2).rules) start (file ∷ node ∷ [])) (codes "--" ∷ last ∷ [])))
    (fold (walked (leaf 2).rules []) (fold (placed (leaf 2).rules) start (file ∷ node ∷ [])) (codes "--" ∷ last ∷ [])) ≡ Some (replay file node last)
unfolding clap_on_literals
last_is file node last = refl

pub returns-clause-prove : goal.returns-clause-prove
returns-clause-prove c = λ program file node. by_prove program (codes "--" ∷ file ∷ node ∷ []) ∙ prove_is file node

pub returns-clause-check : goal.returns-clause-check
returns-clause-check c = λ program file node invariant. by_check program (codes "--" ∷ file ∷ node ∷ invariant ∷ []) ∙ check_is file node invariant

pub returns-clause-replay : goal.returns-clause-replay
returns-clause-replay c = λ program file node trace. by_replay program (codes "--" ∷ file ∷ node ∷ trace ∷ []) ∙ replay_is file node trace

pub returns-clause-last : goal.returns-clause-last
returns-clause-last c = λ program file node last one two. by_replay program (file ∷ node ∷ codes "--" ∷ last ∷ [])
    ∙ (by_plain (leaf 2) (codes "replay") (file ∷ node ∷ []) (codes "--" ∷ last ∷ []) (one, refl, refl, (two, refl, refl, tt)) ∙ last_is file node last)
