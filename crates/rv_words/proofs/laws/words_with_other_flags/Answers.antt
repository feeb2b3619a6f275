use Rattle.std.proofs.Common.{◌≡◌, ◌∙◌, ℕ, List, [], ◌∷◌, None, codes, refl}
use Rattle.std.specs.List.{fold}
use Rattle.clap.specs.{Faults.walk_fault, Walk.walked}
use Rattle.clap.proofs.OnLiterals.{clap_on_literals}
use Rattle.rv_words.specs.Words.{command}
use Rattle.rv_words.proofs.Levels.{by_plain, by_prove, by_replay, leaf, meant, start}
use Rattle.rv_words.proofs.Plain.{placed, plain_fault}
use Rattle.rv_words.proofs.laws.words_with_other_flags.Goals as goal

short_is : (words : List (List ℕ)) → meant (leaf 0) (codes "prove") (walk_fault (leaf 0) [] start (codes "-x" ∷ words))
    (fold (walked (leaf 0).rules []) start (codes "-x" ∷ words)) ≡ None
unfolding clap_on_literals
short_is words = refl

long_is : (words : List (List ℕ)) → meant (leaf 0) (codes "prove") (walk_fault (leaf 0) [] start (codes "--node" ∷ words))
    (fold (walked (leaf 0).rules []) start (codes "--node" ∷ words)) ≡ None
unfolding clap_on_literals
long_is words = refl

help_of_is : (words : List (List ℕ)) → meant (leaf 0) (codes "prove") (walk_fault (leaf 0) [] start (codes "--help" ∷ words))
    (fold (walked (leaf 0).rules []) start (codes "--help" ∷ words)) ≡ None
unfolding clap_on_literals
help_of_is words = refl

replay_nodes_is : (words : List (List ℕ)) → meant (leaf 2) (codes "replay") (walk_fault (leaf 2) [] start (codes "--nodes" ∷ words))
    (fold (walked (leaf 2).rules []) start (codes "--nodes" ∷ words)) ≡ None
unfolding clap_on_literals
replay_nodes_is words = refl

second_is : (file : List ℕ) (words : List (List ℕ)) → meant (leaf 0) (codes "prove") (plain_fault (leaf 0) start (file ∷ [])
    (walk_fault (leaf 0) [] (fold (placed (leaf 0).rules) start (file ∷ [])) (codes "-x" ∷ words)))
    (fold (walked (leaf 0).rules []) (fold (placed (leaf 0).rules) start (file ∷ [])) (codes "-x" ∷ words)) ≡ None
unfolding clap_on_literals
second_is file words = refl

unvalued_is : (file node : List ℕ) → meant (leaf 0) (codes "prove") (plain_fault (leaf 0) start (file ∷ node ∷ [])
    (walk_fault (leaf 0) [] (fold (placed (leaf 0).rules) start (file ∷ node ∷ [])) (codes "--nodes" ∷ [])))
    (fold (walked (leaf 0).rules []) (fold (placed (leaf 0).rules) start (file ∷ node ∷ [])) (codes "--nodes" ∷ [])) ≡ None
unfolding clap_on_literals
unvalued_is file node = refl

help_is : (program : List ℕ) (words : List (List ℕ)) → command (program ∷ codes "--help" ∷ words) ≡ None
unfolding clap_on_literals
help_is program words = refl

help_word_is : (program : List ℕ) (words : List (List ℕ)) → command (program ∷ codes "help" ∷ words) ≡ None
unfolding clap_on_literals
help_word_is program words = refl

pub returns-clause-short : goal.returns-clause-short
returns-clause-short c = λ program words. by_prove program (codes "-x" ∷ words) ∙ short_is words

pub returns-clause-long : goal.returns-clause-long
returns-clause-long c = λ program words. by_prove program (codes "--node" ∷ words) ∙ long_is words

pub returns-clause-help_of : goal.returns-clause-help_of
returns-clause-help_of c = λ program words. by_prove program (codes "--help" ∷ words) ∙ help_of_is words

pub returns-clause-replay_nodes : goal.returns-clause-replay_nodes
returns-clause-replay_nodes c = λ program words. by_replay program (codes "--nodes" ∷ words) ∙ replay_nodes_is words

pub returns-clause-short_second : goal.returns-clause-short_second
returns-clause-short_second c = λ program file words one. by_prove program (file ∷ codes "-x" ∷ words)
    ∙ (by_plain (leaf 0) (codes "prove") (file ∷ []) (codes "-x" ∷ words) (one, refl, refl, tt) ∙ second_is file words)

pub returns-clause-unvalued : goal.returns-clause-unvalued
returns-clause-unvalued c = λ program file node one two. by_prove program (file ∷ node ∷ codes "--nodes" ∷ [])
    ∙ (by_plain (leaf 0) (codes "prove") (file ∷ node ∷ []) (codes "--nodes" ∷ []) (one, refl, refl, (two, refl, refl, tt)) ∙ unvalued_is file node)

pub returns-clause-help : goal.returns-clause-help
returns-clause-help c = λ program words. help_is program words

pub returns-clause-help_word : goal.returns-clause-help_word
returns-clause-help_word c = λ program words. help_word_is program words
