use Rattle.std.proofs.Common.{◌≡◌, ◌∙◌, ℕ, List, [], ◌∷◌, Some, true, codes, option_map, refl}
use Rattle.std.specs.List.{fold}
use Rattle.clap.specs.Faults.{defaults_fault}
use Rattle.rv_words.specs.{Asked.check, Asked.make, Asked.prove, Asked.replay, Asked.tour, Words.digits_of}
use Rattle.rv_words.proofs.Levels.{by_check, by_make, by_prove, by_replay, by_tour, by_words, leaf, meant, start}
use Rattle.rv_words.proofs.Plain.{placed, plain_fault}
use Rattle.rv_words.proofs.laws.plain_words.Goals as goal

prove_is : (file node : List ℕ) → meant (leaf 0) (codes "prove") (plain_fault (leaf 0) start (file ∷ node ∷ []) [])
    (fold (placed (leaf 0).rules) start (file ∷ node ∷ [])) ≡ Some (prove file node 4194304 256 true)
unfolding defaults_fault
prove_is file node = refl

check_is : (file node invariant : List ℕ) → meant (leaf 1) (codes "check") (plain_fault (leaf 1) start (file ∷ node ∷ invariant ∷ []) [])
    (fold (placed (leaf 1).rules) start (file ∷ node ∷ invariant ∷ [])) ≡ Some (check file node invariant 4194304)
unfolding defaults_fault
check_is file node invariant = refl

replay_is : (file node trace : List ℕ) → meant (leaf 2) (codes "replay") (plain_fault (leaf 2) start (file ∷ node ∷ trace ∷ []) [])
    (fold (placed (leaf 2).rules) start (file ∷ node ∷ trace ∷ [])) ≡ Some (replay file node trace)
unfolding defaults_fault
replay_is file node trace = refl

make_is : (count : List ℕ) → meant (leaf 3) (codes "make") (plain_fault (leaf 3) start (count ∷ []) []) (fold (placed (leaf 3).rules) start (count ∷ []))
    ≡ option_map make (digits_of 1 2000 count)
unfolding defaults_fault
make_is count = refl

tour_is : (count : List ℕ) → meant (leaf 4) (codes "tour") (plain_fault (leaf 4) start (count ∷ []) []) (fold (placed (leaf 4).rules) start (count ∷ []))
    ≡ option_map tour (digits_of 1 2000 count)
unfolding defaults_fault
tour_is count = refl

pub returns-clause-prove : goal.returns-clause-prove
returns-clause-prove c = λ program file node one two. by_prove program (file ∷ node ∷ [])
    ∙ (by_words (leaf 0) (codes "prove") (file ∷ node ∷ []) (one, refl, refl, (two, refl, refl, tt)) ∙ prove_is file node)

pub returns-clause-check : goal.returns-clause-check
returns-clause-check c = λ program file node invariant one two three. by_check program (file ∷ node ∷ invariant ∷ [])
    ∙ (by_words (leaf 1) (codes "check") (file ∷ node ∷ invariant ∷ []) (one, refl, refl, (two, refl, refl, (three, refl, refl, tt)))
    ∙ check_is file node invariant)

pub returns-clause-replay : goal.returns-clause-replay
returns-clause-replay c = λ program file node trace one two three. by_replay program (file ∷ node ∷ trace ∷ [])
    ∙ (by_words (leaf 2) (codes "replay") (file ∷ node ∷ trace ∷ []) (one, refl, refl, (two, refl, refl, (three, refl, refl, tt)))
    ∙ replay_is file node trace)

pub returns-clause-make : goal.returns-clause-make
returns-clause-make c = λ program count one. by_make program (count ∷ [])
    ∙ (by_words (leaf 3) (codes "make") (count ∷ []) (one, refl, refl, tt) ∙ make_is count)

pub returns-clause-tour : goal.returns-clause-tour
returns-clause-tour c = λ program count one. by_tour program (count ∷ [])
    ∙ (by_words (leaf 4) (codes "tour") (count ∷ []) (one, refl, refl, tt) ∙ tour_is count)
