use Rattle.std.proofs.Common.{◌≡◌, ◌∙◌, ◌++◌, ap, ap₂, ℕ, List, [], ◌∷◌, Some, None, true, codes, option_map, refl}
use Rattle.std.specs.List.{fold}
use Rattle.clap.specs.{Faults.turn_fault, Faults.walk_fault, Walk.Walk, Walk.option, Walk.settled, Walk.walked}
use Rattle.clap.proofs.OnLiterals.{clap_on_literals}
use Rattle.rv_words.specs.{Asked.prove, Words.digits_of}
use Rattle.rv_words.proofs.Levels.{by_plain, by_prove, leaf, meant, no_more, past_word, start}
use Rattle.rv_words.proofs.Plain.{placed, plain_fault, plain_walk, plain_walk_fault}
use Rattle.rv_words.proofs.laws.words_with_nodes.Goals as goal

-- the walk past both positional words
abbrev past_both : List ℕ → List ℕ → Walk
past_both file node = fold (placed (leaf 0).rules) start (file ∷ node ∷ [])

-- and past `--nodes`, which waits for its value
abbrev waiting : List ℕ → List ℕ → Walk
waiting file node = record (past_both file node) {
  held = record (settled (leaf 0).rules (past_both file node).held) { pending = Some (codes "nodes", []) };
  waiting = option (codes "nodes");
}

joined_is : (file node nodes : List ℕ) → meant (leaf 0) (codes "prove")
    (plain_fault (leaf 0) start (file ∷ node ∷ []) (walk_fault (leaf 0) [] (past_both file node) ((codes "--nodes=" ++ nodes) ∷ [])))
    (fold (walked (leaf 0).rules []) (past_both file node) ((codes "--nodes=" ++ nodes) ∷ []))
    ≡ option_map (λ n. prove file node n 256 true) (digits_of 1 33554432 nodes)
unfolding clap_on_literals
joined_is file node nodes = refl

twice_is : (file node first second : List ℕ) → meant (leaf 0) (codes "prove")
    (plain_fault (leaf 0) start (file ∷ node ∷ [])
    (walk_fault (leaf 0) [] (past_both file node) ((codes "--nodes=" ++ first) ∷ (codes "--nodes=" ++ second) ∷ [])))
    (fold (walked (leaf 0).rules []) (past_both file node) ((codes "--nodes=" ++ first) ∷ (codes "--nodes=" ++ second) ∷ []))
    ≡ None
unfolding clap_on_literals
twice_is file node first second = refl

waits : (file node : List ℕ) → walked (leaf 0).rules [] (past_both file node) (codes "--nodes") ≡ waiting file node
unfolding clap_on_literals
waits file node = refl

waits_freely : (file node : List ℕ) → turn_fault (leaf 0) [] (past_both file node) (codes "--nodes") ≡ []
unfolding clap_on_literals
waits_freely file node = refl

apart_is : (file node nodes : List ℕ) → meant (leaf 0) (codes "prove")
    (plain_fault (leaf 0) start (file ∷ node ∷ []) (plain_fault (leaf 0) (waiting file node) (nodes ∷ []) []))
    (fold (placed (leaf 0).rules) (waiting file node) (nodes ∷ []))
    ≡ option_map (λ n. prove file node n 256 true) (digits_of 1 33554432 nodes)
unfolding clap_on_literals
apart_is file node nodes = refl

pub returns-clause-joined : goal.returns-clause-joined
returns-clause-joined c = λ program file node nodes one two. by_prove program (file ∷ node ∷ (codes "--nodes=" ++ nodes) ∷ [])
    ∙ (by_plain (leaf 0) (codes "prove") (file ∷ node ∷ []) ((codes "--nodes=" ++ nodes) ∷ []) (one, refl, refl, (two, refl, refl, tt))
    ∙ joined_is file node nodes)

pub returns-clause-twice : goal.returns-clause-twice
returns-clause-twice c = λ program file node first second one two.
    by_prove program (file ∷ node ∷ (codes "--nodes=" ++ first) ∷ (codes "--nodes=" ++ second) ∷ [])
    ∙ (by_plain (leaf 0) (codes "prove") (file ∷ node ∷ []) ((codes "--nodes=" ++ first) ∷ (codes "--nodes=" ++ second) ∷ [])
    (one, refl, refl, (two, refl, refl, tt)) ∙ twice_is file node first second)

pub returns-clause-apart : goal.returns-clause-apart
returns-clause-apart c = λ program file node nodes one two three.
    let faults = past_word (leaf 0) (past_both file node) (waiting file node) (codes "--nodes") (nodes ∷ []) (waits file node) (waits_freely file node)
    ∙ (plain_walk_fault (leaf 0) (waiting file node) (nodes ∷ []) [] (three, refl, refl, tt)
    ∙ ap (plain_fault (leaf 0) (waiting file node) (nodes ∷ [])) (no_more (leaf 0) (fold (placed (leaf 0).rules) (waiting file node) (nodes ∷ [])))) in
    let ends = ap (λ w. fold (walked (leaf 0).rules []) w (nodes ∷ [])) (waits file node)
    ∙ plain_walk (leaf 0).rules (waiting file node) (nodes ∷ []) [] (three, refl, refl, tt) in
    by_prove program (file ∷ node ∷ codes "--nodes" ∷ nodes ∷ [])
    ∙ (by_plain (leaf 0) (codes "prove") (file ∷ node ∷ []) (codes "--nodes" ∷ nodes ∷ []) (one, refl, refl, (two, refl, refl, tt))
    ∙ (ap₂ (λ f w. meant (leaf 0) (codes "prove") (plain_fault (leaf 0) start (file ∷ node ∷ []) f) w) faults ends ∙ apart_is file node nodes))
