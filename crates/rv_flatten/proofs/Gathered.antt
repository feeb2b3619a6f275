-- Lists that are gathered one element after the other.
use Rattle.std.proofs.Common.{◌≡◌, ℕ, ◌+◌, ◌<◌, ◌≤◌, ◌∷◌, [], ◌++◌, List, length, get_or, drop, sym, ap, ◌∙◌, append_assoc}
use Rattle.std.proofs.lemmas.List.{append-nil, drop_all}
use Rattle.rv_base.proofs.Lists.{next_of}

-- one more element, where what is gathered of a list is that of its first element and then that of the others
pub gathered_more : {X Y : Type 0} (own : X → List Y) (all : List X → List Y) → ((x : X) (xs : List X) → all (x ∷ xs) ≡ own x ++ all xs)
    → (xs : List X) (i : ℕ) (x : X) (had now whole : List Y) → i < length xs → x ≡ get_or xs i x → now ≡ had ++ own x → had ++ all (drop i xs) ≡ whole
    → now ++ all (drop (i + 1) xs) ≡ whole
gathered_more own all step xs i x had now whole lt is pushed inv =
    ap (λ l. l ++ all (drop (i + 1) xs)) pushed ∙ append_assoc had (own x) (all (drop (i + 1) xs)) ∙ ap (λ l. had ++ l) (sym (step x (drop (i + 1) xs)))
    ∙ ap (λ l. had ++ all l) (sym (next_of xs i x lt is)) ∙ inv

pub gathered_all : {X Y : Type 0} (all : List X → List Y) → all [] ≡ [] → (xs : List X) (i : ℕ) (had whole : List Y) → length xs ≤ i
    → had ++ all (drop i xs) ≡ whole → had ≡ whole
gathered_all all none xs i had whole le inv = sym (append-nil had) ∙ ap (λ l. had ++ l) (sym none) ∙ ap (λ l. had ++ all l) (sym (drop_all i xs le)) ∙ inv

-- six elements more
pub six_more : {X : Type 0} (s s1 s2 s3 s4 s5 s6 : List X) (a b c d e f a' b' c' d' e' f' : X) → s1 ≡ s ++ a' ∷ [] → s2 ≡ s1 ++ b' ∷ [] → s3 ≡ s2 ++ c' ∷ []
    → s4 ≡ s3 ++ d' ∷ [] → s5 ≡ s4 ++ e' ∷ [] → s6 ≡ s5 ++ f' ∷ []
    → a' ≡ a → b' ≡ b → c' ≡ c → d' ≡ d → e' ≡ e → f' ≡ f → s6 ≡ s ++ (a ∷ b ∷ c ∷ d ∷ e ∷ f ∷ [])
six_more s s1 s2 s3 s4 s5 s6 a b c d e f a' b' c' d' e' f' p1 p2 p3 p4 p5 p6 q1 q2 q3 q4 q5 q6 =
    (λ i. p6 i) ∙ (λ i. p5 i ++ q6 i ∷ []) ∙ (λ i. (p4 i ++ q5 i ∷ []) ++ f ∷ []) ∙ (λ i. ((p3 i ++ q4 i ∷ []) ++ e ∷ []) ++ f ∷ [])
    ∙ (λ i. (((p2 i ++ q3 i ∷ []) ++ d ∷ []) ++ e ∷ []) ++ f ∷ []) ∙ (λ i. ((((p1 i ++ q2 i ∷ []) ++ c ∷ []) ++ d ∷ []) ++ e ∷ []) ++ f ∷ [])
    ∙ (λ i. (((((s ++ q1 i ∷ []) ++ b ∷ []) ++ c ∷ []) ++ d ∷ []) ++ e ∷ []) ++ f ∷ []) ∙ simp append_assoc
