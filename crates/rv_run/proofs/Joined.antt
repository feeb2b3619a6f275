-- Numbers joined by points, written each with the point that follows it.
use Rattle.std.proofs.Common.{◌≡◌, ℕ, ◌≤◌, List, [], ◌∷◌, ◌++◌, length, take, sym, ◌∙◌, ap, append_assoc, append-nil}
use Rattle.std.proofs.lemmas.List.{take_all}
use Rattle.std.specs.{Prelude.flat_map, Fmt.decimal}
use Rattle.rv_run.specs.Printed.{dotted}

-- a number and a point
abbrev pub pointed : ℕ → List ℕ
pointed site = decimal site ++ 46 ∷ []

moved : (sites : List ℕ) (last : ℕ) → flat_map (λ s. 46 ∷ decimal s) (sites ++ last ∷ []) ≡ 46 ∷ (flat_map pointed sites ++ decimal last)
moved [] last = ap (λ bytes. 46 ∷ bytes) (append-nil (decimal last))
moved (site ∷ sites) last =
    ap (λ bytes. 46 ∷ (decimal site ++ bytes)) (moved sites last)
    ∙ ap (λ bytes. 46 ∷ bytes) (sym (append_assoc (decimal site) (46 ∷ []) (flat_map pointed sites ++ decimal last))
    ∙ sym (append_assoc (pointed site) (flat_map pointed sites) (decimal last)))

pub dotted_last : (front : List ℕ) (last : ℕ) → dotted (front ++ last ∷ []) ≡ flat_map pointed front ++ decimal last
dotted_last [] last = append-nil (decimal last)
dotted_last (site ∷ sites) last =
    ap (λ bytes. decimal site ++ bytes) (moved sites last)
    ∙ sym (append_assoc (decimal site) (46 ∷ []) (flat_map pointed sites ++ decimal last))
    ∙ sym (append_assoc (pointed site) (flat_map pointed sites) (decimal last))

-- all but the last, each with its point, and then the last
pub added : (old front sites between now : List ℕ) (last i : ℕ) → sites ≡ front ++ last ∷ [] → length front ≤ i
    → between ≡ old ++ flat_map pointed (take i front) → now ≡ between ++ decimal last → now ≡ old ++ dotted sites
added old front sites between now last i split all before after =
    after ∙ ap (λ bytes. bytes ++ decimal last) (before ∙ ap (λ ss. old ++ flat_map pointed ss) (take_all i front all))
    ∙ append_assoc old (flat_map pointed front) (decimal last)
    ∙ ap (λ bytes. old ++ bytes) (sym (dotted_last front last)) ∙ ap (λ ss. old ++ dotted ss) (sym split)
