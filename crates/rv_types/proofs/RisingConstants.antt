-- Constants that stand in the order of their offsets, by their numbers.
use Rattle.std.proofs.Common.{◌≡◌, suc, ◌<◌, List, ◌∷◌, ◌++◌, sym, ◌∙◌, ap, arith, get_or, take, drop}
use Rattle.std.proofs.lemmas.List.{take-append-drop, length-take-le, get_or-take, get_or_default}
use Rattle.std.proofs.{Math.Seq.drop-cons, lemmas.List.Elements.All-contains}
use Rattle.std.specs.List.{All}
use Rattle.rv_tree.specs.Tree.{ConstantTree, ProgramTree}
use Rattle.rv_types.proofs.ConstantKinds.{IsRising}

pub rising : (p : ProgramTree) → ((front back : List ConstantTree) (c : ConstantTree) → p.constants ≡ front ++ c ∷ back
    → All (λ (d : ConstantTree). d.name.at < c.name.at) front) → IsRising p
rising p before j k c jk lt =
    All-contains (λ (d : ConstantTree). d.name.at < (get_or p.constants k c).name.at) (take k p.constants) (get_or p.constants j c)
    (before (take k p.constants) (drop (suc k) p.constants) (get_or p.constants k c) cut) (
      j,
      (let size = length-take-le k p.constants (omega arith) in omega (arith, size, jk)),
      get_or-take k p.constants j (get_or p.constants j c) jk ∙ get_or_default p.constants j (get_or p.constants j c) c (omega arith),
    )
  where
    cut : p.constants ≡ take k p.constants ++ get_or p.constants k c ∷ drop (suc k) p.constants
    cut = sym (take-append-drop k p.constants) ∙ ap (λ l. take k p.constants ++ l) (drop-cons p.constants k c lt)
