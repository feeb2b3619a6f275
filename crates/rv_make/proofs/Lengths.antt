-- How long the texts are.
use Rattle.std.proofs.Common.{◌≡◌, ℕ, zero, suc, ◌+◌, ◌*◌, ◌<◌, ◌≤◌, List, [], ◌∷◌, ◌++◌, length, length-append, arith}
use Rattle.std.proofs.lemmas.Fmt.{length-decimal-le}
use Rattle.std.specs.Prelude.{codes, decimal}
use Rattle.rv_base.specs.Limits.{source_limit}
use Rattle.rv_make.specs.Made.{line, link_name, declared_links, link_equation, link_equations, link_text, main_text, made_text}

-- the name of a flow has at most five bytes
length-link_name : (i : ℕ) → i ≤ 2000 → length (link_name i) ≤ 5
length-link_name zero h = omega arith
length-link_name (suc i) h = omega (arith, length-append (codes "b") (decimal (suc i)), length-decimal-le 4 (suc i) (omega arith) (omega arith) (omega arith))

length-declared_links : (n : ℕ) → n ≤ 2000 → length (declared_links n) ≤ 7 * n
length-declared_links zero h = omega arith
length-declared_links (suc n) h =
    omega (
      arith,
      length-append (declared_links n ++ codes ", ") (link_name (suc n)),
      length-append (declared_links n) (codes ", "),
      length-link_name (suc n) h,
      length-declared_links n (omega arith),
    )

-- an equation of a call
length-link_equation : (i : ℕ) → i < 2000 → length (link_equation i) ≤ 23
length-link_equation i h =
    let first = codes "  " in
    let second = first ++ link_name (suc i) in
    let third = second ++ codes " = link(" in
    let fourth = third ++ link_name i in
    omega (
      arith,
      length-append first (link_name (suc i)),
      length-append second (codes " = link("),
      length-append third (link_name i),
      length-append fourth (codes ");"),
      length-append (fourth ++ codes ");") (10 ∷ []),
      length-link_name i (omega arith),
      length-link_name (suc i) (omega arith),
    )

length-link_equations : (n : ℕ) → n ≤ 2000 → length (link_equations n) ≤ 23 * n
length-link_equations zero h = omega arith
length-link_equations (suc n) h =
    omega (arith, length-append (link_equations n) (link_equation n), length-link_equation n (omega arith), length-link_equations n (omega arith))

-- the length of several lists in turn
length-seven : {X : Type 0} (a b c d e f g : List X)
    → length (a ++ b ++ c ++ d ++ e ++ f ++ g) ≡ length a + length b + length c + length d + length e + length f + length g
length-seven a b c d e f g = simp length-append

length-three : {X : Type 0} (a b c : List X) → length (a ++ b ++ c) ≡ length a + length b + length c
length-three a b c = simp length-append

pub made_short : (n : ℕ) → n ≤ 2000 → length (made_text n) ≤ source_limit
made_short n h =
    let declarations = line (codes "var seen" ++ declared_links n ++ codes ": bool;") in
    let observer = line (codes "  ok = not " ++ link_name n ++ codes " or seen;") in
    omega (
      arith,
      length-append link_text (main_text n),
      length-seven (line (codes "node main(a: bool) returns (ok: bool);")) declarations (line (codes "let")) (line (codes "  seen = a or (false -> pre seen);"))
          (link_equations n) observer (line (codes "tel")),
      length-append (codes "var seen" ++ declared_links n ++ codes ": bool;") (10 ∷ []),
      length-three (codes "var seen") (declared_links n) (codes ": bool;"),
      length-append (codes "  ok = not " ++ link_name n ++ codes " or seen;") (10 ∷ []),
      length-three (codes "  ok = not ") (link_name n) (codes " or seen;"),
      length-link_name n h,
      length-declared_links n h,
      length-link_equations n h,
    )
