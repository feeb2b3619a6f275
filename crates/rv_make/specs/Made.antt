-- The text of the source that is made for a number: a node `link` that delays its input by one instant, and a main node that calls it that
-- many times, each call after the one before.
use Rattle.std.specs.Prelude.{ℕ, zero, suc, List, [], ◌∷◌, ◌++◌, codes, decimal}

-- a line with its end
abbrev pub line : List ℕ → List ℕ
line text = text ++ 10 ∷ []

-- the name of the flow that the call with this number gives; the first call is given the input
abbrev pub link_name : ℕ → List ℕ
link_name zero = codes "a"
link_name (suc i) = codes "b" ++ decimal (suc i)

-- the declarations of the flows of the first n calls, a comma and a space before each
abbrev pub declared_links : ℕ → List ℕ
declared_links zero = []
declared_links (suc n) = declared_links n ++ codes ", " ++ link_name (suc n)

-- the equation of the call with this number, after the first one
abbrev pub link_equation : ℕ → List ℕ
link_equation i = line (codes "  " ++ link_name (suc i) ++ codes " = link(" ++ link_name i ++ codes ");")

-- the equations of the first n calls
abbrev pub link_equations : ℕ → List ℕ
link_equations zero = []
link_equations (suc n) = link_equations n ++ link_equation n

-- the node that delays its input
abbrev pub link_text : List ℕ
link_text = line (codes "node link(a: bool) returns (b: bool);")
    ++ line (codes "let")
    ++ line (codes "  b = false -> pre a;")
    ++ line (codes "tel")

-- the main node with n calls
abbrev pub main_text : ℕ → List ℕ
main_text n = line (codes "node main(a: bool) returns (ok: bool);")
    ++ line (codes "var seen" ++ declared_links n ++ codes ": bool;")
    ++ line (codes "let")
    ++ line (codes "  seen = a or (false -> pre seen);")
    ++ link_equations n
    ++ line (codes "  ok = not " ++ link_name n ++ codes " or seen;")
    ++ line (codes "tel")

-- the source
abbrev pub made_text : ℕ → List ℕ
made_text n = link_text ++ main_text n
