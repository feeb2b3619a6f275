-- The names in the text of a program.
use Rattle.std.specs.Prelude.{◌≡◌, ◌&&◌, ◌||◌, ℕ, Bool, true, nat_le, nat_eq, List}
use Rattle.std.specs.List.{Contains, list_all}
use Rattle.rv_tree.specs.Tree.{NodeTree, ProgramTree}
use Rattle.rv_tree.specs.{declared.tree.Decl.Decl, declared.tree.Name.Name, declared.tree.TypeBody.TheVariants.Labels, declared.tree.TypeDecl.TypeDecl}

-- a letter of ASCII, a digit or `_`
abbrev pub is_name_byte : ℕ → Bool
is_name_byte b = (nat_le 48 b && nat_le b 57) || (nat_le 65 b && nat_le b 90) || nat_eq b 95 || (nat_le 97 b && nat_le b 122)

abbrev pub is_name : List ℕ → Bool
is_name text = list_all is_name_byte text

-- The labels of a program, the names of its nodes and those of their inputs are made of letters, digits and `_`.
pub record HasPlainNames (p : ProgramTree) : Type 0 where
  pub labels : (d : TypeDecl) → Contains p.types d → (xs : List Name) → d.body ≡ Labels xs → (x : Name) → Contains xs x → is_name x.text ≡ true
  pub nodes : (n : NodeTree) → Contains p.nodes n → is_name n.name.text ≡ true
  pub inputs : (n : NodeTree) (d : Decl) → Contains p.nodes n → Contains n.inputs d → is_name d.name.text ≡ true
