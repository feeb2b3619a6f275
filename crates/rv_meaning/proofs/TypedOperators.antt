-- What operators make of values of their types has the type of the whole.
use Rattle.std.proofs.Common.{◌≡◌, Bool, true, false, cond, refl, sym, ◌∙◌, subst, Some}
use Rattle.std.proofs.lemmas.Option.{none-some}
use Rattle.rv_base.specs.declared.value.Value.{Value}
use Rattle.rv_tree.specs.{declared.tree.Op.Op, Tree.ProgramTree}
use Rattle.rv_tree.specs.declared.tree.Op.TheVariants as op
use Rattle.rv_types.specs.Types.{kind_in, same_kind, both_are, binary_rule}
use Rattle.rv_types.specs.{declared.typed.Kind.Kind, Values.HasKind}
use Rattle.rv_types.specs.declared.typed.Kind.TheVariants as kind
use Rattle.rv_meaning.specs.Meaning.{operate}
use Rattle.rv_types.proofs.Verdicts.{kind_same, met_kind, product_kind}

module _ (program : ProgramTree) where
  -- one of two values of a type
  pub chosen : (b : Bool) (k : Kind) (v w : Value) → (b ≡ true → HasKind program k v) → HasKind program k w → HasKind program k (cond b v w)
  chosen true k v w p q = p refl
  chosen false k v w p q = q

  -- a value of a type has one that equals it
  pub retyped : {j k : Kind} (v : Value) → j ≡ k → HasKind program j v → HasKind program k v
  retyped v e h = subst (λ k. HasKind program k v) e h

  -- an operator between two operands
  pub operator_typed : (scaled first : Bool) (o : Op) (i j k : Kind) (v w : Value) → kind_in (binary_rule true scaled o i j) ≡ Some k
      → HasKind program i v → HasKind program j w → HasKind program k (operate o first v w)
  operator_typed scaled first op.Arrow i j k v w e p q =
      let m = met_kind (same_kind i j) i k e in chosen first k v w (λ _. retyped v m.1 p) (retyped w (sym (kind_same i j m.0) ∙ m.1) q)
  operator_typed scaled first op.Plus i j k v w e p q = retyped _ (met_kind _ kind.Int k e).1 tt
  operator_typed scaled first op.Minus i j k v w e p q = retyped _ (met_kind _ kind.Int k e).1 tt
  operator_typed scaled first op.Times i j k v w e p q = retyped _ (product_kind (both_are kind.Int i j) scaled k e).1 tt
  operator_typed scaled first op.Slash i j k v w e p q = absurd (none-some k e)
  operator_typed scaled first op.Div i j k v w e p q = absurd (none-some k e)
  operator_typed scaled first op.Mod i j k v w e p q = absurd (none-some k e)
  operator_typed scaled first _ i j k v w e p q = retyped _ (met_kind _ kind.Bool k e).1 tt
