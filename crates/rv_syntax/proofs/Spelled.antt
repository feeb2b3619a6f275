-- What a text declares and what has a site in it stand at offsets of its tokens, no two at one token: whatever each
-- offset weighs, those of a program weigh no more than those of its tokens.
use Rattle.std.proofs.Common.{◌≡◌, ℕ, ◌+◌, ◌≤◌, List, [], ◌∷◌, ◌++◌, map, refl, ap, inl, inr, arith}
use Rattle.std.specs.Prelude.{Option, Some, None}
use Rattle.rv_syntax.specs.Grammar.{Leaf, Yes, Callee, Function, Hash, Written, Atom, InBrackets, Before, Between, Gated, If, Given, Front, NoneBefore, Then}
use Rattle.rv_syntax.specs.Grammar.{fixed, spelling, front_spelling, Invoked, syntax_of, front_trees, callee_token, name_token, op_mark}
use Rattle.rv_syntax.specs.Rules.{Gives, Word, Marked, Part, OneOf, Each}
use Rattle.rv_syntax.specs.ProgramText.{IsName, IsNames, IsEnumeration, IsTypeBody, IsType, IsTypes, IsRight, IsConstant, IsConstants, IsGroup, all_flows}
use Rattle.rv_syntax.specs.ProgramText.{IsDecls, IsLocal, joined, IsVar, Item, Equates, Assumes, IsItem, equations_of, assertions_of, IsInputs, IsOutputs}
use Rattle.rv_syntax.specs.ProgramText.{IsBody, IsNode, Section, Types, Constants, OneNode, IsSection, types_of, constants_of, program_of, IsProgram}
use Rattle.rv_syntax.specs.{declared.token.Mark.Mark, declared.token.Token.Token, Nesting.IsExprOf}
use Rattle.rv_syntax.specs.declared.token.Mark.TheVariants as mark
use Rattle.rv_tree.specs.{Tree.Tree, Tree.trees, Tree.EquationTree, Tree.AssertionTree, Tree.ConstantTree, Tree.NodeTree, Tree.ProgramTree, Sites.compared}
use Rattle.rv_tree.specs.{Sites.offsets, Sites.trees_offsets, Sites.equation_offsets, Sites.assertion_offsets, declared.tree.Name.Name, declared.tree.Decl.Decl}
use Rattle.rv_tree.specs.{declared.tree.Op.Op, declared.tree.TypeBody.TypeBody, declared.tree.TypeDecl.TypeDecl, Groups.flow, Groups.Group, Groups.flows_of}
use Rattle.rv_tree.specs.declared.tree.Op.TheVariants as op
use Rattle.rv_syntax.specs.declared.operator.Prefix.TheVariants as prefixed
use Rattle.rv_tree.specs.declared.tree.TypeBody.TheVariants as type_body

-- what all of them weigh
abbrev pub all_of : {A : Type 0} → (A → ℕ) → List A → ℕ
all_of f [] = 0
all_of f (x ∷ xs) = f x + all_of f xs

pub all_of-append : {A : Type 0} (f : A → ℕ) (xs ys : List A) → all_of f (xs ++ ys) ≡ all_of f xs + all_of f ys
all_of-append f [] ys = omega arith
all_of-append f (x ∷ xs) ys = omega (arith, all_of-append f xs ys)

all_of-map : {A B : Type 0} (f : B → ℕ) (g : A → B) (xs : List A) → all_of f (map g xs) ≡ all_of (λ a. f (g a)) xs
all_of-map f g [] = refl
all_of-map f g (x ∷ xs) = ap (λ n. f (g x) + n) (all_of-map f g xs)

-- where each offset weighs this
module _ (f : ℕ → ℕ) where
  -- names, flows, types, constants, nodes and programs, by where they are declared and by what has a site in them
  abbrev pub of_name : Name → ℕ
  of_name x = f x.at

  abbrev pub of_flow : Decl → ℕ
  of_flow d = of_name d.name

  abbrev pub of_body : TypeBody → ℕ
  of_body (type_body.Alias k) = 0
  of_body (type_body.Labels xs) = all_of of_name xs

  abbrev pub of_type : TypeDecl → ℕ
  of_type d = of_name d.name + of_body d.body

  abbrev pub of_constant : ConstantTree → ℕ
  of_constant c = of_name c.name

  abbrev pub of_tree : Tree → ℕ
  of_tree t = all_of f (offsets t)

  abbrev pub of_equations : List EquationTree → ℕ
  of_equations qs = all_of f (equation_offsets qs)

  abbrev pub of_assertions : List AssertionTree → ℕ
  of_assertions more = all_of f (assertion_offsets more)

  abbrev pub of_node : NodeTree → ℕ
  of_node n = of_name n.name + (all_of of_flow n.inputs + (all_of of_flow n.outputs
      + (all_of of_flow n.locals + (of_equations n.equations + of_assertions n.assertions))))

  abbrev pub of_program : ProgramTree → ℕ
  of_program p = all_of of_type p.types + (all_of of_constant p.constants + all_of of_node p.nodes)

  -- tokens
  abbrev pub of_token : Token → ℕ
  of_token t = f t.at

  abbrev pub of_tokens : List Token → ℕ
  of_tokens ts = all_of of_token ts

  -- ---- Expressions.
  compared-some : (o : Op) (at : ℕ) → all_of f (compared o at) ≤ f at
  compared-some op.Equal at = omega arith
  compared-some _ at = omega arith

  leaf-none : (l : Leaf) (at : ℕ) → all_of f (offsets (syntax_of (Atom l at))) ≡ 0
  leaf-none Yes at = refl
  leaf-none _ at = refl

  invoked-some : (g : Callee) (ts : List Tree) → of_tree (Invoked g ts) ≤ of_token (callee_token g) + all_of f (trees_offsets (trees ts))
  invoked-some (Function x) ts = omega arith
  invoked-some (Hash at) ts = omega arith

  one-last : (ts : List Tree) (t : Tree) → all_of f (trees_offsets (trees (ts ++ t ∷ []))) ≡ all_of f (trees_offsets (trees ts)) + of_tree t
  one-last [] t = omega (arith, all_of-append f (offsets t) [])
  one-last (x ∷ ts) t =
      omega (arith, one-last ts t, all_of-append f (offsets x) (trees_offsets (trees (ts ++ t ∷ []))), all_of-append f (offsets x) (trees_offsets (trees ts)))

  -- what is written
  mutual
    pub spelled : (w : Written) → of_tree (syntax_of w) ≤ of_tokens (spelling w)
    spelled (Atom l at) = omega (arith, leaf-none l at)
    spelled (InBrackets a w b) = omega (arith, spelled w, all_of-append of_token (spelling w) (fixed mark.Close b ∷ []))
    spelled (Before prefixed.Not at w) = omega (arith, spelled w)
    spelled (Before _ at w) = omega (arith, spelled w)
    spelled (Between o at a b) =
        let after : List ℕ = offsets (syntax_of b) in
        omega (
          arith,
          spelled a,
          spelled b,
          compared-some o at,
          all_of-append f (offsets (syntax_of a)) (compared o at ++ after),
          all_of-append f (compared o at) after,
          all_of-append of_token (spelling a) (fixed (op_mark o) at ∷ spelling b),
        )
    spelled (Gated w at x) = omega (arith, spelled w, all_of-append of_token (spelling w) (fixed mark.When at ∷ name_token x ∷ []))
    spelled (If i a t b e c) =
        let second : List ℕ = offsets (syntax_of b) in
        let third : List ℕ = offsets (syntax_of c) in
        omega (
          arith,
          spelled a,
          spelled b,
          spelled c,
          all_of-append f (offsets (syntax_of a)) (second ++ third),
          all_of-append f second third,
          all_of-append of_token (spelling a) (fixed mark.Then t ∷ (spelling b ++ fixed mark.Else e ∷ spelling c)),
          all_of-append of_token (spelling b) (fixed mark.Else e ∷ spelling c),
        )
    spelled (Given g a front w b) =
        omega (
          arith,
          spelled-front front,
          spelled w,
          invoked-some g (front_trees front ++ syntax_of w ∷ []),
          one-last (front_trees front) (syntax_of w),
          all_of-append of_token (front_spelling front) (spelling w ++ fixed mark.Close b ∷ []),
          all_of-append of_token (spelling w) (fixed mark.Close b ∷ []),
        )

    spelled-front : (front : Front) → all_of f (trees_offsets (trees (front_trees front))) ≤ of_tokens (front_spelling front)
    spelled-front NoneBefore = omega arith
    spelled-front (Then front w at) =
        omega (
          arith,
          spelled-front front,
          spelled w,
          one-last (front_trees front) (syntax_of w),
          all_of-append of_token (front_spelling front) (spelling w ++ fixed mark.Comma at ∷ []),
          all_of-append of_token (spelling w) (fixed mark.Comma at ∷ []),
        )

  -- ---- What a rule says of its value and its tokens: the value weighs no more than these, where so much stands before.
  abbrev Tells : {A : Type 0} → (A → List Token → Type 0) → (A → ℕ) → ℕ → Type 0
  Tells {A = A} L own before = (a : A) (ts : List Token) → L a ts → own a ≤ before + of_tokens ts

  tells-nothing : {A : Type 0} (L : A → List Token → Type 0) (before : ℕ) → Tells L (λ a. 0) before
  tells-nothing L before a ts h = omega arith

  tells-gives : {A : Type 0} {a : A} (own : A → ℕ) {before : ℕ} → own a ≤ before → Tells (Gives a) own before
  tells-gives {a = a} own le b ts h = let is : own b ≡ own a = ap own h.1 in omega (arith, is, le)

  tells-word : {A : Type 0} (m : Mark) {L : A → List Token → Type 0} {own : A → ℕ} (before : ℕ) → Tells L own before → Tells (Word m L) own before
  tells-word m {own = own} before rest b ts h =
      let more : own b ≤ before + of_tokens h.1 = rest b h.1 h.3 in
      let all : of_tokens ts ≡ of_tokens (fixed m h.0 ∷ h.1) = ap of_tokens h.2 in
      omega (arith, more, all)

  tells-marked : (m : Mark) → Tells (Marked m) f 0
  tells-marked m at ts h = let all : of_tokens ts ≡ of_tokens (fixed m at ∷ []) = ap of_tokens h in omega (arith, all)

  tells-part : {A B : Type 0} {L : A → List Token → Type 0} {M : A → B → List Token → Type 0} {part : A → ℕ} {own : B → ℕ} (before : ℕ)
      → Tells L part 0 → ((a : A) → Tells (M a) own (before + part a)) → Tells (Part L M) own before
  tells-part {part = part} {own = own} before first second b ts h =
      let one : part h.0 ≤ 0 + of_tokens h.1 = first h.0 h.1 h.4 in
      let more : own b ≤ before + part h.0 + of_tokens h.2 = second h.0 b h.2 h.5 in
      let all : of_tokens ts ≡ of_tokens (h.1 ++ h.2) = ap of_tokens h.3 in
      omega (arith, one, more, all, all_of-append of_token h.1 h.2)

  tells-choice : {A : Type 0} {L M : A → List Token → Type 0} {own : A → ℕ} (before : ℕ) → Tells L own before → Tells M own before
      → Tells (OneOf L M) own before
  tells-choice before first second a ts (inl h) = first a ts h
  tells-choice before first second a ts (inr h) = second a ts h

  tells-each : {A : Type 0} {L : A → List Token → Type 0} {own : A → ℕ} → Tells L own 0 → Tells (Each L) (all_of own) 0
  tells-each one [] ts h = omega arith
  tells-each {own = own} one (a ∷ more) ts h =
      let first : own a ≤ 0 + of_tokens h.0 = one a h.0 h.3 in
      let others : all_of own more ≤ 0 + of_tokens h.1 = tells-each one more h.1 h.4 in
      let all : of_tokens ts ≡ of_tokens (h.0 ++ h.1) = ap of_tokens h.2 in
      omega (arith, first, others, all, all_of-append of_token h.0 h.1)

  tells-name : Tells IsName of_name 0
  tells-name x ts h = let all : of_tokens ts ≡ of_tokens (name_token x ∷ []) = ap of_tokens h in omega (arith, all)

  -- one such part, and any number of them
  tells-more : {A : Type 0} {a : A} {L : A → List Token → Type 0} {own : A → ℕ} → Tells L own 0
      → Tells (Part (Each L) (λ more. Gives (a ∷ more))) (all_of own) (0 + own a)
  tells-more one = tells-part _ (tells-each one) (λ more. tells-gives _ (omega arith))

  tells-names : Tells IsNames (all_of of_name) 0
  tells-names = tells-part _ tells-name (λ x. tells-more (tells-word mark.Comma _ tells-name))

  tells-expr : Tells IsExprOf of_tree 0
  tells-expr t ts h =
      let one : of_tree (syntax_of h.0) ≤ of_tokens (spelling h.0) = spelled h.0 in
      let is : of_tree (syntax_of h.0) ≡ of_tree t = ap of_tree h.3 in
      let all : of_tokens (spelling h.0) ≡ of_tokens ts = ap of_tokens h.2 in
      omega (arith, one, is, all)

  -- ---- Types and constants.
  tells-enumeration : Tells IsEnumeration of_body 0
  tells-enumeration =
      tells-word mark.Enum _ (tells-word mark.OpenBrace _ (tells-part _ tells-names (λ xs. tells-word mark.CloseBrace _ (tells-gives _ (omega arith)))))

  tells-body : Tells IsTypeBody of_body 0
  tells-body = tells-choice _ tells-enumeration (tells-part _ (tells-nothing _ _) (λ k. tells-gives _ (omega arith)))

  tells-type : Tells IsType of_type 0
  tells-type = tells-part _ tells-name (λ x. tells-word mark.Equal _ (tells-part _ tells-body (λ body. tells-word mark.Semi _ (tells-gives _ (omega arith)))))

  tells-types : Tells IsTypes (all_of of_type) 0
  tells-types = tells-word mark.Type _ (tells-part _ tells-type (λ d. tells-more tells-type))

  tells-right : Tells IsRight of_tree 0
  tells-right = tells-word mark.Equal _ (tells-part _ tells-expr (λ e. tells-word mark.Semi _ (tells-gives _ (omega arith))))

  tells-constant : Tells IsConstant of_constant 0
  tells-constant = tells-part _ tells-name (λ x. tells-part _ (tells-nothing _ _) (λ k. tells-part _ (tells-nothing _ _) (λ e. tells-gives _ (omega arith))))

  tells-constants : Tells IsConstants (all_of of_constant) 0
  tells-constants = tells-word mark.Const _ (tells-part _ tells-constant (λ c. tells-more tells-constant))

  -- ---- Flows.
  abbrev of_group : Group → ℕ
  of_group group = all_of of_name group.0

  tells-group : Tells IsGroup of_group 0
  tells-group = tells-part _ tells-names (λ xs. tells-word mark.Colon _ (tells-part _ (tells-nothing _ _) (λ k. tells-gives _ (omega arith))))

  of-flows : (group : Group) (clock : Option Name) → all_of of_flow (flows_of group clock) ≡ of_group group
  of-flows group clock = all_of-map of_flow (flow group.1 clock) group.0

  of-all_flows : (groups : List Group) → all_of of_flow (all_flows groups) ≡ all_of of_group groups
  of-all_flows [] = refl
  of-all_flows (group ∷ more) = omega (arith, all_of-append of_flow (flows_of group None) (all_flows more), of-flows group None, of-all_flows more)

  tells-decls : Tells IsDecls (all_of of_flow) 0
  tells-decls =
      tells-part _ tells-group (λ group. tells-part _ (tells-each (tells-word mark.Semi _ tells-group)) (λ more.
      tells-part _ (tells-nothing _ _) (λ end. tells-gives _ (omega (arith, of-all_flows (group ∷ more))))))

  tells-local : Tells IsLocal (all_of of_flow) 0
  tells-local =
      tells-choice _
      (tells-part _ tells-group (λ group. tells-part _ (tells-nothing _ _) (λ clock.
      tells-word mark.Semi _ (tells-gives _ (omega (arith, of-flows group clock))))))
      (tells-word mark.Open _ (tells-part _ tells-group (λ group. tells-word mark.Close _ (tells-part _ (tells-nothing _ _) (λ clock.
      tells-word mark.Semi _ (tells-gives _ (omega (arith, of-flows group (Some clock)))))))))

  of-joined : (dss : List (List Decl)) → all_of of_flow (joined dss) ≡ all_of (all_of of_flow) dss
  of-joined [] = refl
  of-joined (ds ∷ more) = omega (arith, all_of-append of_flow ds (joined more), of-joined more)

  tells-var : Tells IsVar (all_of of_flow) 0
  tells-var = tells-word mark.Var _ (tells-part _ tells-local (λ ds. tells-part _ (tells-each tells-local) (λ more.
      tells-gives _ (omega (arith, of-joined (ds ∷ more))))))

  tells-inputs : Tells IsInputs (all_of of_flow) 0
  tells-inputs = tells-word mark.Open _ (tells-part _ tells-decls (λ ds. tells-word mark.Close _ (tells-gives _ (omega arith))))

  tells-outputs : Tells IsOutputs (all_of of_flow) 0
  tells-outputs = tells-word mark.Returns _ (tells-part _ tells-inputs (λ ds. tells-part _ (tells-nothing _ _) (λ end. tells-gives _ (omega arith))))

  -- ---- Equations and assertions.
  abbrev of_item : Item → ℕ
  of_item (Equates q) = of_tree q.right
  of_item (Assumes a) = f a.at + of_tree a.body

  tells-item : Tells IsItem of_item 0
  tells-item =
      tells-choice _ (tells-part _ (tells-nothing _ _) (λ xs. tells-part _ tells-right (λ e. tells-gives _ (omega arith))))
      (tells-part _ (tells-marked mark.Assert) (λ at. tells-part _ tells-expr (λ e. tells-word mark.Semi _ (tells-gives _ (omega arith)))))

  of-items : (items : List Item) → of_equations (equations_of items) + of_assertions (assertions_of items) ≡ all_of of_item items
  of-items [] = omega arith
  of-items (Equates q ∷ more) = omega (arith, of-items more, all_of-append f (offsets q.right) (equation_offsets (equations_of more)))
  of-items (Assumes a ∷ more) = omega (arith, of-items more, all_of-append f (offsets a.body) (assertion_offsets (assertions_of more)))

  tells-items : Tells IsBody (all_of of_item) 0
  tells-items = tells-word mark.Let _ (tells-part _ (tells-each tells-item) (λ items. tells-word mark.Tel _ (tells-part _ (tells-nothing _ _) (λ end.
      tells-gives _ (omega arith)))))

  -- ---- Nodes and programs.
  tells-node : Tells IsNode of_node 0
  tells-node =
      tells-part _ (tells-word mark.Node _ tells-name) (λ x. tells-part _ tells-inputs (λ ins. tells-part _ tells-outputs (λ outs.
      tells-part _ (tells-each tells-var) (λ vars. tells-part _ tells-items (λ items. tells-gives _ (omega (arith, of-joined vars, of-items items)))))))

  abbrev of_section : Section → ℕ
  of_section (Types ds) = all_of of_type ds
  of_section (Constants cs) = all_of of_constant cs
  of_section (OneNode n) = of_node n

  tells-section : Tells IsSection of_section 0
  tells-section =
      tells-choice _ (tells-part _ tells-types (λ ds. tells-gives _ (omega arith))) (tells-choice _
      (tells-part _ tells-constants (λ cs. tells-gives _ (omega arith))) (tells-part _ tells-node (λ n. tells-gives _ (omega arith))))

  of-sections : (sections : List Section) → of_program (program_of sections) ≡ all_of of_section sections
  of-sections [] = omega arith
  of-sections (Types ds ∷ more) = omega (arith, of-sections more, all_of-append of_type ds (types_of more))
  of-sections (Constants cs ∷ more) = omega (arith, of-sections more, all_of-append of_constant cs (constants_of more))
  of-sections (OneNode n ∷ more) = omega (arith, of-sections more)

  tells-whole : Tells IsProgram of_program 0
  tells-whole = tells-part _ (tells-each tells-section) (λ sections. tells-gives _ (omega (arith, of-sections sections)))

  pub tells-program : (p : ProgramTree) (ts : List Token) → IsProgram p ts → of_program p ≤ of_tokens ts
  tells-program p ts h = let known : of_program p ≤ 0 + of_tokens ts = tells-whole p ts h in omega (arith, known)
