use Rattle.std.proofs.Common.{◌≡◌, ◌↔◌, ◌∙◌, true, refl, ap, cond, Bool, arith, rules, FitsSigned}
use Rattle.std.proofs.{lemmas.Int.to_z-of_z, lemmas.Result.IfOk-weaker}
use Rattle.std.specs.Int.{w128}
use Rattle.rv_diagram.specs.Nodes.{Answers, choice, value_of, Valuation}
use Rattle.rv_diagram.proofs.Growing.{extends_trans, grows_extends, call_extends}
use Rattle.rv_pairs.specs.Hints.{IsHintAt}
use Rattle.rv_pairs.proofs.Hinting.{hint_out, hint_still}
use Rattle.rv_pairs.proofs.hints.without_hint.Goals as goal

pub returns-then-is_below-clause-exact : goal.returns-then-is_below-clause-exact
returns-then-is_below-clause-exact c v =
    let bound_fits : FitsSigned w128 c.args.bound = search rules in
    let hint_fits : FitsSigned w128 c.args.hint.now.bound = search rules in
    let low = simp to_z-of_z at c.if-is_below.ensures in
    hint_still c.args.store.now.nodes v c.args.bound c.args.hint.now (value_of c.args.store.now.nodes c.args.rest v) low

pub ite-requires-2 : goal.ite-requires-2
ite-requires-2 c =
    let grown = grows_extends c.args.store.now c.ite.new.self c.in_ok-outside.ensures.ok.grows in
    record {
      when = omega (arith, c.requires.one, grown.longer);
      yes = c.in_ok-outside.ensures.ok.found;
      no = omega (arith, c.requires.rest, grown.longer);
    }

pub returns-clause-extends : goal.returns-clause-extends
returns-clause-extends c =
    extends_trans c.args.store.now c.ite.new.self c.ite-2.new.self (grows_extends c.args.store.now c.ite.new.self c.in_ok-outside.ensures.ok.grows)
    (call_extends c.ite.new.self c.ite-2.new.self _ c.ite-2.result c.ite-2.ensures.ok c.ite-2.ensures.err)

pub returns-clause-exact : goal.returns-clause-exact
returns-clause-exact c =
    let bound_fits : FitsSigned w128 c.args.bound = search rules in
    let hint_fits : FitsSigned w128 c.args.hint.now.bound = search rules in
    let low = simp to_z-of_z at c.if-is_below.ensures in
    let grown = grows_extends c.args.store.now c.ite.new.self c.in_ok-outside.ensures.ok.grows in
    IfOk-weaker c.ite-2.result
    (Answers c.ite.new.self c.ite-2.new.self (choice c.ite.new.self.nodes c.args.hint.now.one c.in_ok-outside.outside c.args.rest))
    (λ r. (v : Valuation) → (value_of c.ite-2.new.self.nodes r v ≡ true) ↔ ((value_of c.args.store.now.nodes c.args.rest v ≡ true)
    × ¬ IsHintAt c.args.store.now.nodes v c.args.bound c.args.hint.now))
    (λ r t v. hint_out c.args.store.now.nodes v c.args.bound c.args.hint.now (value_of c.ite-2.new.self.nodes r v)
    (value_of c.ite.new.self.nodes c.in_ok-outside.outside v) (value_of c.args.store.now.nodes c.constant-never.result v)
    (value_of c.args.store.now.nodes c.args.rest v) (value_of c.args.store.now.nodes c.args.hint.now.one v)
    (value_of c.args.store.now.nodes c.args.hint.now.other v) refl refl
    (t.means v
    ∙ ap (λ (x : Bool). cond x (value_of c.ite.new.self.nodes c.in_ok-outside.outside v) (value_of c.ite.new.self.nodes c.args.rest v))
    (grown.kept c.args.hint.now.one (omega (arith, c.requires.one)) v)
    ∙ ap (λ (x : Bool). cond (value_of c.args.store.now.nodes c.args.hint.now.one v) (value_of c.ite.new.self.nodes c.in_ok-outside.outside v) x)
    (grown.kept c.args.rest (omega (arith, c.requires.rest)) v))
    (c.in_ok-outside.ensures.ok.means v) (c.constant-never.ensures.means v) low)
    c.ite-2.ensures.ok
