use Rattle.std.proofs.Common.{ℕ, ◌≡◌, ◌∙◌, List, sym, subst, arith}
use Rattle.rv_diagram.specs.{Nodes.Valuation, declared.frozen.Frozen.Frozen}
use Rattle.rv_proofs.specs.Scopes.{IsIn}
use Rattle.rv_split.specs.Partitions.{IsSingle, AreParts, AreRising, AreBelow}
use Rattle.rv_split.specs.Splits.{IsFirstFree}
use Rattle.rv_split.proofs.Dividing.{part_is, part_set, not_single, split_made, split_union, split_longer, parts_any}
use Rattle.rv_split.proofs.partition.Partition.split.Goals as goal

pub first_free-requires-clause-some : goal.first_free-requires-clause-some
first_free-requires-clause-some c = subst (λ (f : Frozen). (v : Valuation) × IsIn f v)
    (part_is c.args.self.now.parts c.args.location c.at.result.now c.at.ensures.value) (c.requires.partition.parts.some c.args.location c.requires.location)

pub returns-in-None-clause-single : goal.returns-in-None-clause-single
returns-in-None-clause-single c h =
    subst (λ (f : Frozen). IsSingle c.args.self.now.state f) (sym (part_is c.args.self.now.parts c.args.location c.at.result.now c.at.ensures.value))
    (subst (λ (s : List ℕ). IsSingle s c.at.result.now) c.as_slice.ensures (rw c.in-None.is at c.in_ok-free.ensures))

pub halves_by-requires-clause-set : goal.halves_by-requires-clause-set
halves_by-requires-clause-set c = (part_set c.args.store.now.variables c.args.self.now.state c.args.self.now.parts c.args.location c.at-2.result.now
    c.requires.partition.parts c.requires.location c.at-2.ensures.value).ordered

pub returns-in_err-halves-clause-only_single : goal.returns-in_err-halves-clause-only_single
returns-in_err-halves-clause-only_single c lt single = absurd (not_single c.args.self.now.state c.at.result.now c.in-Some.x
    (subst (λ (s : List ℕ). IsFirstFree s c.at.result.now c.in-Some.x) c.as_slice.ensures (rw c.in-Some.is at c.in_ok-free.ensures))
    (subst (λ (f : Frozen). IsSingle c.args.self.now.state f) (part_is c.args.self.now.parts c.args.location c.at.result.now c.at.ensures.value) single))

pub returns-clause-only_single : goal.returns-clause-only_single
returns-clause-only_single c lt single = absurd (not_single c.args.self.now.state c.at.result.now c.in-Some.x
    (subst (λ (s : List ℕ). IsFirstFree s c.at.result.now c.in-Some.x) c.as_slice.ensures (rw c.in-Some.is at c.in_ok-free.ensures))
    (subst (λ (f : Frozen). IsSingle c.args.self.now.state f) (part_is c.args.self.now.parts c.args.location c.at.result.now c.at.ensures.value) single))

pub returns-clause-split : goal.returns-clause-split
returns-clause-split c =
    let free : IsFirstFree c.args.self.now.state c.at.result.now c.in-Some.x =
    subst (λ (s : List ℕ). IsFirstFree s c.at.result.now c.in-Some.x) c.as_slice.ensures (rw c.in-Some.is at c.in_ok-free.ensures) in
    let one : c.at.result.now ≡ c.at-2.result.now = sym (part_is c.args.self.now.parts c.args.location c.at.result.now c.at.ensures.value)
    ∙ part_is c.args.self.now.parts c.args.location c.at-2.result.now c.at-2.ensures.value in
    split_made c.args.self.now.state c.args.hint.now c.at-2.result.now c.in_ok-halves.halves.yes c.in_ok-halves.halves.no c.args.self.now.parts
    c.replace.new.self.parts c.args.location c.in-Some.x c.requires.location c.at-2.ensures.value
    (subst (λ (f : Frozen). IsFirstFree c.args.self.now.state f c.in-Some.x) one free) c.in_ok-halves.ensures.cut c.in_ok-replace.ensures.parts

pub returns-clause-union : goal.returns-clause-union
returns-clause-union c = split_union c.args.self.now.state c.args.hint.now c.args.self.now.parts c.replace.new.self.parts c.args.location
    (returns-clause-split c)

pub returns-clause-partition : goal.returns-clause-partition
returns-clause-partition c =
    let free : IsFirstFree c.args.self.now.state c.at.result.now c.in-Some.x =
    subst (λ (s : List ℕ). IsFirstFree s c.at.result.now c.in-Some.x) c.as_slice.ensures (rw c.in-Some.is at c.in_ok-free.ensures) in
    let part = part_set c.args.store.now.variables c.args.self.now.state c.args.self.now.parts c.args.location c.at-2.result.now
    c.requires.partition.parts c.requires.location c.at-2.ensures.value in
    let both = c.in_ok-halves.ensures.states c.args.self.now.state part c.requires.hint (free.place, free.listed, free.is_x) in
    let parts : AreParts c.args.store.now.variables c.args.self.now.state c.replace.new.self.parts =
    parts_any c.args.store.now.variables c.args.self.now.state c.args.hint.now c.at-2.result.now c.in_ok-halves.halves.yes c.in_ok-halves.halves.no
    c.args.self.now.parts c.replace.new.self.parts c.args.location c.in-Some.x c.requires.partition.parts c.requires.location c.at-2.ensures.value
    c.in_ok-halves.ensures.cut c.in_ok-replace.ensures.parts both.0 both.1 in
    let state_is = c.replace.ensures.state in
    let limit_is = c.replace.ensures.limit in
    record {
      parts = subst (λ (s : List ℕ). AreParts c.args.store.now.variables s c.replace.new.self.parts) (sym state_is) parts;
      few = omega (
        arith,
        split_longer c.args.self.now.state c.args.hint.now c.args.self.now.parts c.replace.new.self.parts c.args.location
            (returns-clause-split c),
        c.len-count.ensures,
        c.if-count-most.false,
        limit_is,
      );
      rising = subst AreRising (sym state_is) c.requires.partition.rising;
      below = subst (AreBelow c.args.store.now.variables) (sym state_is) c.requires.partition.below;
    }
