use Rattle.std.proofs.{Common.◌≡◌, Common.ℕ, Common.List, Common.length, Common.refl, Common.ap, Common.◌≤◌, Common.arith, lemmas.Result.err_from_is_err_and}
use Rattle.std.specs.Prelude.{codes, Ok, Err, Result, IfOk}
use Rattle.rv_rows.specs.declared.linear.Row.{Row}
use Rattle.rv_invfile.specs.{Readers.run, declared.fault.FileFault.FileFault}
use Rattle.rv_invariant.specs.{declared.fronts.Lists.Lists, Certificates.after_entry, Certificates.row_lists, Outlines.AreSmall, Pieces.a_list}
use Rattle.rv_invariant.proofs.Choices.{chain-ok, chain-stops, chain-last}
use Rattle.rv_invariant.proofs.fronts.read_lists.Goals as goal

small : (r : Result Lists FileFault) (entry : List Row) (n : ℕ) → length entry ≤ n → n ≤ 4294967295 → IfOk r (λ ls. ls.entry ≡ entry)
    → IfOk r (λ ls. length ls.first ≤ 1024) → IfOk r (λ ls. length ls.around ≤ 1024) → IfOk r (λ ls. length ls.state ≤ 1024) → IfOk r AreSmall
small (Ok ls) entry n a b h first around state =
    record { entry = omega (arith, ap length h, a, b); first = first; around = around; state = state }
small (Err e) entry n a b h first around state = tt

pub returns-in_err-entry-clause-read : goal.returns-in_err-entry-clause-read
returns-in_err-entry-clause-read c =
    let m = c.args.memories in
    let first = a_list m (codes "entry") c.args.low c.args.high in
    let p = err_from_is_err_and c.from_residual.result c.from_residual.ensures.1 in
    rw (p.1, p.2) (chain-stops (λ (r : List Row). r) (λ (l : Lists). l) first (after_entry m) (run (row_lists m c.args.low c.args.high) c.args.records.now)
    c.args.records.now c.in_err-entry.field-0.0 c.read_list.new.records refl c.in_err-entry.ensures.read)

pub returns : goal.returns
returns c =
    let m = c.args.memories in
    let first = a_list m (codes "entry") c.args.low c.args.high in
    let entry = c.in_ok-entry.entry in
    let there = chain-ok first (after_entry m) (run (row_lists m c.args.low c.args.high) c.args.records.now) c.args.records.now c.read_list.new.records entry
    refl c.in_ok-entry.ensures.read in
    record {
      read = chain-last (λ (l : Lists). l) (after_entry m entry) (run (row_lists m c.args.low c.args.high) c.args.records.now) c.read_list.new.records
          c.read_others.result c.read_others.new.records there c.read_others.ensures.read;
      small = small c.read_others.result entry c.args.high c.in_ok-entry.ensures.counted c.requires.high c.read_others.ensures.same
          c.read_others.ensures.first c.read_others.ensures.around c.read_others.ensures.state;
    }
