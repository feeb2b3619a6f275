use Rattle.std.proofs.Common.{◌≡◌, [], List, length, refl, sym, ap, ◌∙◌, subst}
use Rattle.std.proofs.{lemmas.List.length-set, lemmas.Result.err_from_is_err_and}
use Rattle.std.specs.Prelude.{Some, Ok, Err, slice_set}
use Rattle.rv_proofs.specs.{declared.certificate.Entry.Entry, declared.certificate.Location.Location}
use Rattle.rv_invfile.specs.Readers.{Reads, run}
use Rattle.rv_invfile.proofs.Bound.{bind_ok, bind_err}
use Rattle.rv_invariant.specs.Certificates.{after_front, entries_rule, front_rule, high_of, known_at, learn, location_of, location_rule, low_of, outline}
use Rattle.rv_invariant.specs.{Certificates.needs_turn, Outlines.IsSmall}
use Rattle.rv_invariant.specs.{declared.fronts.Front.Front, Continues.Then}
use Rattle.rv_invariant.proofs.{Going.known-is, Choices.continues-part, Choices.continues-stop}
use Rattle.rv_invariant.proofs.locations.read_location.Goals as goal

pub returns-in_err-front : goal.returns-in_err-front
returns-in_err-front c =
    let s = c.args.shape in
    let known = c.args.known.now in
    let i = c.args.index in
    let a = c.args.records.now in
    let p = err_from_is_err_and c.from_residual.result c.from_residual.ensures.1 in
    let is = known-is known i c.at-count.result.now c.at-count.ensures.value in
    let low = c.low_of.ensures ∙ ap low_of (sym is) in
    let high = c.high_of.ensures.exact ∙ ap high_of (sym is) in
    let e = c.in_err-front.field-0.0 in
    let there = subst (λ l. Reads (λ (f : Front). f) (run (front_rule s l (high_of (known_at known i))) a) (Err e) c.read_front.new.records) low
    (subst (λ h. Reads (λ (f : Front). f) (run (front_rule s c.low_of.result h) a) (Err e) c.read_front.new.records) high c.in_err-front.ensures.read) in
    record {
      read = rw (p.1, p.2) (continues-part (λ (f : Front). f) (run (front_rule s (low_of (known_at known i)) (high_of (known_at known i))) a)
          (λ (next : Then Location). run (location_rule s (length known) i next known) a) e known c.read_front.new.records c.read_front.new.records
          there (λ next w x h. bind_err (front_rule s (low_of (known_at known i)) (high_of (known_at known i))) (after_front s (length known) i next known) a x
          h));
      same = refl;
    }

pub read_entries-requires : goal.read_entries-requires
read_entries-requires c =
    let small = c.in_ok-front.ensures.small in
    subst IsSmall (sym c.outline_of-outline.ensures) (record { entry = small.entry; first = small.first; around = small.around; state = small.state })

pub returns-in_err-entries : goal.returns-in_err-entries
returns-in_err-entries c =
    let s = c.args.shape in
    let known = c.args.known.now in
    let i = c.args.index in
    let a = c.args.records.now in
    let front = c.in_ok-front.front in
    let p = err_from_is_err_and c.from_residual-in_err-entries.result c.from_residual-in_err-entries.ensures.1 in
    let is = known-is known i c.at-count.result.now c.at-count.ensures.value in
    let low = c.low_of.ensures ∙ ap low_of (sym is) in
    let high = c.high_of.ensures.exact ∙ ap high_of (sym is) in
    let there = subst (λ l. run (front_rule s l (high_of (known_at known i))) a ≡ Ok (front, c.read_front.new.records)) low
    (subst (λ h. run (front_rule s c.low_of.result h) a ≡ Ok (front, c.read_front.new.records)) high c.in_ok-front.ensures.read) in
    let learnt : c.set.new.self ≡ learn known i (length front.lists.entry) = c.set.ensures ∙ ap (λ m. slice_set known i (Some m)) c.len.ensures in
    let size = ap length learnt ∙ length-set known i (Some (length front.lists.entry)) in
    record {
      read = rw (p.1, p.2) (continues-stop (λ (next : Then Location). run (location_rule s (length known) i next known) a)
          (λ (next : Then (List Entry)). run (entries_rule s (length c.set.new.self) c.outline_of-outline.result c.needs_turn-needed.result front.cases [] next
          c.set.new.self)
          c.read_front.new.records) c.in_err-entries.field-0.0 c.read_entries.new.known c.read_entries.new.known c.read_entries.new.records
          c.read_entries.new.records
          (λ next w. (
            λ es. next (location_of front es),
            λ es k. w (location_of front es) k,
            bind_ok (front_rule s (low_of (known_at known i)) (high_of (known_at known i))) (after_front s (length known) i next known) a
                c.read_front.new.records front there
                ∙ ap (λ m. run (entries_rule s m (outline front) (needs_turn front) front.cases [] (λ es. next (location_of front es))
                (learn known i (length front.lists.entry))) c.read_front.new.records) (sym size)
                ∙ ap (λ o. run (entries_rule s (length c.set.new.self) o (needs_turn front) front.cases [] (λ es. next (location_of front es))
                (learn known i (length front.lists.entry))) c.read_front.new.records) (sym c.outline_of-outline.ensures)
                ∙ ap (λ b. run (entries_rule s (length c.set.new.self) c.outline_of-outline.result b front.cases [] (λ es. next (location_of front es))
                (learn known i (length front.lists.entry))) c.read_front.new.records) (sym c.needs_turn-needed.ensures)
                ∙ ap (λ k. run (entries_rule s (length c.set.new.self) c.outline_of-outline.result c.needs_turn-needed.result front.cases []
                (λ es. next (location_of front es)) k) c.read_front.new.records) (sym learnt),
          ))
          c.in_err-entries.ensures.read);
      same = c.read_entries.ensures.same ∙ size;
    }

pub returns : goal.returns
returns c =
    let s = c.args.shape in
    let known = c.args.known.now in
    let i = c.args.index in
    let a = c.args.records.now in
    let front = c.in_ok-front.front in
    let is = known-is known i c.at-count.result.now c.at-count.ensures.value in
    let low = c.low_of.ensures ∙ ap low_of (sym is) in
    let high = c.high_of.ensures.exact ∙ ap high_of (sym is) in
    let there = subst (λ l. run (front_rule s l (high_of (known_at known i))) a ≡ Ok (front, c.read_front.new.records)) low
    (subst (λ h. run (front_rule s c.low_of.result h) a ≡ Ok (front, c.read_front.new.records)) high c.in_ok-front.ensures.read) in
    let learnt : c.set.new.self ≡ learn known i (length front.lists.entry) = c.set.ensures ∙ ap (λ m. slice_set known i (Some m)) c.len.ensures in
    let size = ap length learnt ∙ length-set known i (Some (length front.lists.entry)) in
    record {
      read = λ next w. bind_ok (front_rule s (low_of (known_at known i)) (high_of (known_at known i))) (after_front s (length known) i next known) a
          c.read_front.new.records front there
          ∙ ap (λ m. run (entries_rule s m (outline front) (needs_turn front) front.cases [] (λ es. next (location_of front es))
          (learn known i (length front.lists.entry))) c.read_front.new.records) (sym size)
          ∙ ap (λ o. run (entries_rule s (length c.set.new.self) o (needs_turn front) front.cases [] (λ es. next (location_of front es))
          (learn known i (length front.lists.entry))) c.read_front.new.records) (sym c.outline_of-outline.ensures)
          ∙ ap (λ b. run (entries_rule s (length c.set.new.self) c.outline_of-outline.result b front.cases [] (λ es. next (location_of front es))
          (learn known i (length front.lists.entry))) c.read_front.new.records) (sym c.needs_turn-needed.ensures)
          ∙ ap (λ k. run (entries_rule s (length c.set.new.self) c.outline_of-outline.result c.needs_turn-needed.result front.cases []
          (λ es. next (location_of front es)) k)
          c.read_front.new.records) (sym learnt)
          ∙ c.in_ok-entries.ensures.read (λ es. next (location_of front es)) (λ es k. w (location_of front es) k)
          ∙ ap (λ l. run (next l c.read_entries.new.known) c.read_entries.new.records) (sym c.location_of.ensures);
      same = c.read_entries.ensures.same ∙ size;
    }
