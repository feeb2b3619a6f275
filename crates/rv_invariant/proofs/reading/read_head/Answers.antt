use Rattle.std.proofs.{Common.◌≡◌, Common.ℕ, Common.List, Common.refl, Common.◌∙◌, Common.subst, lemmas.Result.err_from_is_err_and}
use Rattle.std.specs.Prelude.{codes, Ok, Err, ⊤}
use Rattle.rv_invfile.specs.{Rules.Rule, Readers.Reads, Readers.run, Forms.counts, Forms.exactly, Forms.names, Parts.bind}
use Rattle.rv_flat.specs.declared.flat.Flat.{Flat}
use Rattle.rv_invariant.specs.Certificates.{bits_rule, columns_rule, first_record, head_rule}
use Rattle.rv_invariant.proofs.Choices.{chain-ok, chain-stops, chain-last}
use Rattle.rv_invariant.proofs.reading.read_head.Goals as goal

abbrev counted : Rule ℕ
counted = counts (codes "locations") 0 4096

abbrev k4 : ⊤ → Rule ℕ
k4 d = counted

abbrev k3 : Flat → ⊤ → Rule ℕ
k3 f c = bind (columns_rule f) k4

abbrev k2 : Flat → ⊤ → Rule ℕ
k2 f b = bind (bits_rule f) (k3 f)

abbrev k1 : Flat → ⊤ → Rule ℕ
k1 f a = bind (names (codes "main") f.main) (k2 f)

pub returns-in_err-read_exactly : goal.returns-in_err-read_exactly
returns-in_err-read_exactly c =
    let f = c.args.flat.now in
    let p = err_from_is_err_and c.from_residual.result c.from_residual.ensures.1 in
    rw (p.1, p.2) (chain-stops (λ (u : ⊤). u) (λ (n : ℕ). n) (exactly first_record) (k1 f) (run (head_rule f) c.args.records.now) c.args.records.now
    c.in_err-read_exactly.field-0.0 c.read_exactly.new.records refl c.in_err-read_exactly.ensures.read)

pub returns-in_err-read_name : goal.returns-in_err-read_name
returns-in_err-read_name c =
    let f = c.args.flat.now in
    let whole = run (head_rule f) c.args.records.now in
    let w1 = chain-ok (exactly first_record) (k1 f) whole c.args.records.now c.read_exactly.new.records tt refl c.in_ok-read_exactly.ensures.read in
    let p = err_from_is_err_and c.from_residual-in_err-read_name.result c.from_residual-in_err-read_name.ensures.1 in
    let e = c.in_err-read_name.field-0.0 in
    let there = subst (λ (t : List ℕ). Reads (λ (u : ⊤). u) (run (names (codes "main") t) c.read_exactly.new.records) (Err e) c.read_name.new.records)
    (c.as_bytes.ensures.value ∙ c.as_str.ensures) c.in_err-read_name.ensures.read in
    rw (p.1, p.2) (chain-stops (λ (u : ⊤). u) (λ (n : ℕ). n) (names (codes "main") f.main) (k2 f) whole c.read_exactly.new.records e c.read_name.new.records w1
    there)

pub returns-in_err-read_bits : goal.returns-in_err-read_bits
returns-in_err-read_bits c =
    let f = c.args.flat.now in
    let whole = run (head_rule f) c.args.records.now in
    let w1 = chain-ok (exactly first_record) (k1 f) whole c.args.records.now c.read_exactly.new.records tt refl c.in_ok-read_exactly.ensures.read in
    let name = subst (λ (t : List ℕ). run (names (codes "main") t) c.read_exactly.new.records ≡ Ok (tt, c.read_name.new.records))
    (c.as_bytes.ensures.value ∙ c.as_str.ensures) c.in_ok-read_name.ensures.read in
    let w2 = chain-ok (names (codes "main") f.main) (k2 f) whole c.read_exactly.new.records c.read_name.new.records tt w1 name in
    let p = err_from_is_err_and c.from_residual-in_err-read_bits.result c.from_residual-in_err-read_bits.ensures.1 in
    rw (p.1, p.2) (chain-stops (λ (u : ⊤). u) (λ (n : ℕ). n) (bits_rule f) (k3 f) whole c.read_name.new.records c.in_err-read_bits.field-0.0
    c.read_bits.new.records w2 c.in_err-read_bits.ensures)

pub returns-in_err-read_columns : goal.returns-in_err-read_columns
returns-in_err-read_columns c =
    let f = c.args.flat.now in
    let whole = run (head_rule f) c.args.records.now in
    let w1 = chain-ok (exactly first_record) (k1 f) whole c.args.records.now c.read_exactly.new.records tt refl c.in_ok-read_exactly.ensures.read in
    let name = subst (λ (t : List ℕ). run (names (codes "main") t) c.read_exactly.new.records ≡ Ok (tt, c.read_name.new.records))
    (c.as_bytes.ensures.value ∙ c.as_str.ensures) c.in_ok-read_name.ensures.read in
    let w2 = chain-ok (names (codes "main") f.main) (k2 f) whole c.read_exactly.new.records c.read_name.new.records tt w1 name in
    let w3 = chain-ok (bits_rule f) (k3 f) whole c.read_name.new.records c.read_bits.new.records tt w2 c.in_ok-read_bits.ensures in
    let p = err_from_is_err_and c.from_residual-in_err-read_columns.result c.from_residual-in_err-read_columns.ensures.1 in
    rw (p.1, p.2) (chain-stops (λ (u : ⊤). u) (λ (n : ℕ). n) (columns_rule f) k4 whole c.read_bits.new.records c.in_err-read_columns.field-0.0
    c.read_columns.new.records w3 c.in_err-read_columns.ensures)

pub returns : goal.returns
returns c =
    let f = c.args.flat.now in
    let whole = run (head_rule f) c.args.records.now in
    let w1 = chain-ok (exactly first_record) (k1 f) whole c.args.records.now c.read_exactly.new.records tt refl c.in_ok-read_exactly.ensures.read in
    let name = subst (λ (t : List ℕ). run (names (codes "main") t) c.read_exactly.new.records ≡ Ok (tt, c.read_name.new.records))
    (c.as_bytes.ensures.value ∙ c.as_str.ensures) c.in_ok-read_name.ensures.read in
    let w2 = chain-ok (names (codes "main") f.main) (k2 f) whole c.read_exactly.new.records c.read_name.new.records tt w1 name in
    let w3 = chain-ok (bits_rule f) (k3 f) whole c.read_name.new.records c.read_bits.new.records tt w2 c.in_ok-read_bits.ensures in
    let w4 = chain-ok (columns_rule f) k4 whole c.read_bits.new.records c.read_columns.new.records tt w3 c.in_ok-read_columns.ensures in
    chain-last (λ (n : ℕ). n) counted whole c.read_columns.new.records c.read_count.result c.read_count.new.records w4 c.read_count.ensures.read
