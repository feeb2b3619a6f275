use Rattle.std.proofs.Common.{◌≡◌, ◌++◌, take, drop, ◌∙◌, ap}
use Rattle.rv_sequence.proofs.Sequences.{turned_from, rest_whole}
use Rattle.rv_sequence.proofs.sequence.from_least.Goals as goal

pub returns : goal.returns
returns c =
    let k = c.least_at-start.result in
    let numbers = c.args.numbers.now in
    let is : c.from_vec.result ≡ drop k numbers ++ take k numbers = c.from_vec.ensures ∙ c.in_ok-extend_from_slice.ensures.items
    ∙ ap (λ l. l ++ take k numbers) (c.in_ok-turned.ensures.items ∙ rest_whole numbers k) in
    turned_from numbers c.from_vec.result k c.least_at-start.ensures.within c.least_at-start.ensures.least is
