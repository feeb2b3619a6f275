use Rattle.std.proofs.Common.{◌≡◌, length, ap, ◌∙◌, sym}
use Rattle.rv_diagram.proofs.Growing.{equal_extends, extends_trans}
use Rattle.rv_boxes.specs.Narrowed.{narrowed}
use Rattle.rv_open.specs.Columns.{is_counted}
use Rattle.rv_open.proofs.Carried.{counted_plain, relation_untested, sets_counted, path_back, shortest_back, found_back}
use Rattle.rv_open.proofs.path.path_in.Goals as goal

pub falsifying_path-requires : goal.falsifying_path-requires
falsifying_path-requires c =
    let (s, given, each) = c.requires in
    let q = given.questions in
    let none : s.tests ≡ 0 = sym q.many_tests ∙ ap length (c.is_empty.ensures.0 c.if-is_empty.true) in (
      narrowed s (is_counted s),
      relation_untested s c.args.store.now c.args.relation.now none given.relation,
      counted_plain s,
      sets_counted s c.args.layers.now.sets each,
    )

pub returns-then-is_empty-clause-falsifies : goal.returns-then-is_empty-clause-falsifies
returns-then-is_empty-clause-falsifies c s words given each is =
    let q = given.questions in
    let none : s.tests ≡ 0 = sym q.many_tests ∙ ap length (c.is_empty.ensures.0 c.if-is_empty.true) in
    path_back s given.columns words (c.falsifying_path.ensures.falsifies (narrowed s (is_counted s)) words
    (relation_untested s c.args.store.now c.args.relation.now none given.relation) (counted_plain s) (sets_counted s c.args.layers.now.sets each) is)

pub returns-then-is_empty-clause-shortest : goal.returns-then-is_empty-clause-shortest
returns-then-is_empty-clause-shortest c s thresholds words given bad is =
    let q = given.questions in
    let none : s.tests ≡ 0 = sym q.many_tests ∙ ap length (c.is_empty.ensures.0 c.if-is_empty.true) in
    shortest_back s given.columns thresholds c.args.layers.now bad words (λ x. c.falsifying_path.ensures.shortest (narrowed s (is_counted s)) words
    (relation_untested s c.args.store.now c.args.relation.now none given.relation) (counted_plain s) x is)

pub returns-then-is_empty-clause-found : goal.returns-then-is_empty-clause-found
returns-then-is_empty-clause-found c s thresholds given bad =
    let q = given.questions in
    let none : s.tests ≡ 0 = sym q.many_tests ∙ ap length (c.is_empty.ensures.0 c.if-is_empty.true) in
    found_back s given.columns thresholds c.args.layers.now bad c.falsifying_path.result (λ x. c.falsifying_path.ensures.found (narrowed s (is_counted s))
    (relation_untested s c.args.store.now c.args.relation.now none given.relation) (counted_plain s) x)

pub returns-then-is_empty-clause-extends : goal.returns-then-is_empty-clause-extends
returns-then-is_empty-clause-extends c = equal_extends c.args.store.now c.falsifying_path.new.store c.falsifying_path.ensures.same

pub counted-requires : goal.counted-requires
counted-requires c = let (s, given, each) = c.requires in (s, given)

pub falsifying_path-requires-2 : goal.falsifying_path-requires-2
falsifying_path-requires-2 c =
    let (s, given, each) = c.requires in
    (narrowed s (is_counted s), c.in_ok-counted.ensures.counted s given, counted_plain s, sets_counted s c.args.layers.now.sets each)

pub returns-clause-falsifies : goal.returns-clause-falsifies
returns-clause-falsifies c s words given each is =
    path_back s given.columns words (c.falsifying_path-2.ensures.falsifies (narrowed s (is_counted s)) words
    (c.in_ok-counted.ensures.counted s given) (counted_plain s) (sets_counted s c.args.layers.now.sets each) is)

pub returns-clause-shortest : goal.returns-clause-shortest
returns-clause-shortest c s thresholds words given bad is =
    shortest_back s given.columns thresholds c.args.layers.now bad words (λ x. c.falsifying_path-2.ensures.shortest (narrowed s (is_counted s)) words
    (c.in_ok-counted.ensures.counted s given) (counted_plain s) x is)

pub returns-clause-found : goal.returns-clause-found
returns-clause-found c s thresholds given bad =
    found_back s given.columns thresholds c.args.layers.now bad c.falsifying_path-2.result (λ x. c.falsifying_path-2.ensures.found
    (narrowed s (is_counted s)) (c.in_ok-counted.ensures.counted s given) (counted_plain s) x)

pub returns-clause-extends : goal.returns-clause-extends
returns-clause-extends c = extends_trans c.args.store.now c.counted.new.store c.falsifying_path-2.new.store c.counted.ensures.extends
    (equal_extends c.counted.new.store c.falsifying_path-2.new.store c.falsifying_path-2.ensures.same)
