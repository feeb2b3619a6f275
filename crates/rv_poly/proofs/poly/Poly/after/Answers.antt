use Rattle.std.proofs.Common.{◌≡◌, ◌++◌, List, length, refl, subst, All}
use Rattle.rv_rows.specs.{declared.linear.Row.Row, Forms.values}
use Rattle.rv_poly.specs.Images.{IsImage, IsNarrow, StaysWithin}
use Rattle.rv_poly.proofs.{ListLemmas.met-fits, ListLemmas.met-few, ListLemmas.met-contains, ListLemmas.met-whole, ImageLemmas.both-narrow}
use Rattle.rv_poly.proofs.poly.Poly.after.Goals as goal

pub image_of-requires-clause-fits : goal.image_of-requires-clause-fits
image_of-requires-clause-fits c =
    let made = c.in_ok-premises.ensures in
    met-fits c.args.self.now.rows c.args.rows.now made.one c.in_ok-premises.premises c.requires.poly made.first made.second

pub image_of-requires-clause-few : goal.image_of-requires-clause-few
image_of-requires-clause-few c =
    let made = c.in_ok-premises.ensures in
    met-few c.args.self.now.rows c.args.rows.now made.one c.in_ok-premises.premises c.requires.poly made.first made.second

pub returns-clause-contains : goal.returns-clause-contains
returns-clause-contains c point h k =
    let made = c.in_ok-premises.ensures in
    c.in_ok-found.ensures.contains (values c.args.updates.now point) (record {
      point = point;
      has = met-contains c.args.self.now.rows c.args.rows.now made.one c.in_ok-premises.premises c.requires.poly made.first made.second point h k;
      updated = refl;
    })

pub returns-clause-exact : goal.returns-clause-exact
returns-clause-exact c moves narrow fits stay room point size h =
    let made = c.in_ok-premises.ensures in
    let whole : c.in_ok-premises.premises ≡ c.args.self.now.rows ++ c.args.rows.now =
    met-whole c.args.self.now.rows c.args.rows.now made.one c.in_ok-premises.premises c.requires.poly made.first made.second fits room in
    let P : List Row → Type 0 = λ rows. All (IsNarrow (length c.args.updates.now)) rows → All (StaysWithin c.args.updates.now) rows
    → IsImage rows c.args.updates.now point in
    subst P whole (λ n s. c.in_ok-found.ensures.exact moves n s point size h)
    (both-narrow c.args.self.now.rows c.args.rows.now (length c.args.updates.now) c.requires.width narrow) stay
