use Rattle.std.proofs.Common.{◌∙◌, ap, not}
use Rattle.rv_types.specs.Variables.{is_in}
use Rattle.rv_sizes.specs.Memories.{with_site}
use Rattle.rv_sizes.proofs.Remembered.{any_in, inserted_site}
use Rattle.rv_sizes.proofs.sites.Sites.add.Goals as goal

pub returns-clause-new : goal.returns-clause-new
returns-clause-new c =
    c.in_ok-new.ensures.added
    ∙ ap not (any_in c.self.inside.sites.keys c.args.site)
    ∙ (λ i. not (is_in (c.self.view_is i) c.args.site))

pub returns-clause-sites : goal.returns-clause-sites
returns-clause-sites c =
    c.in_ok-new.ensures.keys
    ∙ inserted_site c.self.inside.sites.keys c.args.site
    ∙ (λ i. with_site (c.self.view_is i) c.args.site)
