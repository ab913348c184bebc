use Rattle.std.proofs.Common.{◌≡◌, ap, sym, ◌∙◌, None}
use Rattle.std.specs.Prelude.{cond, nat_lt}
use Rattle.std.specs.Ordering.{is_gt, nat_cmp}
use Rattle.std.specs.FinMap as map
use Rattle.std.specs.FinMap.{nat_cmp-IsAntisymmetric}
use Rattle.std.specs.Cmp.{nat_cmp_total}
use Rattle.std.proofs.lemmas.Map.Views.{get-entries_below}
use Rattle.h2_maps.specs.Maps.{get-lookup}
use Rattle.h2_contents.specs.PageLaws.{gt_test}
use Rattle.h2_contents.proofs.pages.Pages.keep_below.Goals as goal

pub returns-clause-ok : goal.returns-clause-ok
returns-clause-ok c = λ q.
    get-lookup nat_cmp_total nat_cmp-IsAntisymmetric c.split_off.new.self.entries q
    ∙ get-entries_below nat_cmp_total c.self.inside.pages c.split_off.new.self c.args.number q c.in_ok-split_off.ensures.below
    ∙ ap (λ o. cond (is_gt (nat_cmp c.args.number q)) o None) (sym (get-lookup nat_cmp_total nat_cmp-IsAntisymmetric c.self.inside.pages.entries q) ∙ ap (λ m. map.get m q) c.self.view_is)
    ∙ ap (λ b. cond b (map.get c.args.self.now q) None) (gt_test c.args.number q)
