use Rattle.std.proofs.Common.{◌≤◌, ◌*◌, List, length, ap, sym, ◌∙◌, subst}
use Rattle.std.specs.Option.{MatchOption}
use Rattle.h2_codes.specs.declared.code.Code.{Code}
use Rattle.h2_freemap.specs.Space.{Space, code_in, cursor_of}
use Rattle.h2_freemap.specs.Free.{free_of}
use Rattle.h2_freemap.specs.Need.{need_of_one}
use Rattle.h2_codes.specs.Free.{NoneFreeBelow, IsLowestFree}
use Rattle.h2_freemap.specs.Taking.{HasNoRoom}
use Rattle.h2_freemap.specs.contracts.freemap.Freemap.{the_view}
use Rattle.h2_freemap.proofs.Placed.{found}
use Rattle.h2_freemap.proofs.freemap.Freemap.place_for.Goals as goal

pub unwrap-requires : goal.unwrap-requires
unwrap-requires c =
    let none : HasNoRoom c.args.size (cursor_of (the_view c.self.inside) c.args.size) =
    subst (HasNoRoom c.args.size) (c.cursor.ensures.value ∙ ap (λ (x : Space). cursor_of x c.args.size) (sym c.self.view_is)) c.in_default.ensures.room in
    found c.args.size (the_view c.self.inside) c.lowest_free.result c.self.invariant.0 none
    (subst (λ (x : Space). need_of_one c.args.size x ≤ free_of x) (sym c.self.view_is) c.requires.enough)
    (subst (λ (s : List (List Code)). MatchOption c.lowest_free.result (NoneFreeBelow (code_in s) (256 * length s)) (IsLowestFree (code_in s) (256 * length s))) c.deref.ensures.value c.lowest_free.ensures)
