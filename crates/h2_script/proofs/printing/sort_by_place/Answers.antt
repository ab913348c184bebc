use Rattle.std.proofs.Common.{refl, rules}
use Rattle.std.proofs.lemmas.List.Sorted.{answers_always, IsPermutation-map}
use Rattle.std.specs.Ordering.{is_lt}
use Rattle.h2_script.specs.Texts.{place_of, place_cmp}
use Rattle.h2_script.proofs.Ordered.{sorted_mapped, stable_mapped}
use Rattle.h2_script.proofs.printing.sort_by_place.Goals as goal

pub returns : goal.returns
returns c = record {
  same = IsPermutation-map (λ e. e.now) _ _ c.in_ok-sort_by_key.ensures.permutation;
  rises = sorted_mapped (λ e. e.now) (λ e. record { ref_ptr = (0, 0); now = e }) (λ x y. is_lt (place_cmp (place_of x) (place_of y))) _ (c.in_ok-sort_by_key.ensures.sorted (λ e. place_of e.now) (answers_always _ _ _ (λ f a r g h. search rules)));
  stays = stable_mapped (λ e. e.now) (λ e. record { ref_ptr = (0, 0); now = e }) (λ e. refl) (λ x y. is_lt (place_cmp (place_of x) (place_of y))) _ _ (c.in_ok-sort_by_key.ensures.stable (λ e. place_of e.now) (answers_always _ _ _ (λ f a r g h. search rules)));
}
