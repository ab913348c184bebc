-- A history has one text.
use Rattle.std.proofs.Common.{◌≡◌, ℕ, List, sym, ap, ◌∙◌}
use Rattle.std.specs.List.{flat_map}
use Rattle.std.specs.Ordering.{is_lt}
use Rattle.std.specs.Cmp.{IsTotalOrder, nat_cmp_total}
use Rattle.std.proofs.lemmas.Cmp.{on_total, then_total}
use Rattle.std.proofs.lemmas.List.Sorted.{ranks_by}
use Rattle.h2_command.specs.declared.history.Entry.{Entry}
use Rattle.h2_command.specs.declared.history.Item.{Item}
use Rattle.h2_script.specs.Texts.{IsByPlace, IsText, entries_of, line_of, place_of, place_cmp}
use Rattle.h2_script.proofs.OneOrder.{one_sorted}

place_total : IsTotalOrder place_cmp
place_total = then_total (then_total (on_total (λ (x : ℕ × ℕ × ℕ). x.0) nat_cmp_total) (on_total (λ (x : ℕ × ℕ × ℕ). x.1) nat_cmp_total)) (on_total (λ (x : ℕ × ℕ × ℕ). x.2) nat_cmp_total)

one_told : (came told other : List Entry) → IsByPlace came told → IsByPlace came other → told ≡ other
one_told came told other p q = one_sorted (λ x y. is_lt (place_cmp (place_of x) (place_of y))) (ranks_by place_total place_of) told other p.rises q.rises (λ e. p.stays e ∙ sym (q.stays e))

pub one_text : (items : List Item) (text other : List ℕ) → IsText items text → IsText items other → text ≡ other
one_text items text other p q = p.2 ∙ ap (flat_map line_of) (one_told (entries_of items) p.0 q.0 p.1 q.1) ∙ sym q.2
