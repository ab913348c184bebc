-- What each command keeps holds of the forests of a history where it holds of the first one.
use Rattle.std.specs.Prelude.{◌≡◌, ℕ, List, [], ◌∷◌, take, Bool, true, false, cond, nat_eq, Some, None}
use Rattle.std.proofs.Common.{subst}
use Rattle.h2_command.specs.declared.command.Command.{Command}
use Rattle.h2_command.specs.declared.history.Item.{Item}
use Rattle.h2_command.specs.declared.history.Item.TheVariants.{Call, Mark as Marked}
use Rattle.h2_command.specs.Replies.{is_outside}
use Rattle.h2_forest.specs.Forest.{PlainForest, answer, closed}
use Rattle.h2_forest.specs.History.{after, after_item, forest_at}
use Rattle.h2_forest.specs.Landing.{is_freeze, frozen_from, frozen_forest}

nothing_frozen : (g : PlainForest) → None ≡ Some g → ⊥
nothing_frozen g e = cc

same_frozen : (f g : PlainForest) → Some f ≡ Some g → f ≡ g
same_frozen f g e = cc

module _ (B : PlainForest → Type 0) (kept : (f : PlainForest) (client : ℕ) (command : Command) → B f → B (answer f client command).1) where
  item_keeps : (f : PlainForest) (x : Item) → B f → B (after_item f x)
  item_keeps f (Call e) h = by (is_outside e.reply)
    where
      by : (b : Bool) → B (cond b f (answer f e.client e.command).1)
      by true = h
      by false = kept f e.client e.command h
  item_keeps f (Marked m) h = h

  after_keeps : (f : PlainForest) (items : List Item) → B f → B (after after_item f items)
  after_keeps f [] h = h
  after_keeps f (x ∷ items) h = after_keeps (after_item f x) items (item_keeps f x h)

  pub forest_keeps : (items : List Item) (first : PlainForest) (i : ℕ) → B (closed first) → B (forest_at items first i)
  forest_keeps items first i h = after_keeps (closed first) (take i items) h

  from_keeps : (n : ℕ) (items : List Item) (f g : PlainForest) → B f → frozen_from n f items ≡ Some g → B g
  from_keeps n [] f g h e = absurd (nothing_frozen g e)
  from_keeps n (x ∷ items) f g h e = by (is_freeze n x) e (from_keeps n items (after_item f x) g (item_keeps f x h))
    where
      by : (b : Bool) → cond b (Some f) (frozen_from n (after_item f x) items) ≡ Some g
          → (frozen_from n (after_item f x) items ≡ Some g → B g) → B g
      by true e later = subst B (same_frozen f g e) h
      by false e later = later e

  pub frozen_keeps : (opened : ℕ) (first : PlainForest) (items : List Item) (n : ℕ) (g : PlainForest) → B first
      → B (closed first) → frozen_forest opened first items n ≡ Some g → B g
  frozen_keeps opened first items n g h closing e = by (nat_eq n opened) e
    where
      by : (b : Bool) → cond b (Some first) (frozen_from n (closed first) items) ≡ Some g → B g
      by true e = subst B (same_frozen first g e) h
      by false e = from_keeps n items (closed first) g closing e
