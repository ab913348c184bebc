-- Nothing has changed, one call after the other.
use Rattle.std.proofs.Common.{◌≡◌, ℕ, ◌∙◌, sym, refl, true, List, inl, inr}
use Rattle.h2_ref.specs.declared.reference.Ref.{Ref}
use Rattle.h2_set.specs.Forest.{Forest, IsSound}
use Rattle.h2_set.specs.Calls.{Same, Unchanged, Walks, KeepsBeside}
use Rattle.h2_set.specs.StayLaws.{Fixed-refl, Fixed-trans, InPlace-refl, InPlace-trans}
use Rattle.h2_set.specs.StayLaws.{Walks-refl}
use Rattle.h2_tree.specs.AnswerLaws.{beside_on}
use Rattle.h2_inode.specs.Nodes.{Visits}
use Rattle.h2_inode.specs.VisitLaws.{walks_visit}
use Rattle.h2_dir.specs.Names.{IsEntryNamed, MayBeNamed}

same_refl : (f : Forest) (m : ℕ) → f.stands m ≡ true → Same f f m
same_refl f m stands = record { place = InPlace-refl f m stands; set = refl; link = λ k. refl; writable = refl; copies = refl }

same_trans : (f g h : Forest) (m : ℕ) → Same f g m → Same g h m → Same f h m
same_trans f g h m a b = record {
  place = InPlace-trans f g h m a.place b.place;
  set = b.set ∙ a.set;
  link = λ k. b.link k ∙ a.link k;
  writable = b.writable ∙ a.writable;
  copies = b.copies ∙ a.copies;
}

pub unchanged_refl : (f : Forest) → IsSound f → Unchanged f f
unchanged_refl f sound = record { sound = sound; fixed = Fixed-refl f; same = same_refl f; none_new = λ m e. e; spare = refl; room = refl }

pub unchanged_trans : (f g h : Forest) → Unchanged f g → Unchanged g h → Unchanged f h
unchanged_trans f g h a b = record {
  sound = b.sound;
  fixed = Fixed-trans f g h (λ m stands stands_too. (a.same m stands).place.stands) a.fixed b.fixed;
  same = λ m stands. same_trans f g h m (a.same m stands) (b.same m (a.same m stands).place.stands);
  none_new = λ m e. a.none_new m (b.none_new m e);
  spare = b.spare ∙ a.spare;
  room = b.room ∙ a.room;
}

pub beside_unchanged : {B : Type 0} (f g h : Forest) (a b c : ℕ → B) → Unchanged f g → KeepsBeside f g a b → KeepsBeside g h b c → KeepsBeside f h a c
beside_unchanged f g h a b c same = beside_on f g h a b c (λ m stands. (same.same m stands).place.stands)

pub beside_visits : {B : Type 0} (f g h : Forest) (a b c : ℕ → B) → Visits f g → KeepsBeside f g a b → KeepsBeside g h b c → KeepsBeside f h a c
beside_visits f g h a b c same = beside_on f g h a b c (λ m stands. (same.stays m stands).place.stands)

pub beside_walks : {B : Type 0} (f g h : Forest) (a b c : ℕ → B) → Walks f g → KeepsBeside f g a b → KeepsBeside g h b c → KeepsBeside f h a c
beside_walks f g h a b c same = beside_on f g h a b c (λ m stands. (same.stays m stands).place.stands)

-- what is told of names stays

pub named_stays : (f g : Forest) (leaf : Ref) (name : List ℕ) → ((r : Ref) → g.name r ≡ f.name r) → IsEntryNamed f leaf name → IsEntryNamed g leaf name
named_stays f g leaf name same h = record {
  entry = h.entry;
  entry_is = h.entry_is;
  length_is = h.length_is;
  name_is = elim h.name_is [ inl short ↦ inl short | inr long ↦ inr (long.0, same leaf ∙ long.1) ];
}

pub may_stays : (f g : Forest) (leaf : Ref) (name : List ℕ) → ((r : Ref) → g.name r ≡ f.name r) → MayBeNamed f leaf name → MayBeNamed g leaf name
may_stays f g leaf name same h = record {
  entry = h.entry;
  entry_is = h.entry_is;
  length_is = h.length_is;
  short = h.short;
  long = λ told le e. h.long told le (sym (same leaf) ∙ e);
}

pub visits_refl : (f : Forest) → IsSound f → Visits f f
visits_refl f sound = walks_visit f f (Walks-refl f sound)
