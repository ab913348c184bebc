-- IsOpened ledgers, and moves one after another.
use Rattle.std.proofs.Common.{◌++◌, List, refl, ◌∙◌, ℕ, suc, ◌≡◌, ◌⊎◌, ◌≤◌, ◌+◌, ◌*◌, Some, None, [], ◌∷◌, inl, inr, arith}
use Rattle.h2_num.specs.declared.block.Block.{Block}
use Rattle.h2_geom.specs.Geometry.{chunk_bytes}
use Rattle.h2_ledger.specs.declared.pass.Pass.TheVariants.{Idle, Marked}
use Rattle.h2_codes.specs.declared.cursor.Cursor.{Cursor}
use Rattle.h2_ledger.specs.declared.shared_size.SharedSize.{SharedSize}
use Rattle.h2_ledger.specs.Ledger.{block_bytes, LiesInOneChunk, IsTaken, Ledger, IsInUse, by_live, by_pin, by_frozen, by_completed, HasMarked, IsMarked}
use Rattle.h2_ledger.specs.Sound.{IsSound}
use Rattle.h2_ledger.specs.Moves.{Move, Makes, Same}
use Rattle.h2_ledger.specs.Runs.{Stays, Run}
use Rattle.h2_ledger.specs.Laws.{OpensSound, RunsSound}
use Rattle.h2_ledger.specs.QuietLaws.{relink_sound}
use Rattle.h2_ledger.specs.SoundLaws.{keeps_sound}

pub stays_sound : {Set : Type 0} (has : Block → Set → Type 0) (x y : Ledger Set) → Stays has x y → IsSound has x → IsSound has y
stays_sound has x y m sx = relink_sound has x y (record {
  live = λ b i. inl ((m.live b).0 i);
  pins = λ b i. (m.pins b).0 i;
  fresh = m.fresh;
  codes = m.codes;
  cursors = m.cursors;
  reserved = m.reserved;
  roots = m.roots;
  pass = m.pass;
}) sx

pub runs_sound : {Set : Type 0} (has : Block → Set → Type 0) → RunsSound has
runs_sound has [] x y m sx = stays_sound has x y m sx
runs_sound has (move ∷ moves) x y (u, v, stays, m, rest) sx = runs_sound has moves v y rest (keeps_sound has move u v m (stays_sound has x u stays sx))

pub opens_sound : {Set : Type 0} (has : Block → Set → Type 0) → OpensSound has
opens_sound {Set} has x o = record {
  covered = λ b h. o.covered b (in_tree b h);
  in_one_chunk = λ b h. whole b h;
  marked_or_used = λ n s p b h le. absurd (none n s p);
  marked_covered = λ n s p b i. absurd (none n s p);
  scans_after_header = λ n s e. absurd (none n s (inr e));
  frozen_is_next = λ m e. no_frozen (m ≡ suc x.completed_number) m e;
  below_cursor = λ k at e b h same. no_cursor (b.place + block_bytes b ≤ chunk_bytes * at.chunk + at.used) k at e;
  cursor_taken = λ k at e. no_cursor (IsTaken (x.code at.chunk)) k at e;
  cursors_apart = λ j k a b ea eb same. no_cursor (j ≡ k) j a ea;
  reserved_is_free = rw o.unreserved (omega arith);
}
  where
    none : (n s : ℕ) → HasMarked x.pass n s → ⊥
    none n s (inl p) = let now : x.pass ≡ Idle = o.no_pass in let e : x.pass ≡ Marked n = p.0 in cc
    none n s (inr e) = let now : x.pass ≡ Idle = o.no_pass in cc

    no_frozen : (A : Type 0) (m : ℕ) → x.frozen_number ≡ Some m → A
    no_frozen A m e = let idle : x.frozen_number ≡ None = o.no_flush in cc

    no_cursor : (A : Type 0) (k : SharedSize) (at : Cursor) → x.cursor k ≡ Some at → A
    no_cursor A k at e = let idle : x.cursor k ≡ None = o.no_cursor k in cc

    in_tree : (b : Block) → IsInUse has x b → has b x.completed
    in_tree b (by_live i) = o.live b i
    in_tree b (by_pin i) = absurd (o.pins b i)
    in_tree b (by_frozen (m, e, i)) = no_frozen (has b x.completed) m e
    in_tree b (by_completed i) = i

    whole : (b : Block) → IsInUse has x b ⊎ IsMarked has x b → LiesInOneChunk b
    whole b (inl h) = o.in_one_chunk b (in_tree b h)
    whole b (inr (n, s, p, i)) = absurd (none n s p)

-- the parts of runs
pub same_self : {Set : Type 0} (has : Block → Set → Type 0) (s : Set) → Same has s s
same_self has s b = (λ i. i, λ i. i)

pub same_trans : {Set : Type 0} (has : Block → Set → Type 0) (s t u : Set) → Same has t s → Same has u t → Same has u s
same_trans has s t u a c b = (λ i. (a b).0 ((c b).0 i), λ i. (c b).1 ((a b).1 i))

pub stays_self : {Set : Type 0} (has : Block → Set → Type 0) (x : Ledger Set) → Stays has x x
stays_self has x = record {
  live = same_self has x.live;
  pins = same_self has x.pins;
  fresh = λ b i. i;
  codes = record { chunks = refl; codes = λ c. refl };
  cursors = record { cursors = λ k. refl };
  reserved = refl;
  roots = record { frozen_number = refl; frozen = same_self has x.frozen; completed_number = refl; completed = same_self has x.completed; queued = λ b i. i };
  pass = record { pass = refl; marked = same_self has x.marked };
}

pub stays_on : {Set : Type 0} (has : Block → Set → Type 0) (x y z : Ledger Set) → Stays has x y → Stays has y z → Stays has x z
stays_on has x y z a b = record {
  live = same_trans has x.live y.live z.live a.live b.live;
  pins = same_trans has x.pins y.pins z.pins a.pins b.pins;
  fresh = λ d i. a.fresh d (b.fresh d i);
  codes = record { chunks = b.codes.chunks ∙ a.codes.chunks; codes = λ c. b.codes.codes c ∙ a.codes.codes c };
  cursors = record { cursors = λ k. b.cursors.cursors k ∙ a.cursors.cursors k };
  reserved = b.reserved ∙ a.reserved;
  roots = record {
    frozen_number = b.roots.frozen_number ∙ a.roots.frozen_number;
    frozen = same_trans has x.frozen y.frozen z.frozen a.roots.frozen b.roots.frozen;
    completed_number = b.roots.completed_number ∙ a.roots.completed_number;
    completed = same_trans has x.completed y.completed z.completed a.roots.completed b.roots.completed;
    queued = λ d i. a.roots.queued d (b.roots.queued d i);
  };
  pass = record { pass = b.pass.pass ∙ a.pass.pass; marked = same_trans has x.marked y.marked z.marked a.pass.marked b.pass.marked };
}

pub run_one : {Set : Type 0} (has : Block → Set → Type 0) (move : Move) (x y : Ledger Set) → Makes has move x y → Run has (move ∷ []) x y
run_one has move x y m = (x, y, stays_self has x, m, stays_self has y)

pub run_after : {Set : Type 0} (has : Block → Set → Type 0) (moves : List Move) (x y z : Ledger Set) → Stays has x y → Run has moves y z → Run has moves x z
run_after has [] x y z s m = stays_on has x y z s m
run_after has (move ∷ moves) x y z s (u, v, t, m, rest) = (u, v, stays_on has x y u s t, m, rest)

-- one run after another
pub run_append : {Set : Type 0} (has : Block → Set → Type 0) (moves more : List Move) (x y z : Ledger Set) → Run has moves x y → Run has more y z → Run has (moves ++ more) x z
run_append has [] more x y z m n = run_after has more x y z m n
run_append has (move ∷ moves) more x y z (u, v, s, m, rest) n = (u, v, s, m, run_append has moves more v y z rest n)

-- the ledger between the two parts of a run
pub run_split : {Set : Type 0} (has : Block → Set → Type 0) (moves more : List Move) (x z : Ledger Set) → Run has (moves ++ more) x z → (y : Ledger Set) × Run has moves x y × Run has more y z
run_split has [] more x z m = (x, stays_self has x, m)
run_split {Set} has (move ∷ moves) more x z (u, v, s, m, rest) =
    let parts : (y : Ledger Set) × Run has moves v y × Run has more y z = run_split has moves more v z rest in
    (parts.0, (u, v, s, m, parts.1), parts.2)
