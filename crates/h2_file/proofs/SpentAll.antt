-- The room that all references of a run take when they go into a file's tree.
use Rattle.std.proofs.Common.{◌≡◌, ℕ, ◌+◌, ◌-◌, ◌*◌, ◌<◌, ◌≤◌, ◌^◌, true, false, arith, refl, sym, ◌∙◌, ap, List, [], ◌∷◌, ◌++◌, length, Option, Some, subst, ◌⊎◌, inl, inr, slice_get, suc, zero}
use Rattle.std.proofs.lemmas.Option.{none-some, slice_get_within}
use Rattle.std.proofs.lemmas.List.{length-append}
use Rattle.h2_ref.specs.declared.reference.Ref.{Ref}
use Rattle.h2_set.specs.Ranges.{holds}
use Rattle.h2_set.specs.Forest.{Forest, IsSound, Reaches}
use Rattle.h2_set.specs.ChangeLaws.{same_or_not}
use Rattle.std.proofs.lemmas.Bool.{cases_lt}
use Rattle.h2_file.specs.Blocks.{HasContents}
use Rattle.h2_file.specs.Linking.{FollowFrom, IsRun, blocks, behind_zero, AreBlocks, PathsLoaded, Puts, PutsEach, none, first}
use Rattle.h2_file.proofs.Loaded.{at_place}
use Rattle.h2_file.proofs.Chained.{Ordered, blocks_ordered, behind_out, before_out, follow_key}
use Rattle.h2_file.proofs.Watched.{among_left, among_right, among_either, unwritten, unwritten_most, ShortPath, high_path, watched_from}
use Rattle.h2_file.proofs.Spent.{KeyOf, Span, Guarded, step_room, step_guarded}

-- The keys of a run

-- those of references that follow each other, of which the first is given
follow_span : (start : ℕ) (q : Ref) (rs : List Ref) → FollowFrom start (q ∷ rs) → length (q ∷ rs) ≤ 65 → (i : ℕ) (r : Ref) → slice_get (q ∷ rs) i ≡ Some r → (start ≤ r.key) × (r.key ≤ start + 16384 * (length (q ∷ rs) - 1))
follow_span start q rs follow few i r read =
    let key = follow_key start (q ∷ rs) follow i r read in
    let inside = slice_get_within (q ∷ rs) i r read in
    (omega (arith, key), omega (arith, key, inside))

follow_end : (start : ℕ) (q : Ref) (rs : List Ref) → FollowFrom start (q ∷ rs) → KeyOf (q ∷ rs) (start + 16384 * (length (q ∷ rs) - 1))
follow_end start q rs follow =
    let n : length (q ∷ rs) ≡ suc (length rs) = refl in
    let read = at_place (q ∷ rs) (length (q ∷ rs) - 1) q (omega (arith, n)) in
    (length (q ∷ rs) - 1, _, read, follow_key start (q ∷ rs) follow (length (q ∷ rs) - 1) _ read)

span_short : (start n : ℕ) → n ≤ 65 → start + 16384 * (n - 1) ≤ start + 2 ^ 20
span_short start n few = let p : 2 ^ 20 ≡ 1048576 = refl in omega (arith, few, p)

run_span : {rs : List Ref} → IsRun rs → 0 < length rs → Span rs
run_span (blocks {rs = []} start follow few) some = absurd (omega (arith, some))
run_span (blocks {rs = q ∷ rs} start follow few) some = record {
  zero_key = start;
  start = start;
  end = start + 16384 * (length (q ∷ rs) - 1);
  short = span_short start (length (q ∷ rs)) few;
  has_zero = (0, q, refl, follow.0);
  has_start = (0, q, refl, follow.0);
  has_end = follow_end start q rs follow;
  each = λ i r read. inr (follow_span start q rs follow few i r read);
}
run_span (behind_zero {r = z} {rs = []} start zero_key pos follow few) some = record {
  zero_key = 0;
  start = 0;
  end = 0;
  short = omega arith;
  has_zero = (0, z, refl, zero_key);
  has_start = (0, z, refl, zero_key);
  has_end = (0, z, refl, zero_key);
  each = only;
}
  where
    only : (i : ℕ) (r : Ref) → slice_get (z ∷ []) i ≡ Some r → (r.key ≡ 0) ⊎ ((0 ≤ r.key) × (r.key ≤ 0))
    only zero r read = let same : z ≡ r = (cc) in inl (ap (λ (x : Ref). x.key) (sym same) ∙ zero_key)
    only (suc i) r read = absurd (none-some r read)
run_span (behind_zero {r = z} {rs = q ∷ rs} start zero_key pos follow few) some =
    let end_is = follow_end start q rs follow in
    record {
      zero_key = 0;
      start = start;
      end = start + 16384 * (length (q ∷ rs) - 1);
      short = span_short start (length (q ∷ rs)) few;
      has_zero = (0, z, refl, zero_key);
      has_start = (1, q, refl, follow.0);
      has_end = (suc end_is.0, end_is.1, end_is.2, end_is.3);
      each = each;
    }
  where
    each : (i : ℕ) (r : Ref) → slice_get (z ∷ q ∷ rs) i ≡ Some r → (r.key ≡ 0) ⊎ ((start ≤ r.key) × (r.key ≤ start + 16384 * (length (q ∷ rs) - 1)))
    each zero r read = let same : z ≡ r = (cc) in inl (ap (λ (x : Ref). x.key) (sym same) ∙ zero_key)
    each (suc i) r read = inr (follow_span start q rs follow few i r read)

-- Paths while references go in

pub paths_step : (f g : Forest) (at : ℕ) (all : List Ref) (i : ℕ) (r : Ref) → Ordered all → slice_get all i ≡ Some r → PathsLoaded f at all → Puts f g at r → PathsLoaded g at all
paths_step f g at all i r ordered read loaded step j x read' = elim (same_or_not j i) as (λ _. (o : Option Ref) × Reaches g x.key at o) [
  | inl e ↦
      let there : slice_get all i ≡ Some x = subst (λ z. slice_get all z ≡ Some x) e read' in
      let same : r ≡ x = (cc) in
      (Some r, subst (λ (y : Ref). Reaches g y.key at (Some r)) same step.path)
  | inr ne ↦
      let was = loaded j x read' in
      let out : holds x.key r ≡ false = elim (cases_lt i j) as (λ _. holds x.key r ≡ false) [
        | inl lt ↦ behind_out r x (ordered.each i r read) (ordered.apart i j r x read read' lt)
        | inr ge ↦ before_out x r (ordered.apart j i x r read' read (omega (arith, ge, ne)))
      ] in
      (was.0, step.paths x.key was.0 out was.1)
]

pub key_path : (f : Forest) (at key : ℕ) (all : List Ref) → IsSound f → f.stands at ≡ true → f.root at ≡ at → PathsLoaded f at all → KeyOf all key → ShortPath f key at
key_path f at key all sound stands own loaded is =
    let it = loaded is.0 is.1 is.2 in
    let half = (sound.node at stands).half own in
    high_path sound (subst (λ z. Reaches f z at it.0) is.3 it.1) stands (omega (arith, half))

module _ (at : ℕ) (all : List Ref) (ordered : Ordered all) (span : Span all) (l : List ℕ) where
  spent_each : {f g : Forest} {rs : List Ref} → PutsEach at f rs g → Guarded f at span.zero_key span.start span.end l → PathsLoaded f at all → ((i : ℕ) (r : Ref) → slice_get rs i ≡ Some r → (j : ℕ) × (slice_get all j ≡ Some r)) → f.room + unwritten g.writable l ≤ g.room + unwritten f.writable l + 7 * length rs
  spent_each none guarded loaded part = omega arith
  spent_each (first {f = f} {h = h} {g = g} {r = r} {rs = rs} step rest) guarded loaded part =
      let here_r = part 0 r refl in
      let path = λ (key : ℕ) (is : KeyOf all key). (key_path f at key all guarded.sound guarded.stands guarded.own loaded is).high in
      let key_is = span.each here_r.0 r here_r.1 in
      let zero_path = path span.zero_key span.has_zero in
      let start_path = path span.start span.has_start in
      let end_path = path span.end span.has_end in
      let room = step_room f h at span.zero_key span.start span.end l r step.old guarded span.short key_is zero_path start_path end_path step.inserts in
      let next = step_guarded f h at span.zero_key span.start span.end l r step.old guarded span.short key_is zero_path start_path end_path step.inserts in
      let more = spent_each rest next (paths_step f h at all here_r.0 r ordered here_r.1 loaded step) (λ i x read. part (suc i) x read) in
      let n : length (r ∷ rs) ≡ suc (length rs) = refl in
      omega (arith, room, more, n)

-- References of a run take at most 7 blocks each, and 129 beside.
pub puts_spent : {at : ℕ} {f g : Forest} {rs : List Ref} (all : List Ref) → AreBlocks all → PutsEach at f rs g → IsSound f → f.stands at ≡ true → f.root at ≡ at → HasContents f at → PathsLoaded f at all → ((i : ℕ) (r : Ref) → slice_get rs i ≡ Some r → (j : ℕ) × (slice_get all j ≡ Some r)) → f.room ≤ g.room + 129 + 7 * length rs
puts_spent all are none sound stands own contents loaded part = omega arith
puts_spent {at} {f} {g} {rs} all are (first {r = r} step rest) sound stands own contents loaded part =
    let here_r = part 0 r refl in
    let some = slice_get_within all here_r.0 r here_r.1 in
    let span = run_span are.run (omega (arith, some)) in
    let path = λ (key : ℕ) (is : KeyOf all key). key_path f at key all sound stands own loaded is in
    let zero_path = path span.zero_key span.has_zero in
    let start_path = path span.start span.has_start in
    let end_path = path span.end span.has_end in
    let a = zero_path.high.list in
    let b = start_path.high.list in
    let c = end_path.high.list in
    let l : List ℕ = a ++ (b ++ c) in
    let guarded : Guarded f at span.zero_key span.start span.end l = record {
      sound = sound;
      stands = stands;
      own = own;
      contents = contents;
      kept = λ m it. elim (among_either m a (b ++ c) it) as (λ _. f.stands m ≡ true) [
        | inl in_a ↦ zero_path.high.stands m in_a
        | inr rest ↦ elim (among_either m b c rest) as (λ _. f.stands m ≡ true) [
          | inl in_b ↦ start_path.high.stands m in_b
          | inr in_c ↦ end_path.high.stands m in_c
        ]
      ];
      at_zero = watched_from f at span.zero_key l sound own zero_path.high (λ m it. among_left m a (b ++ c) it);
      at_start = watched_from f at span.start l sound own start_path.high (λ m it. among_right m a (b ++ c) (among_left m b c it));
      at_end = watched_from f at span.end l sound own end_path.high (λ m it. among_right m a (b ++ c) (among_right m b c it));
    } in
    let spent = spent_each at all (blocks_ordered all are) span l (first step rest) guarded loaded part in
    let most = unwritten_most f.writable l in
    let long : length l ≡ length a + (length b + length c) = length-append a (b ++ c) ∙ ap (λ z. length a + z) (length-append b c) in
    let half = (sound.node at stands).half own in
    let short_a = zero_path.short in
    let short_b = start_path.short in
    let short_c = end_path.short in
    omega (arith, spent, most, long, half, short_a, short_b, short_c)
