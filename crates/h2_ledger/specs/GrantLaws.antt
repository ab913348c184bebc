-- A block that was in use isn't granted again, until a pass applies a segment.
use Rattle.std.proofs.Common.{◌≡◌, ◌≢◌, ◌⊎◌, ◌+◌, ◌*◌, ◌≤◌, Some, List, [], ◌∷◌, refl, sym, ap, ◌∙◌, subst, inl, inr, arith}
use Rattle.std.proofs.lemmas.Bool.{cases_eq}
use Rattle.std.specs.List.{AllByRecursion}
use Rattle.h2_num.specs.declared.block.Block.{Block}
use Rattle.h2_geom.specs.Geometry.{chunk_bytes}
use Rattle.h2_codes.specs.declared.code.Code.TheVariants.{Free}
use Rattle.h2_ledger.specs.declared.shared_size.SharedSize.{SharedSize}
use Rattle.h2_codes.specs.declared.cursor.Cursor.{Cursor}
use Rattle.h2_ledger.specs.Ledger.{block_bytes, block_chunk, LiesInOneChunk, AreDisjoint, Ledger, IsInUse, by_live, by_pin, IsMarked}
use Rattle.h2_ledger.specs.Moves.{Move, take_next, take_first, take_whole, adopt, relink, reserve, freeze, freeze_of_pass, complete, begin_pass, begin_scan, end_pass, apply, Makes, Joins, CodesStay, CursorsStay, IsAtCursor, IsAtLowest, IsGranted, at_cursor, at_lowest, at_whole}
use Rattle.h2_ledger.specs.Sound.{IsSound}
use Rattle.h2_ledger.specs.Runs.{NoApply, taken_then, taken_by, Run}
use Rattle.h2_ledger.specs.Laws.{GrantsApart, ArePairwiseDisjoint, EventTakesApart, EventTakesDistinct}
use Rattle.h2_ledger.specs.PartLaws.{same_size, used_not_free}
use Rattle.h2_ledger.specs.SoundLaws.{keeps_sound}
use Rattle.h2_ledger.specs.RunLaws.{stays_sound}
use Rattle.h2_ledger.specs.TakeLaws.{in_use, was_free, next_place, small_size, apart_by_chunk}

module _ {Set : Type 0} (◌∈◌ : Block → Set → Type 0) where
  infix 40 ◌∈◌
  -- the block's room is not to be had
  record Occupied (b : Block) (x : Ledger Set) : Type 0 where
    whole : LiesInOneChunk b
    taken : x.code (block_chunk b) ≢ Free
    below : (k : SharedSize) (at : Cursor) → x.cursor k ≡ Some at → block_chunk b ≡ at.chunk → b.place + block_bytes b ≤ chunk_bytes * at.chunk + at.used

  occupied_held : (b : Block) (x : Ledger Set) → IsSound ◌∈◌ x → IsInUse ◌∈◌ x b ⊎ IsMarked ◌∈◌ x b → Occupied b x
  occupied_held b x sx h = record {
    whole = sx.in_one_chunk b h;
    taken = used_not_free (x.code (block_chunk b)) (in_use ◌∈◌ x sx b h);
    below = λ k at e same. sx.below_cursor k at e b h same;
  }

  occupied_lowest : (b : Block) (x : Ledger Set) → Occupied b x → (taken : Block) → block_bytes taken ≤ chunk_bytes → IsAtLowest ◌∈◌ taken x → AreDisjoint taken b
  occupied_lowest b x o taken small m = apart_by_chunk taken b (let at : taken.place ≡ chunk_bytes * block_chunk taken = m.at in omega arith) o.whole (λ same. o.taken (ap x.code (sym same) ∙ m.lowest.free))

  occupied_cursor : (size : SharedSize) (b : Block) (x : Ledger Set) → Occupied b x → (taken : Block) → IsAtCursor ◌∈◌ size taken x → AreDisjoint taken b
  occupied_cursor size b x o taken m = split (cases_eq (block_chunk b) m.old.chunk)
    where
      split : (block_chunk b ≡ m.old.chunk) ⊎ (block_chunk b ≢ m.old.chunk) → AreDisjoint taken b
      split (inl same) = inr (let lower : b.place + block_bytes b ≤ chunk_bytes * m.old.chunk + m.old.used = o.below size m.old m.was same in let at : taken.place ≡ chunk_bytes * m.old.chunk + m.old.used = m.at in omega arith)
      split (inr ne) = apart_by_chunk taken b (next_place ◌∈◌ size taken x m).1 o.whole (λ same. ne (sym same ∙ (next_place ◌∈◌ size taken x m).0))

  occupied_apart : (b : Block) (x : Ledger Set) → Occupied b x → (taken : Block) → IsGranted ◌∈◌ taken x → AreDisjoint taken b
  occupied_apart b x o taken (at_cursor size m) = occupied_cursor size b x o taken m
  occupied_apart b x o taken (at_lowest size e m) = occupied_lowest b x o taken (small_size size taken e) m
  occupied_apart b x o taken (at_whole e m) = occupied_lowest b x o taken (rw e (omega arith)) m

  occupied_stays : (b : Block) (x y : Ledger Set) → CodesStay ◌∈◌ x y → CursorsStay ◌∈◌ x y → Occupied b x → Occupied b y
  occupied_stays b x y codes cursors o = record {
    whole = o.whole;
    taken = λ free. o.taken (sym (codes.codes (block_chunk b)) ∙ free);
    below = λ k at e same. o.below k at (sym (cursors.cursors k) ∙ e) same;
  }

  occupied_joins : (b d : Block) (x y : Ledger Set) → Joins ◌∈◌ d x y → ((k : SharedSize) (at : Cursor) → y.cursor k ≡ Some at → block_chunk b ≡ at.chunk → b.place + block_bytes b ≤ chunk_bytes * at.chunk + at.used) → Occupied b x → Occupied b y
  occupied_joins b d x y j below o = record {
    whole = o.whole;
    taken = λ free. o.taken (was_free ◌∈◌ d x y j (block_chunk b) free).0;
    below = below;
  }

  occupied_on : (b : Block) (move : Move) (x y : Ledger Set) → NoApply move → Makes ◌∈◌ move x y → Occupied b x → Occupied b y
  occupied_on b (take_next size d) x y ns m o = occupied_joins b d x y m.joins (λ k at e same. below k at e same (same_size k size)) o
    where
      below : (k : SharedSize) (at : Cursor) → y.cursor k ≡ Some at → block_chunk b ≡ at.chunk → (k ≡ size) ⊎ (k ≢ size) → b.place + block_bytes b ≤ chunk_bytes * at.chunk + at.used
      below k at e same (inr nk) = o.below k at (sym (m.others k nk) ∙ e) same
      below k at e same (inl ek) =
          let moved : y.cursor size ≡ Some (record { chunk = m.place.old.chunk; used = m.place.old.used + block_bytes d }) = m.moved in
          let eq : at ≡ record { chunk = m.place.old.chunk; used = m.place.old.used + block_bytes d } = cc in
          let lower : b.place + block_bytes b ≤ chunk_bytes * m.place.old.chunk + m.place.old.used = o.below size m.place.old m.place.was (same ∙ ap (λ (z : Cursor). z.chunk) eq) in
          subst (λ (z : Cursor). b.place + block_bytes b ≤ chunk_bytes * z.chunk + z.used) (sym eq) (omega arith)
  occupied_on b (take_first size d) x y ns m o = occupied_joins b d x y m.joins (λ k at e same. below k at e same (same_size k size)) o
    where
      below : (k : SharedSize) (at : Cursor) → y.cursor k ≡ Some at → block_chunk b ≡ at.chunk → (k ≡ size) ⊎ (k ≢ size) → b.place + block_bytes b ≤ chunk_bytes * at.chunk + at.used
      below k at e same (inr nk) = o.below k at (sym (m.others k nk) ∙ e) same
      below k at e same (inl ek) =
          let moved : y.cursor size ≡ Some (record { chunk = block_chunk d; used = block_bytes d }) = m.moved in
          let eq : at ≡ record { chunk = block_chunk d; used = block_bytes d } = cc in
          absurd (o.taken (ap x.code (same ∙ ap (λ (z : Cursor). z.chunk) eq) ∙ m.place.lowest.free))
  occupied_on b (take_whole d) x y ns m o = occupied_joins b d x y m.joins (λ k at e same. o.below k at (sym (m.cursors.cursors k) ∙ e) same) o
  occupied_on b (adopt d) x y ns m o = occupied_joins b d x y m.joins (λ k at e same. o.below k at (sym (m.cursors.cursors k) ∙ e) same) o
  occupied_on b relink x y ns m o = occupied_stays b x y m.codes m.cursors o
  occupied_on b reserve x y ns m o = occupied_stays b x y m.codes m.cursors o
  occupied_on b freeze x y ns m o = occupied_stays b x y m.freezes.codes m.freezes.cursors o
  occupied_on b freeze_of_pass x y ns m o = occupied_stays b x y m.freezes.codes m.freezes.cursors o
  occupied_on b complete x y ns m o = occupied_stays b x y m.codes m.cursors o
  occupied_on b begin_pass x y ns m o = occupied_stays b x y m.only.codes m.only.cursors o
  occupied_on b begin_scan x y ns m o = occupied_stays b x y m.only.codes m.only.cursors o
  occupied_on b end_pass x y ns m o = occupied_stays b x y m.only.codes m.only.cursors o
  occupied_on b (apply number segment) x y ns m o = absurd (ns number segment refl)

  occupied_along : (b : Block) (moves : List Move) (x y : Ledger Set) → Run ◌∈◌ moves x y → AllByRecursion NoApply moves → Occupied b x → Occupied b y
  occupied_along b [] x y m ns o = occupied_stays b x y m.codes m.cursors o
  occupied_along b (move ∷ moves) x y (u, v, stays, m, rest) (ns, others) o = occupied_along b moves v y rest others (occupied_on b move u v ns m (occupied_stays b x u stays.codes stays.cursors o))

  pub grants_apart : GrantsApart ◌∈◌
  grants_apart moves x y run ns sx b h taken g = occupied_apart b y (occupied_along b moves x y run ns (occupied_held b x sx h)) taken g

  then_apart : (b : Block) (move : Move) (x y : Ledger Set) → Makes ◌∈◌ move x y → Occupied b x → (more : List Block) → AllByRecursion (λ d. AreDisjoint d b) more → AllByRecursion (λ d. AreDisjoint d b) (taken_then move more)
  then_apart b (take_next size d) x y m o more apart = (occupied_apart b x o d (at_cursor size m.place), apart)
  then_apart b (take_first size d) x y m o more apart = (occupied_apart b x o d (at_lowest size m.radix m.place), apart)
  then_apart b (take_whole d) x y m o more apart = (occupied_apart b x o d (at_whole m.radix m.place), apart)
  then_apart b (adopt d) x y m o more apart = apart
  then_apart b relink x y m o more apart = apart
  then_apart b reserve x y m o more apart = apart
  then_apart b freeze x y m o more apart = apart
  then_apart b freeze_of_pass x y m o more apart = apart
  then_apart b complete x y m o more apart = apart
  then_apart b begin_pass x y m o more apart = apart
  then_apart b begin_scan x y m o more apart = apart
  then_apart b end_pass x y m o more apart = apart
  then_apart b (apply number segment) x y m o more apart = apart

  -- what moves take shares nothing with a block whose room is not to be had
  taken_apart : (b : Block) (moves : List Move) (x y : Ledger Set) → Run ◌∈◌ moves x y → AllByRecursion NoApply moves → Occupied b x → AllByRecursion (λ d. AreDisjoint d b) (taken_by moves)
  taken_apart b [] x y m ns o = tt
  taken_apart b (move ∷ moves) x y (u, v, stays, m, rest) (ns, others) o =
      let here : Occupied b u = occupied_stays b x u stays.codes stays.cursors o in
      then_apart b move u v m here (taken_by moves) (taken_apart b moves v y rest others (occupied_on b move u v ns m here))

  pub event_takes_apart : EventTakesApart ◌∈◌
  event_takes_apart moves x y run ns sx b h = taken_apart b moves x y run ns (occupied_held b x sx h)

  joined_in_use : (b : Block) (x y : Ledger Set) → Joins ◌∈◌ b x y → IsInUse ◌∈◌ y b
  joined_in_use b x y j = split j.held
    where
      split : (b ∈ y.live) ⊎ (b ∈ y.pins) → IsInUse ◌∈◌ y b
      split (inl i) = by_live i
      split (inr i) = by_pin i

  then_distinct : (move : Move) (x y : Ledger Set) → Makes ◌∈◌ move x y → (more : List Block) → ((b : Block) → IsInUse ◌∈◌ y b → AllByRecursion (λ d. AreDisjoint d b) more) → ArePairwiseDisjoint more → ArePairwiseDisjoint (taken_then move more)
  then_distinct (take_next size d) x y m more apart distinct = (apart d (joined_in_use d x y m.joins), distinct)
  then_distinct (take_first size d) x y m more apart distinct = (apart d (joined_in_use d x y m.joins), distinct)
  then_distinct (take_whole d) x y m more apart distinct = (apart d (joined_in_use d x y m.joins), distinct)
  then_distinct (adopt d) x y m more apart distinct = distinct
  then_distinct relink x y m more apart distinct = distinct
  then_distinct reserve x y m more apart distinct = distinct
  then_distinct freeze x y m more apart distinct = distinct
  then_distinct freeze_of_pass x y m more apart distinct = distinct
  then_distinct complete x y m more apart distinct = distinct
  then_distinct begin_pass x y m more apart distinct = distinct
  then_distinct begin_scan x y m more apart distinct = distinct
  then_distinct end_pass x y m more apart distinct = distinct
  then_distinct (apply number segment) x y m more apart distinct = distinct

  pub event_takes_distinct : EventTakesDistinct ◌∈◌
  event_takes_distinct [] x y m ns sx = tt
  event_takes_distinct (move ∷ moves) x y (u, v, stays, m, rest) (ns, others) sx =
      let sv : IsSound ◌∈◌ v = keeps_sound ◌∈◌ move u v m (stays_sound ◌∈◌ x u stays sx) in
      then_distinct move u v m (taken_by moves) (λ b i. taken_apart b moves v y rest others (occupied_held b v sv (inl i))) (event_takes_distinct moves v y rest others sv)
