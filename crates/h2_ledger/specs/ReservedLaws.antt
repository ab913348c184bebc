-- Reserved chunks stay so.
use Rattle.std.proofs.Common.{ℕ, ◌≡◌, ◌≢◌, ◌⊎◌, [], ◌∷◌, refl, sym, ap, ◌∙◌, inl, inr}
use Rattle.std.proofs.lemmas.Bool.{cases_eq}
use Rattle.h2_num.specs.declared.block.Block.{Block}
use Rattle.h2_geom.specs.Geometry.{segment_of}
use Rattle.h2_codes.specs.Bulkfree.{seen_code, unseen_code}
use Rattle.h2_codes.specs.declared.code.Code.{Code}
use Rattle.h2_codes.specs.declared.code.Code.TheVariants.{Free, Reserved, Staged, Used}
use Rattle.h2_ledger.specs.Ledger.{block_chunk, IsTaken, Ledger, HasBlockIn}
use Rattle.h2_ledger.specs.Moves.{Move, take_next, take_first, take_whole, adopt, relink, reserve, freeze, freeze_of_pass, complete, begin_pass, begin_scan, end_pass, apply, Makes, Joins}
use Rattle.h2_ledger.specs.Sound.{IsSound}
use Rattle.h2_ledger.specs.Laws.{ReservedStays}
use Rattle.h2_ledger.specs.TakeLaws.{next_place}
use Rattle.h2_ledger.specs.SoundLaws.{keeps_sound}
use Rattle.h2_ledger.specs.RunLaws.{stays_sound}

-- both codes are reserved, or neither is
abbrev ReservedAlike : Code → Code → Type 0
ReservedAlike a b = (a ≡ Reserved → b ≡ Reserved) × (b ≡ Reserved → a ≡ Reserved)

alike_same : (a b : Code) → b ≡ a → ReservedAlike a b
alike_same a b e = (λ r. e ∙ r, λ r. sym e ∙ r)

alike_other : (a b : Code) → a ≢ Reserved → b ≢ Reserved → ReservedAlike a b
alike_other a b na nb = (λ r. absurd (na r), λ r. absurd (nb r))

alike_then : (a b d : Code) → ReservedAlike a b → ReservedAlike b d → ReservedAlike a d
alike_then a b d first second = (λ r. second.0 (first.0 r), λ r. first.1 (second.1 r))

seen_reserved : (a : Code) → seen_code a ≡ Reserved → a ≡ Reserved
seen_reserved Free e = e
seen_reserved Reserved e = refl
seen_reserved Staged e = absurd (cc)
seen_reserved Used e = absurd (cc)

unseen_reserved : (a : Code) → unseen_code a ≡ Reserved → a ≡ Reserved
unseen_reserved Free e = e
unseen_reserved Reserved e = refl
unseen_reserved Staged e = absurd (cc)
unseen_reserved Used e = absurd (cc)

taken_not_reserved : (code : Code) → IsTaken code → code ≢ Reserved
taken_not_reserved code (inl p) e = cc
taken_not_reserved code (inr p) e = cc

free_not_reserved : (code : Code) → code ≡ Free → code ≢ Reserved
free_not_reserved code p e = cc

used_not_reserved : (code : Code) → code ≡ Used → code ≢ Reserved
used_not_reserved code p e = cc

module _ {Set : Type 0} (has : Block → Set → Type 0) where
  joins_alike : (b : Block) (x y : Ledger Set) → Joins has b x y → x.code (block_chunk b) ≢ Reserved → (c : ℕ) → ReservedAlike (x.code c) (y.code c)
  joins_alike b x y j nr c = split (cases_eq c (block_chunk b))
    where
      split : (c ≡ block_chunk b) ⊎ (c ≢ block_chunk b) → ReservedAlike (x.code c) (y.code c)
      split (inl e) = alike_other (x.code c) (y.code c) (λ r. nr (ap x.code (sym e) ∙ r)) (used_not_reserved (y.code c) (ap y.code e ∙ j.used))
      split (inr ne) = alike_same (x.code c) (y.code c) (j.codes c ne)

  move_alike : (move : Move) (x y : Ledger Set) → Makes has move x y → IsSound has x → (c : ℕ) → ReservedAlike (x.code c) (y.code c)
  move_alike (take_next size b) x y m sx c =
      joins_alike b x y m.joins (λ r. taken_not_reserved (x.code m.place.old.chunk) (sx.cursor_taken size m.place.old m.place.was) (ap x.code (sym (next_place has size b x m.place).0) ∙ r)) c
  move_alike (take_first size b) x y m sx c = joins_alike b x y m.joins (free_not_reserved (x.code (block_chunk b)) m.place.lowest.free) c
  move_alike (take_whole b) x y m sx c = joins_alike b x y m.joins (free_not_reserved (x.code (block_chunk b)) m.place.lowest.free) c
  move_alike (adopt b) x y m sx c = joins_alike b x y m.joins (taken_not_reserved (x.code (block_chunk b)) m.taken) c
  move_alike relink x y m sx c = alike_same (x.code c) (y.code c) (m.codes.codes c)
  move_alike reserve x y m sx c = alike_same (x.code c) (y.code c) (m.codes.codes c)
  move_alike freeze x y m sx c = alike_same (x.code c) (y.code c) (m.freezes.codes.codes c)
  move_alike freeze_of_pass x y m sx c = alike_same (x.code c) (y.code c) (m.freezes.codes.codes c)
  move_alike complete x y m sx c = alike_same (x.code c) (y.code c) (m.codes.codes c)
  move_alike begin_pass x y m sx c = alike_same (x.code c) (y.code c) (m.only.codes.codes c)
  move_alike begin_scan x y m sx c = alike_same (x.code c) (y.code c) (m.only.codes.codes c)
  move_alike end_pass x y m sx c = alike_same (x.code c) (y.code c) (m.only.codes.codes c)
  move_alike (apply number segment) x y m sx c = split (cases_eq (segment_of c) segment)
    where
      applied : (HasBlockIn has x.marked c × (y.code c ≡ seen_code (x.code c))) ⊎ ((HasBlockIn has x.marked c → ⊥) × (y.code c ≡ unseen_code (x.code c))) → ReservedAlike (x.code c) (y.code c)
      applied (inl (i, e)) = (λ r. e ∙ ap seen_code r, λ r. seen_reserved (x.code c) (sym e ∙ r))
      applied (inr (ni, e)) = (λ r. e ∙ ap unseen_code r, λ r. unseen_reserved (x.code c) (sym e ∙ r))

      split : (segment_of c ≡ segment) ⊎ (segment_of c ≢ segment) → ReservedAlike (x.code c) (y.code c)
      split (inl here) = applied (m.applied c here)
      split (inr ne) = alike_same (x.code c) (y.code c) (m.elsewhere c ne)

  pub reserved_stays : ReservedStays has
  reserved_stays [] x y m sx c = alike_same (x.code c) (y.code c) (m.codes.codes c)
  reserved_stays (move ∷ moves) x y (u, v, stays, m, rest) sx c =
      let su : IsSound has u = stays_sound has x u stays sx in
      alike_then (x.code c) (u.code c) (y.code c) (alike_same (x.code c) (u.code c) (stays.codes.codes c))
      (alike_then (u.code c) (v.code c) (y.code c) (move_alike move u v m su c) (reserved_stays moves v y rest (keeps_sound has move u v m su) c))
