-- What becomes of a cursor when a pass is applied.
use Rattle.std.proofs.Common.{◌≡◌, ◌≢◌, List, Option, Some, None, refl, sym, ap, ◌∙◌}
use Rattle.h2_codes.specs.declared.code.Code.{Code}
use Rattle.h2_codes.specs.declared.code.Code.TheVariants.{Free, Reserved, Staged, Used}
use Rattle.h2_codes.specs.declared.cursor.Cursor.{Cursor}
use Rattle.h2_freemap.specs.Space.{code_in}
use Rattle.h2_codes.specs.Cursor.{unless_free}
use Rattle.h2_freemap.specs.Sweeping.{kept_cursor}

-- a cursor that is there afterwards was there before, and its chunk isn't free
pub kept_is : (segments : List (List Code)) (cursor : Option Cursor) (at : Cursor) → kept_cursor segments cursor ≡ Some at → (cursor ≡ Some at) × (code_in segments at.chunk ≢ Free)
kept_is segments None at e = cc
kept_is segments (Some c) at e = split (code_in segments c.chunk) refl e
  where
    split : (code : Code) → code_in segments c.chunk ≡ code → unless_free code c ≡ Some at → (Some c ≡ Some at) × (code_in segments at.chunk ≢ Free)
    split Free is left = cc
    split Reserved is left = (left, λ free. let same : c ≡ at = cc in let here : code_in segments c.chunk ≡ code_in segments at.chunk = ap (λ (x : Cursor). code_in segments x.chunk) same in cc)
    split Staged is left = (left, λ free. let same : c ≡ at = cc in let here : code_in segments c.chunk ≡ code_in segments at.chunk = ap (λ (x : Cursor). code_in segments x.chunk) same in cc)
    split Used is left = (left, λ free. let same : c ≡ at = cc in let here : code_in segments c.chunk ≡ code_in segments at.chunk = ap (λ (x : Cursor). code_in segments x.chunk) same in cc)

-- a cursor whose chunk isn't free stays
pub kept_stays : (segments : List (List Code)) (cursor : Option Cursor) (at : Cursor) → cursor ≡ Some at → code_in segments at.chunk ≢ Free → kept_cursor segments cursor ≡ Some at
kept_stays segments None at e in_use = cc
kept_stays segments (Some c) at e in_use = split (code_in segments c.chunk) refl
  where
    split : (code : Code) → code_in segments c.chunk ≡ code → unless_free code c ≡ Some at
    split Free is = let same : c ≡ at = cc in absurd (in_use (ap (λ (x : Cursor). code_in segments x.chunk) (sym same) ∙ is))
    split Reserved is = e
    split Staged is = e
    split Used is = e
