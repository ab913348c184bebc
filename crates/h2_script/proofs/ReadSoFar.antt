-- One more line of a script was read.
use Rattle.std.proofs.Common.{◌≡◌, ◌∙◌, ℕ, List, [], ◌∷◌, ◌++◌, map, refl, sym, ap, subst, Vec, Global}
use Rattle.h2_command.specs.declared.command.Command.{Command}
use Rattle.h2_script.specs.declared.line.Line.{Line}
use Rattle.h2_script.specs.declared.line.Line.TheVariants.{Skipped, PhaseEnd, Call}
use Rattle.h2_script.specs.declared.counts.Counts.{Counts}
use Rattle.h2_script.specs.declared.reading.Reading.{Reading}
use Rattle.h2_script.specs.Scripts.{commands_of}
use Rattle.h2_script.specs.Counts.{AreCounted}
use Rattle.h2_script.specs.Reading.{IsReadSoFar}
use Rattle.h2_script.proofs.Phases.{skipped_more, end_more, call_more, commands_more}

nothing_more : {X : Type 0} (xs : List X) → xs ++ [] ≡ xs
nothing_more [] = refl
nothing_more (x ∷ xs) = ap (λ ys. x ∷ ys) (nothing_more xs)

pub mapped_end : {X Y : Type 0} (f : X → Y) (xs : List X) (x : X) → map f (xs ++ x ∷ []) ≡ map f xs ++ f x ∷ []
mapped_end f [] x = refl
mapped_end f (y ∷ xs) x = ap (λ ys. f y ∷ ys) (mapped_end f xs x)

pub skip_read : (lines : List Line) (reading : Reading) → IsReadSoFar lines reading → IsReadSoFar (lines ++ Skipped ∷ []) reading
skip_read lines reading is = record {
  phases = skipped_more lines ∙ is.phases;
  counted = subst (λ cs. AreCounted cs reading.counts) (sym (commands_more lines (Skipped ∷ []) ∙ nothing_more (commands_of lines))) is.counted;
}

pub end_read : (lines : List Line) (old : Reading) (ended : Vec (Vec (ℕ × Command) Global) Global) (last : Vec (ℕ × Command) Global) (put : Vec (ℕ × Command) Global) → put ≡ old.open → ended.items ≡ old.ended.items ++ put ∷ [] → last.items ≡ []
    → IsReadSoFar lines old → IsReadSoFar (lines ++ PhaseEnd ∷ []) (record { ended = ended; «open» = last; counts = old.counts })
end_read lines old ended last put moved pushed empty is = record {
  phases = end_more lines ∙ ap (λ ps. ps ++ [] ∷ []) (is.phases ∙ ends) ∙ ap (λ p. map (λ phase. phase.items) ended.items ++ p ∷ []) (sym empty);
  counted = subst (λ cs. AreCounted cs old.counts) (sym (commands_more lines (PhaseEnd ∷ []) ∙ nothing_more (commands_of lines))) is.counted;
}
  where
    ends : map (λ phase. phase.items) old.ended.items ++ old.open.items ∷ [] ≡ map (λ phase. phase.items) ended.items
    ends = sym (ap (map (λ phase. phase.items)) pushed ∙ mapped_end (λ phase. phase.items) old.ended.items put ∙ ap (λ p. map (λ phase. phase.items) old.ended.items ++ p.items ∷ []) moved)

pub call_read : (lines : List Line) (old : Reading) (client : ℕ) (command : Command) (last : Vec (ℕ × Command) Global) (counts : Counts) → last.items ≡ old.open.items ++ (client, command) ∷ [] → AreCounted (commands_of lines ++ command ∷ []) counts
    → IsReadSoFar lines old → IsReadSoFar (lines ++ Call client command ∷ []) (record { ended = old.ended; «open» = last; counts = counts })
call_read lines old client command last counts pushed counted is = record {
  phases = call_more lines client command (map (λ phase. phase.items) old.ended.items) old.open.items is.phases ∙ ap (λ p. map (λ phase. phase.items) old.ended.items ++ p ∷ []) (sym pushed);
  counted = subst (λ cs. AreCounted cs counts) (sym (commands_more lines (Call client command ∷ []))) counted;
}
