-- The lines before the first fault.
use Rattle.std.proofs.Common.{◌≡◌, ◌<◌, ◌≤◌, ◌+◌, ◌^◌, ◌∙◌, ℕ, zero, suc, List, [], ◌∷◌, ◌++◌, length, map, take, drop, get_or, eqb, count_by, Bor, refl, sym, ap, subst, arith}
use Rattle.std.specs.Prelude.{◌⊎◌}
use Rattle.std.proofs.lemmas.List.{length-map}
use Rattle.std.proofs.lemmas.List.Splits.{length-slice_split}
use Rattle.std.proofs.lemmas.List.Sums.{count_by-le-length}
use Rattle.h2_script.specs.declared.line.Line.{Line}
use Rattle.h2_script.specs.declared.fault.LineFault.TheVariants.{TooLong}
use Rattle.h2_script.specs.declared.fault.Refusal.{Refusal}
use Rattle.h2_script.specs.declared.fault.Refusal.TheVariants.{Fault, NoMemory}
use Rattle.h2_script.specs.declared.reading.Reading.{Reading}
use Rattle.h2_script.specs.Lines.{lines_of, SpellsLine, IsFaultOfLine}
use Rattle.h2_script.specs.Scripts.{AreLines, AreFew, commands_of, IsOneTooMany, IsFaultOfLines, fault_in}
use Rattle.h2_script.specs.Reading.{IsReadSoFar}
use Rattle.h2_script.specs.Refusals.{RefusedBy}
use Rattle.h2_script.proofs.Phases.{lines_more, as_many}
use Rattle.h2_script.proofs.ReadSoFar.{mapped_end}

abbrev pub texts : List (Bor (List ℕ)) → List (List ℕ)
texts lines = map (λ line. line.now) lines

-- one more line was read
pub line_read : (lines : List (Bor (List ℕ))) (line : Bor (List ℕ)) (before : List Line) (new : Reading) → AreLines (texts lines) before
    → (said : Line) × SpellsLine line.now said × IsReadSoFar (before ++ said ∷ []) new
    → (after : List Line) × IsReadSoFar after new × AreLines (texts (lines ++ line ∷ [])) after
line_read lines line before new are (said, is, so_far) =
    (before ++ said ∷ [], so_far, subst (λ ls. AreLines ls (before ++ said ∷ [])) (sym (mapped_end (λ l. l.now) lines line)) (lines_more (texts lines) before line.now said are is))

split_after : (lines : List (List ℕ)) (i : ℕ) (d : List ℕ) → i < length lines → lines ≡ take i lines ++ get_or lines i d ∷ drop (suc i) lines
split_after [] i d lt = absurd (omega arith)
split_after (x ∷ lines) zero d lt = refl
split_after (x ∷ lines) (suc i) d lt = ap (λ ls. x ∷ ls) (split_after lines i d (omega arith))

-- a line has a fault, or is one too many
pub stopped : (lines : List (List ℕ)) (done : List (Bor (List ℕ))) (line : List ℕ) (number : ℕ) (before : List Line) (refusal : Refusal)
    → texts done ≡ take (length done) lines → (length done < length lines) × (line ≡ get_or lines (length done) line) → number ≡ length done + 1
    → AreLines (texts done) before → AreFew (commands_of before)
    → RefusedBy (λ why. IsFaultOfLine line why ⊎ (IsOneTooMany before line × (why ≡ TooLong))) refusal
    → IsFaultOfLines lines (fault_in number refusal)
stopped lines done line number before NoMemory so_far turn is are few bad = tt
stopped lines done line number before (Fault why) so_far turn is are few bad =
    let i = length done in
    let many : length (texts done) ≡ length before = as_many (texts done) before are in
    let mapped : length (texts done) ≡ length done = length-map done (λ l. l.now) in
    let there : lines ≡ texts done ++ line ∷ drop (suc i) lines = split_after lines i line turn.0 ∙ ap (λ front. front ++ get_or lines i line ∷ drop (suc i) lines) (sym so_far) ∙ ap (λ l. texts done ++ l ∷ drop (suc i) lines) (sym turn.1) in
    (before, line, record { stands = (texts done, drop (suc i) lines, there, are); few = few; fault = bad }, omega arith)

-- a script has not many more lines than bytes
pub few_lines : (bytes : List ℕ) → length bytes ≤ 4194304 → length (lines_of bytes) < 2 ^ 32
few_lines bytes short =
    let parts : length (lines_of bytes) ≡ count_by (λ b. eqb b 10) bytes + 1 = length-slice_split (λ b. eqb b 10) bytes in
    let few = count_by-le-length (λ b. eqb b 10) bytes in
    omega arith
