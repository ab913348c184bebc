-- What one more line makes of the phases.
use Rattle.std.proofs.Common.{◌≡◌, ◌∙◌, ℕ, List, [], ◌∷◌, ◌++◌, length, refl, sym, ap, arith}
use Rattle.std.specs.List.{onto_first}
use Rattle.h2_command.specs.declared.command.Command.{Command}
use Rattle.h2_script.specs.declared.line.Line.{Line}
use Rattle.h2_script.specs.declared.line.Line.TheVariants.{Skipped, PhaseEnd, Call}
use Rattle.h2_script.specs.Lines.{SpellsLine}
use Rattle.h2_script.specs.Scripts.{AreLines, commands_of, phases_of}

abbrev pub Phase : Type 0
Phase = List (ℕ × Command)

some_phase : (lines : List Line) → (first : Phase) × (rest : List Phase) × (phases_of lines ≡ first ∷ rest)
some_phase [] = ([], [], refl)
some_phase (Skipped ∷ lines) = some_phase lines
some_phase (PhaseEnd ∷ lines) = ([], phases_of lines, refl)
some_phase (Call client command ∷ lines) =
    let some = some_phase lines in
    ((client, command) ∷ some.0, some.1, ap (onto_first (client, command)) some.2)

pub skipped_more : (lines : List Line) → phases_of (lines ++ Skipped ∷ []) ≡ phases_of lines
skipped_more [] = refl
skipped_more (Skipped ∷ lines) = skipped_more lines
skipped_more (PhaseEnd ∷ lines) = ap (λ ps. [] ∷ ps) (skipped_more lines)
skipped_more (Call client command ∷ lines) = ap (onto_first (client, command)) (skipped_more lines)

onto_longer : (x : ℕ × Command) (ps qs : List Phase) (first : Phase) (rest : List Phase) → ps ≡ first ∷ rest → onto_first x (ps ++ qs) ≡ onto_first x ps ++ qs
onto_longer x [] qs first rest e = cc
onto_longer x (p ∷ ps) qs first rest e = refl

pub end_more : (lines : List Line) → phases_of (lines ++ PhaseEnd ∷ []) ≡ phases_of lines ++ [] ∷ []
end_more [] = refl
end_more (Skipped ∷ lines) = end_more lines
end_more (PhaseEnd ∷ lines) = ap (λ ps. [] ∷ ps) (end_more lines)
end_more (Call client command ∷ lines) =
    let some = some_phase lines in
    ap (onto_first (client, command)) (end_more lines) ∙ onto_longer (client, command) (phases_of lines) ([] ∷ []) some.0 some.1 some.2

-- the phases with one more command in the last
push_last : ℕ × Command → List Phase → List Phase
push_last x [] = (x ∷ []) ∷ []
push_last x (p ∷ []) = (p ++ x ∷ []) ∷ []
push_last x (p ∷ q ∷ ps) = p ∷ push_last x (q ∷ ps)

push_past : (x : ℕ × Command) (p : Phase) (ps : List Phase) (first : Phase) (rest : List Phase) → ps ≡ first ∷ rest → push_last x (p ∷ ps) ≡ p ∷ push_last x ps
unfolding push_last
push_past x p [] first rest e = cc
push_past x p (q ∷ ps) first rest e = refl

push_onto : (x y : ℕ × Command) (ps : List Phase) (first : Phase) (rest : List Phase) → ps ≡ first ∷ rest → onto_first y (push_last x ps) ≡ push_last x (onto_first y ps)
unfolding push_last
push_onto x y [] first rest e = cc
push_onto x y (p ∷ []) first rest e = refl
push_onto x y (p ∷ q ∷ ps) first rest e = refl

pushed : (lines : List Line) (client : ℕ) (command : Command) → phases_of (lines ++ Call client command ∷ []) ≡ push_last (client, command) (phases_of lines)
unfolding push_last
pushed [] client command = refl
pushed (Skipped ∷ lines) client command = pushed lines client command
pushed (PhaseEnd ∷ lines) client command =
    let some = some_phase lines in
    ap (λ ps. [] ∷ ps) (pushed lines client command) ∙ sym (push_past (client, command) [] (phases_of lines) some.0 some.1 some.2)
pushed (Call other before ∷ lines) client command =
    let some = some_phase lines in
    ap (onto_first (other, before)) (pushed lines client command) ∙ push_onto (client, command) (other, before) (phases_of lines) some.0 some.1 some.2

push_at_end : (x : ℕ × Command) (ended : List Phase) (last : Phase) → push_last x (ended ++ last ∷ []) ≡ ended ++ (last ++ x ∷ []) ∷ []
unfolding push_last
push_at_end x [] last = refl
push_at_end x (p ∷ []) last = refl
push_at_end x (p ∷ q ∷ ps) last = ap (λ qs. p ∷ qs) (push_at_end x (q ∷ ps) last)

pub call_more : (lines : List Line) (client : ℕ) (command : Command) (ended : List Phase) (last : Phase) → phases_of lines ≡ ended ++ last ∷ [] → phases_of (lines ++ Call client command ∷ []) ≡ ended ++ (last ++ (client, command) ∷ []) ∷ []
call_more lines client command ended last e = pushed lines client command ∙ ap (push_last (client, command)) e ∙ push_at_end (client, command) ended last

pub commands_more : (lines more : List Line) → commands_of (lines ++ more) ≡ commands_of lines ++ commands_of more
commands_more [] more = refl
commands_more (Skipped ∷ lines) more = commands_more lines more
commands_more (PhaseEnd ∷ lines) more = commands_more lines more
commands_more (Call client command ∷ lines) more = ap (λ cs. command ∷ cs) (commands_more lines more)

pub lines_more : (lines : List (List ℕ)) (read : List Line) (line : List ℕ) (said : Line) → AreLines lines read → SpellsLine line said → AreLines (lines ++ line ∷ []) (read ++ said ∷ [])
lines_more [] [] line said are is = (is, tt)
lines_more [] (r ∷ read) line said are is = absurd are
lines_more (l ∷ lines) [] line said are is = absurd are
lines_more (l ∷ lines) (r ∷ read) line said are is = (are.0, lines_more lines read line said are.1 is)

pub as_many : (lines : List (List ℕ)) (read : List Line) → AreLines lines read → length lines ≡ length read
as_many [] [] are = refl
as_many [] (r ∷ read) are = absurd are
as_many (l ∷ lines) [] are = absurd are
as_many (l ∷ lines) (r ∷ read) are = let e = as_many lines read are.1 in omega arith
