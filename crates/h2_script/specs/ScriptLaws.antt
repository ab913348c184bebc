-- The commands that bytes spell are lawful, and their clients are among 8.
use Rattle.std.specs.Prelude.{ℕ, List, [], ◌∷◌, All}
use Rattle.std.specs.List.{onto_first}
use Rattle.std.proofs.Common.{suc, subst, sym, arith}
use Rattle.std.proofs.lemmas.List.Elements.{All-nil, All-cons}
use Rattle.h2_dirkey.specs.Name.{IsName}
use Rattle.h2_command.specs.declared.path.Path.{Path}
use Rattle.h2_command.specs.declared.command.Command.{Command}
use Rattle.h2_command.specs.declared.command.Command.TheVariants.{Mkdir, Create, Link, Rm, Rmdir, Mv, Ls, Stat, Attach, Close, ReadAt, WriteAt, Cut, Sync, Bulkfree, Snapshot, PfsCreate, PfsDelete, PfsList}
use Rattle.h2_command.specs.Lawful.{IsPath, IsEntryPath, Lawful}
use Rattle.h2_script.specs.declared.verb.Verb.{Verb}
use Rattle.h2_script.specs.declared.line.Line.{Line}
use Rattle.h2_script.specs.declared.line.Line.TheVariants.{Skipped, PhaseEnd, Call}
use Rattle.h2_script.specs.Names.{IsEntryName}
use Rattle.h2_script.specs.Paths.{SpellsPath, SpellsEntryPath}
use Rattle.h2_script.specs.Commands.{IsCommand}
use Rattle.h2_script.specs.Lines.{lines_of, SpellsLine}
use Rattle.h2_script.specs.Scripts.{AreLines, IsScript, phases_of}
use Rattle.h2_script.specs.LawfulScripts.{IsLawfulCall, IsLawfulScript}

name_is_good : (name : List ℕ) → IsEntryName name → IsName name
name_is_good name good = record {
  some = good.some;
  few = good.few;
  no_slash = λ (k, lt, e). (good.bytes k 47 lt).1 e;
  no_zero = λ (k, lt, e). let above = (good.bytes k 0 lt).0 in omega arith;
  no_dots = good.no_dots;
}

path_is_good : (word : List ℕ) (p : Path) → SpellsPath word p → IsPath p
path_is_good word p spells = record { pfs = spells.pfs_is_good; names = λ k d lt. name_is_good _ (spells.written.2.good k d lt) }

entry_is_good : (word : List ℕ) (p : Path) → SpellsEntryPath word p → IsEntryPath p
entry_is_good word p spells = record { path = path_is_good word p spells.path; named = spells.named }

command_is_good : (v : Verb) (args : List (List ℕ)) (c : Command) → IsCommand v args c → Lawful c
command_is_good v args (Mkdir p) (is, (a, at, s)) = entry_is_good a p s
command_is_good v args (Create p) (is, (a, at, s)) = entry_is_good a p s
command_is_good v args (Link p q) (is, (a, b, at, s, t, same)) = record { first = entry_is_good a p s; second = entry_is_good b q t; same = same }
command_is_good v args (Rm p) (is, (a, at, s)) = entry_is_good a p s
command_is_good v args (Rmdir p) (is, (a, at, s)) = entry_is_good a p s
command_is_good v args (Mv p q) (is, (a, b, at, s, t, same)) = record { first = entry_is_good a p s; second = entry_is_good b q t; same = same }
command_is_good v args (Ls p) (is, (a, at, s)) = path_is_good a p s
command_is_good v args (Stat p) (is, (a, at, s)) = path_is_good a p s
command_is_good v args (Attach p) (is, (a, at, s)) = path_is_good a p s
command_is_good v args (Close handle) spells = tt
command_is_good v args (ReadAt handle off len) (is, (a, b, c, at, s, t, few)) = few.1
command_is_good v args (WriteAt handle off payload) (is, (a, b, c, at, s, t, u, few)) = few
command_is_good v args (Cut handle size) spells = tt
command_is_good v args Sync spells = tt
command_is_good v args Bulkfree spells = tt
command_is_good v args (Snapshot source name) (is, good) = (good.1, good.2)
command_is_good v args (PfsCreate name) (is, good) = good.1
command_is_good v args (PfsDelete name) (is, good) = good.1
command_is_good v args PfsList spells = tt

call_is_good : (line : List ℕ) (client : ℕ) (command : Command) → SpellsLine line (Call client command) → IsLawfulCall (client, command)
call_is_good line client command (utf8, (words, (digit, at, (low, is)), (v, args, words_are, spells))) = (low, command_is_good v args command spells)

onto_is_good : (call : ℕ × Command) (phases : List (List (ℕ × Command))) → IsLawfulCall call → IsLawfulScript phases → IsLawfulScript (onto_first call phases)
onto_is_good call [] good all = All-cons (λ phase. All IsLawfulCall phase) (call ∷ []) [] (All-cons IsLawfulCall call [] good (All-nil IsLawfulCall)) (All-nil (λ phase. All IsLawfulCall phase))
onto_is_good call (phase ∷ phases) good all =
    let first : All IsLawfulCall phase = all 0 phase (omega arith) in
    let rest : IsLawfulScript phases = λ k d lt. all (suc k) d (omega arith) in
    All-cons (λ p. All IsLawfulCall p) (call ∷ phase) phases (All-cons IsLawfulCall call phase good first) rest

-- what lines are is lawful
pub lines_are_lawful : (lines : List (List ℕ)) (read : List Line) → AreLines lines read → IsLawfulScript (phases_of read)
lines_are_lawful [] [] are = All-cons (λ phase. All IsLawfulCall phase) [] [] (All-nil IsLawfulCall) (All-nil (λ phase. All IsLawfulCall phase))
lines_are_lawful [] (said ∷ read) are = absurd are
lines_are_lawful (line ∷ lines) [] are = absurd are
lines_are_lawful (line ∷ lines) (Skipped ∷ read) are = lines_are_lawful lines read are.1
lines_are_lawful (line ∷ lines) (PhaseEnd ∷ read) are = All-cons (λ phase. All IsLawfulCall phase) [] (phases_of read) (All-nil IsLawfulCall) (lines_are_lawful lines read are.1)
lines_are_lawful (line ∷ lines) (Call client command ∷ read) are = onto_is_good (client, command) (phases_of read) (call_is_good line client command are.0) (lines_are_lawful lines read are.1)

-- a script is lawful
pub script_is_lawful : (bytes : List ℕ) (phases : List (List (ℕ × Command))) → IsScript bytes phases → IsLawfulScript phases
script_is_lawful bytes phases is = subst IsLawfulScript (sym is.read.3) (lines_are_lawful (lines_of bytes) is.read.0 is.read.1)
