-- The first words of a command decide what it is: its own, and up to three arguments.
use Rattle.std.proofs.Common.{◌≡◌, ◌≤◌, ◌<◌, ◌∙◌, ◌-◌, ℕ, List, [], ◌∷◌, Bor, length, map, take, drop, get_or, ap, subst, inl, inr, arith}
use Rattle.std.specs.Prelude.{Result, Ok, Err, MatchResult}
use Rattle.std.proofs.lemmas.Bool.{cases_lt}
use Rattle.std.proofs.lemmas.List.{take_all, length-take-le}
use Rattle.h2_command.specs.declared.command.Command.{Command}
use Rattle.h2_script.specs.declared.verb.Verb.{Verb}
use Rattle.h2_script.specs.declared.verb.Verb.TheVariants as verb
use Rattle.h2_script.specs.declared.fault.LineFault.{LineFault}
use Rattle.h2_script.specs.declared.fault.LineFault.TheVariants.{Word}
use Rattle.h2_script.specs.declared.fault.Refusal.{Refusal}
use Rattle.h2_script.specs.declared.fault.Refusal.TheVariants.{Fault, NoMemory}
use Rattle.h2_script.specs.Verbs.{verb_word, arguments_of}
use Rattle.h2_script.specs.Commands.{IsCommand, SpellsCommand, IsFaultOfArguments, IsFaultOfCommand}
use Rattle.h2_script.specs.Refusals.{RefusedBy}
use Rattle.h2_script.proofs.OneArguments.{as_many}
use Rattle.h2_script.proofs.OneCommand.{reads, good_args, late_is_good}

few_arguments : (v : Verb) → length (arguments_of v) ≤ 3
few_arguments verb.Mkdir = omega arith
few_arguments verb.Create = omega arith
few_arguments verb.Link = omega arith
few_arguments verb.Rm = omega arith
few_arguments verb.Rmdir = omega arith
few_arguments verb.Mv = omega arith
few_arguments verb.Ls = omega arith
few_arguments verb.Stat = omega arith
few_arguments verb.Open = omega arith
few_arguments verb.Close = omega arith
few_arguments verb.Read = omega arith
few_arguments verb.Write = omega arith
few_arguments verb.Cut = omega arith
few_arguments verb.Sync = omega arith
few_arguments verb.Bulkfree = omega arith
few_arguments verb.Snapshot = omega arith
few_arguments verb.PfsCreate = omega arith
few_arguments verb.PfsDelete = omega arith
few_arguments verb.PfsList = omega arith

good_count : (v : Verb) (args : List (List ℕ)) (c : Command) → IsCommand v args c → length args ≤ 3
good_count v args c is = let many = as_many (arguments_of v) args (good_args v args c (reads v args c is)) in let few = few_arguments v in omega arith

-- too many arguments are the first fault
word_fault : (v : Verb) (args : List (List ℕ)) (why : LineFault) → 3 < length args → IsFaultOfArguments v args why → why ≡ Word
word_fault v args why long (inl (inl (other, e))) = e
word_fault v args why long (inl (inr (same, bad))) = let few = few_arguments v in absurd (omega arith)
word_fault v args why long (inr late) = let same = as_many (arguments_of v) args (late_is_good v args why late) in let few = few_arguments v in absurd (omega arith)

too_many : (v : Verb) (args : List (List ℕ)) (why : LineFault) → 3 < length args → why ≡ Word → IsFaultOfArguments v args why
too_many v args why long e = inl (inl (λ same. let few = few_arguments v in omega arith, e))

front_command : (words : List (List ℕ)) (c : Command) → 5 < length words → SpellsCommand (take 5 words) c → ⊥
front_command words c long (v, args, is, spells) =
    let few = good_count v args c spells in
    let five : length (take 5 words) ≡ 5 = length-take-le 5 words (omega arith) in
    let many : length (take 5 words) ≡ length (verb_word v ∷ args) = ap length is in
    omega arith

front_fault : (words : List (List ℕ)) (why : LineFault) → 5 < length words → IsFaultOfCommand (take 5 words) why → IsFaultOfCommand words why
front_fault [] why long bad = absurd (omega arith)
front_fault (word ∷ args) why long (inl (none, e)) = inl (λ v others is. none v (take 4 others) (ap (take 5) is), e)
front_fault (word ∷ args) why long (inr (v, others, is, bad)) =
    let first : word ≡ verb_word v = cc in
    let rest : others ≡ take 4 args = cc in
    let four : length (take 4 args) ≡ 4 = length-take-le 4 args (omega arith) in
    let many : length others ≡ 4 = ap length rest ∙ four in
    inr (v, args, ap (λ x. x ∷ args) first, too_many v args why (omega arith) (word_fault v others why (omega arith) bad))

front_of_more : (words : List (List ℕ)) (r : Result Command Refusal) → 5 < length words → MatchResult r (SpellsCommand (take 5 words)) (RefusedBy (IsFaultOfCommand (take 5 words))) → MatchResult r (SpellsCommand words) (RefusedBy (IsFaultOfCommand words))
front_of_more words (Ok c) long h = absurd (front_command words c long h)
front_of_more words (Err (Fault why)) long h = front_fault words why long h
front_of_more words (Err NoMemory) long h = tt

pub front_decides : (words : List (List ℕ)) (r : Result Command Refusal) → MatchResult r (SpellsCommand (take 5 words)) (RefusedBy (IsFaultOfCommand (take 5 words))) → MatchResult r (SpellsCommand words) (RefusedBy (IsFaultOfCommand words))
front_decides words r h = elim (cases_lt 5 (length words)) [
  | inl long ↦ front_of_more words r long h
  | inr short ↦ subst (λ ws. MatchResult r (SpellsCommand ws) (RefusedBy (IsFaultOfCommand ws))) (take_all 5 words short) h
]

-- the first words of a line are its first word, and the first words after it
pub line_front : (words : List (Bor (List ℕ))) (d : Bor (List ℕ)) (digit : List ℕ) (all : List (List ℕ)) → 1 ≤ length words → digit ≡ (get_or words 0 d).now → map (λ word. word.now) words ≡ take 6 all
    → (rest : List (List ℕ)) × (all ≡ digit ∷ rest) × (map (λ word. word.now) (take (length words - 1) (drop 1 words)) ≡ take 5 rest)
line_front [] d digit all some first e = absurd (omega arith)
line_front (word ∷ words) d digit [] some first e = cc
line_front (word ∷ words) d digit (x ∷ rest) some first e =
    let same : x ≡ digit = cc in
    let tails : map (λ w. w.now) words ≡ take 5 rest = cc in
    let many : length (word ∷ words) - 1 ≡ length words = omega arith in
    (rest, ap (λ y. y ∷ rest) same, ap (λ n. map (λ w. w.now) (take n words)) many ∙ ap (map (λ w. w.now)) (take_all (length words) words (omega arith)) ∙ tails)
