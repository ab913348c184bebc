-- One more command is counted.
use Rattle.std.proofs.Common.{◌≡◌, ◌+◌, ◌≤◌, ◌∙◌, ℕ, Bool, List, [], ◌∷◌, ◌++◌, length, cond, count_by, sym, ap, zero-add}
use Rattle.std.specs.List.{sum_by}
use Rattle.std.proofs.lemmas.List.{length-append}
use Rattle.std.proofs.lemmas.List.Sums.{sum_by-append}
use Rattle.h2_command.specs.declared.command.Command.{Command}
use Rattle.h2_script.specs.declared.counts.Counts.{Counts}
use Rattle.h2_command.specs.Commands.{is_bulkfree}
use Rattle.h2_script.specs.Scripts.{is_list, asked, AreFew}
use Rattle.h2_script.specs.Counts.{AreCounted}

one_summed : {X : Type 0} (f : X → ℕ) (xs : List X) (x : X) → sum_by f (xs ++ x ∷ []) ≡ sum_by f xs + f x
one_summed f xs x = sum_by-append f xs (x ∷ []) ∙ ap (λ n. sum_by f xs + n) (zero-add (f x))

one_counted : {X : Type 0} (p : X → Bool) (xs : List X) (x : X) → count_by p (xs ++ x ∷ []) ≡ count_by p xs + cond (p x) 1 0
one_counted p xs x = one_summed (λ y. cond (p y) 1 0) xs x

-- the counts with one more command
pub record AreOneMore (command : Command) (old new : Counts) : Type 0 where
  pub all : new.commands ≡ old.commands + 1
  pub lists : new.lists ≡ old.lists + cond (is_list command) 1 0
  pub passes : new.passes ≡ old.passes + cond (is_bulkfree command) 1 0
  pub bytes : new.bytes ≡ old.bytes + asked command

abbrev pub FitCounts : Counts → Type 0
FitCounts counts = (counts.commands ≤ 65536) × (counts.lists ≤ 256) × (counts.passes ≤ 1024) × (counts.bytes ≤ 67108864)

all_more : (before : List Command) (command : Command) (old new : Counts) → AreCounted before old → AreOneMore command old new → new.commands ≡ length (before ++ command ∷ [])
all_more before command old new are more = more.all ∙ ap (λ n. n + 1) are.all ∙ sym (length-append before (command ∷ []))

lists_more : (before : List Command) (command : Command) (old new : Counts) → AreCounted before old → AreOneMore command old new → new.lists ≡ count_by is_list (before ++ command ∷ [])
lists_more before command old new are more = more.lists ∙ ap (λ n. n + cond (is_list command) 1 0) are.lists ∙ sym (one_counted is_list before command)

passes_more : (before : List Command) (command : Command) (old new : Counts) → AreCounted before old → AreOneMore command old new → new.passes ≡ count_by is_bulkfree (before ++ command ∷ [])
passes_more before command old new are more = more.passes ∙ ap (λ n. n + cond (is_bulkfree command) 1 0) are.passes ∙ sym (one_counted is_bulkfree before command)

bytes_more : (before : List Command) (command : Command) (old new : Counts) → AreCounted before old → AreOneMore command old new → new.bytes ≡ sum_by asked (before ++ command ∷ [])
bytes_more before command old new are more = more.bytes ∙ ap (λ n. n + asked command) are.bytes ∙ sym (one_summed asked before command)

pub counted_more : (before : List Command) (command : Command) (old new : Counts) → AreCounted before old → AreOneMore command old new → FitCounts new → AreCounted (before ++ command ∷ []) new
counted_more before command old new are more fit =
    let all = all_more before command old new are more in
    let lists = lists_more before command old new are more in
    let passes = passes_more before command old new are more in
    let bytes = bytes_more before command old new are more in
    record { few = record { few = rw all at fit.0; few_lists = rw lists at fit.1; few_passes = rw passes at fit.2; few_bytes = rw bytes at fit.3 }; all = all; lists = lists; passes = passes; bytes = bytes }

pub one_too_many : (before : List Command) (command : Command) (old new : Counts) → AreCounted before old → AreOneMore command old new → (FitCounts new → ⊥) → AreFew (before ++ command ∷ []) → ⊥
one_too_many before command old new are more large few =
    let all = sym (all_more before command old new are more) in
    let lists = sym (lists_more before command old new are more) in
    let passes = sym (passes_more before command old new are more) in
    let bytes = sym (bytes_more before command old new are more) in
    large (rw all at few.few, rw lists at few.few_lists, rw passes at few.few_passes, rw bytes at few.few_bytes)
