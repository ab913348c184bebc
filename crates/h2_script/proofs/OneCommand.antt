-- Words are one command at most, or have one first fault.
use Rattle.std.proofs.Common.{◌≡◌, ◌∙◌, ℕ, List, [], ◌∷◌, refl, sym, ap, subst, inl, inr}
use Rattle.h2_command.specs.declared.path.Path.{Path}
use Rattle.h2_command.specs.declared.command.Command.{Command}
use Rattle.h2_command.specs.declared.command.Command.TheVariants.{Mkdir, Create, Link, Rm, Rmdir, Mv, Ls, Stat, Attach, Close, ReadAt, WriteAt, Cut, Sync, Bulkfree, Snapshot, PfsCreate, PfsDelete, PfsList}
use Rattle.h2_contents.specs.declared.payload.Payload.{Payload}
use Rattle.h2_script.specs.declared.verb.Verb.{Verb}
use Rattle.h2_script.specs.declared.verb.Verb.TheVariants as verb
use Rattle.h2_script.specs.declared.fault.LineFault.{LineFault}
use Rattle.h2_script.specs.Verbs.{verb_word, arguments_of, EntryPath, AnyPath, PfsName, Handle, Place, Length, Datum}
use Rattle.h2_script.specs.Arguments.{OneEntry, TwoEntries, OnePath, OneName, TwoNames, OneHandle, HandleAndSize, HandleAndRange, HandleAndData}
use Rattle.h2_script.specs.Commands.{IsCommand, SpellsCommand, IsLateFault, IsFaultOfArguments, IsFaultOfCommand}
use Rattle.h2_script.proofs.OneVerb.{one_verb}
use Rattle.h2_script.proofs.OneArguments.{AreArguments, are_none, are_one, are_two, are_three, no_fault_of_words, one_fault_of_words, one_entry, one_any, two_paths, one_handle, one_size, one_range, one_data, no_two_pfss, no_long_read, no_long_write}

-- what a verb and its arguments are, one row for each verb
abbrev pub Reads : Verb → List (List ℕ) → Command → Type 0
Reads verb.Mkdir args c = (p : Path) × (c ≡ Mkdir p) × OneEntry args p
Reads verb.Create args c = (p : Path) × (c ≡ Create p) × OneEntry args p
Reads verb.Link args c = (p q : Path) × (c ≡ Link p q) × TwoEntries args p q
Reads verb.Rm args c = (p : Path) × (c ≡ Rm p) × OneEntry args p
Reads verb.Rmdir args c = (p : Path) × (c ≡ Rmdir p) × OneEntry args p
Reads verb.Mv args c = (p q : Path) × (c ≡ Mv p q) × TwoEntries args p q
Reads verb.Ls args c = (p : Path) × (c ≡ Ls p) × OnePath args p
Reads verb.Stat args c = (p : Path) × (c ≡ Stat p) × OnePath args p
Reads verb.Open args c = (p : Path) × (c ≡ Attach p) × OnePath args p
Reads verb.Close args c = (h : ℕ) × (c ≡ Close h) × OneHandle args h
Reads verb.Read args c = (h n l : ℕ) × (c ≡ ReadAt h n l) × HandleAndRange args h n l
Reads verb.Write args c = (h n : ℕ) × (x : Payload) × (c ≡ WriteAt h n x) × HandleAndData args h n x
Reads verb.Cut args c = (h n : ℕ) × (c ≡ Cut h n) × HandleAndSize args h n
Reads verb.Sync args c = (c ≡ Sync) × (args ≡ [])
Reads verb.Bulkfree args c = (c ≡ Bulkfree) × (args ≡ [])
Reads verb.Snapshot args c = (name other : List ℕ) × (c ≡ Snapshot name other) × TwoNames args name other
Reads verb.PfsCreate args c = (name : List ℕ) × (c ≡ PfsCreate name) × OneName args name
Reads verb.PfsDelete args c = (name : List ℕ) × (c ≡ PfsDelete name) × OneName args name
Reads verb.PfsList args c = (c ≡ PfsList) × (args ≡ [])

pub reads : (v : Verb) (args : List (List ℕ)) (c : Command) → IsCommand v args c → Reads v args c
reads v args (Mkdir p) (is, s) = subst (λ u. Reads u args (Mkdir p)) (sym is) (p, refl, s)
reads v args (Create p) (is, s) = subst (λ u. Reads u args (Create p)) (sym is) (p, refl, s)
reads v args (Link p q) (is, s) = subst (λ u. Reads u args (Link p q)) (sym is) (p, q, refl, s)
reads v args (Rm p) (is, s) = subst (λ u. Reads u args (Rm p)) (sym is) (p, refl, s)
reads v args (Rmdir p) (is, s) = subst (λ u. Reads u args (Rmdir p)) (sym is) (p, refl, s)
reads v args (Mv p q) (is, s) = subst (λ u. Reads u args (Mv p q)) (sym is) (p, q, refl, s)
reads v args (Ls p) (is, s) = subst (λ u. Reads u args (Ls p)) (sym is) (p, refl, s)
reads v args (Stat p) (is, s) = subst (λ u. Reads u args (Stat p)) (sym is) (p, refl, s)
reads v args (Attach p) (is, s) = subst (λ u. Reads u args (Attach p)) (sym is) (p, refl, s)
reads v args (Close h) (is, s) = subst (λ u. Reads u args (Close h)) (sym is) (h, refl, s)
reads v args (ReadAt h n l) (is, s) = subst (λ u. Reads u args (ReadAt h n l)) (sym is) (h, n, l, refl, s)
reads v args (WriteAt h n x) (is, s) = subst (λ u. Reads u args (WriteAt h n x)) (sym is) (h, n, x, refl, s)
reads v args (Cut h n) (is, s) = subst (λ u. Reads u args (Cut h n)) (sym is) (h, n, refl, s)
reads v args Sync (is, s) = subst (λ u. Reads u args Sync) (sym is) (refl, s)
reads v args Bulkfree (is, s) = subst (λ u. Reads u args Bulkfree) (sym is) (refl, s)
reads v args (Snapshot name other) (is, s) = subst (λ u. Reads u args (Snapshot name other)) (sym is) (name, other, refl, s)
reads v args (PfsCreate name) (is, s) = subst (λ u. Reads u args (PfsCreate name)) (sym is) (name, refl, s)
reads v args (PfsDelete name) (is, s) = subst (λ u. Reads u args (PfsDelete name)) (sym is) (name, refl, s)
reads v args PfsList (is, s) = subst (λ u. Reads u args PfsList) (sym is) (refl, s)

same_name : (args : List (List ℕ)) (name other : List ℕ) → args ≡ name ∷ [] → args ≡ other ∷ [] → name ≡ other
same_name args name other is it = cc

same_names : (args : List (List ℕ)) (a b c d : List ℕ) → args ≡ a ∷ b ∷ [] → args ≡ c ∷ d ∷ [] → (a ≡ c) × (b ≡ d)
same_names args a b c d is it = let first : a ≡ c = cc in let second : b ≡ d = cc in (first, second)

one_read : (v : Verb) (args : List (List ℕ)) (c d : Command) → Reads v args c → Reads v args d → c ≡ d
one_read verb.Mkdir args c d (p, is, s) (q, it, t) = is ∙ ap Mkdir (one_entry args p q s t) ∙ sym it
one_read verb.Create args c d (p, is, s) (q, it, t) = is ∙ ap Create (one_entry args p q s t) ∙ sym it
one_read verb.Link args c d (p, q, is, s) (r, u, it, t) = is ∙ (let same = two_paths args p q r u s t in ap (λ x. Link x q) same.0 ∙ ap (Link r) same.1) ∙ sym it
one_read verb.Rm args c d (p, is, s) (q, it, t) = is ∙ ap Rm (one_entry args p q s t) ∙ sym it
one_read verb.Rmdir args c d (p, is, s) (q, it, t) = is ∙ ap Rmdir (one_entry args p q s t) ∙ sym it
one_read verb.Mv args c d (p, q, is, s) (r, u, it, t) = is ∙ (let same = two_paths args p q r u s t in ap (λ x. Mv x q) same.0 ∙ ap (Mv r) same.1) ∙ sym it
one_read verb.Ls args c d (p, is, s) (q, it, t) = is ∙ ap Ls (one_any args p q s t) ∙ sym it
one_read verb.Stat args c d (p, is, s) (q, it, t) = is ∙ ap Stat (one_any args p q s t) ∙ sym it
one_read verb.Open args c d (p, is, s) (q, it, t) = is ∙ ap Attach (one_any args p q s t) ∙ sym it
one_read verb.Close args c d (h, is, s) (g, it, t) = is ∙ ap Close (one_handle args h g s t) ∙ sym it
one_read verb.Read args c d (h, n, l, is, s) (g, m, k, it, t) = is ∙ (let same = one_range args h n l g m k s t in ap (λ x. ReadAt x n l) same.0 ∙ ap (λ x. ReadAt g x l) same.1 ∙ ap (ReadAt g m) same.2) ∙ sym it
one_read verb.Write args c d (h, n, x, is, s) (g, m, y, it, t) = is ∙ (let same = one_data args h n g m x y s t in ap (λ z. WriteAt z n x) same.0 ∙ ap (λ z. WriteAt g z x) same.1 ∙ ap (WriteAt g m) same.2) ∙ sym it
one_read verb.Cut args c d (h, n, is, s) (g, m, it, t) = is ∙ (let same = one_size args h n g m s t in ap (λ x. Cut x n) same.0 ∙ ap (Cut g) same.1) ∙ sym it
one_read verb.Sync args c d (is, s) (it, t) = is ∙ sym it
one_read verb.Bulkfree args c d (is, s) (it, t) = is ∙ sym it
one_read verb.Snapshot args c d (p, q, is, s) (r, u, it, t) = is ∙ (let same = same_names args p q r u s.0 t.0 in ap (λ x. Snapshot x q) same.0 ∙ ap (Snapshot r) same.1) ∙ sym it
one_read verb.PfsCreate args c d (p, is, s) (q, it, t) = is ∙ ap PfsCreate (same_name args p q s.0 t.0) ∙ sym it
one_read verb.PfsDelete args c d (p, is, s) (q, it, t) = is ∙ ap PfsDelete (same_name args p q s.0 t.0) ∙ sym it
one_read verb.PfsList args c d (is, s) (it, t) = is ∙ sym it

pub good_args : (v : Verb) (args : List (List ℕ)) (c : Command) → Reads v args c → AreArguments (arguments_of v) args
good_args verb.Mkdir args c (p, is, (a, at, s)) = are_one EntryPath args a at (p, s)
good_args verb.Create args c (p, is, (a, at, s)) = are_one EntryPath args a at (p, s)
good_args verb.Link args c (p, q, is, (a, b, at, s, t, same)) = are_two EntryPath EntryPath args a b at (p, s) (q, t)
good_args verb.Rm args c (p, is, (a, at, s)) = are_one EntryPath args a at (p, s)
good_args verb.Rmdir args c (p, is, (a, at, s)) = are_one EntryPath args a at (p, s)
good_args verb.Mv args c (p, q, is, (a, b, at, s, t, same)) = are_two EntryPath EntryPath args a b at (p, s) (q, t)
good_args verb.Ls args c (p, is, (a, at, s)) = are_one AnyPath args a at (p, s)
good_args verb.Stat args c (p, is, (a, at, s)) = are_one AnyPath args a at (p, s)
good_args verb.Open args c (p, is, (a, at, s)) = are_one AnyPath args a at (p, s)
good_args verb.Close args c (h, is, (a, at, s)) = are_one Handle args a at (h, s)
good_args verb.Read args c (h, n, l, is, (a, b, d, at, s, t, u)) = are_three Handle Place Length args a b d at (h, s) (n, t) (l, u.0)
good_args verb.Write args c (h, n, x, is, (a, b, d, at, s, t, u, few)) = are_three Handle Place Datum args a b d at (h, s) (n, t) (x, u)
good_args verb.Cut args c (h, n, is, (a, b, at, s, t)) = are_two Handle Place args a b at (h, s) (n, t)
good_args verb.Sync args c (is, s) = are_none args s
good_args verb.Bulkfree args c (is, s) = are_none args s
good_args verb.Snapshot args c (name, other, is, s) = are_two PfsName PfsName args name other s.0 s.1 s.2
good_args verb.PfsCreate args c (name, is, s) = are_one PfsName args name s.0 s.1
good_args verb.PfsDelete args c (name, is, s) = are_one PfsName args name s.0 s.1
good_args verb.PfsList args c (is, s) = are_none args s

no_late : (v : Verb) (args : List (List ℕ)) (c : Command) (why : LineFault) → Reads v args c → IsLateFault v args why → ⊥
no_late verb.Link args c why (p, q, is, s) late = no_two_pfss args why p q s late
no_late verb.Mv args c why (p, q, is, s) late = no_two_pfss args why p q s late
no_late verb.Read args c why (h, n, l, is, s) late = no_long_read args why h n l s late
no_late verb.Write args c why (h, n, x, is, s) late = no_long_write args why h n x s late
no_late verb.Mkdir args c why read late = late
no_late verb.Create args c why read late = late
no_late verb.Rm args c why read late = late
no_late verb.Rmdir args c why read late = late
no_late verb.Ls args c why read late = late
no_late verb.Stat args c why read late = late
no_late verb.Open args c why read late = late
no_late verb.Close args c why read late = late
no_late verb.Cut args c why read late = late
no_late verb.Sync args c why read late = late
no_late verb.Bulkfree args c why read late = late
no_late verb.Snapshot args c why read late = late
no_late verb.PfsCreate args c why read late = late
no_late verb.PfsDelete args c why read late = late
no_late verb.PfsList args c why read late = late

pub late_is_good : (v : Verb) (args : List (List ℕ)) (why : LineFault) → IsLateFault v args why → AreArguments (arguments_of v) args
late_is_good verb.Link args why (e, (a, b, p, q, is, s, t, differ)) = are_two EntryPath EntryPath args a b is (p, s) (q, t)
late_is_good verb.Mv args why (e, (a, b, p, q, is, s, t, differ)) = are_two EntryPath EntryPath args a b is (p, s) (q, t)
late_is_good verb.Read args why (e, (a, b, d, is, s, t, many)) = are_three Handle Place Length args a b d is s t (many.0, many.1)
late_is_good verb.Write args why (e, (a, b, d, is, s, t, many)) = are_three Handle Place Datum args a b d is s t (many.0, many.1)
late_is_good verb.Mkdir args why late = absurd late
late_is_good verb.Create args why late = absurd late
late_is_good verb.Rm args why late = absurd late
late_is_good verb.Rmdir args why late = absurd late
late_is_good verb.Ls args why late = absurd late
late_is_good verb.Stat args why late = absurd late
late_is_good verb.Open args why late = absurd late
late_is_good verb.Close args why late = absurd late
late_is_good verb.Cut args why late = absurd late
late_is_good verb.Sync args why late = absurd late
late_is_good verb.Bulkfree args why late = absurd late
late_is_good verb.Snapshot args why late = absurd late
late_is_good verb.PfsCreate args why late = absurd late
late_is_good verb.PfsDelete args why late = absurd late
late_is_good verb.PfsList args why late = absurd late

one_late : (v : Verb) (args : List (List ℕ)) (why other : LineFault) → IsLateFault v args why → IsLateFault v args other → why ≡ other
one_late verb.Mkdir args why other p q = absurd p
one_late verb.Create args why other p q = absurd p
one_late verb.Link args why other p q = p.0 ∙ sym q.0
one_late verb.Rm args why other p q = absurd p
one_late verb.Rmdir args why other p q = absurd p
one_late verb.Mv args why other p q = p.0 ∙ sym q.0
one_late verb.Ls args why other p q = absurd p
one_late verb.Stat args why other p q = absurd p
one_late verb.Open args why other p q = absurd p
one_late verb.Close args why other p q = absurd p
one_late verb.Read args why other p q = p.0 ∙ sym q.0
one_late verb.Write args why other p q = p.0 ∙ sym q.0
one_late verb.Cut args why other p q = absurd p
one_late verb.Sync args why other p q = absurd p
one_late verb.Bulkfree args why other p q = absurd p
one_late verb.Snapshot args why other p q = absurd p
one_late verb.PfsCreate args why other p q = absurd p
one_late verb.PfsDelete args why other p q = absurd p
one_late verb.PfsList args why other p q = absurd p

no_fault_of_arguments : (v : Verb) (args : List (List ℕ)) (c : Command) (why : LineFault) → Reads v args c → IsFaultOfArguments v args why → ⊥
no_fault_of_arguments v args c why read (inl bad) = no_fault_of_words (arguments_of v) args why (good_args v args c read) bad
no_fault_of_arguments v args c why read (inr late) = no_late v args c why read late

one_fault_of_arguments : (v : Verb) (args : List (List ℕ)) (why other : LineFault) → IsFaultOfArguments v args why → IsFaultOfArguments v args other → why ≡ other
one_fault_of_arguments v args why other (inl p) (inl q) = one_fault_of_words (arguments_of v) args why other p q
one_fault_of_arguments v args why other (inl p) (inr q) = absurd (no_fault_of_words (arguments_of v) args why (late_is_good v args other q) p)
one_fault_of_arguments v args why other (inr p) (inl q) = absurd (no_fault_of_words (arguments_of v) args other (late_is_good v args why p) q)
one_fault_of_arguments v args why other (inr p) (inr q) = one_late v args why other p q

same_words : (words : List (List ℕ)) (v w : Verb) (args others : List (List ℕ)) → words ≡ verb_word v ∷ args → words ≡ verb_word w ∷ others → (v ≡ w) × (args ≡ others)
same_words words v w args others is it =
    let first : verb_word v ≡ verb_word w = cc in
    let rest : args ≡ others = cc in
    (one_verb v w first, rest)

pub one_command : (words : List (List ℕ)) (c d : Command) → SpellsCommand words c → SpellsCommand words d → c ≡ d
one_command words c d (v, args, is, p) (w, others, it, q) =
    let same = same_words words w v others args it is in
    one_read v args c d (reads v args c p) (reads v args d (subst (λ u. IsCommand u args d) same.0 (subst (λ a. IsCommand w a d) same.1 q)))

pub no_fault_of_command : (words : List (List ℕ)) (c : Command) (why : LineFault) → SpellsCommand words c → IsFaultOfCommand words why → ⊥
no_fault_of_command words c why (v, args, is, p) (inl none) = none.0 v args is
no_fault_of_command words c why (v, args, is, p) (inr (w, others, it, bad)) =
    let same = same_words words w v others args it is in
    no_fault_of_arguments v args c why (reads v args c p) (subst (λ u. IsFaultOfArguments u args why) same.0 (subst (λ a. IsFaultOfArguments w a why) same.1 bad))

pub one_fault_of_command : (words : List (List ℕ)) (why other : LineFault) → IsFaultOfCommand words why → IsFaultOfCommand words other → why ≡ other
one_fault_of_command words why other (inl p) (inl q) = p.1 ∙ sym q.1
one_fault_of_command words why other (inl p) (inr (v, args, is, q)) = absurd (p.0 v args is)
one_fault_of_command words why other (inr (v, args, is, p)) (inl q) = absurd (q.0 v args is)
one_fault_of_command words why other (inr (v, args, is, p)) (inr (w, others, it, q)) =
    let same = same_words words w v others args it is in
    one_fault_of_arguments v args why other p (subst (λ u. IsFaultOfArguments u args other) same.0 (subst (λ a. IsFaultOfArguments w a other) same.1 q))
