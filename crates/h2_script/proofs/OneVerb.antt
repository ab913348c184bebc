-- The words of commands differ.
use Rattle.std.proofs.Common.{◌≡◌, ◌∙◌, ℕ, List, codes, cond, Bool, nat_eq, refl, sym, ap}
use Rattle.std.specs.Cmp.Lexicographic.{pointwise}
use Rattle.h2_script.specs.declared.verb.Verb.{Verb}
use Rattle.h2_script.specs.declared.verb.Verb.TheVariants.{Mkdir, Create, Link, Rm, Rmdir, Mv, Ls, Stat, Open, Close, Read, Write, Cut, Sync, Bulkfree, Snapshot, PfsCreate, PfsDelete, PfsList}
use Rattle.h2_script.specs.Verbs.{verb_word}

is : List ℕ → List ℕ → Bool
is word other = pointwise nat_eq word other

-- the command of a word, and pfs-list for a word that is no command's
verb_of : List ℕ → Verb
unfolding is
verb_of word =
    cond (is word (codes "mkdir")) Mkdir
    (cond (is word (codes "create")) Create
    (cond (is word (codes "link")) Link
    (cond (is word (codes "rm")) Rm
    (cond (is word (codes "rmdir")) Rmdir
    (cond (is word (codes "mv")) Mv
    (cond (is word (codes "ls")) Ls
    (cond (is word (codes "stat")) Stat
    (cond (is word (codes "open")) Open
    (cond (is word (codes "close")) Close
    (cond (is word (codes "read")) Read
    (cond (is word (codes "write")) Write
    (cond (is word (codes "cut")) Cut
    (cond (is word (codes "sync")) Sync
    (cond (is word (codes "bulkfree")) Bulkfree
    (cond (is word (codes "snapshot")) Snapshot
    (cond (is word (codes "pfs-create")) PfsCreate
    (cond (is word (codes "pfs-delete")) PfsDelete PfsList)))))))))))))))))

verb_of_word : (v : Verb) → verb_of (verb_word v) ≡ v
unfolding is verb_of
verb_of_word Mkdir = refl
verb_of_word Create = refl
verb_of_word Link = refl
verb_of_word Rm = refl
verb_of_word Rmdir = refl
verb_of_word Mv = refl
verb_of_word Ls = refl
verb_of_word Stat = refl
verb_of_word Open = refl
verb_of_word Close = refl
verb_of_word Read = refl
verb_of_word Write = refl
verb_of_word Cut = refl
verb_of_word Sync = refl
verb_of_word Bulkfree = refl
verb_of_word Snapshot = refl
verb_of_word PfsCreate = refl
verb_of_word PfsDelete = refl
verb_of_word PfsList = refl

pub one_verb : (v w : Verb) → verb_word v ≡ verb_word w → v ≡ w
one_verb v w e = sym (verb_of_word v) ∙ ap verb_of e ∙ verb_of_word w
