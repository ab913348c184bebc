-- One piece after another of known bytes is read or written.
use Rattle.std.proofs.Common.{◌≡◌, ℕ, ◌+◌, List, ◌++◌, take, drop, Option, Some, None, append_assoc, sym, ap, ◌∙◌, arith}
use Rattle.std.specs.Io.KnownBytes.{Keeps, Appends, Consumes}
use Rattle.std.proofs.lemmas.List.{take-append-drop, take-take, drop-take}

take_both : (done n : ℕ) (xs : List ℕ) → take (done + n) xs ≡ take done xs ++ take n (drop done xs)
take_both done n xs =
    sym (take-append-drop done (take (done + n) xs))
    ∙ ap (λ front. front ++ drop done (take (done + n) xs)) (take-take done (done + n) xs (omega arith))
    ∙ ap (λ rest. take done xs ++ rest) (drop-take done n xs)

pub appends-kept : (a b c : Option (List ℕ)) (bytes : List ℕ) → Appends a b bytes → Keeps b c → Appends a c bytes
appends-kept None b c bytes h k = tt
appends-kept (Some xs) None c bytes h k = absurd h
appends-kept (Some xs) (Some ys) None bytes h k = absurd k
appends-kept (Some xs) (Some ys) (Some zs) bytes h k = k ∙ h

pub appends-more : (a b c : Option (List ℕ)) (bytes : List ℕ) (done n : ℕ) → Appends a b (take done bytes) → Appends b c (take n (drop done bytes)) → Appends a c (take (done + n) bytes)
appends-more None b c bytes done n h k = tt
appends-more (Some xs) None c bytes done n h k = absurd h
appends-more (Some xs) (Some ys) None bytes done n h k = absurd k
appends-more (Some xs) (Some ys) (Some zs) bytes done n h k =
    k ∙ ap (λ front. front ++ take n (drop done bytes)) h ∙ append_assoc xs (take done bytes) (take n (drop done bytes)) ∙ ap (λ more. xs ++ more) (sym (take_both done n bytes))

pub consumes-kept : (a b c : Option (List ℕ)) (old new : List ℕ) (done : ℕ) → Consumes a b (take done old) → take done new ≡ take done old → Keeps b c → Consumes a c (take done new)
consumes-kept None b c old new done h same k = tt
consumes-kept (Some xs) None c old new done h same k = absurd h
consumes-kept (Some xs) (Some ys) None old new done h same k = absurd k
consumes-kept (Some xs) (Some ys) (Some zs) old new done h same k = h ∙ ap (λ rest. take done old ++ rest) (sym k) ∙ ap (λ front. front ++ zs) (sym same)

pub consumes-more : (a b c : Option (List ℕ)) (old new : List ℕ) (done n : ℕ) → Consumes a b (take done old) → take done new ≡ take done old → Consumes b c (take n (drop done new)) → Consumes a c (take (done + n) new)
consumes-more None b c old new done n h same k = tt
consumes-more (Some xs) None c old new done n h same k = absurd h
consumes-more (Some xs) (Some ys) None old new done n h same k = absurd k
consumes-more (Some xs) (Some ys) (Some zs) old new done n h same k =
    h ∙ ap (λ rest. take done old ++ rest) k ∙ ap (λ front. front ++ (take n (drop done new) ++ zs)) (sym same)
    ∙ sym (append_assoc (take done new) (take n (drop done new)) zs) ∙ ap (λ front. front ++ zs) (sym (take_both done n new))
