-- Known bytes over several writes.
use Rattle.std.proofs.Common.{List, ℕ, ◌++◌, [], ap, ◌∙◌, refl}
use Rattle.std.specs.Prelude.{Option, Some, None}
use Rattle.std.proofs.lemmas.List.{append-nil}
use Rattle.std.specs.Io.KnownBytes.{Keeps, Appends}

pub keeps_none : (a : Option (List ℕ)) → Keeps a a
keeps_none None = tt
keeps_none (Some xs) = refl

pub keeps_more : (a b c : Option (List ℕ)) → Keeps a b → Keeps b c → Keeps a c
keeps_more None b c h k = tt
keeps_more (Some xs) None c h k = absurd h
keeps_more (Some xs) (Some ys) None h k = absurd k
keeps_more (Some xs) (Some ys) (Some zs) h k = k ∙ h

pub appends_then : (a b c : Option (List ℕ)) (bs : List ℕ) → Keeps a b → Appends b c bs → Appends a c bs
appends_then None b c bs h k = tt
appends_then (Some xs) None c bs h k = absurd h
appends_then (Some xs) (Some ys) None bs h k = absurd k
appends_then (Some xs) (Some ys) (Some zs) bs h k = k ∙ ap (λ (l : List ℕ). l ++ bs) h

pub appends_nothing : (a b : Option (List ℕ)) → Appends a b [] → Keeps a b
appends_nothing None b h = tt
appends_nothing (Some xs) None h = absurd h
appends_nothing (Some xs) (Some ys) h = h ∙ append-nil xs
