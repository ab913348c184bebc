-- Bytes are one script at most, or have one first fault.
use Rattle.std.proofs.Common.{◌≡◌, ◌∙◌, ◌≤◌, ◌+◌, ℕ, List, [], ◌∷◌, ◌++◌, length, cond, refl, sym, ap, subst, inl, inr, arith}
use Rattle.std.specs.Prelude.{◌⊎◌}
use Rattle.std.specs.List.{sum_by}
use Rattle.std.proofs.lemmas.List.{length-append}
use Rattle.std.proofs.lemmas.List.Sums.{sum_by-append}
use Rattle.h2_command.specs.declared.command.Command.{Command}
use Rattle.h2_script.specs.declared.line.Line.{Line}
use Rattle.h2_script.specs.declared.line.Line.TheVariants.{Call}
use Rattle.h2_script.specs.declared.fault.LineFault.{LineFault}
use Rattle.h2_script.specs.declared.fault.LineFault.TheVariants.{TooLong}
use Rattle.h2_script.specs.declared.fault.ParseFault.TheVariants.{Script}
use Rattle.h2_script.specs.Lines.{lines_of, SpellsLine, IsFaultOfLine}
use Rattle.h2_command.specs.Commands.{is_bulkfree}
use Rattle.h2_script.specs.Scripts.{AreLines, AreFew, IsScript, IsOneTooMany, IsFirstFault, IsFaultOfScript, commands_of, phases_of, is_list, asked}
use Rattle.h2_script.proofs.OneLine.{one_line, no_fault_of_line, one_fault_of_line}
use Rattle.h2_script.proofs.Phases.{Phase, commands_more}

one_reading : (lines : List (List ℕ)) (a b : List Line) → AreLines lines a → AreLines lines b → a ≡ b
one_reading [] [] [] p q = refl
one_reading [] (l ∷ a) b p q = absurd p
one_reading [] [] (m ∷ b) p q = absurd q
one_reading (line ∷ lines) [] b p q = absurd p
one_reading (line ∷ lines) (l ∷ a) [] p q = absurd q
one_reading (line ∷ lines) (l ∷ a) (m ∷ b) p q = ap (λ x. x ∷ a) (one_line line l m p.0 q.0) ∙ ap (λ xs. m ∷ xs) (one_reading lines a b p.1 q.1)

pub one_script : (bytes : List ℕ) (p q : List Phase) → IsScript bytes p → IsScript bytes q → p ≡ q
one_script bytes p q a b = a.read.3 ∙ ap phases_of (one_reading (lines_of bytes) a.read.0 b.read.0 a.read.1 b.read.1) ∙ sym b.read.3

-- a front of commands that are few is few
front_count : {X : Type 0} (f : X → ℕ) (xs ys : List X) → sum_by f xs ≤ sum_by f (xs ++ ys)
front_count f xs ys = let all = sum_by-append f xs ys in omega arith

few_front : (xs ys : List Command) → AreFew (xs ++ ys) → AreFew xs
few_front xs ys few =
    let all = length-append xs ys in let n = few.few in
    let lists = front_count (λ c. cond (is_list c) 1 0) xs ys in let m = few.few_lists in
    let passes = front_count (λ c. cond (is_bulkfree c) 1 0) xs ys in let k = few.few_passes in
    let bytes = front_count asked xs ys in let l = few.few_bytes in
    record { few = omega arith; few_lists = omega arith; few_passes = omega arith; few_bytes = omega arith }

one_more_front : (x : Command) (xs ys : List Command) → (xs ++ x ∷ []) ++ ys ≡ xs ++ x ∷ ys
one_more_front x [] ys = refl
one_more_front x (y ∷ xs) ys = ap (λ zs. y ∷ zs) (one_more_front x xs ys)

-- what the lines up to one are, and that line
pub record AreUpTo (good : List (List ℕ)) (bad : List ℕ) (all : List Line) : Type 0 where
  pub before : List Line
  pub said : Line
  pub more : List Line
  pub all_is : all ≡ before ++ said ∷ more
  pub are : AreLines good before
  pub is : SpellsLine bad said

up_to : (good : List (List ℕ)) (bad : List ℕ) (after : List (List ℕ)) (all : List Line) → AreLines (good ++ bad ∷ after) all → AreUpTo good bad all
up_to [] bad after [] are = absurd are
up_to [] bad after (m ∷ all) are = record { before = []; said = m; more = all; all_is = refl; are = tt; is = are.0 }
up_to (line ∷ good) bad after [] are = absurd are
up_to (line ∷ good) bad after (m ∷ all) are =
    let rest = up_to good bad after all are.1 in
    record { before = m ∷ rest.before; said = rest.said; more = rest.more; all_is = ap (λ ls. m ∷ ls) rest.all_is; are = (are.0, rest.are); is = rest.is }

-- lines that are read and few have no first fault
no_first : (good after : List (List ℕ)) (bad : List ℕ) (before all : List Line) (why : LineFault) → AreLines good before → IsFaultOfLine bad why ⊎ (IsOneTooMany before bad × (why ≡ TooLong))
    → AreLines (good ++ bad ∷ after) all → AreFew (commands_of all) → ⊥
no_first good after bad before all why are (inl fault) told few =
    let up = up_to good bad after all told in no_fault_of_line bad up.said why up.is fault
no_first good after bad before all why are (inr (many, long)) told few =
    let up = up_to good bad after all told in
    let client = many.0 in
    let command = many.1 in
    let same : up.before ≡ before = one_reading good up.before before up.are are in
    let said : up.said ≡ Call client command = one_line bad up.said (Call client command) up.is many.2 in
    let here : all ≡ before ++ Call client command ∷ up.more = up.all_is ∙ ap (λ ls. ls ++ up.said ∷ up.more) same ∙ ap (λ l. before ++ l ∷ up.more) said in
    let commands : commands_of all ≡ (commands_of before ++ command ∷ []) ++ commands_of up.more = ap commands_of here ∙ commands_more before (Call client command ∷ up.more) ∙ sym (one_more_front command (commands_of before) (commands_of up.more)) in
    many.3 (few_front (commands_of before ++ command ∷ []) (commands_of up.more) (subst AreFew commands few))

no_first_fault : (lines : List (List ℕ)) (all : List Line) (number : ℕ) (why : LineFault) → AreLines lines all → AreFew (commands_of all) → IsFirstFault lines number why → ⊥
no_first_fault lines all number why are few (before, bad, first, is) =
    let stands = first.stands in
    no_first stands.0 stands.1 bad before all why stands.3 first.fault (subst (λ ls. AreLines ls all) stands.2 are) few

pub no_fault : (bytes : List ℕ) (p : List Phase) (number : ℕ) (why : LineFault) → IsScript bytes p → IsFaultOfScript bytes (Script number why) → ⊥
no_fault bytes p number why is (inl large) = let short = is.short in let long = large.0 in omega arith
no_fault bytes p number why is (inr fault) = no_first_fault (lines_of bytes) is.read.0 number why is.read.1 is.read.2 fault.1

-- where one of two lines of a list stands
pub data Placed (good other : List (List ℕ)) (bad worse : List ℕ) : Type 0 where
  Same : good ≡ other → bad ≡ worse → Placed good other bad worse
  Later : (mid : List (List ℕ)) → other ≡ good ++ bad ∷ mid → Placed good other bad worse
  Earlier : (mid : List (List ℕ)) → good ≡ other ++ worse ∷ mid → Placed good other bad worse

placed : (good other after left : List (List ℕ)) (bad worse : List ℕ) → good ++ bad ∷ after ≡ other ++ worse ∷ left → Placed good other bad worse
placed [] [] after left bad worse e = Same refl cc
placed [] (o ∷ other) after left bad worse e = let same : o ≡ bad = cc in Later other (ap (λ x. x ∷ other) same)
placed (g ∷ good) [] after left bad worse e = let same : g ≡ worse = cc in Earlier good (ap (λ x. x ∷ good) same)
placed (g ∷ good) (o ∷ other) after left bad worse e =
    let heads : g ≡ o = cc in
    let rest : good ++ bad ∷ after ≡ other ++ worse ∷ left = cc in
    elim (placed good other after left bad worse rest) [
      | Same same it ↦ Same (ap (λ x. x ∷ good) heads ∙ ap (λ xs. o ∷ xs) same) it
      | Later mid is ↦ Later mid (ap (λ x. x ∷ other) (sym heads) ∙ ap (λ xs. g ∷ xs) is)
      | Earlier mid is ↦ Earlier mid (ap (λ x. x ∷ good) heads ∙ ap (λ xs. o ∷ xs) is)
    ]

one_why : (bad : List ℕ) (before : List Line) (why other : LineFault) → AreFew (commands_of before) → IsFaultOfLine bad why ⊎ (IsOneTooMany before bad × (why ≡ TooLong)) → IsFaultOfLine bad other ⊎ (IsOneTooMany before bad × (other ≡ TooLong)) → why ≡ other
one_why bad before why other few (inl p) (inl q) = one_fault_of_line bad why other p q
one_why bad before why other few (inl p) (inr (many, long)) = absurd (no_fault_of_line bad (Call many.0 many.1) why many.2 p)
one_why bad before why other few (inr (many, long)) (inl q) = absurd (no_fault_of_line bad (Call many.0 many.1) other many.2 q)
one_why bad before why other few (inr (many, long)) (inr (more, large)) = long ∙ sym large

one_first : (lines : List (List ℕ)) (m n : ℕ) (why other : LineFault) → IsFirstFault lines m why → IsFirstFault lines n other → (m ≡ n) × (why ≡ other)
one_first lines m n why other (before, bad, p, is) (others, worse, q, it) =
    elim (placed p.stands.0 q.stands.0 p.stands.1 q.stands.1 bad worse (sym p.stands.2 ∙ q.stands.2)) [
      | Same same at ↦
          let read : before ≡ others = one_reading q.stands.0 before others (subst (λ g. AreLines g before) same p.stands.3) q.stands.3 in
          let fault : IsFaultOfLine worse why ⊎ (IsOneTooMany others worse × (why ≡ TooLong)) = subst (λ l. IsFaultOfLine l why ⊎ (IsOneTooMany others l × (why ≡ TooLong))) at (subst (λ ls. IsFaultOfLine bad why ⊎ (IsOneTooMany ls bad × (why ≡ TooLong))) read p.fault) in
          (is ∙ ap (λ ls. length ls + 1) read ∙ sym it, one_why worse others why other q.few fault q.fault)
      | Later mid there ↦ absurd (no_first p.stands.0 mid bad before others why p.stands.3 p.fault (subst (λ g. AreLines g others) there q.stands.3) q.few)
      | Earlier mid there ↦ absurd (no_first q.stands.0 mid worse others before other q.stands.3 q.fault (subst (λ g. AreLines g before) there p.stands.3) p.few)
    ]

pub one_fault : (bytes : List ℕ) (m n : ℕ) (why other : LineFault) → IsFaultOfScript bytes (Script m why) → IsFaultOfScript bytes (Script n other) → Script m why ≡ Script n other
one_fault bytes m n why other p q = let same = numbers p q in ap (λ k. Script k why) same.0 ∙ ap (Script n) same.1
  where
    numbers : IsFaultOfScript bytes (Script m why) → IsFaultOfScript bytes (Script n other) → (m ≡ n) × (why ≡ other)
    numbers (inl (large, at, long)) (inl (big, on, more)) = (at ∙ sym on, long ∙ sym more)
    numbers (inl (large, at, long)) (inr (short, fault)) = absurd (omega arith)
    numbers (inr (short, fault)) (inl (large, at, long)) = absurd (omega arith)
    numbers (inr (short, fault)) (inr (small, worse)) = one_first (lines_of bytes) m n why other fault worse
