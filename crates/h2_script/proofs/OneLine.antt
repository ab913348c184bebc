-- A line is one thing at most, or has one first fault.
use Rattle.std.proofs.Common.{◌≡◌, ◌∙◌, ◌+◌, ℕ, List, [], ◌∷◌, length, get_or, codes, eqb, refl, sym, ap, subst, inl, inr, arith}
use Rattle.std.specs.List.{onto_first, slice_split}
use Rattle.std.specs.Str.Lines.{strip_carriage_return}
use Rattle.h2_script.specs.declared.line.Line.{Line}
use Rattle.h2_script.specs.declared.line.Line.TheVariants.{Skipped, PhaseEnd, Call}
use Rattle.h2_script.specs.declared.fault.LineFault.{LineFault}
use Rattle.h2_script.specs.Lines.{IsSkipped, IsOfClient, SpellsText, SpellsLine, IsFaultOfText, IsFaultOfLine}
use Rattle.h2_script.specs.Commands.{SpellsCommand, IsFaultOfCommand}
use Rattle.h2_script.proofs.OneCommand.{one_command, no_fault_of_command, one_fault_of_command}

-- a client and words are seen
same_client : (text : List ℕ) (c d : ℕ) (words others : List (List ℕ)) → IsOfClient text c words → IsOfClient text d others → (c ≡ d) × (words ≡ others)
same_client text c d words others (digit, is, (low, e)) (other, it, (small, f)) =
    let digits : 48 + c ≡ 48 + d = cc in
    let rest : words ≡ others = cc in
    (omega arith, rest)

-- the first word begins with the byte that the text begins with
first_begins : (x : ℕ) (parts : List (List ℕ)) (word : List ℕ) (words : List (List ℕ)) → onto_first x parts ≡ word ∷ words → (rest : List ℕ) × (word ≡ x ∷ rest)
first_begins x [] word words e = ([], cc)
first_begins x (part ∷ parts) word words e = (part, cc)

comment_no_client : (rest : List ℕ) (client : ℕ) (words : List (List ℕ)) → IsOfClient (35 ∷ rest) client words → ⊥
comment_no_client rest client words (digit, is, (low, e)) =
    let begins = first_begins 35 (slice_split (λ b. eqb b 32) rest) digit words is in
    let tail = begins.0 in
    let heads : digit ≡ 35 ∷ tail = begins.1 in
    let same : 48 + client ≡ 35 = cc in
    omega arith

empty_no_client : (client : ℕ) (words : List (List ℕ)) → IsOfClient [] client words → ⊥
empty_no_client client words (digit, is, (low, e)) = let same : [] ≡ (48 + client) ∷ [] = cc in cc

skipped_no_client : (text : List ℕ) (client : ℕ) (words : List (List ℕ)) → IsSkipped text → IsOfClient text client words → ⊥
skipped_no_client text client words (inl none) of = empty_no_client client words (subst (λ t. IsOfClient t client words) none of)
skipped_no_client text client words (inr (rest, is)) of = comment_no_client rest client words (subst (λ t. IsOfClient t client words) is of)

dashes_no_client : (client : ℕ) (words : List (List ℕ)) → IsOfClient (codes "---") client words → ⊥
dashes_no_client client words (digit, at, (low, e)) =
    let same : codes "---" ≡ digit = cc in
    let long : length (codes "---") ≡ length digit = ap length same in
    let short : length digit ≡ 1 = ap length e in
    omega arith

end_no_client : (text : List ℕ) (client : ℕ) (words : List (List ℕ)) → text ≡ codes "---" → IsOfClient text client words → ⊥
end_no_client text client words is of = dashes_no_client client words (subst (λ t. IsOfClient t client words) is of)

skipped_no_end : (text : List ℕ) → IsSkipped text → text ≡ codes "---" → ⊥
skipped_no_end text (inl none) is = let same : [] ≡ codes "---" = sym none ∙ is in cc
skipped_no_end text (inr (rest, begins)) is = differ rest (sym begins ∙ is)
  where
    differ : (rest : List ℕ) → 35 ∷ rest ≡ codes "---" → ⊥
    differ rest e = let heads : get_or (35 ∷ rest) 0 0 ≡ get_or (codes "---") 0 0 = ap (λ l. get_or l 0 0) e in omega arith

one_text : (text : List ℕ) (l m : Line) → SpellsText text l → SpellsText text m → l ≡ m
one_text text Skipped Skipped p q = refl
one_text text Skipped PhaseEnd p q = absurd (skipped_no_end text p q)
one_text text Skipped (Call d other) p (words, of, spells) = absurd (skipped_no_client text d words p of)
one_text text PhaseEnd Skipped p q = absurd (skipped_no_end text q p)
one_text text PhaseEnd PhaseEnd p q = refl
one_text text PhaseEnd (Call d other) p (words, of, spells) = absurd (end_no_client text d words p of)
one_text text (Call c command) Skipped (words, of, spells) q = absurd (skipped_no_client text c words q of)
one_text text (Call c command) PhaseEnd (words, of, spells) q = absurd (end_no_client text c words q of)
one_text text (Call c command) (Call d other) (words, of, spells) (others, is_of, told) =
    let same = same_client text c d words others of is_of in
    let commands = one_command others command other (subst (λ w. SpellsCommand w command) same.1 spells) told in
    ap (λ n. Call n command) same.0 ∙ ap (Call d) commands

no_fault_of_text : (text : List ℕ) (l : Line) (why : LineFault) → SpellsText text l → IsFaultOfText text why → ⊥
no_fault_of_text text Skipped why p (inl none) = none.0.is_read p
no_fault_of_text text Skipped why p (inr (d, words, of, bad)) = skipped_no_client text d words p of
no_fault_of_text text PhaseEnd why p (inl none) = none.0.goes_on p
no_fault_of_text text PhaseEnd why p (inr (d, words, of, bad)) = end_no_client text d words p of
no_fault_of_text text (Call c command) why (words, of, spells) (inl none) = none.0.no_client c words of
no_fault_of_text text (Call c command) why (words, of, spells) (inr (d, others, is_of, bad)) =
    let same = same_client text c d words others of is_of in
    no_fault_of_command others command why (subst (λ w. SpellsCommand w command) same.1 spells) bad

one_fault_of_text : (text : List ℕ) (why other : LineFault) → IsFaultOfText text why → IsFaultOfText text other → why ≡ other
one_fault_of_text text why other (inl p) (inl q) = p.1 ∙ sym q.1
one_fault_of_text text why other (inl p) (inr (d, words, of, bad)) = absurd (p.0.no_client d words of)
one_fault_of_text text why other (inr (c, words, of, bad)) (inl q) = absurd (q.0.no_client c words of)
one_fault_of_text text why other (inr (c, words, of, bad)) (inr (d, others, is_of, worse)) =
    let same = same_client text c d words others of is_of in
    one_fault_of_command others why other (subst (λ w. IsFaultOfCommand w why) same.1 bad) worse

pub one_line : (line : List ℕ) (l m : Line) → SpellsLine line l → SpellsLine line m → l ≡ m
one_line line l m p q = one_text (strip_carriage_return line) l m p.1 q.1

pub no_fault_of_line : (line : List ℕ) (l : Line) (why : LineFault) → SpellsLine line l → IsFaultOfLine line why → ⊥
no_fault_of_line line l why p (inl bad) = bad.0 p.0
no_fault_of_line line l why p (inr bad) = no_fault_of_text (strip_carriage_return line) l why p.1 bad.1

pub one_fault_of_line : (line : List ℕ) (why other : LineFault) → IsFaultOfLine line why → IsFaultOfLine line other → why ≡ other
one_fault_of_line line why other (inl p) (inl q) = p.1 ∙ sym q.1
one_fault_of_line line why other (inl p) (inr q) = absurd (p.0 q.0)
one_fault_of_line line why other (inr p) (inl q) = absurd (q.0 p.0)
one_fault_of_line line why other (inr p) (inr q) = one_fault_of_text (strip_carriage_return line) why other p.1 q.1
