-- A text that is put piece by piece.
use Rattle.std.proofs.Common.{◌≡◌, ℕ, ◌+◌, ◌-◌, List, ◌++◌, length, take, drop, sym, ap, ◌∙◌, append_assoc, arith}
use Rattle.std.proofs.lemmas.List.{take_all, length-drop}
use Rattle.std.proofs.Math.Seq.{take-add}

-- one more piece was taken
pub grown : (start so_far now text : List ℕ) (done n : ℕ) → so_far ≡ start ++ take done text
    → now ≡ so_far ++ take n (take (length text - done) (drop done text)) → now ≡ start ++ take (done + n) text
grown start so_far now text done n before e =
    let whole : take (length text - done) (drop done text) ≡ drop done text = take_all (length text - done) (drop done text) (omega (arith, length-drop done text)) in
    e ∙ ap (λ (l : List ℕ). so_far ++ take n l) whole ∙ ap (λ (l : List ℕ). l ++ take n (drop done text)) before
    ∙ append_assoc start (take done text) (take n (drop done text)) ∙ ap (λ (l : List ℕ). start ++ l) (sym (take-add done n text))
