use Rattle.std.proofs.Common.{◌≡◌, ◌<◌, ℕ, zero, suc, ◌+◌, [], ◌∷◌, arith, sym, ap, ◌∙◌, refl}
use Rattle.h2_num.specs.Places.{SameBelow, places}
use Rattle.h2_geom.specs.Places.{header_bytes}
use Rattle.h2_checkpoint.specs.Format.{IsLawful, by_root}
use Rattle.h2_checkpoint.specs.Toy.{toy}
use Rattle.h2_crash_rows.specs.Cuts.{zeros}
use Rattle.h2_crash_rows.specs.Formats.{leading_past_end}
use Rattle.h2_crash_rows.proofs.mounts.worked_format_law.Goals as goal

toy_lawful : IsLawful toy
toy_lawful = record {
  child_local = λ r s a b same child. ap (λ (z : ℕ). header_bytes + z) (same 0 (omega arith)) ∙ child;
  header_local = λ s h a b same at. record { number_is = same 0 (omega arith) ∙ at.number_is; place_is = ap (λ (z : ℕ). header_bytes + z) (same 1 (omega arith)) ∙ at.place_is; slot_is = at.slot_is; counts = at.counts };
  one_number = λ s g h b at here. sym at.number_is ∙ here.number_is;
  header_counts = λ s h b at. at.counts;
  stands_local = λ h forest a b same stands. same h.place (h.place, by_root h.place (0, omega arith, refl), (omega arith, omega arith)) ∙ stands;
}

-- zeros, and a block with 1 behind it, have the same first byte
same_first : SameBelow 1 zeros (places (0 ∷ 1 ∷ []))
same_first zero lt = refl
same_first (suc k) lt = absurd (let high : suc k < 1 = lt in omega arith)

not_local : IsLawful leading_past_end → ⊥
not_local lawful =
    let e : ◌≡◌ {A = ℕ} 65537 65536 = lawful.child_local 0 65536 zeros (places (0 ∷ 1 ∷ [])) same_first refl in
    absurd (omega arith)

pub returns : goal.returns
returns c = record { lawful = toy_lawful; not_local = not_local }
