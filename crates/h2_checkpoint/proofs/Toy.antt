-- The small format is lawful.
use Rattle.std.proofs.Common.{ℕ, ◌+◌, refl, sym, ap, ◌∙◌, arith}
use Rattle.h2_geom.specs.Places.{header_bytes}
use Rattle.h2_checkpoint.specs.Format.{IsLawful, by_root}
use Rattle.h2_checkpoint.specs.Toy.{toy}

pub toy_lawful : IsLawful toy
toy_lawful = record {
  child_local = λ r s a b same child. ap (λ (z : ℕ). header_bytes + z) (same 0 (omega arith)) ∙ child;
  header_local = λ s h a b same at. record { number_is = same 0 (omega arith) ∙ at.number_is; place_is = ap (λ (z : ℕ). header_bytes + z) (same 1 (omega arith)) ∙ at.place_is; slot_is = at.slot_is; counts = at.counts };
  one_number = λ s g h b at here. sym at.number_is ∙ here.number_is;
  header_counts = λ s h b at. at.counts;
  stands_local = λ h forest a b same stands. same h.place (h.place, by_root h.place (0, omega arith, refl), (omega arith, omega arith)) ∙ stands;
}
