-- A history is legal where all its parts hold.
use Rattle.std.specs.Prelude.{◌≡◌, ◌↔◌, ℕ, List, Bool, true, false, ◌&&◌, IsTrue, refl}
use Rattle.h2_command.specs.declared.history.Item.{Item}
use Rattle.h2_forest.specs.declared.legality.Opening.{Opening}
use Rattle.h2_forest.specs.declared.legality.Legality.{Legality}
use Rattle.h2_forest.specs.Forest.{PlainForest}
use Rattle.h2_forest.specs.History.{Legal, RepliesAreRight, FaultsRise, CountsUp, NeverFalls, phase_of, moment_of, FlushesInOrder, ScansAreLate, PassesInOrder}
use Rattle.h2_forest.specs.Parts.{all_hold}
use Rattle.std.proofs.Common.{subst, sym}

first_of : (a b : Bool) → IsTrue (a && b) → IsTrue a
first_of true b h = refl
first_of false b h = h

second_of : (a b : Bool) → IsTrue (a && b) → IsTrue b
second_of true b h = h
second_of false b h = absurd (never h)
  where
    never : false ≡ true → ⊥
    never e = cc

both_of : (a b : Bool) → IsTrue a → IsTrue b → IsTrue (a && b)
both_of true b h g = g
both_of false b h g = h

pub record AreJudged (opening : Opening) (first : PlainForest) (h : List Item) (l : Legality) : Type 0 where
  pub replies_are : IsTrue l.replies ↔ RepliesAreRight first h
  pub faults_are : IsTrue l.faults ↔ FaultsRise h
  pub indices_are : IsTrue l.indices ↔ ((client : ℕ) → CountsUp client h)
  pub phases_are : IsTrue l.phases ↔ NeverFalls phase_of h
  pub flushes_are : IsTrue l.flushes ↔ FlushesInOrder opening.number h
  pub moments_are : IsTrue l.moments ↔ NeverFalls moment_of h
  pub scans_are : IsTrue l.scans ↔ ScansAreLate h
  pub passes_are : IsTrue l.passes ↔ PassesInOrder opening h

legal_by : (opening : Opening) (first : PlainForest) (h : List Item) (l : Legality) → AreJudged opening first h l → IsTrue (all_hold l) → Legal opening first h
legal_by opening first h l j a =
    let b = second_of _ _ a in let c = second_of _ _ b in let d = second_of _ _ c in let e = second_of _ _ d in let f = second_of _ _ e in let g = second_of _ _ f in
    record {
      replies = j.replies_are.0 (first_of _ _ a);
      faults = j.faults_are.0 (first_of _ _ b);
      indices = j.indices_are.0 (first_of _ _ c);
      phases = j.phases_are.0 (first_of _ _ d);
      flushes = j.flushes_are.0 (first_of _ _ e);
      moments = j.moments_are.0 (first_of _ _ f);
      scans = j.scans_are.0 (first_of _ _ g);
      passes = j.passes_are.0 (second_of _ _ g);
    }

parts_by : (opening : Opening) (first : PlainForest) (h : List Item) (l : Legality) → AreJudged opening first h l → Legal opening first h → IsTrue (all_hold l)
parts_by opening first h l j legal =
    both_of _ _ (j.replies_are.1 legal.replies) (both_of _ _ (j.faults_are.1 legal.faults) (both_of _ _ (j.indices_are.1 legal.indices) (both_of _ _ (j.phases_are.1 legal.phases)
    (both_of _ _ (j.flushes_are.1 legal.flushes) (both_of _ _ (j.moments_are.1 legal.moments) (both_of _ _ (j.scans_are.1 legal.scans) (j.passes_are.1 legal.passes)))))))

pub legal_decides : (opening : Opening) (first : PlainForest) (h : List Item) (l : Legality) (b : Bool) → AreJudged opening first h l → b ≡ all_hold l → IsTrue b ↔ Legal opening first h
legal_decides opening first h l b j is = (λ t. legal_by opening first h l j (subst IsTrue is t), λ legal. subst IsTrue (sym is) (parts_by opening first h l j legal))
