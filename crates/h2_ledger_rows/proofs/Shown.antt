-- What a run of a pass's moves shows of its last ledger.
use Rattle.std.proofs.Common.{◌≡◌, ◌≢◌, ◌⊎◌, ◌/◌, ℕ, List, arith, ap, ◌∙◌, inl, inr}
use Rattle.h2_num.specs.declared.block.Block.{Block}
use Rattle.h2_geom.specs.Geometry.{segment_of}
use Rattle.h2_codes.specs.Bulkfree.{seen_code, unseen_code}
use Rattle.h2_ledger.specs.Ledger.{Ledger, HasBlockIn}
use Rattle.h2_ledger.specs.Runs.{Run}
use Rattle.h2_ledger_rows.specs.Ledgers.{IsIn, old_tree, used_codes, opened}
use Rattle.h2_ledger_rows.specs.Passes.{pass_moves}

in_second : (c : ℕ) → segment_of c ≡ 1 → segment_of c ≢ 0
in_second c e f = let g : c / 256 ≡ 1 = e in let h : c / 256 ≡ 0 = f in absurd (omega arith)

live_only : (b : Block) (live pins : List Block) → (IsIn b pins → ⊥) → IsIn b live ⊎ IsIn b pins → IsIn b live
live_only b live pins none (inl i) = i
live_only b live pins none (inr i) = absurd (none i)

-- a chunk of the second segment was seen, and has a block of the tree; or wasn't, and has none that is still live
pub pass_shows : (y : Ledger (List Block)) → Run IsIn (pass_moves 2) opened y → (c : ℕ) → segment_of c ≡ 1
    → (HasBlockIn IsIn old_tree c × (y.code c ≡ seen_code (used_codes c))) ⊎ ((HasBlockIn IsIn y.live c → ⊥) × (y.code c ≡ unseen_code (used_codes c)))
pass_shows y (u1, v1, s1, m1, (u2, v2, s2, m2, (u3, v3, s3, m3, (u4, v4, s4, m4, (u5, v5, s5, m5, (u6, v6, s6, m6, last)))))) c e = split (m6.applied c e)
  where
    was : u6.code c ≡ used_codes c
    was =
        s6.codes.codes c ∙ m5.elsewhere c (in_second c e) ∙ s5.codes.codes c ∙ m4.only.codes.codes c ∙ s4.codes.codes c ∙ m3.codes.codes c
        ∙ s3.codes.codes c ∙ m2.freezes.codes.codes c ∙ s2.codes.codes c ∙ m1.only.codes.codes c ∙ s1.codes.codes c

    no_pin : (b : Block) → IsIn b u2.pins → ⊥
    no_pin b i = (s1.pins b).0 (m1.only.uses.pins b ((s2.pins b).0 i))

    -- what was marked is of the tree
    of_tree : (b : Block) → IsIn b u6.marked → IsIn b old_tree
    of_tree b i =
        (s1.live b).0 (m1.only.uses.live b ((s2.live b).0 (live_only b u2.live u2.pins (no_pin b) ((m2.marked b).0 ((s3.pass.marked b).0 ((m3.pass.marked b).0
        ((s4.pass.marked b).0 ((m4.marked b).0 ((s5.pass.marked b).0 ((m5.marked b).0 ((s6.pass.marked b).0 i)))))))))))

    -- what is live at the end was marked
    still_marked : (b : Block) → IsIn b y.live → IsIn b u6.marked
    still_marked b i =
        (s6.pass.marked b).1 ((m5.marked b).1 ((s5.pass.marked b).1 ((m4.marked b).1 ((s4.pass.marked b).1 ((m3.pass.marked b).1 ((s3.pass.marked b).1 ((m2.marked b).1 (inl
        (m2.freezes.uses.live b ((s3.live b).0 (m3.uses.live b ((s4.live b).0 (m4.only.uses.live b ((s5.live b).0 (m5.uses.live b ((s6.live b).0 (m6.uses.live b ((last.live b).0 i))))))))))))))))))

    split : (HasBlockIn IsIn u6.marked c × (v6.code c ≡ seen_code (u6.code c))) ⊎ ((HasBlockIn IsIn u6.marked c → ⊥) × (v6.code c ≡ unseen_code (u6.code c)))
        → (HasBlockIn IsIn old_tree c × (y.code c ≡ seen_code (used_codes c))) ⊎ ((HasBlockIn IsIn y.live c → ⊥) × (y.code c ≡ unseen_code (used_codes c)))
    split (inl (h, f)) = inl ((h.0, of_tree h.0 h.1, h.2), last.codes.codes c ∙ f ∙ ap seen_code was)
    split (inr (h, f)) = inr (λ k. h (k.0, still_marked k.0 k.1, k.2), last.codes.codes c ∙ f ∙ ap unseen_code was)
