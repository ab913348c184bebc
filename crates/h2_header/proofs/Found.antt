-- What a block is found to be.
use Rattle.std.proofs.Common.{◌≡◌, ◌≢◌, ◌≤◌, ◌^◌, ◌↔◌, ℕ, Bool, false, sym, ap, ◌∙◌, subst}
use Rattle.std.specs.Prelude.{IsTrue}
use Rattle.std.proofs.lemmas.Bool.{both_ways}
use Rattle.h2_num.specs.Places.{Places, number_at, from_place, ZeroIn}
use Rattle.h2_header.specs.declared.header.Header.{Header}
use Rattle.h2_header.specs.declared.fault.HeadFault.TheVariants.{Magic, Version, Check}
use Rattle.h2_geom.specs.Places.{turn_of}
use Rattle.h2_header.specs.Map.{IsMap}
use Rattle.h2_header.specs.Header.{IsRoot, IsHeaderAt}
use Rattle.h2_header.specs.FaultLaws.{HasNumbers}
use Rattle.h2_ref.specs.Set.{RefsBytes}
use Rattle.h2_header.specs.Reading.{HasFields}
use Rattle.h2_header.specs.Fault.{HasMagic, IsHeadFault, bad_magic, bad_version, bad_check, stored_check, computed_check}

pub no_magic : (slot : ℕ) (b : Places) (t : Bool) → (IsTrue t ↔ HasMagic b) → t ≡ false → IsHeadFault slot b Magic
no_magic slot b t test missing = bad_magic (λ magic. both_ways t missing (test.1 magic))

pub other_version : (slot : ℕ) (b : Places) (version : ℕ) → HasMagic b → version ≡ number_at b 8 4 → version ≢ 1 → IsHeadFault slot b (Version version)
other_version slot b version magic is other = subst (λ v. IsHeadFault slot b (Version v)) (sym is) (bad_version magic (λ e. other (is ∙ e)))

pub other_check : (slot : ℕ) (b : Places) (want found : ℕ) → HasMagic b → number_at b 8 4 ≡ 1 → want ≡ stored_check b → found ≡ computed_check b → want ≢ found → IsHeadFault slot b (Check want found)
other_check slot b want found magic version want_is found_is other =
    subst (λ w. IsHeadFault slot b (Check w found)) (sym want_is) (subst (λ f. IsHeadFault slot b (Check (stored_check b) f)) (sym found_is)
    (bad_check magic version (λ e. other (want_is ∙ e ∙ sym found_is))))

pub header_found : (slot : ℕ) (b : Places) (h : Header) → HasMagic b → number_at b 8 4 ≡ 1 → stored_check b ≡ computed_check b → HasFields slot b h → IsHeaderAt slot b h
header_found slot b h magic version check f = record {
  valid = f.valid;
  spelled = record { frame = record { magic = magic; version = version; gap = f.gap; tail = f.tail; check = check }; values = f.values };
  in_turn = f.in_turn;
}

-- all fields were found right
pub fields_found : (slot : ℕ) (b : Places) (h : Header) → HasNumbers slot b → ZeroIn 40 512 b → ZeroIn 2048 65532 b
    → h.zones ≡ number_at b 12 4 → h.number ≡ number_at b 16 8 → h.map_number ≡ number_at b 24 8 → h.next_pfs ≡ number_at b 32 8
    → IsRoot h.root → RefsBytes h.root (from_place b 512) → IsMap h.zones h.map_number h.map → RefsBytes h.map (from_place b 1024) → HasFields slot b h
fields_found slot b h n gap tail z m k p root root_bytes map map_bytes =
    let zones = n.zones in
    let low = zones.0 in
    let high = zones.1 in
    record {
      valid = record {
        ranges = record {
          zones_low = subst (λ x. 4 ≤ x) (sym z) low;
          zones_high = subst (λ x. x ≤ 512) (sym z) high;
          number_low = subst (λ x. 1 ≤ x) (sym m) n.number.low;
          number_high = subst (λ x. x ≤ 2 ^ 62) (sym m) n.number.high;
          map_number = k ∙ n.map_number ∙ sym m;
          next_low = subst (λ x. 2 ≤ x) (sym p) n.next_pfs.low;
          next_high = subst (λ x. x ≤ 2 ^ 62) (sym p) n.next_pfs.high;
        };
        root = root;
        map = map;
      };
      values = record { numbers = record { zones = sym z; number = sym m; map_number = sym k; next_pfs = sym p }; root = root_bytes; map = map_bytes };
      gap = gap;
      tail = tail;
      in_turn = ap turn_of m ∙ n.number.in_turn;
    }
