-- The fields of a reference, put over zeros.
use Rattle.std.proofs.Common.{◌≡◌, ◌≤◌, ℕ, ◌+◌, ◌-◌, refl, ◌∙◌, sym, ap, subst, arith, true}
use Rattle.std.specs.Prelude.{Option, Some, None, zero, suc, length}
use Rattle.std.proofs.lemmas.Bool.{cond-true, false≢true}
use Rattle.h2_num.specs.Places.{Places, places, number_at, SameOutside, ZeroIn, Puts, Lays}
use Rattle.h2_num.specs.PlaceLaws.{number_at-same, number_stays, byte_stays, outside_both}
use Rattle.h2_ref.specs.Methods.{check_value}
use Rattle.h2_ref.specs.Ref.{row, kind_number, method_number, check_len, area_len, fields_end, is_inline, inline_len, EntryFits, EntryBytes, NameBytes, RefBytes}
use Rattle.h2_ref.specs.Table.{row_of}
use Rattle.h2_ref.specs.declared.reference.Kind.{Kind}
use Rattle.h2_ref.specs.declared.reference.Kind.TheVariants.{Empty, Inode, Indirect, Content, Dirent, MapNode, MapLeaf}
use Rattle.h2_ref.specs.declared.reference.Check.{Check}
use Rattle.h2_ref.specs.declared.reference.Dirent.{Dirent as Entry}
use Rattle.h2_ref.specs.declared.reference.Ref.{Ref}
use Rattle.h2_ref.specs.declared.table.Span.{Span}
use Rattle.h2_ref.specs.declared.table.Row.{Row}

-- an entry whose name stands in it has no check
pub inline_unchecked : (k : Kind) (m : ℕ) → is_inline (row_of k m) ≡ true → m ≡ 0
inline_unchecked Empty m is = absurd (false≢true is)
inline_unchecked Inode m is = absurd (false≢true is)
inline_unchecked Indirect m is = absurd (false≢true is)
inline_unchecked Content m is = absurd (false≢true is)
inline_unchecked Dirent zero is = refl
inline_unchecked Dirent (suc m) is = absurd (false≢true is)
inline_unchecked MapNode m is = absurd (false≢true is)
inline_unchecked MapLeaf m is = absurd (false≢true is)

-- each row of a kind has the kind's number
pub row_numbered : (k : Kind) (m : ℕ) → (row_of k m).number ≡ kind_number k
row_numbered Empty m = refl
row_numbered Inode m = refl
row_numbered Indirect m = refl
row_numbered Content m = refl
row_numbered Dirent zero = refl
row_numbered Dirent (suc m) = refl
row_numbered MapNode m = refl
row_numbered MapLeaf m = refl

end_most : (d : Option Entry) → fields_end d ≤ 43
end_most None = omega arith
end_most (Some e) = omega arith

-- what the table says of an entry's name
pub name_fits : (w : Row) (names : Option Span) (d : Option Entry) (e : Entry) → EntryFits w names d → d ≡ Some e → (length e.name ≡ 64) × ZeroIn (inline_len w e.len) 64 (places e.name)
name_fits w names d e fits is = fitted names (subst (EntryFits w names) is fits)
  where
    fitted : (names : Option Span) → EntryFits w names (Some e) → (length e.name ≡ 64) × ZeroIn (inline_len w e.len) 64 (places e.name)
    fitted None h = absurd h
    fitted (Some s) h = (h.room, h.name_ends)

-- behind a name that stands in its entry there are zeros
pub name_tail : (w : Row) (e : Entry) (check : Check) (old new : Places) → is_inline w ≡ true → length e.name ≡ 64 → ZeroIn (inline_len w e.len) 64 (places e.name) → Lays 64 e.name old new
    → ZeroIn (64 + area_len w check (Some e)) 128 new
name_tail w e check old new is room ends lays k ge lt =
    let used : area_len w check (Some e) ≡ e.len = cond-true (is_inline w) e.len (check_len check) is in
    let len : inline_len w e.len ≡ e.len = cond-true (is_inline w) e.len 0 is in
    let at : 64 + (k - 64) ≡ k = omega arith in
    ap new (sym at) ∙ lays.inside (k - 64) (omega arith) ∙ ends (k - 64) (omega arith) (omega arith)

-- the fields of an entry after a write behind them or before them
entry_stays : (d : Option Entry) (a b : Places) → SameOutside 0 32 a b → EntryBytes d a → EntryBytes d b
entry_stays None a b same f = tt
entry_stays (Some e) a b same f = record {
  number = number_stays 32 8 0 32 a b same refl ∙ f.number;
  len = number_stays 40 2 0 32 a b same refl ∙ f.len;
  target = byte_stays 42 0 32 a b same refl ∙ f.target;
}

name_stays : (w : Row) (d : Option Entry) (a b : Places) → SameOutside 0 43 a b → NameBytes w d a → NameBytes w d b
name_stays w None a b same f = tt
name_stays w (Some e) a b same f = λ k short lt. same.after (64 + k) (omega arith) ∙ f k short lt

end_least : (d : Option Entry) → 32 ≤ fields_end d
end_least None = omega arith
end_least (Some e) = omega arith

-- a byte that is put
byte_put : (at v : ℕ) (old new : Places) → Puts at 1 v old new → new at ≡ v
byte_put at v old new p = let field = p.field in omega arith

-- the fields, put from left to right over zeros before the check area
pub fields_put : (r : Ref) (b0 b1 b2 b3 b4 b5 b6 b7 b8 : Places)
    → ZeroIn 0 64 b0 → number_at b0 64 (check_len r.check) ≡ check_value r.check → NameBytes (row r) r.dirent b0 → ZeroIn (64 + area_len (row r) r.check r.dirent) 128 b0
    → EntryBytes r.dirent b1 → SameOutside 32 (fields_end r.dirent - 32) b0 b1
    → Puts 0 1 (kind_number r.kind) b1 b2 → Puts 1 1 (method_number r.check) b2 b3 → Puts 2 1 r.keybits b3 b4 → Puts 3 1 (row r).flags.0 b4 b5
    → Puts 8 8 r.key b5 b6 → Puts 16 8 (r.place + r.radix) b6 b7 → Puts 24 8 r.id b7 b8
    → RefBytes r b8
fields_put r b0 b1 b2 b3 b4 b5 b6 b7 b8 zeros check name tail entry o1 p2 p3 p4 p5 p6 p7 p8 =
    let o7 : SameOutside 16 16 b6 b8 = outside_both 16 16 16 8 24 8 b6 b7 b8 (omega arith) (omega arith) (omega arith) (omega arith) p7.others p8.others in
    let o6 : SameOutside 8 24 b5 b8 = outside_both 8 24 8 8 16 16 b5 b6 b8 (omega arith) (omega arith) (omega arith) (omega arith) p6.others o7 in
    let o5 : SameOutside 3 29 b4 b8 = outside_both 3 29 3 1 8 24 b4 b5 b8 (omega arith) (omega arith) (omega arith) (omega arith) p5.others o6 in
    let o4 : SameOutside 2 30 b3 b8 = outside_both 2 30 2 1 3 29 b3 b4 b8 (omega arith) (omega arith) (omega arith) (omega arith) p4.others o5 in
    let o3 : SameOutside 1 31 b2 b8 = outside_both 1 31 1 1 2 30 b2 b3 b8 (omega arith) (omega arith) (omega arith) (omega arith) p3.others o4 in
    let o2 : SameOutside 0 32 b1 b8 = outside_both 0 32 0 1 1 31 b1 b2 b8 (omega arith) (omega arith) (omega arith) (omega arith) p2.others o3 in
    let u3 : SameOutside 0 2 b1 b3 = outside_both 0 2 0 1 1 1 b1 b2 b3 (omega arith) (omega arith) (omega arith) (omega arith) p2.others p3.others in
    let u4 : SameOutside 0 3 b1 b4 = outside_both 0 3 0 2 2 1 b1 b3 b4 (omega arith) (omega arith) (omega arith) (omega arith) u3 p4.others in
    let u5 : SameOutside 0 4 b1 b5 = outside_both 0 4 0 3 3 1 b1 b4 b5 (omega arith) (omega arith) (omega arith) (omega arith) u4 p5.others in
    let least = end_least r.dirent in
    let most = end_most r.dirent in
    let late : SameOutside 0 (fields_end r.dirent) b0 b8 = outside_both 0 (fields_end r.dirent) 32 (fields_end r.dirent - 32) 0 32 b0 b1 b8 (omega arith) (omega arith) (omega arith) (omega arith) o1 o2 in
    let wide : SameOutside 0 43 b0 b8 = record { before = λ k lt. absurd (omega arith); after = λ k le. late.after k (omega arith) } in
    record {
      fields = record {
        kind = byte_stays 0 1 31 b2 b8 o3 refl ∙ byte_put 0 (kind_number r.kind) b1 b2 p2;
        method = byte_stays 1 2 30 b3 b8 o4 refl ∙ byte_put 1 (method_number r.check) b2 b3 p3;
        keybits = byte_stays 2 3 29 b4 b8 o5 refl ∙ byte_put 2 r.keybits b3 b4 p4;
        flags = byte_stays 3 8 24 b5 b8 o6 refl ∙ byte_put 3 (row r).flags.0 b4 b5 p5;
        key = number_stays 8 8 16 16 b6 b8 o7 refl ∙ p6.field;
        place = number_stays 16 8 24 8 b7 b8 p8.others refl ∙ p7.field;
        id = p8.field;
        entry = entry_stays r.dirent b1 b8 o2 entry;
        name = name_stays (row r) r.dirent b0 b8 wide name;
        check = number_at-same b8 b0 64 64 (check_len r.check) (λ k lt. wide.after (64 + k) (omega arith)) ∙ check;
      };
      gaps = record {
        before_key = λ k ge lt. o6.before k lt ∙ u5.after k ge ∙ o1.before k (omega arith) ∙ zeros k (omega arith) (omega arith);
        before_area = λ k ge lt. late.after k (omega arith) ∙ zeros k (omega arith) lt;
        tail = λ k ge lt. wide.after k (omega arith) ∙ tail k ge lt;
      };
    }
