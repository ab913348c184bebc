-- The leaves of a tree after a change of one node.
use Rattle.std.proofs.Common.{◌≡◌, ℕ, ◌+◌, ◌-◌, ◌*◌, ◌/◌, ◌%◌, ◌<◌, ◌≤◌, ◌^◌, Bool, true, false, arith, refl, cond, sym, ◌∙◌, ap, List, [], ◌∷◌, ◌++◌, Some, subst, ◌⊎◌, inl, inr, slice_get, slice_set, suc, zero, nat_lt}
use Rattle.std.proofs.lemmas.Bool.Decides.{nat_tests}
use Rattle.std.proofs.lemmas.Bool.{cases_lt}
use Rattle.std.proofs.lemmas.Nat.{pow_pos, div-add-mod', mod-pow-add}
use Rattle.std.proofs.Math.Nat.{mul-le-mul_left, mul-mod_left, mod_self}
use Rattle.std.proofs.lemmas.Option.{none-some}
use Rattle.h2_ref.specs.declared.reference.Ref.{Ref}
use Rattle.h2_set.specs.Ranges.{leads_on, Rising, limit, holds, put, Apart, IsApart, IsAligned, is_indirect}
use Rattle.h2_set.specs.RefSet.{RefSet}
use Rattle.h2_set.specs.Forest.{loaded, told, Forest, refs, HasLeaves, done, one, near, far, LeavesOf, KeepsLeaves, IsSound}
use Rattle.h2_set.specs.Calls.{Alike, Stays, Keeps, Same}
use Rattle.h2_set.specs.StayLaws.{Alike-refl, Alike-trans, InPlace-refl, InPlace-trans, leaves_stay}
use Rattle.h2_set.specs.LeafLaws.{Rising-le, Rising-append, leaves_rising, holds_inside, holds_outside, place_above}
use Rattle.h2_set.specs.EditLaws.{before_apart, behind_apart, apart_tail}

pub Keeps-Stays : (f g : Forest) (m : ℕ) → Keeps f g m → Stays f g m
Keeps-Stays f g m k = record { place = k.place; alike = k.alike; near = λ j c e. k.link j ∙ e; far = λ j l e. inl (k.link j ∙ e) }

pub Keeps-refl : (f : Forest) (m : ℕ) → f.stands m ≡ true → Keeps f f m
Keeps-refl f m s = record { place = InPlace-refl f m s; alike = Alike-refl (refs f m); link = λ k. refl }

pub Keeps-trans : (f g h : Forest) (m : ℕ) → Keeps f g m → Keeps g h m → Keeps f h m
Keeps-trans f g h m a b = record { place = InPlace-trans f g h m a.place b.place; alike = Alike-trans _ _ _ a.alike b.alike; link = λ k. b.link k ∙ a.link k }

pub Same-Keeps : (f g : Forest) (m : ℕ) → Same f g m → Keeps f g m
Same-Keeps f g m k = record { place = k.place; alike = subst (Alike (refs f m)) (ap (λ (s : RefSet). s.refs) (sym k.set)) (Alike-refl (refs f m)); link = k.link }

-- where every node of the tree but one keeps, the leaves below that one do
pub below_keeps : (f g : Forest) (at : ℕ) → IsSound f → ((m : ℕ) → f.stands m ≡ true → f.root m ≡ f.root at → (m ≡ at → ⊥) → Keeps f g m) → (c : ℕ) → f.stands c ≡ true → f.root c ≡ f.root at → f.bits c < f.bits at → KeepsLeaves f g c
below_keeps f g at sound keeps c stands root fewer l h =
    let P : ℕ → Type 0 = λ m. (f.stands m ≡ true) × (f.root m ≡ f.root at) × (f.bits m < f.bits at) in
    let apart : (m : ℕ) → f.bits m < f.bits at → m ≡ at → ⊥ = λ m less e. let same = ap f.bits e in omega (arith, less, same) in
    let stay : (m : ℕ) → P m → Stays f g m = λ m p. Keeps-Stays f g m (keeps m p.0 p.1 (apart m p.2)) in
    let closed : (m k c : ℕ) → P m → f.link m k ≡ loaded c → P c = λ m k c p link. let child = (sound.node m p.0).child k c link in (child.stands, child.root ∙ p.1, omega (arith, child.fewer, p.2)) in
    leaves_stay f g P closed stay (stands, root, fewer) h (refs g c) (stay c (stands, root, fewer)).alike

same_range : (q r : Ref) (l : List Ref) → q.key ≡ r.key → q.keybits ≡ r.keybits → Rising r.key (limit r) l → Rising q.key (limit q) l
same_range q r l key bits h = rw (key, bits) h

-- the same references in a node with the same below it
pub leaves_move : {f g : Forest} {at at' : ℕ} {rs l : List Ref} → HasLeaves f at rs l → (qs : List Ref) → Alike rs qs → ((i : ℕ) (r : Ref) → slice_get rs i ≡ Some r → is_indirect r ≡ true → g.link at' r.key ≡ f.link at r.key) → ((i c : ℕ) (r : Ref) → slice_get rs i ≡ Some r → is_indirect r ≡ true → f.link at r.key ≡ loaded c → KeepsLeaves f g c) → HasLeaves g at' qs l
leaves_move done [] a link keep = done
leaves_move done (q ∷ qs) a link keep = absurd a
leaves_move (one leaf rest) [] a link keep = absurd a
leaves_move {g = g} {at' = at'} (one {r = r} {l = l} leaf rest) (q ∷ qs) a link keep =
    let tail : HasLeaves g at' qs l = leaves_move rest qs a.1 (λ i x read. link (suc i) x read) (λ i c x read. keep (suc i) c x read) in
    rw (a.0.leaf leaf) (one leaf tail)
leaves_move (near ind link' kids inside rest) [] a link keep = absurd a
leaves_move {g = g} {at' = at'} (near {c = c} {r = r} {below = b} {l = l} ind link' kids inside rest) (q ∷ qs) a link keep =
    let tail : HasLeaves g at' qs l = leaves_move rest qs a.1 (λ i x read. link (suc i) x read) (λ i c x read. keep (suc i) c x read) in
    let link'' : g.link at' q.key ≡ loaded c = rw a.0.key (link 0 r refl ind ∙ link') in
    near (ap leads_on a.0.kind ∙ ind) link'' (keep 0 c r refl ind link' b kids) (same_range q r b a.0.key a.0.keybits inside) tail
leaves_move (far ind link' inside rest) [] a link keep = absurd a
leaves_move {g = g} {at' = at'} (far {r = r} {below = b} {l = l} ind link' inside rest) (q ∷ qs) a link keep =
    let tail : HasLeaves g at' qs l = leaves_move rest qs a.1 (λ i x read. link (suc i) x read) (λ i c x read. keep (suc i) c x read) in
    let link'' : g.link at' q.key ≡ told b = rw a.0.key (link 0 r refl ind ∙ link') in
    far (ap leads_on a.0.kind ∙ ind) link'' (same_range q r b a.0.key a.0.keybits inside) tail

-- a new leaf below all others
pub put_below : (leaf : Ref) (low high : ℕ) (l : List Ref) → Rising low high l → leaf.key < low → put leaf l ≡ leaf ∷ l
put_below leaf low high [] h lt = refl
put_below leaf low high (r ∷ l) h lt = let e : nat_lt leaf.key r.key ≡ true = grind (arith, nat_tests, h.0) in rw e refl

pub put-append_left : (leaf : Ref) (low high : ℕ) (xs ys : List Ref) → Rising low high ys → leaf.key < low → put leaf (xs ++ ys) ≡ put leaf xs ++ ys
put-append_left leaf low high [] ys h lt = put_below leaf low high ys h lt
put-append_left leaf low high (x ∷ xs) ys h lt = step (nat_lt leaf.key x.key) (nat_lt x.key leaf.key) (put-append_left leaf low high xs ys h lt)
  where
    step : (b d : Bool) → put leaf (xs ++ ys) ≡ put leaf xs ++ ys → cond b (leaf ∷ (x ∷ (xs ++ ys))) (cond d (x ∷ put leaf (xs ++ ys)) (leaf ∷ (xs ++ ys))) ≡ cond b (leaf ∷ (x ∷ xs)) (cond d (x ∷ put leaf xs) (leaf ∷ xs)) ++ ys
    step true d ih = refl
    step false true ih = ap (λ (l : List Ref). x ∷ l) ih
    step false false ih = refl

pub put-append_right : (leaf : Ref) (low mid : ℕ) (xs ys : List Ref) → Rising low mid xs → mid ≤ leaf.key → put leaf (xs ++ ys) ≡ xs ++ put leaf ys
put-append_right leaf low mid [] ys h le = refl
put-append_right leaf low mid (x ∷ xs) ys h le =
    let top = Rising-le (limit x) mid xs h.1 in
    let pos = pow_pos x.keybits in
    let lt : x.key < leaf.key = omega (arith, top, pos, le) in
    let e : nat_lt leaf.key x.key ≡ false = grind (arith, nat_tests) in
    let d : nat_lt x.key leaf.key ≡ true = grind (arith, nat_tests) in
    rw (e, d) (ap (λ (l : List Ref). x ∷ l) (put-append_right leaf (limit x) mid xs ys h.1 le))

-- a leaf among the references is one among the leaves
pub leaves_put : {f : Forest} {at : ℕ} {rs l : List Ref} (leaf : Ref) → HasLeaves f at rs l → (low high : ℕ) → Rising low high rs → IsApart leaf rs → is_indirect leaf ≡ false → HasLeaves f at (put leaf rs) (put leaf l)
leaves_put leaf done low high h a k = one k done
leaves_put {f} {at} leaf (one {r = r} {rs = rs} {l = l} k' rest) low high h a k = elim (a 0 r refl) as (λ _. HasLeaves f at (put leaf (r ∷ rs)) (put leaf (r ∷ l))) [
  | inl lower ↦ rw (before_apart leaf r lower) (one k (one k' rest))
  | inr upper ↦ let e = behind_apart leaf r upper in rw (e.0, e.1) (one k' (leaves_put leaf rest (limit r) high h.1 (apart_tail leaf r rs a) k))
]
leaves_put {f} {at} leaf (near {r = r} {rs = rs} {below = b} {l = l} ind link kids inside rest) low high h a k = elim (a 0 r refl) as (λ _. HasLeaves f at (put leaf (r ∷ rs)) (put leaf (b ++ l))) [
  | inl lower ↦
      let pos = pow_pos leaf.keybits in
      let all = Rising-append r.key (limit r) high b l inside (leaves_rising rest (limit r) high h.1) in
      rw (before_apart leaf r lower, put_below leaf r.key high (b ++ l) all (omega (arith, lower, pos))) (one k (near ind link kids inside rest))
  | inr upper ↦
      let e = behind_apart leaf r upper in
      rw (e.0, e.1, put-append_right leaf r.key (limit r) b l inside upper) (near ind link kids inside (leaves_put leaf rest (limit r) high h.1 (apart_tail leaf r rs a) k))
]
leaves_put {f} {at} leaf (far {r = r} {rs = rs} {below = b} {l = l} ind link inside rest) low high h a k = elim (a 0 r refl) as (λ _. HasLeaves f at (put leaf (r ∷ rs)) (put leaf (b ++ l))) [
  | inl lower ↦
      let pos = pow_pos leaf.keybits in
      let all = Rising-append r.key (limit r) high b l inside (leaves_rising rest (limit r) high h.1) in
      rw (before_apart leaf r lower, put_below leaf r.key high (b ++ l) all (omega (arith, lower, pos))) (one k (far ind link inside rest))
  | inr upper ↦
      let e = behind_apart leaf r upper in
      rw (e.0, e.1, put-append_right leaf r.key (limit r) b l inside upper) (far ind link inside (leaves_put leaf rest (limit r) high h.1 (apart_tail leaf r rs a) k))
]

-- where the key of a leaf goes past a reference that lies before place i
past : (leaf r : Ref) (low high : ℕ) (rs : List Ref) (i : ℕ) (q : Ref) → Rising low high (r ∷ rs) → slice_get rs i ≡ Some q → q.key ≤ leaf.key → limit r ≤ leaf.key
past leaf r low high rs i q h read le = let above = place_above (limit r) high rs i q h.1 read in omega (arith, above, le)

-- a leaf in place of one with its range
pub leaves_swap : {f : Forest} {at : ℕ} {rs l : List Ref} (leaf : Ref) (i : ℕ) (q : Ref) → HasLeaves f at rs l → (low high : ℕ) → Rising low high rs → slice_get rs i ≡ Some q → is_indirect q ≡ false → q.key ≡ leaf.key → is_indirect leaf ≡ false → HasLeaves f at (slice_set rs i leaf) (put leaf l)
leaves_swap leaf i q done low high h read kind key k = absurd (none-some q read)
leaves_swap leaf zero q (one {r = r} {l = l} k' rest) low high h read kind key k =
    let same : r ≡ q = (cc) in
    let at_key : r.key ≡ leaf.key = ap (λ (x : Ref). x.key) same ∙ key in
    let e : nat_lt leaf.key r.key ≡ false = grind (arith, nat_tests) in
    let d : nat_lt r.key leaf.key ≡ false = grind (arith, nat_tests) in
    rw (e, d) (one k rest)
leaves_swap leaf (suc i) q (one {r = r} {rs = rs} {l = l} k' rest) low high h read kind key k =
    let e = behind_apart leaf r (past leaf r low high rs i q h read (omega (arith, key))) in
    rw (e.0, e.1) (one k' (leaves_swap leaf i q rest (limit r) high h.1 read kind key k))
leaves_swap leaf zero q (near {r = r} ind link kids inside rest) low high h read kind key k = let same : r ≡ q = (cc) in let clash : true ≡ false = sym ind ∙ ap (λ (x : Ref). is_indirect x) same ∙ kind in cc
leaves_swap leaf (suc i) q (near {r = r} {rs = rs} {below = b} {l = l} ind link kids inside rest) low high h read kind key k =
    rw (put-append_right leaf r.key (limit r) b l inside (past leaf r low high rs i q h read (omega (arith, key)))) (near ind link kids inside (leaves_swap leaf i q rest (limit r) high h.1 read kind key k))
leaves_swap leaf zero q (far {r = r} ind link inside rest) low high h read kind key k = let same : r ≡ q = (cc) in let clash : true ≡ false = sym ind ∙ ap (λ (x : Ref). is_indirect x) same ∙ kind in cc
leaves_swap leaf (suc i) q (far {r = r} {rs = rs} {below = b} {l = l} ind link inside rest) low high h read kind key k =
    rw (put-append_right leaf r.key (limit r) b l inside (past leaf r low high rs i q h read (omega (arith, key)))) (far ind link inside (leaves_swap leaf i q rest (limit r) high h.1 read kind key k))

-- the key goes past a reference that ends before one whose range holds it
past_key : (key : ℕ) (r : Ref) (low high : ℕ) (rs : List Ref) (i : ℕ) (q : Ref) → Rising low high (r ∷ rs) → slice_get rs i ≡ Some q → q.key ≤ key → limit r ≤ key
past_key key r low high rs i q h read le = let above = place_above (limit r) high rs i q h.1 read in omega (arith, above, le)

-- one change at a key of the leaves below one of the references
module _ (F : List Ref → List Ref) (key : ℕ) (left : (low high : ℕ) (xs ys : List Ref) → Rising low high ys → key < low → F (xs ++ ys) ≡ F xs ++ ys) (right : (low mid : ℕ) (xs ys : List Ref) → Rising low mid xs → mid ≤ key → F (xs ++ ys) ≡ xs ++ F ys) where
  -- a change at one key passes a reference that ends before it
  pass_one : (r : Ref) (l : List Ref) → limit r ≤ key → F (r ∷ l) ≡ r ∷ F l
  pass_one r l le = right r.key (limit r) (r ∷ []) l (omega arith, omega arith) le

  pub leaves_replace : {f g : Forest} {at : ℕ} {rs l : List Ref} (c i : ℕ) (q : Ref) → HasLeaves f at rs l → (qs : List Ref) → Alike rs qs → (low high : ℕ) → Rising low high rs → slice_get rs i ≡ Some q → is_indirect q ≡ true → f.link at q.key ≡ loaded c → holds key q ≡ true → ((k : ℕ) → g.link at k ≡ f.link at k) → ((j d : ℕ) (r : Ref) → slice_get rs j ≡ Some r → is_indirect r ≡ true → f.link at r.key ≡ loaded d → (j ≡ i → ⊥) → KeepsLeaves f g d) → ((b : List Ref) → LeavesOf f c b → LeavesOf g c (F b)) → ((b : List Ref) → LeavesOf g c b → Rising q.key (limit q) b) → HasLeaves g at qs (F l)
  leaves_replace c i q done qs a low high h read ind link in_q links keep changed rising = absurd (none-some q read)
  leaves_replace c i q (one k' rest) [] a low high h read ind link in_q links keep changed rising = absurd a
  leaves_replace c zero q (one {r = r} k' rest) (x ∷ qs) a low high h read ind link in_q links keep changed rising = let same : r ≡ q = (cc) in let clash : false ≡ true = sym k' ∙ ap (λ (x : Ref). is_indirect x) same ∙ ind in cc
  leaves_replace {g = g} {at = at} c (suc i) q (one {r = r} {rs = rs} {l = l} k' rest) (x ∷ qs) a low high h read ind link in_q links keep changed rising =
      let le = holds_inside key q in_q in
      let e : F (r ∷ l) ≡ r ∷ F l = pass_one r l (past_key key r low high rs i q h read le.0) in
      let tail : HasLeaves g at qs (F l) = leaves_replace c i q rest qs a.1 (limit r) high h.1 read ind link in_q links (λ j d y read' ind' link' ne. keep (suc j) d y read' ind' link' (λ e'. ne (omega arith))) changed rising in
      rw (a.0.leaf k', e) (one k' tail)
  leaves_replace c i q (near ind' link' kids inside rest) [] a low high h read ind link in_q links keep changed rising = absurd a
  leaves_replace {f} {g} {at} c zero q (near {c = d} {r = r} {rs = rs} {below = b} {l = l} ind' link' kids inside rest) (x ∷ qs) a low high h read ind link in_q links keep changed rising =
      let same : r ≡ q = (cc) in
      let dc : d ≡ c = grind (arith, link, link', ap (λ (x : Ref). f.link at x.key) same) in
      let kids' : LeavesOf f c b = subst (λ z. LeavesOf f z b) dc kids in
      let new_kids : LeavesOf g c (F b) = changed b kids' in
      let tail : HasLeaves g at qs l = leaves_move rest qs a.1 (λ j y read' ind''. links y.key) (λ j d y read' ind'' link''. keep (suc j) d y read' ind'' link'' (λ e'. omega (arith, e'))) in
      let le = holds_inside key q in_q in
      let lower : key < limit r = rw same le.1 in
      let xq_key : x.key ≡ q.key = a.0.key ∙ ap (λ (x : Ref). x.key) same in
      let xq_bits : x.keybits ≡ q.keybits = a.0.keybits ∙ ap (λ (x : Ref). x.keybits) same in
      let link'' : g.link at x.key ≡ loaded c = ap (λ z. g.link at z) xq_key ∙ links q.key ∙ link in
      rw (left (limit r) high b l (leaves_rising rest (limit r) high h.1) lower) (near (ap leads_on a.0.kind ∙ ind') link'' new_kids (same_range x q (F b) xq_key xq_bits (rising (F b) new_kids)) tail)
  leaves_replace {g = g} {at = at} c (suc i) q (near {c = d} {r = r} {rs = rs} {below = b} {l = l} ind' link' kids inside rest) (x ∷ qs) a low high h read ind link in_q links keep changed rising =
      let le = holds_inside key q in_q in
      let tail : HasLeaves g at qs (F l) = leaves_replace c i q rest qs a.1 (limit r) high h.1 read ind link in_q links (λ j d y read' ind'' link'' ne. keep (suc j) d y read' ind'' link'' (λ e'. ne (omega arith))) changed rising in
      let link'' : g.link at x.key ≡ loaded d = rw a.0.key (links r.key ∙ link') in
      rw (right r.key (limit r) b l inside (past_key key r low high rs i q h read le.0)) (near (ap leads_on a.0.kind ∙ ind') link'' (keep 0 d r refl ind' link' (λ e'. omega (arith, e')) b kids) (same_range x r b a.0.key a.0.keybits inside) tail)
  leaves_replace c i q (far ind' link' inside rest) [] a low high h read ind link in_q links keep changed rising = absurd a
  leaves_replace {f} {at = at} c zero q (far {r = r} {below = b} ind' link' inside rest) (x ∷ qs) a low high h read ind link in_q links keep changed rising =
      let same : r ≡ q = (cc) in
      let clash : told b ≡ loaded c = sym link' ∙ ap (λ (x : Ref). f.link at x.key) same ∙ link in
      cc
  leaves_replace {g = g} {at = at} c (suc i) q (far {r = r} {rs = rs} {below = b} {l = l} ind' link' inside rest) (x ∷ qs) a low high h read ind link in_q links keep changed rising =
      let le = holds_inside key q in_q in
      let tail : HasLeaves g at qs (F l) = leaves_replace c i q rest qs a.1 (limit r) high h.1 read ind link in_q links (λ j d y read' ind'' link'' ne. keep (suc j) d y read' ind'' link'' (λ e'. ne (omega arith))) changed rising in
      let link'' : g.link at x.key ≡ told b = rw a.0.key (links r.key ∙ link') in
      rw (right r.key (limit r) b l inside (past_key key r low high rs i q h read le.0)) (far (ap leads_on a.0.kind ∙ ind') link'' (same_range x r b a.0.key a.0.keybits inside) tail)

-- multiples of p lie at least p apart
pub step_up : (a b p : ℕ) → a % p ≡ 0 → b % p ≡ 0 → a < b → a + p ≤ b
step_up a b p ea eb lt =
    let wa = div-add-mod' a p in
    let wb = div-add-mod' b p in
    elim (cases_lt (a / p) (b / p)) as (λ _. a + p ≤ b) [
      | inl less ↦ let more : p * (a / p + 1) ≤ p * (b / p) = mul-le-mul_left p (omega (arith, less)) in omega (arith, more, wa, wb, ea, eb)
      | inr le ↦ let more : p * (b / p) ≤ p * (a / p) = mul-le-mul_left p le in absurd (omega (arith, more, wa, wb, ea, eb, lt))
    ]

-- a multiple of a power is one of each lower power
pub lower_power : (n i j : ℕ) → i ≤ j → n % 2 ^ j ≡ 0 → n % 2 ^ i ≡ 0
lower_power n i j le e =
    let d = j - i in
    let split = mod-pow-add n d i in
    let same : d + i ≡ j = omega arith in
    let zero_is : n % 2 ^ (d + i) ≡ 0 = rw same e in
    omega (arith, split, zero_is)

-- an aligned range that doesn't hold the key of one that is no longer is apart from it
pub apart_aligned : (leaf r : Ref) → IsAligned leaf → IsAligned r → leaf.keybits ≤ r.keybits → holds leaf.key r ≡ false → Apart leaf r
apart_aligned leaf r a b le out = elim (holds_outside leaf.key r out) as (λ _. Apart leaf r) [
  | inl below ↦ inl (step_up leaf.key r.key (2 ^ leaf.keybits) a (lower_power r.key leaf.keybits r.keybits le b) below)
  | inr above ↦ inr above
]

-- a sum of multiples
pub multiple_add : (a b p : ℕ) → a % p ≡ 0 → b % p ≡ 0 → (a + b) % p ≡ 0
multiple_add a b p ea eb =
    let wa = div-add-mod' a p in
    let wb = div-add-mod' b p in
    let sum : a + b ≡ (a / p + b / p) * p = omega (arith, wa, wb, ea, eb) in
    rw sum (mul-mod_left (a / p + b / p) p)

-- a shorter aligned range lies in one that holds its key
pub limit_inside : (leaf q : Ref) → IsAligned leaf → IsAligned q → leaf.keybits ≤ q.keybits → holds leaf.key q ≡ true → limit leaf ≤ limit q
limit_inside leaf q a b le in_q =
    let p = 2 ^ leaf.keybits in
    let key = lower_power q.key leaf.keybits q.keybits le b in
    let size = lower_power (2 ^ q.keybits) leaf.keybits q.keybits le (mod_self (2 ^ q.keybits)) in
    step_up leaf.key (limit q) p a (multiple_add q.key (2 ^ q.keybits) p key size) ((holds_inside leaf.key q in_q).1)

-- references at different places are apart
pub apart_places : (low high : ℕ) (rs : List Ref) (i j : ℕ) (q r : Ref) → Rising low high rs → slice_get rs i ≡ Some q → slice_get rs j ≡ Some r → (j ≡ i → ⊥) → Apart r q
apart_places low high [] i j q r h read read' ne = absurd (none-some q read)
apart_places low high (x ∷ xs) zero zero q r h read read' ne = absurd (ne refl)
apart_places low high (x ∷ xs) zero (suc j) q r h read read' ne =
    let same : x ≡ q = (cc) in
    let above = place_above (limit x) high xs j r h.1 read' in
    inr (subst (λ (y : Ref). limit y ≤ r.key) same above)
apart_places low high (x ∷ xs) (suc i) zero q r h read read' ne =
    let same : x ≡ r = (cc) in
    let above = place_above (limit x) high xs i q h.1 read in
    inl (subst (λ (y : Ref). limit y ≤ q.key) same above)
apart_places low high (x ∷ xs) (suc i) (suc j) q r h read read' ne = apart_places (limit x) high xs i j q r h.1 read read' (λ e. ne (ap suc e))

-- numbers are the same or not
pub same_or_not : (m n : ℕ) → (m ≡ n) ⊎ (m ≡ n → ⊥)
same_or_not m n = elim (cases_lt m n) as (λ _. (m ≡ n) ⊎ (m ≡ n → ⊥)) [
  | inl lt ↦ inr (λ e. omega (arith, lt, e))
  | inr le ↦ elim (cases_lt n m) as (λ _. (m ≡ n) ⊎ (m ≡ n → ⊥)) [
    | inl lt ↦ inr (λ e. omega (arith, lt, e))
    | inr le' ↦ inl (omega (arith, le, le'))
  ]
]
