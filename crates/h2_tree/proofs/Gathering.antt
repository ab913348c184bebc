-- Leaves that are gathered one reference after another.
use Rattle.std.proofs.Common.{◌≡◌, ℕ, ◌+◌, ◌≤◌, ◌^◌, inl, inr, Bool, true, false, arith, refl, sym, ◌∙◌, ap, cond, List, [], ◌∷◌, ◌++◌, take, Some, subst, slice_get, append_assoc, suc, zero}
use Rattle.std.specs.Prelude.{filter}
use Rattle.std.proofs.lemmas.Nat.{pow_pos}
use Rattle.std.proofs.lemmas.List.{append-nil, take_more}
use Rattle.std.proofs.lemmas.Option.{none-some, slice_get_within, get_or_from_slice_get}
use Rattle.h2_ref.specs.declared.reference.Ref.{Ref}
use Rattle.h2_set.specs.RefSet.{RefSet}
use Rattle.h2_set.specs.Ranges.{Rising, limit, holds, is_indirect}
use Rattle.h2_set.specs.Forest.{Forest, refs, loaded, IsSound, Reaches, here, below}
use Rattle.h2_set.specs.Calls.{Walks}
use Rattle.h2_set.specs.StayLaws.{stands_below}
use Rattle.h2_set.specs.LeafLaws.{Rising-low, Rising-append, place_above}
use Rattle.h2_set.specs.SplitLaws.{below_high}
use Rattle.h2_tree.specs.Changes.{is_between, touches, RangeUnloaded, missing, deeper, Lists}
use Rattle.h2_tree.specs.Listing.{Gathers, done, skipped, taken, entered, Adds}
use Rattle.h2_set.specs.PathLaws.{in_holds}
use Rattle.h2_set.specs.EditPathLaws.{filter_from}
use Rattle.h2_tree.specs.TreeLaws.{between_touches}
use Rattle.h2_tree.specs.ListLaws.{In, has_right, has_left, has_either}

-- all of rs stand in node at
abbrev StandsIn : Forest → ℕ → List Ref → Type 0
StandsIn f at rs = (j : ℕ) (r : Ref) → slice_get rs j ≡ Some r → In (refs f at) r

tail_in : (f : Forest) (at : ℕ) (r : Ref) (rs : List Ref) → StandsIn f at (r ∷ rs) → StandsIn f at rs
tail_in f at r rs all j q read = all (suc j) q read

pub all_in : (f : Forest) (at : ℕ) → StandsIn f at (refs f at)
all_in f at j r read = (j, read)

-- what was gathered is still gathered after a walk
pub gathers_walk : {f g : Forest} {from to at : ℕ} {rs l : List Ref} → IsSound f → Walks f g → f.stands at ≡ true → Gathers f from to at rs l → Gathers g from to at rs l
gathers_walk sound walks stands done = done
gathers_walk sound walks stands (skipped off rest) = skipped off (gathers_walk sound walks stands rest)
gathers_walk sound walks stands (taken leaf rest) = taken leaf (gathers_walk sound walks stands rest)
gathers_walk {f} {g} {from} {to} sound walks stands (entered {at = at} {c = c} {r = r} {below = b} ind link kids rest) =
    let there = stands_below f sound at r.key c stands link in
    let kids' : Gathers g from to c (refs f c) b = gathers_walk sound walks there kids in
    let same : refs f c ≡ refs g c = ap (λ (s : RefSet). s.refs) (sym (walks.sets c there)) in
    entered ind ((walks.stays at stands).near r.key c link) (subst (λ z. Gathers g from to c z b) same kids') (gathers_walk sound walks stands rest)

pub gathers_append : {f : Forest} {from to at : ℕ} {xs ys a b : List Ref} → Gathers f from to at xs a → Gathers f from to at ys b → Gathers f from to at (xs ++ ys) (a ++ b)
gathers_append done more = more
gathers_append (skipped off rest) more = skipped off (gathers_append rest more)
gathers_append {f} {from} {to} {at} {ys = ys} {b = b} (taken {r = r} {rs = rs} {l = l} leaf rest) more =
    let it : Gathers f from to at (r ∷ (rs ++ ys)) (filter (is_between from to) (r ∷ []) ++ (l ++ b)) = taken leaf (gathers_append rest more) in
    subst (λ z. Gathers f from to at (r ∷ (rs ++ ys)) z) (sym (append_assoc (filter (is_between from to) (r ∷ [])) l b)) it
gathers_append {f} {from} {to} {at} {ys = ys} {b = b} (entered {r = r} {rs = rs} {below = kids} {l = l} ind link inner rest) more =
    let it : Gathers f from to at (r ∷ (rs ++ ys)) (kids ++ (l ++ b)) = entered ind link inner (gathers_append rest more) in
    subst (λ z. Gathers f from to at (r ∷ (rs ++ ys)) z) (sym (append_assoc kids l b)) it

-- at the start nothing is gathered
pub adds_none : (f : Forest) (from to at : ℕ) (start : List Ref) → Adds f from to at [] start start
adds_none f from to at start = record { more = []; gathers = done; all = sym (append-nil start) }

-- one reference more
pub adds_more : (f g : Forest) (from to at i : ℕ) (rs start out next : List Ref) (r : Ref) → IsSound f → Walks f g → f.stands at ≡ true → Adds f from to at (take i rs) start out → slice_get rs i ≡ Some r → Adds g from to at (r ∷ []) out next → Adds g from to at (take (i + 1) rs) start next
adds_more f g from to at i rs start out next r sound walks stands so_far read step =
    let within = slice_get_within rs i r read in
    let e : take (i + 1) rs ≡ take i rs ++ (r ∷ []) = take_more rs i r within ∙ ap (λ y. take i rs ++ (y ∷ [])) (get_or_from_slice_get rs i r r read) in
    let before : Gathers g from to at (take i rs) so_far.more = gathers_walk sound walks stands so_far.gathers in
    let both : Gathers g from to at (take i rs ++ (r ∷ [])) (so_far.more ++ step.more) = gathers_append before step.gathers in
    record {
      more = so_far.more ++ step.more;
      gathers = subst (λ z. Gathers g from to at z (so_far.more ++ step.more)) (sym e) both;
      all = step.all ∙ ap (λ (z : List Ref). z ++ step.more) so_far.all ∙ append_assoc start so_far.more step.more;
    }

pub adds_skipped : (f : Forest) (from to at : ℕ) (out : List Ref) (r : Ref) → touches from to r ≡ false → Adds f from to at (r ∷ []) out out
adds_skipped f from to at out r off = record { more = []; gathers = skipped off done; all = sym (append-nil out) }

pub adds_taken : (f : Forest) (from to at : ℕ) (out next : List Ref) (r : Ref) → is_indirect r ≡ false → next ≡ out ++ filter (is_between from to) (r ∷ []) → Adds f from to at (r ∷ []) out next
adds_taken f from to at out next r leaf e = record {
  more = filter (is_between from to) (r ∷ []) ++ [];
  gathers = taken leaf done;
  all = e ∙ ap (λ (z : List Ref). out ++ z) (sym (append-nil (filter (is_between from to) (r ∷ []))));
}

pub adds_entered : (f : Forest) (from to at c : ℕ) (out next : List Ref) (r : Ref) → is_indirect r ≡ true → f.link at r.key ≡ loaded c → Adds f from to c (refs f c) out next → Adds f from to at (r ∷ []) out next
adds_entered f from to at c out next r ind link inner = record {
  more = inner.more ++ [];
  gathers = entered ind link inner.gathers done;
  all = inner.all ∙ ap (λ (z : List Ref). out ++ z) (sym (append-nil inner.more));
}

-- the leaf itself
pub own_key : (r : Ref) → holds r.key r ≡ true
own_key r = let pos = pow_pos r.keybits in in_holds r.key r (omega arith) (omega (arith, pos))

-- the references that lead on, in their ranges
range_of : (f : Forest) (at c i : ℕ) (r : Ref) → IsSound f → f.stands at ≡ true → slice_get (refs f at) i ≡ Some r → is_indirect r ≡ true → f.link at r.key ≡ loaded c → (l : List Ref) → Rising (f.low c) (f.low c + 2 ^ f.bits c) l → Rising r.key (limit r) l
range_of f at c i r sound stands read ind link l rising =
    let node = sound.node at stands in
    let low = (node.child r.key c link).low in
    let bits = node.bits i c r read ind link in
    rw (low, bits) at rising

single_rising : (p : Bool) (low high : ℕ) (r : Ref) (l : List Ref) → low ≤ r.key → Rising (limit r) high l → Rising low high (cond p (r ∷ []) [] ++ l)
single_rising true low high r l from rest = (from, rest)
single_rising false low high r l from rest = let pos = pow_pos r.keybits in Rising-low (limit r) low high l (omega (arith, from, pos)) rest

pub gathers_rising : {f : Forest} {from to at : ℕ} {rs l : List Ref} → IsSound f → f.stands at ≡ true → StandsIn f at rs → Gathers f from to at rs l → (low high : ℕ) → Rising low high rs → Rising low high l
gathers_rising sound stands all done low high h = h
gathers_rising {f} sound stands all (skipped {at = at} {r = r} {rs = rs} {l = l} off rest) low high h =
    let pos = pow_pos r.keybits in
    Rising-low (limit r) low high l (omega (arith, h.0, pos)) (gathers_rising sound stands (tail_in f at r rs all) rest (limit r) high h.1)
gathers_rising {f} {from} {to} sound stands all (taken {at = at} {r = r} {rs = rs} {l = l} leaf rest) low high h =
    single_rising (is_between from to r) low high r l h.0 (gathers_rising sound stands (tail_in f at r rs all) rest (limit r) high h.1)
gathers_rising {f} sound stands all (entered {at = at} {c = c} {r = r} {rs = rs} {below = b} {l = l} ind link kids rest) low high h =
    let it = all 0 r refl in
    let there = stands_below f sound at r.key c stands link in
    let own = gathers_rising sound there (all_in f c) kids (f.low c) (f.low c + 2 ^ f.bits c) (sound.node c there).inside in
    let inner = range_of f at c it.0 r sound stands it.1 ind link b own in
    Rising-append low (limit r) high b l (Rising-low r.key low (limit r) b h.0 inner) (gathers_rising sound stands (tail_in f at r rs all) rest (limit r) high h.1)

-- each leaf that was gathered is reached
pub gathers_each : {f : Forest} {from to at : ℕ} {rs l : List Ref} → IsSound f → f.stands at ≡ true → StandsIn f at rs → Gathers f from to at rs l → (i : ℕ) (x : Ref) → slice_get l i ≡ Some x → (is_between from to x ≡ true) × Reaches f x.key at (Some x)
gathers_each sound stands all done i x read = absurd (none-some x read)
gathers_each {f} sound stands all (skipped {at = at} {r = r} {rs = rs} off rest) i x read = gathers_each sound stands (tail_in f at r rs all) rest i x read
gathers_each {f} {from} {to} sound stands all (taken {at = at} {r = r} {rs = rs} {l = l} leaf rest) i x read =
    elim (has_either (filter (is_between from to) (r ∷ [])) l x i read) as (λ _. (is_between from to x ≡ true) × Reaches f x.key at (Some x)) [
      | inl it ↦
          let there = filter_from (is_between from to) (r ∷ []) it.0 x it.1 in
          let is : r ≡ x = only_one r x there.1.0 there.1.1 in
          let where_it_is = all 0 r refl in
          let path : Reaches f r.key at (Some r) = here {r = r} where_it_is.0 where_it_is.1 (own_key r) leaf in
          (there.0, subst (λ (y : Ref). Reaches f y.key at (Some y)) is path)
      | inr it ↦ gathers_each sound stands (tail_in f at r rs all) rest it.0 x it.1
    ]
  where
    only_one : (r x : Ref) (j : ℕ) → slice_get (r ∷ []) j ≡ Some x → r ≡ x
    only_one r x zero read = cc
    only_one r x (suc j) read = absurd (none-some x read)
gathers_each {f} {from} {to} sound stands all (entered {at = at} {c = c} {r = r} {rs = rs} {below = b} {l = l} ind link kids rest) i x read =
    elim (has_either b l x i read) as (λ _. (is_between from to x ≡ true) × Reaches f x.key at (Some x)) [
      | inl it ↦
          let where_it_is = all 0 r refl in
          let there = stands_below f sound at r.key c stands link in
          let own = gathers_rising sound there (all_in f c) kids (f.low c) (f.low c + 2 ^ f.bits c) (sound.node c there).inside in
          let inner = range_of f at c where_it_is.0 r sound stands where_it_is.1 ind link b own in
          let low = place_above r.key (limit r) b it.0 x inner it.1 in
          let high = below_high r.key (limit r) b it.0 x inner it.1 in
          let pos = pow_pos x.keybits in
          let more = gathers_each sound there (all_in f c) kids it.0 x it.1 in
          (more.0, below {r = r} where_it_is.0 where_it_is.1 (in_holds x.key r low (omega (arith, high, pos))) ind link more.1)
      | inr it ↦ gathers_each sound stands (tail_in f at r rs all) rest it.0 x it.1
    ]

-- a leaf between is gathered
gathers_leaf : {f : Forest} {from to at : ℕ} {rs l : List Ref} → Gathers f from to at rs l → (j : ℕ) (x : Ref) → slice_get rs j ≡ Some x → is_indirect x ≡ false → is_between from to x ≡ true → In l x
gathers_leaf done j x read leaf mid = absurd (none-some x read)
gathers_leaf {from = from} {to = to} (skipped {r = r} off rest) zero x read leaf mid =
    let is : r ≡ x = (cc) in
    let pos = pow_pos x.keybits in
    let on : touches from to r ≡ true = subst (λ (y : Ref). touches from to y ≡ true) (sym is) (between_touches from to x x mid (omega arith) (omega (arith, pos))) in
    let clash : true ≡ false = sym on ∙ off in
    cc
gathers_leaf (skipped off rest) (suc j) x read leaf mid = gathers_leaf rest j x read leaf mid
gathers_leaf {from = from} {to = to} (taken {r = r} {l = l} leaf' rest) zero x read leaf mid =
    let is : r ≡ x = (cc) in
    first (is_between from to r) (ap (is_between from to) is ∙ mid) is
  where
    first : (p : Bool) → p ≡ true → r ≡ x → In (cond p (r ∷ []) [] ++ l) x
    first true e is = (0, ap Some is)
    first false e is = let clash : false ≡ true = e in cc
gathers_leaf {from = from} {to = to} (taken {r = r} {l = l} leaf' rest) (suc j) x read leaf mid = has_right (filter (is_between from to) (r ∷ [])) l x (gathers_leaf rest j x read leaf mid)
gathers_leaf (entered {r = r} ind link kids rest) zero x read leaf mid =
    let is : r ≡ x = (cc) in
    let clash : true ≡ false = sym ind ∙ ap is_indirect is ∙ leaf in
    cc
gathers_leaf (entered {below = b} {l = l} ind link kids rest) (suc j) x read leaf mid = has_right b l x (gathers_leaf rest j x read leaf mid)

-- what was gathered below a reference that is touched
record Inner (f : Forest) (from to at : ℕ) (x : Ref) (l : List Ref) : Type 0 where
  next : ℕ
  link : f.link at x.key ≡ loaded next
  kids : List Ref
  gathers : Gathers f from to next (refs f next) kids
  sub : (y : Ref) → In kids y → In l y

gathers_inner : {f : Forest} {from to at : ℕ} {rs l : List Ref} → Gathers f from to at rs l → (j : ℕ) (x : Ref) → slice_get rs j ≡ Some x → is_indirect x ≡ true → touches from to x ≡ true → Inner f from to at x l
gathers_inner done j x read ind on = absurd (none-some x read)
gathers_inner {from = from} {to = to} (skipped {r = r} off rest) zero x read ind on =
    let is : r ≡ x = (cc) in
    let clash : true ≡ false = sym on ∙ ap (touches from to) (sym is) ∙ off in
    cc
gathers_inner (skipped off rest) (suc j) x read ind on = gathers_inner rest j x read ind on
gathers_inner (taken {r = r} leaf rest) zero x read ind on =
    let is : r ≡ x = (cc) in
    let clash : false ≡ true = sym leaf ∙ ap is_indirect is ∙ ind in
    cc
gathers_inner {from = from} {to = to} (taken {r = r} {l = l} leaf rest) (suc j) x read ind on =
    let it = gathers_inner rest j x read ind on in
    record { next = it.next; link = it.link; kids = it.kids; gathers = it.gathers; sub = λ y has. has_right (filter (is_between from to) (r ∷ [])) l y (it.sub y has) }
gathers_inner {f} {from} {to} (entered {at = at} {c = c} {r = r} {below = b} {l = l} ind' link kids rest) zero x read ind on =
    let is : r ≡ x = (cc) in
    record { next = c; link = subst (λ (y : Ref). f.link at y.key ≡ loaded c) is link; kids = b; gathers = kids; sub = λ y has. has_left b l y has.0 has.1 }
gathers_inner (entered {below = b} {l = l} ind' link kids rest) (suc j) x read ind on =
    let it = gathers_inner rest j x read ind on in
    record { next = it.next; link = it.link; kids = it.kids; gathers = it.gathers; sub = λ y has. has_right b l y (it.sub y has) }

-- the leaf that a path leads to lies in the node's range
pub reaches_within : {f : Forest} {key at : ℕ} {r : Ref} → IsSound f → f.stands at ≡ true → Reaches f key at (Some r) → (f.low at ≤ r.key) × (limit r ≤ f.low at + 2 ^ f.bits at)
reaches_within {f} sound stands (here {at = at} {r = r} i read in_r leaf) =
    let node = sound.node at stands in
    (place_above _ _ (refs f at) i r node.inside read, below_high _ _ (refs f at) i r node.inside read)
reaches_within sound stands (below {at = at} {c = c} {r = x} i read in_x ind link rest) =
    let child = (sound.node at stands).child x.key c link in
    let it = reaches_within sound child.stands rest in
    (omega (arith, child.above, it.0), omega (arith, child.within, it.1))

-- each leaf between that is reached was gathered
pub gathers_all : {f : Forest} {from to key at : ℕ} {r : Ref} → IsSound f → f.stands at ≡ true → Reaches f key at (Some r) → is_between from to r ≡ true → (l : List Ref) → Gathers f from to at (refs f at) l → In l r
gathers_all sound stands (here {at = at} {r = r} i read in_r leaf) mid l gathered = gathers_leaf gathered i r read leaf mid
gathers_all {f} {from} {to} {key = key} {r = r} sound stands (below {at = at} {c = c} {r = x} i read in_x ind link rest) mid l gathered =
    let node = sound.node at stands in
    let child = node.child x.key c link in
    let bits = node.bits i c x read ind link in
    let inside = reaches_within sound child.stands rest in
    let pos = pow_pos r.keybits in
    let on = between_touches from to r x mid (omega (arith, inside.0, child.low)) (omega (arith, inside.1, pos, child.low, ap (λ z. 2 ^ z) bits)) in
    let it = gathers_inner gathered i x read ind on in
    let same : it.next ≡ c = cc (it.link, link) in
    it.sub r (gathers_all sound child.stands rest mid it.kids (subst (λ z. Gathers f from to z (refs f z) it.kids) same it.gathers))

-- and nothing that is needed is unloaded
pub gathers_loaded : {f : Forest} {from to at : ℕ} → RangeUnloaded f from to at → (l : List Ref) → Gathers f from to at (refs f at) l → ⊥
gathers_loaded (missing {r = r} i read ind on none) l gathered = let it = gathers_inner gathered i r read ind on in none it.next it.link
gathers_loaded {f} {from} {to} (deeper {c = c} {r = r} i read ind on link rest) l gathered =
    let it = gathers_inner gathered i r read ind on in
    let same : it.next ≡ c = cc (it.link, link) in
    gathers_loaded rest it.kids (subst (λ z. Gathers f from to z (refs f z) it.kids) same it.gathers)

-- so what was gathered of all of a node's references lists them
pub gathers_list : (f : Forest) (from to at : ℕ) (l : List Ref) → IsSound f → f.stands at ≡ true → Gathers f from to at (refs f at) l → Lists f at from to l
gathers_list f from to at l sound stands gathered = record {
  rising = gathers_rising sound stands (all_in f at) gathered 0 (2 ^ 64) (sound.node at stands).set.rising;
  each = gathers_each sound stands (all_in f at) gathered;
  all = λ key r reached mid. gathers_all sound stands reached mid l gathered;
  loaded = λ u. gathers_loaded u l gathered;
}
