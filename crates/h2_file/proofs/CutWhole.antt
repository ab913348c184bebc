-- A node that may be left as it is, and a root that is written in any case.
use Rattle.std.proofs.Common.{◌≡◌, ℕ, ◌<◌, ◌≤◌, true, false, arith, sym, ◌∙◌, ap, List, length, Option, Some, None, subst, inl, inr, slice_get, take}
use Rattle.std.proofs.lemmas.Bool.{cases_Bool}
use Rattle.std.proofs.lemmas.Option.{none-some}
use Rattle.std.proofs.lemmas.List.{take_all}
use Rattle.h2_ref.specs.declared.reference.Ref.{Ref}
use Rattle.h2_set.specs.Ranges.{limit, is_indirect}
use Rattle.h2_set.specs.RefSet.{RefSet}
use Rattle.h2_set.specs.Forest.{Forest, refs, HasLeaves, LeavesOf, IsSound, Reaches, nowhere, here, below}
use Rattle.h2_set.specs.Calls.{InPlace, Alike}
use Rattle.h2_set.specs.StayLaws.{InPlace-trans}
use Rattle.h2_set.specs.ChangeLaws.{Same-Keeps, same_or_not}
use Rattle.h2_set.specs.RenewLaws.{Keeps-Renews, Renews-trans}
use Rattle.h2_tree.specs.Changes.{LoadsIn, WalksUnder}
use Rattle.h2_file.specs.declared.cutting.Left.{Left}
use Rattle.h2_file.specs.declared.cutting.Left.TheVariants.{Nothing, All, Something}
use Rattle.h2_file.specs.Cutting.{kept_to, cut_to, front, ReachesBy, misses, arrives, leads, GoesBehind, KeepsFront, Shortens, Cuts, CutsNodes, Remains}
use Rattle.h2_file.specs.Sizing.{Sizes}
use Rattle.h2_file.proofs.CutLevels.{Readied, FrontLeft, cuts_front, root_ready}
use Rattle.h2_file.proofs.CutNodes.{nodes_here}

path_of : {k : Forest} {key at : ℕ} {rs : List Ref} {o : Option Ref} → ReachesBy k key at rs o → rs ≡ refs k at → Reaches k key at o
path_of (misses miss) e = nowhere (λ i r read. miss i r (subst (λ z. slice_get z i ≡ Some r) (sym e) read))
path_of (arrives {r = r} i read in_r leaf) e = here {r = r} i (subst (λ z. slice_get z i ≡ Some r) e read) in_r leaf
path_of (leads {c = c} {r = r} i read in_r ind link rest) e = below {c = c} {r = r} i (subst (λ z. slice_get z i ≡ Some r) e read) in_r ind link rest

by_path : {k : Forest} {key at : ℕ} {o : Option Ref} → Reaches k key at o → ReachesBy k key at (refs k at) o
by_path (nowhere miss) = misses miss
by_path (here {r = r} i read in_r leaf) = arrives {r = r} i read in_r leaf
by_path (below {c = c} {r = r} i read in_r ind link rest) = leads {c = c} {r = r} i read in_r ind link rest

cuts_whole : (f k : Forest) (at size count : ℕ) (last : Option Ref) → Readied f k at size → count ≡ length (refs k at) → k.copies at ≤ 62 → ((l : List Ref) → LeavesOf f at l → HasLeaves k at (front count None (refs k at)) (cut_to size last l)) → ((key : ℕ) → size ≤ key → FrontLeft k at (front count None (refs k at)) size last key) → ((key : ℕ) (o : Option Ref) → key < kept_to size last → Reaches f key at o → ReachesBy k key at (front count None (refs k at)) o) → Cuts f k at size last
cuts_whole f k at size count last mid whole copies leaves past before =
    let all : take count (refs k at) ≡ refs k at = take_all count (refs k at) (omega (arith, whole)) in
    record {
      sound = mid.sound;
      fixed = mid.fixed;
      place = mid.place;
      leaves = λ l hl. subst (λ rs. HasLeaves k at rs (cut_to size last l)) all (leaves l hl);
      before = λ key o lt reached. path_of (before key o lt reached) all;
      past = λ key le. let it = past key le in record { found = it.found; path = path_of it.path all; left = it.left };
      tree = mid.tree;
      above = mid.above;
      still = mid.still;
      touched = mid.touched;
      room = (let e = mid.room in omega (arith, e));
      room_falls = mid.room_falls;
      spare = mid.spare;
    }

pub cut_short : (f k g : Forest) (at size count : ℕ) (last last' : Option Ref) (left : Left) → Readied f k at size → WalksUnder f k at → k.stands at ≡ true → k.copies at ≤ 62 → Shortens k g at count last' left → ((q : Ref) → last' ≡ Some q → last ≡ Some q) → ((i : ℕ) (x : Ref) → slice_get (refs k at) i ≡ Some x → limit x ≤ size → i < count) → ((l : List Ref) → LeavesOf f at l → HasLeaves k at (front count last' (refs k at)) (cut_to size last l)) → ((key : ℕ) → size ≤ key → FrontLeft k at (front count last' (refs k at)) size last key) → ((key : ℕ) (o : Option Ref) → key < kept_to size last → Reaches f key at o → ReachesBy k key at (front count last' (refs k at)) o) → Remains f g at size last left
cut_short f k g at size count last last' Nothing mid under stands copies short given stay leaves past before = absurd short
cut_short f k g at size count last last' All mid under stands copies short given stay leaves past before =
    let same : k ≡ g = sym short.0 in
    let none = short.2 in
    let leaves_n : (l : List Ref) → LeavesOf f at l → HasLeaves k at (front count None (refs k at)) (cut_to size last l) = λ l hl. subst (λ z. HasLeaves k at (front count z (refs k at)) (cut_to size last l)) none (leaves l hl) in
    let past_n : (key : ℕ) → size ≤ key → FrontLeft k at (front count None (refs k at)) size last key = λ key le. subst (λ z. FrontLeft k at (front count z (refs k at)) size last key) none (past key le) in
    let before_n : (key : ℕ) (o : Option Ref) → key < kept_to size last → Reaches f key at o → ReachesBy k key at (front count None (refs k at)) o = λ key o lt reached. subst (λ z. ReachesBy k key at (front count z (refs k at)) o) none (before key o lt reached) in
    subst (λ z. Cuts f z at size last × WalksUnder f z at) same (cuts_whole f k at size count last mid short.1 copies leaves_n past_n before_n, under)
cut_short f k g at size count last last' Something mid under stands copies short given stay leaves past before = (cuts_front f k g at size count last last' mid short.0 leaves past before, nodes_here f k g at size count last last' under.walks mid.touched stands short.0 (inr short.1) given stay)

pub short_none_new : (k g : Forest) (at count : ℕ) (last : Option Ref) (left : Left) → Shortens k g at count last left → (m : ℕ) → g.stands m ≡ true → k.stands m ≡ true
short_none_new k g at count last Nothing short m st = absurd short
short_none_new k g at count last All short m st = subst (λ (z : Forest). z.stands m ≡ true) short.0 st
short_none_new k g at count last Something short m st = short.0.none_new m st

pub none_given : (last : Option Ref) (q : Ref) → None ≡ Some q → last ≡ Some q
none_given last q e = absurd (none-some q e)

-- A root of which nothing goes

pub root_kept : (f k g : Forest) (at size count : ℕ) (last : Option Ref) → IsSound f → f.stands at ≡ true → f.root at ≡ at → Cuts f k at size last → WalksUnder f k at → count ≡ length (refs k at) → KeepsFront k g at count None → Cuts f g at size last
root_kept f k g at size count last sound stands top cuts under whole keeps =
    let all : refs k at ≡ take count (refs k at) = sym (take_all count (refs k at) (omega (arith, whole))) in
    cuts_front f k g at size count last None (root_ready f k at size sound stands top under cuts.touched) keeps (λ l hl. subst (λ rs. HasLeaves k at rs (cut_to size last l)) all (cuts.leaves l hl)) (λ key le. let it = cuts.past key le in record { found = it.found; path = subst (λ rs. ReachesBy k key at rs it.found) all (by_path it.path); left = it.left }) (λ key o lt reached. subst (λ rs. ReachesBy k key at rs o) all (by_path (cuts.before key o lt reached)))

pub root_nodes : (f k g : Forest) (at size count : ℕ) (last : Option Ref) → f.stands at ≡ true → f.root at ≡ at → WalksUnder f k at → LoadsIn f k at size size → KeepsFront k g at count None → ((i : ℕ) (x : Ref) → slice_get (refs k at) i ≡ Some x → limit x ≤ size → i < count) → CutsNodes f g at size last
root_nodes f k g at size count last stands top under touched keeps stay = let place = (under.walks.stays at stands).place in nodes_here f k g at size count last None under.walks touched place.stands keeps (inl (place.root ∙ top)) (none_given last) stay

-- A file that is given its size after that

pub nodes_sized : (f k g : Forest) (at size : ℕ) (last : Option Ref) → CutsNodes f k at size last → Sizes k g at → CutsNodes f g at size last
nodes_sized f k g at size last nodes sizes = record {
  walked = nodes.walked;
  walks = nodes.walks;
  touched = nodes.touched;
  node = nodes.node;
  stands = nodes.stands;
  way = nodes.way;
  stays = (place_on nodes.node nodes.stays).stands;
  count = nodes.count;
  put = nodes.put;
  given = nodes.given;
  set = set_on nodes.node nodes.stays ∙ nodes.set;
  changes = nodes.changes;
  none_new = λ m st. nodes.none_new m (sizes.none_new m st);
  left = λ m i x st st' read ends.
      let was = sizes.none_new m st' in
      let n = ap (λ (s : RefSet). length s.refs) (set_on m was) in
      let a = nodes.left m i x st was read ends in
      omega (arith, n, a);
  still = λ m st st'. let was = sizes.none_new m st' in InPlace-trans nodes.walked k g m (nodes.still m st was) (place_on m was);
  stand = λ m st none. (place_on m (nodes.stand m st (λ past. none (record { node = past.node; stood = past.stood; stays = (place_on past.node past.stays).stands; behind = subst (λ (s : RefSet). GoesBehind nodes.walked past.node (length s.refs) m) (sym (set_on past.node past.stays)) past.behind })))).stands;
  gone = λ m st past. elim (cases_Bool (g.stands m)) as (λ _. g.stands m ≡ false) [
    | inr out ↦ out
    | inl there ↦
        let was = sizes.none_new past.node past.stays in
        let out = nodes.gone m st (record { node = past.node; stood = past.stood; stays = was; behind = subst (λ (s : RefSet). GoesBehind nodes.walked past.node (length s.refs) m) (set_on past.node was) past.behind }) in
        absurd (let clash : true ≡ false = sym (sizes.none_new m there) ∙ out in cc)
  ];
  link = λ m i r st st' read ind.
      let was = sizes.none_new m st' in
      let read_k : slice_get (refs k m) i ≡ Some r = subst (λ (s : RefSet). slice_get s.refs i ≡ Some r) (set_on m was) read in
      link_on m i r was read_k ind ∙ nodes.link m i r st was read_k ind;
  alike = λ m st st' root ne. let was = sizes.none_new m st' in subst (λ (s : RefSet). Alike (take (length s.refs) (refs nodes.walked m)) s.refs) (sym (set_on m was)) (nodes.alike m st was root ne);
  renewed = λ m st root.
      let first = nodes.renewed m st root in
      Renews-trans nodes.walked k g m first (Keeps-Renews k g m (Same-Keeps k g m (sizes.others m first.place.stands (λ e. root (ap (let w = nodes.walked in w.root) e)))));
  exact = λ m i r st st' ne read lt off.
      let was = sizes.none_new m st' in
      let same = set_on m was in
      let less : i < length (refs k m) = (let n = ap (λ (s : RefSet). length s.refs) same in omega (arith, lt, n)) in
      subst (λ (s : RefSet). slice_get s.refs i ≡ Some r) (sym same) (nodes.exact m i r st was ne read less off);
  kept = λ m i c r st st' ne read lt link w.
      let was = sizes.none_new m st' in
      let same = set_on m was in
      let less : i < length (refs k m) = (let n = ap (λ (s : RefSet). length s.refs) same in omega (arith, lt, n)) in
      subst (λ (s : RefSet). slice_get s.refs i ≡ Some r) (sym same) (nodes.kept m i c r st was ne read less link w);
  kept_leaf = λ m i c r st st' ne read lt leaf is w.
      let was = sizes.none_new m st' in
      let same = set_on m was in
      let less : i < length (refs k m) = (let n = ap (λ (s : RefSet). length s.refs) same in omega (arith, lt, n)) in
      subst (λ (s : RefSet). slice_get s.refs i ≡ Some r) (sym same) (nodes.kept_leaf m i c r st was ne read less leaf is w);
  dated = λ m i r q st st' ne read now. let was = sizes.none_new m st' in nodes.dated m i r q st was ne read (subst (λ (s : RefSet). slice_get s.refs i ≡ Some q) (set_on m was) now);
  epoch = sizes.epoch ∙ nodes.epoch;
  others = λ m st st' off.
      let was = sizes.none_new m st' in
      let first = nodes.others m st was off in
      (set_on m was ∙ first.0, written m was ∙ first.1);
  made = λ m st st' way. let was = sizes.none_new m st' in (place_on m was).writable (nodes.made m st was way);
  writable = sizes.place.writable nodes.writable;
  copies = sizes.copies ∙ nodes.copies;
  room = (let a = nodes.room in let b = sizes.room in omega (arith, a, b));
}
  where
    place_on : (m : ℕ) → k.stands m ≡ true → InPlace k g m
    place_on m st = elim (same_or_not m at) as (λ _. InPlace k g m) [
      | inl e ↦ subst (InPlace k g) (sym e) sizes.place
      | inr ne ↦ (sizes.others m st ne).place
    ]

    set_on : (m : ℕ) → k.stands m ≡ true → g.set m ≡ k.set m
    set_on m st = elim (same_or_not m at) as (λ _. g.set m ≡ k.set m) [
      | inl e ↦ subst (λ z. g.set z ≡ k.set z) (sym e) sizes.set
      | inr ne ↦ (sizes.others m st ne).set
    ]

    link_on : (m i : ℕ) (r : Ref) → k.stands m ≡ true → slice_get (refs k m) i ≡ Some r → is_indirect r ≡ true → g.link m r.key ≡ k.link m r.key
    link_on m i r st read ind = elim (same_or_not m at) as (λ _. g.link m r.key ≡ k.link m r.key) [
      | inl e ↦ subst (λ z. slice_get (refs k z) i ≡ Some r → g.link z r.key ≡ k.link z r.key) (sym e) (λ read'. sizes.link i r read' ind) read
      | inr ne ↦ (sizes.others m st ne).link r.key
    ]

    written : (m : ℕ) → k.stands m ≡ true → g.writable m ≡ k.writable m
    written m st = elim (same_or_not m at) as (λ _. g.writable m ≡ k.writable m) [
      | inl e ↦ subst (λ z. g.writable z ≡ k.writable z) (sym e) (sizes.place.writable nodes.writable ∙ sym nodes.writable)
      | inr ne ↦ (sizes.others m st ne).writable
    ]
