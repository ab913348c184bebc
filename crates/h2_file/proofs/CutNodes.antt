-- Which nodes a cut changes, where the node itself is cut.
use Rattle.std.proofs.Common.{◌≡◌, ℕ, ◌-◌, ◌<◌, ◌≤◌, true, false, arith, refl, sym, ◌∙◌, ap, List, [], ◌∷◌, length, Option, Some, subst, ◌⊎◌, inl, inr, slice_get, take, min, suc, zero}
use Rattle.std.proofs.lemmas.Nat.{pow_pos}
use Rattle.std.proofs.lemmas.Bool.{cases_lt}
use Rattle.std.proofs.lemmas.Option.{slice_get_within}
use Rattle.std.proofs.lemmas.List.{take_all}
use Rattle.h2_ref.specs.declared.reference.Ref.{Ref}
use Rattle.h2_set.specs.Ranges.{limit, holds, is_indirect}
use Rattle.h2_set.specs.RefSet.{RefSet}
use Rattle.h2_set.specs.Forest.{Forest, refs, loaded, IsSound}
use Rattle.h2_set.specs.Calls.{Alike, Walks}
use Rattle.h2_set.specs.LeafLaws.{holds_inside}
use Rattle.h2_set.specs.PathLaws.{in_holds, same_holder}
use Rattle.h2_set.specs.ChangeLaws.{same_or_not}
use Rattle.h2_set.specs.RenewLaws.{Alike-length}
use Rattle.h2_tree.specs.Changes.{LoadsIn, arrived}
use Rattle.h2_file.specs.Cutting.{IsChanged, GoesBehind, KeepsFront, CutsNodes}
use Rattle.h2_file.proofs.Fronts.{front_length}

-- Which references of a node end by the size

pub ends_before : (rs : List Ref) (count size : ℕ) → ((j : ℕ) (q : Ref) → slice_get rs j ≡ Some q → count ≤ j → size ≤ q.key) → (i : ℕ) (x : Ref) → slice_get rs i ≡ Some x → limit x ≤ size → i < count
ends_before rs count size past i x read ends = elim (cases_lt i count) as (λ _. i < count) [
  | inl lt ↦ lt
  | inr le ↦ let a = past i x read le in let pos = pow_pos x.keybits in absurd (omega (arith, a, pos, ends))
]

pub ends_below : (rs : List Ref) (count size : ℕ) (r : Ref) → slice_get rs (count - 1) ≡ Some r → holds size r ≡ true → ((j : ℕ) (q : Ref) → slice_get rs j ≡ Some q → count ≤ j → size ≤ q.key) → (i : ℕ) (x : Ref) → slice_get rs i ≡ Some x → limit x ≤ size → i < count - 1
ends_below rs count size r read_r in_r past i x read ends =
    let less = ends_before rs count size past i x read ends in
    elim (same_or_not i (count - 1)) as (λ _. i < count - 1) [
      | inl e ↦
          let there : slice_get rs (count - 1) ≡ Some x = subst (λ z. slice_get rs z ≡ Some x) e read in
          let same : r ≡ x = (cc) in
          let high : size < limit x = subst (λ (y : Ref). size < limit y) same ((holds_inside size r in_r).1) in
          absurd (omega (arith, high, ends))
      | inr ne ↦ omega (arith, less, ne)
    ]

-- What goes behind a place

pub fewer_behind : {f : Forest} {n a b m : ℕ} → a ≤ b → GoesBehind f n b m → GoesBehind f n a m
fewer_behind le goes = record { place = goes.place; ref = goes.ref; read = goes.read; behind = (let b = goes.behind in omega (arith, b, le)); tree = goes.tree; fewer = goes.fewer; held = goes.held }

-- a reference that leads to a loaded node is indirect
pub leads_down : (f : Forest) (m i c : ℕ) (r : Ref) → IsSound f → f.stands m ≡ true → slice_get (refs f m) i ≡ Some r → f.link m r.key ≡ loaded c → is_indirect r ≡ true
leads_down f m i c r sound st read link =
    let node = sound.node m st in
    let named = node.named r.key c link in
    let pos = pow_pos r.keybits in
    let pos' = pow_pos (let q = named.ref in q.keybits) in
    let own = in_holds r.key r (omega arith) (omega (arith, pos)) in
    let its = in_holds r.key named.ref (omega (arith, named.key)) (omega (arith, named.key, pos')) in
    let same : r ≡ named.ref = same_holder _ _ r.key (refs f m) named.place i named.ref r node.inside named.read read its own in
    ap (λ (x : Ref). is_indirect x) same ∙ named.indirect

pub taken_whole : (n : ℕ) (xs : List Ref) → take (length (take n xs)) xs ≡ take n xs
taken_whole zero xs = refl
taken_whole (suc n) [] = refl
taken_whole (suc n) (x ∷ xs) = ap (λ (z : List Ref). x ∷ z) (taken_whole n xs)

pub there_at : (xs : List Ref) (i : ℕ) → i < length xs → (x : Ref) × (slice_get xs i ≡ Some x)
there_at [] i lt = absurd (omega (arith, lt))
there_at (x ∷ xs) zero lt = (x, refl)
there_at (x ∷ xs) (suc i) lt = there_at xs i (omega (arith, lt))

-- Where the node itself is cut, or all goes at a root

pub nodes_here : (f k g : Forest) (at size count : ℕ) (last last' : Option Ref) → Walks f k → LoadsIn f k at size size → k.stands at ≡ true → KeepsFront k g at count last' → (k.root at ≡ at) ⊎ IsChanged (refs k at) count last' → ((q : Ref) → last' ≡ Some q → last ≡ Some q) → ((i : ℕ) (x : Ref) → slice_get (refs k at) i ≡ Some x → limit x ≤ size → i < count) → CutsNodes f g at size last
nodes_here f k g at size count last last' walks touched stands keeps changes given stay = record {
  walked = k;
  walks = walks;
  touched = touched;
  node = at;
  stands = stands;
  way = arrived;
  stays = keeps.place.stands;
  count = count;
  put = last';
  given = given;
  set = keeps.set;
  changes = changes;
  none_new = keeps.none_new;
  left = λ m i x st st' read ends. elim (same_or_not m at) as (λ _. i < length (refs g m)) [
    | inl e ↦ subst (λ z. slice_get (refs k z) i ≡ Some x → i < length (refs g z)) (sym e) (λ read'. at_left i x read' ends) read
    | inr ne ↦ let n = keeps.lengths m st st' ne in let w = slice_get_within (refs k m) i x read in omega (arith, n, w)
  ];
  still = λ m st st'. keeps.still m st';
  stand = λ m st none. keeps.stand m st (λ goes. none (record { node = at; stood = stands; stays = keeps.place.stands; behind = fewer_behind (let n = left_length in omega (arith, n)) goes }));
  gone = λ m st past. elim (same_or_not past.node at) as (λ _. g.stands m ≡ false) [
    | inl e ↦
        let goes : GoesBehind k at (length (refs g at)) m = subst (λ z. GoesBehind k z (length (refs g z)) m) e past.behind in
        let w = slice_get_within (refs k at) goes.place goes.ref goes.read in
        keeps.gone m st (record { place = goes.place; ref = goes.ref; read = goes.read; behind = (let b = goes.behind in let n = left_length in omega (arith, b, n, w)); tree = goes.tree; fewer = goes.fewer; held = goes.held })
    | inr ne ↦
        let goes = past.behind in
        let w = slice_get_within (refs k past.node) goes.place goes.ref goes.read in
        let n = keeps.lengths past.node past.stood past.stays ne in
        absurd (let b = goes.behind in omega (arith, b, n, w))
  ];
  link = λ m i r st st' read ind. elim (same_or_not m at) as (λ _. g.link m r.key ≡ k.link m r.key) [
    | inl e ↦ subst (λ z. slice_get (refs g z) i ≡ Some r → g.link z r.key ≡ k.link z r.key) (sym e) (λ read'. keeps.link i r read' ind) read
    | inr ne ↦ keeps.links m r.key st st' ne
  ];
  alike = λ m st st' root ne.
      let like = keeps.alike m st st' root ne in
      let n = Alike-length (refs k m) (refs g m) like in
      subst (λ z. Alike z (refs g m)) (sym (take_all (length (refs g m)) (refs k m) (omega (arith, n)))) like;
  renewed = λ m st root. keeps.above m st root;
  exact = λ m i r st st' ne read lt off. keeps.exact m i r st st' ne read off;
  kept = λ m i c r st st' ne read lt link w. keeps.kept m i c r st st' ne read link w;
  kept_leaf = λ m i c r st st' ne read lt leaf is w. keeps.kept_leaf m i c r st st' ne read leaf is w;
  dated = λ m i r q st st' ne read now. keeps.dated m i r q st st' ne read now;
  epoch = keeps.fixed.epoch;
  others = keeps.others;
  made = keeps.made;
  writable = keeps.writable;
  copies = keeps.copies;
  room = (let a = keeps.room in let b = walks.room in omega (arith, a, b));
}
  where
    left_length : length (refs g at) ≡ min count (length (refs k at))
    left_length = ap (λ (s : RefSet). length s.refs) keeps.set ∙ front_length count last' (refs k at)

    at_left : (i : ℕ) (x : Ref) → slice_get (refs k at) i ≡ Some x → limit x ≤ size → i < length (refs g at)
    at_left i x read ends =
        let n = left_length in
        let w = slice_get_within (refs k at) i x read in
        let less = stay i x read ends in
        omega (arith, n, w, less)
