-- Where each handle names a file that stands, a read by an open one is answered.
use Rattle.std.specs.Prelude.{◌≡◌, ◌≢◌, ◌⊎◌, ℕ, ◌+◌, ◌≤◌, List, [], ◌∷◌, true, cond, nat_eq, is_some, Option, Some, None, IsSome, refl}
use Rattle.std.specs.List.{Contains}
use Rattle.std.specs.FinMap.{get, contains_key}
use Rattle.std.proofs.Common.{ap, sym, ◌∙◌, subst, arith, inl, inr}
use Rattle.std.proofs.lemmas.Bool.{ne_eqb}
use Rattle.h2_forest.specs.declared.pfs.Pfs.{Pfs}
use Rattle.h2_forest.specs.Table.{bytes_of}
use Rattle.h2_forest.specs.Steps.{given}
use Rattle.h2_forest.specs.Ids.{Ascend, IdsAscend}
use Rattle.h2_forest.specs.Forest.{PlainForest, first_from, pfs_with_id, opened_in, read_reply}
use Rattle.h2_command.specs.declared.reply.Reply.{Reply}
use Rattle.h2_command.specs.declared.reply.Reply.TheVariants.{Got, NoHandle}
use Rattle.h2_contents.specs.Bytes.{read_at}
use Rattle.h2_consistent.specs.Handles.{HasFile, HandlesStand, IsRead}
use Rattle.h2_consistent.proofs.Found.{has_which, has_none}

-- ids are not below the first bound
above : (low next : ℕ) (ps : List Pfs) (p : Pfs) → Ascend low ps next → Contains ps p → low ≤ p.id
above low next [] p a has = absurd (has_none p has)
above low next (x ∷ ps) p a has = by (has_which x p ps has) (above (x.id + 1) next ps p a.1)
  where
    by : ((x ≡ p) ⊎ Contains ps p) → (Contains ps p → x.id + 1 ≤ p.id) → low ≤ p.id
    by (inl s) later = subst (λ (q : Pfs). low ≤ q.id) s a.0
    by (inr there) later = let first : low ≤ x.id = a.0 in let rest : x.id + 1 ≤ p.id = later there in omega arith

-- each PFS is found by its id
found_by_id : (low next k : ℕ) (ps : List Pfs) (p : Pfs) → Ascend low ps next → Contains ps p
    → (i : ℕ) × (first_from (λ q. nat_eq q.id p.id) k ps ≡ Some (i, p))
found_by_id low next k [] p a has = absurd (has_none p has)
found_by_id low next k (x ∷ ps) p a has = by (has_which x p ps has) (found_by_id (x.id + 1) next (k + 1) ps p a.1)
  where
    Found : Type 0
    Found = (i : ℕ) × (cond (nat_eq x.id p.id) (Some (k, x)) (first_from (λ q. nat_eq q.id p.id) (k + 1) ps) ≡ Some (i, p))

    here : nat_eq p.id p.id ≡ true
    here = grind arith

    apart : x.id + 1 ≤ p.id → x.id ≢ p.id
    apart le s = let above : x.id + 1 ≤ p.id = le in let same : x.id ≡ p.id = s in omega arith

    by : ((x ≡ p) ⊎ Contains ps p)
        → (Contains ps p → (i : ℕ) × (first_from (λ q. nat_eq q.id p.id) (k + 1) ps ≡ Some (i, p))) → Found
    by (inl s) later =
        (k, ap (λ b. cond b (Some (k, x)) (first_from (λ q. nat_eq q.id p.id) (k + 1) ps)) (ap (λ (q : Pfs). nat_eq q.id p.id) s ∙ here) ∙ ap (λ (q : Pfs). Some (k, q)) s)
    by (inr there) later =
        let rest = later there in
        (rest.0, ap (λ b. cond b (Some (k, x)) (first_from (λ q. nat_eq q.id p.id) (k + 1) ps)) (ne_eqb x.id p.id (apart (above (x.id + 1) next ps p a.1 there))) ∙ rest.1)

-- the file behind a handle, by the PFS that was found
abbrev opened_with : ℕ → Option (ℕ × Pfs) → Option (ℕ × (Pfs × ℕ))
opened_with number o = elim o [ Some found ↦ Some (found.0, (found.1, number)) | None ↦ None ]

module _ (f : PlainForest) (ids : IdsAscend f) (client handle off len : ℕ) where
  -- what a read gives of an open file
  abbrev answered : Option (ℕ × (Pfs × ℕ)) → Reply
  answered o = (given f o NoHandle (λ file. read_reply f (bytes_of (get file.1.0.table file.1.1)) off len)).0

  read_of : (o : Option (List ℕ)) → IsSome o
      → (bytes : List ℕ) × ((o ≡ Some bytes) × ((read_reply f o off len).0 ≡ Got (read_at bytes off len)))
  read_of (Some bytes) h = (bytes, (refl, refl))
  read_of None h = absurd (cc)

  file_read : (id number : ℕ) (here : HasFile f id number)
      → (bytes : List ℕ) × ((bytes_of (get here.pfs.table number) ≡ Some bytes) × (answered (opened_in f (Some (id, number))) ≡ Got (read_at bytes off len)))
  file_read id number here =
      let found = found_by_id 0 f.next_pfs 0 f.pfss here.pfs ids here.listed in
      let is : pfs_with_id id f.pfss ≡ Some (found.0, here.pfs) = ap (λ n. pfs_with_id n f.pfss) (sym here.id_is) ∙ found.1 in
      let read = read_of (bytes_of (get here.pfs.table number)) here.file in
      let there : opened_in f (Some (id, number)) ≡ Some (found.0, (here.pfs, number)) = ap (opened_with number) is in
      (read.0, (read.1.0, ap answered there ∙ read.1.1))

  pub open_read : HandlesStand f → contains_key f.handles (client, handle) ≡ true → IsRead f client handle off len
  open_read stand held = by (get f.handles (client, handle)) refl held
    where
      by : (o : Option (ℕ × ℕ)) → get f.handles (client, handle) ≡ o → is_some o ≡ true → IsRead f client handle off len
      by (Some at) is e =
          let here = stand client handle at.0 at.1 is in
          let read = file_read at.0 at.1 here in
          record { id = at.0; number = at.1; held = is; file = here; bytes = read.0; bytes_are = read.1.0; reply_is = ap (λ o. answered (opened_in f o)) is ∙ read.1.1 }
      by None is e = absurd (cc)
