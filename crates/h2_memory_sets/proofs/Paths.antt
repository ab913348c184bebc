-- Loaded paths in a forest of which no set has changed.
use Rattle.std.proofs.Common.{◌≡◌, ℕ, true, sym, ◌∙◌, ap, List, Option, slice_get}
use Rattle.h2_ref.specs.declared.reference.Ref.{Ref}
use Rattle.h2_set.specs.Forest.{Forest, refs, IsSound, HasOwner, Reaches, nowhere, here, below}

-- where each node has the same references, and the same below them, its paths lead to the same
pub reaches_same : (f g : Forest) → IsSound f → ((n : ℕ) → f.stands n ≡ true → refs g n ≡ refs f n) → ((n k : ℕ) → f.stands n ≡ true → g.link n k ≡ f.link n k) → {key at : ℕ} {o : Option Ref} → f.stands at ≡ true → Reaches f key at o → Reaches g key at o
reaches_same f g sound same link st (nowhere {at = n} miss) = nowhere (λ i q read. miss i q (ap (λ (l : List Ref). slice_get l i) (sym (same n st)) ∙ read))
reaches_same f g sound same link st (here {at = n} {r = r} i read in_r leaf) = here {r = r} i (ap (λ (l : List Ref). slice_get l i) (same n st) ∙ read) in_r leaf
reaches_same f g sound same link st (below {at = n} {c = c} {r = r} i read in_r ind on rest) =
    let kid = (sound.node n st).child r.key c on in
    below {r = r} i (ap (λ (l : List Ref). slice_get l i) (same n st) ∙ read) in_r ind (link n r.key st ∙ on) (reaches_same f g sound same link kid.stands rest)

-- and each node that stands belongs to the leaf that it belonged to
pub owner_same : (f g : Forest) → IsSound f → ((n : ℕ) → f.stands n ≡ true → refs g n ≡ refs f n) → ((n k : ℕ) → f.stands n ≡ true → g.link n k ≡ f.link n k) → ((n : ℕ) → g.stands n ≡ f.stands n) → ((n : ℕ) → g.root n ≡ f.root n) → (m t k : ℕ) → f.stands m ≡ true → f.belongs m t k ≡ true → HasOwner g m t k
owner_same f g sound same link stands root m t k st b =
    let h = sound.owner m t k st b in
    record {
      other = λ e. h.other (sym (root m) ∙ e);
      stands = stands t ∙ h.stands;
      root = root t ∙ h.root;
      leaf = h.leaf;
      key_is = h.key_is;
      kind_is = h.kind_is;
      path = reaches_same f g sound same link h.stands h.path;
    }
