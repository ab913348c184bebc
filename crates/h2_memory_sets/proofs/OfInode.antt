-- What belongs to a leaf stands with the root of its inode, while something else of the forest changes.
use Rattle.std.proofs.Common.{◌≡◌, ℕ, ◌↔◌, true, sym, ◌∙◌, subst, ◌⊎◌, inl, inr}
use Rattle.h2_set.specs.Forest.{Forest, IsOfInode}
use Rattle.h2_set.specs.Calls.{InPlace}

-- a node is in the tree that it was in, and belongs to what it belonged to
pub record IsOwnedAsBefore (f g : Forest) (m : ℕ) : Type 0 where
  pub root : g.root m ≡ f.root m
  pub belongs : (t k : ℕ) → g.belongs m t k ≡ f.belongs m t k

-- so is a node that stays in its place
pub placed_owned : (f g : Forest) (m : ℕ) → InPlace f g m → IsOwnedAsBefore f g m
placed_owned f g m h = record { root = h.root; belongs = h.belongs }

-- a node that belonged to a leaf stands with the root of its inode, where that root stands
pub of_inode_stays : (f g : Forest) (m t k : ℕ) → IsOwnedAsBefore f g m → IsOwnedAsBefore f g t → (it : IsOfInode f m t k) → g.stands it.inode ≡ true → IsOwnedAsBefore f g it.inode → IsOfInode g m t k
of_inode_stays f g m t k here above it stands same = record {
  inode = it.inode;
  named = record {
    stands = stands;
    root = same.root ∙ it.named.root;
    belongs = λ u j.
        subst (λ x. (x ≡ true) ↔ (((u ≡ t) × (j ≡ k)) ⊎ (g.belongs t u j ≡ true))) (sym (same.belongs u j))
        (subst (λ x. (f.belongs it.inode u j ≡ true) ↔ (((u ≡ t) × (j ≡ k)) ⊎ (x ≡ true))) (sym (above.belongs u j)) (it.named.belongs u j));
  };
  within = elim it.within as (λ _. (g.root m ≡ it.inode) ⊎ ((j : ℕ) × (g.belongs m it.inode j ≡ true))) [
    | inl e ↦ inl (here.root ∙ e)
    | inr w ↦ inr (w.0, here.belongs it.inode w.0 ∙ w.1)
  ];
}

-- a node in the tree of another, which belongs to what that does, stands with the root of the same inode
pub of_inode_like : (g : Forest) (m n t k : ℕ) → g.root m ≡ g.root n → ((u j : ℕ) → g.belongs m u j ≡ g.belongs n u j) → IsOfInode g n t k → IsOfInode g m t k
of_inode_like g m n t k root same it = record {
  inode = it.inode;
  named = it.named;
  within = elim it.within as (λ _. (g.root m ≡ it.inode) ⊎ ((j : ℕ) × (g.belongs m it.inode j ≡ true))) [
    | inl e ↦ inl (root ∙ e)
    | inr w ↦ inr (w.0, same it.inode w.0 ∙ w.1)
  ];
}
