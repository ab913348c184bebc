-- A root that is added.
use Rattle.std.proofs.Common.{◌≡◌, ℕ, ◌+◌, ◌≤◌, true, cond, sym, ◌∙◌, ap}
use Rattle.h2_ref.specs.declared.reference.Ref.{Ref}
use Rattle.h2_set.specs.RefSet.{RefSet}
use Rattle.h2_set.specs.Forest.{Forest, refs, loaded, IsSoundNode}

-- what two forests say of a node, but for what is below it
pub record Places (f g : Forest) (m : ℕ) : Type 0 where
  pub root : g.root m ≡ f.root m
  pub low : g.low m ≡ f.low m
  pub bits : g.bits m ≡ f.bits m
  pub set : g.set m ≡ f.set m

pub record Agrees (f g : Forest) (m : ℕ) : Type 0 where
  pub root : g.root m ≡ f.root m
  pub low : g.low m ≡ f.low m
  pub bits : g.bits m ≡ f.bits m
  pub set : g.set m ≡ f.set m
  pub writable : g.writable m ≡ f.writable m
  pub copies : g.copies m ≡ f.copies m

-- a node stays sound where no more is loaded below it, and what is copied is counted
pub still_counted : (f g : Forest) (m : ℕ) → ((n : ℕ) → f.stands n ≡ true → g.stands n ≡ true → Places f g n) → f.stands m ≡ true → g.stands m ≡ true → ((k c : ℕ) → g.link m k ≡ loaded c → (f.link m k ≡ loaded c) × (g.stands c ≡ true)) → g.leaf_bits (f.root m) ≡ f.leaf_bits (f.root m) → ((r : Ref) → g.allows (f.root m) r ≡ f.allows (f.root m) r) → ((n t j : ℕ) → f.stands n ≡ true → g.stands n ≡ true → g.belongs n t j ≡ f.belongs n t j) → ((k c : ℕ) → g.link m k ≡ loaded c → g.copies c ≡ g.copies m + cond (g.writable c) 0 1) → (g.root m ≡ m → g.copies m ≡ 0) → g.copies m + g.bits m ≤ 63 → IsSoundNode f m → IsSoundNode g m
still_counted f g m agrees old st links leaf allows belongs kids top slope node =
    let p = agrees m old st in
    let refs_is : refs g m ≡ refs f m = ap (λ (t : RefSet). t.refs) p.set in
    let grain : g.leaf_bits (g.root m) ≡ f.leaf_bits (f.root m) = ap g.leaf_bits p.root ∙ leaf in
    record {
      set = rw p.set node.set;
      root_capacity = λ top. ap (λ (t : RefSet). t.capacity) p.set ∙ node.root_capacity (sym p.root ∙ top);
      block_capacity = λ off. ap (λ (t : RefSet). t.capacity) p.set ∙ node.block_capacity (λ e. off (p.root ∙ e));
      inside = rw (refs_is, p.low, p.bits) node.inside;
      aligned = rw (p.low, p.bits) node.aligned;
      ends = rw (p.low, p.bits) node.ends;
      fits = λ i r read. let h = node.fits i r (rw refs_is at read) in record {
        held = h.held;
        aligned = h.aligned;
        class = h.class;
        leaf = λ k. h.leaf k ∙ sym grain;
        allowed = λ k. ap (λ n. g.allows n r) p.root ∙ allows r ∙ h.allowed k;
        wide = λ k. rw grain (h.wide k);
        some_bits = h.some_bits;
        falls = λ k. rw p.bits (h.falls k);
      };
      some = λ top. rw refs_is (node.some (λ e. top (p.root ∙ e)));
      child = λ k c at_k.
          let l = links k c at_k in
          let h = node.child k c l.0 in
          let q = agrees c h.stands l.1 in
          record {
            stands = l.1;
            root = q.root ∙ h.root ∙ sym p.root;
            low = q.low ∙ h.low;
            above = rw (p.low, q.low) h.above;
            within = rw (p.low, q.low, p.bits, q.bits) h.within;
            fewer = rw (p.bits, q.bits) h.fewer;
            copies = kids k c at_k;
            belongs = λ t j. belongs c t j h.stands l.1 ∙ h.belongs t j ∙ sym (belongs m t j old st);
          };
      named = λ k c at_k. rw refs_is (node.named k c (links k c at_k).0);
      bits = λ i c r read ind at_k.
          let l = links r.key c at_k in
          let h = node.child r.key c l.0 in
          (agrees c h.stands l.1).bits ∙ node.bits i c r (rw refs_is at read) ind l.0;
      top = top;
      half = λ top. p.bits ∙ node.half (sym p.root ∙ top);
      slope = slope;
    }

-- a node stays sound where no more is loaded below it
pub still_sound : (f g : Forest) (m : ℕ) → ((n : ℕ) → f.stands n ≡ true → g.stands n ≡ true → Agrees f g n) → f.stands m ≡ true → g.stands m ≡ true → ((k c : ℕ) → g.link m k ≡ loaded c → (f.link m k ≡ loaded c) × (g.stands c ≡ true)) → g.leaf_bits (f.root m) ≡ f.leaf_bits (f.root m) → ((r : Ref) → g.allows (f.root m) r ≡ f.allows (f.root m) r) → ((n t j : ℕ) → f.stands n ≡ true → g.stands n ≡ true → g.belongs n t j ≡ f.belongs n t j) → IsSoundNode f m → IsSoundNode g m
still_sound f g m agrees old st links leaf allows belongs node =
    let p = agrees m old st in
    still_counted f g m (λ n was now. let q = agrees n was now in record { root = q.root; low = q.low; bits = q.bits; set = q.set }) old st links leaf allows belongs
    (λ k c at_k.
    let l = links k c at_k in
    let h = node.child k c l.0 in
    let q = agrees c h.stands l.1 in
    rw (q.copies, p.copies, q.writable) h.copies)
    (λ top. p.copies ∙ node.top (sym p.root ∙ top)) (rw (p.copies, p.bits) node.slope) node
