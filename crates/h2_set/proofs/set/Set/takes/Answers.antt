use Rattle.std.proofs.Common.{rules, ◌≡◌, ◌∙◌, sym, true, false, subst}
use Rattle.h2_set.specs.Ranges.{IsApart}
use Rattle.h2_set.proofs.set.Set.takes.Goals as goal

pub returns-then-not-is_apart : goal.returns-then-not-is_apart
returns-then-not-is_apart c =
    let there : c.deref.result.now ≡ c.args.self.now.refs = search rules in
    record { takes = (λ f. absurd (let clash : false ≡ true = f in cc), λ t. let it : c.is_apart.result ≡ true = c.is_apart.ensures.1 (subst (IsApart c.args.r.now) (sym there) t.apart) in let clash : true ≡ false = sym it ∙ c.if-not-is_apart.true in cc) }
