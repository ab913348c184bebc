use Rattle.std.proofs.Common.{◌≡◌, ◌∙◌, refl, subst, sym}
use Rattle.h2_dirkey.specs.PfsName.{IsPfsName}
use Rattle.h2_script.specs.Names.{AreNoNames}
use Rattle.h2_script.specs.Paths.{SpellsPath, IsNoPath, BeginsWithSlash}
use Rattle.h2_script.specs.declared.fault.LineFault.TheVariants.{Path}
use Rattle.h2_script.proofs.Paths.{no_colon_no_path, no_slash_no_path, bad_pfs_no_path, bad_names_no_path}
use Rattle.h2_script.proofs.Refusals.{passed_on}
use Rattle.h2_script.proofs.path.read_path.Goals as goal

pub returns-in_default : goal.returns-in_default
returns-in_default c = (refl, no_colon_no_path c.args.word.now c.in_default.ensures)

pub returns-in_default-after_slash : goal.returns-in_default-after_slash
returns-in_default-after_slash c = (refl, no_slash_no_path c.args.word.now _ _ c.in-Some.ensures (subst (λ text. BeginsWithSlash text → ⊥) c.as_bytes.ensures.value c.in_default-after_slash.ensures))

pub returns-in_err-pfs : goal.returns-in_err-pfs
returns-in_err-pfs c = passed_on (SpellsPath c.args.word.now) (λ why. (why ≡ Path) × (IsPfsName c.in-Some.pfs.now → ⊥)) (λ why. (why ≡ Path) × IsNoPath c.args.word.now) c.from_residual.result c.in_err-pfs.field-0.0 c.from_residual.ensures.1 c.in_err-pfs.ensures (λ why h. (h.0, bad_pfs_no_path c.args.word.now _ _ c.in-Some.ensures h.1))

pub returns-in_err-names : goal.returns-in_err-names
returns-in_err-names c = passed_on (SpellsPath c.args.word.now) (λ why. (why ≡ Path) × AreNoNames c.in-Some-after_slash.names.now) (λ why. (why ≡ Path) × IsNoPath c.args.word.now) c.from_residual-in_err-names.result c.in_err-names.field-0.0 c.from_residual-in_err-names.ensures.1 c.in_err-names.ensures (λ why h. (h.0, bad_names_no_path c.args.word.now _ _ _ c.in-Some.ensures (sym c.as_bytes.ensures.value ∙ c.in-Some-after_slash.ensures) h.1))
