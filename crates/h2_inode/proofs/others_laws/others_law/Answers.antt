use Rattle.std.specs.Prelude.{◌≡◌, true, Some}
use Rattle.h2_inode.specs.Loaded.{no_content}
use Rattle.h2_inode.specs.BareLaws.{unloaded_bare}
use Rattle.h2_inode.specs.OthersLaws.{KeepsTree-trans, RenewsTree-trans, RenewsOthers-trans, keeps_renews, contents_renewed, directory_renewed, kept_follow}
use Rattle.h2_inode.specs.RenewedLaws.{unloaded_renewed, renewed_follow}
use Rattle.h2_inode.proofs.others_laws.others_law.Goals as goal

pub returns-clause-kept : goal.returns-clause-kept
returns-clause-kept c = KeepsTree-trans

pub returns-clause-renewed : goal.returns-clause-renewed
returns-clause-renewed c = RenewsTree-trans

pub returns-clause-others : goal.returns-clause-others
returns-clause-others c = RenewsOthers-trans

pub returns-clause-renews : goal.returns-clause-renews
returns-clause-renews c = keeps_renews

pub returns-clause-contents : goal.returns-clause-contents
returns-clause-contents c = λ u v block at size bytes h. contents_renewed u v at h (λ r b. block r ≡ Some b) size bytes

pub returns-clause-directories : goal.returns-clause-directories
returns-clause-directories c = λ u v may at size entries h names. directory_renewed u v at h no_content (λ target number. may target number ≡ true) names size entries

pub returns-clause-bare : goal.returns-clause-bare
returns-clause-bare c = unloaded_bare

pub returns-clause-unloaded : goal.returns-clause-unloaded
returns-clause-unloaded c = unloaded_renewed

pub returns-clause-renewals : goal.returns-clause-renewals
returns-clause-renewals c = λ u v stay block h plain. renewed_follow u v (λ m. stay m ≡ true) h (λ r b. block r ≡ Some b) plain

pub returns-clause-follows : goal.returns-clause-follows
returns-clause-follows c = λ u v stay block h. kept_follow u v (λ m. stay m ≡ true) h (λ r b. block r ≡ Some b)
