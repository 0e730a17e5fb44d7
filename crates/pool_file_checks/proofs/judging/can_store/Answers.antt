use Rattle.std.proofs.Common.{subst}
use Rattle.std.specs.Prelude.{IfOk, IsTrue, ◌↔◌}
use Rattle.git_model.specs.Content.{content_from}
use Rattle.pool_file_checks.specs.Objects.{IsContent}
use Rattle.pool_file_format.specs.Shown.{object_of}
use Rattle.pool_file_checks.proofs.CheckLemmas.{is_stored}
use Rattle.pool_file_checks.proofs.judging.can_store.Goals as goal

pub returns-in-Some : goal.returns-in-Some
returns-in-Some c =
    is_stored (object_of c.args.object.now) c.in-Some.kind c.is_content.result c.in-Some.ensures
    (subst (λ bytes. IfOk c.is_content.result (λ b. IsTrue b ↔ IsContent (content_from c.in-Some.kind bytes))) c.as_slice.ensures c.is_content.ensures)
