use Rattle.std.proofs.Common.{refl}
use Rattle.std.proofs.lemmas.Bool.{false≢true, iff_false}
use Rattle.git_model.specs.GoodRepository.{IsShortRefName}
use Rattle.pool_file_format.specs.Shown.{object_of}
use Rattle.pool_file_checks.specs.FileRefs.{MayTarget}
use Rattle.pool_file_checks.proofs.CheckLemmas.{either}
use Rattle.pool_file_checks.proofs.targets.may_stand.Goals as goal

pub returns-then-not-is_short_ref_name : goal.returns-then-not-is_short_ref_name
returns-then-not-is_short_ref_name c = (
  λ e. absurd (false≢true e),
  λ p. absurd (iff_false c.is_short_ref_name.ensures c.if-not-is_short_ref_name.true p.0),
)

pub returns-in-Some : goal.returns-in-Some
returns-in-Some c =
    let name = c.args.name.now in let target = object_of c.in-Some.target.now in
    let short = c.is_short_ref_name.ensures.0 c.if-not-is_short_ref_name.false in
    rw c.in-Some.is (either (MayTarget name target) (IsShortRefName name × MayTarget name target) c.may_target.result
    (λ may. (short, may)) (λ p. p.1) c.may_target.ensures)

pub returns-in-None : goal.returns-in-None
returns-in-None c =
    let short = c.is_short_ref_name.ensures.0 c.if-not-is_short_ref_name.false in
    rw c.in-None.is (λ e. (short, tt), λ p. refl)
