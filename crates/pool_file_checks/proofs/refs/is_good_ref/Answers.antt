use Rattle.std.proofs.lemmas.Bool.{false≢true}
use Rattle.std.proofs.Common.{Option, None, Some, sym, subst, ◌∙◌}
use Rattle.std.specs.Prelude.{◌↔◌, IsTrue, IfOk, IfSome}
use Rattle.std.proofs.lemmas.Bool.Decides.{Decides-eqb}
use Rattle.std.proofs.lemmas.Slice.Eq.{strip_prefix_is}
use Rattle.git_model.specs.GoodRepository.{IsShortRefName}
use Rattle.pool_file_format.specs.Format.{RawObject}
use Rattle.pool_file_checks.specs.FileRefs.{MayTarget}
use Rattle.pool_file_format.specs.Shown.{objects_of, ref_of}
use Rattle.pool_file_checks.proofs.RefLemmas.{good_ref}
use Rattle.pool_file_checks.proofs.refs.is_good_ref.Goals as goal

pub returns-in-Some : goal.returns-in-Some
returns-in-Some c =
    good_ref c.args.front.now (objects_of c.args.objects.now) c.args.numbers.now (ref_of c.args.one.now) c.in-Some.name.now c.may_stand.result
    (sym c.as_slice.ensures.value ∙ strip_prefix_is Decides-eqb c.as_slice.result.now c.args.front.now (Some c.in-Some.name) c.in-Some.ensures.cases)
    (subst (λ (t : Option RawObject). IfOk c.may_stand.result (λ b. IsTrue b ↔ (IsShortRefName c.in-Some.name.now × IfSome t (MayTarget c.in-Some.name.now))))
    c.target_at.ensures c.may_stand.ensures)

pub returns-in-None : goal.returns-in-None
returns-in-None c =
    let other = strip_prefix_is Decides-eqb c.as_slice.result.now c.args.front.now None c.in-None.ensures.cases in (
      λ e. absurd (false≢true e),
      λ g. absurd (other g.ref (c.as_slice.ensures.value ∙ g.full)),
    )
