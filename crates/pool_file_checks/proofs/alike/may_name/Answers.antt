use Rattle.std.proofs.Common.{refl, sym, subst}
use Rattle.std.proofs.lemmas.Bool.{OnTrue_at, OnTrue_from}
use Rattle.git_model.specs.References.{reference}
use Rattle.git_model.specs.GoodRepository.{StandsBefore}
use Rattle.git_model.specs.declared.kind.Kind.{Kind}
use Rattle.pool_file_format.specs.Shown.{objects_of}
use Rattle.pool_file_checks.specs.Alike.{MayName}
use Rattle.pool_file_checks.specs.Own.{objects_in}
use Rattle.pool_file_checks.proofs.AlikeLemmas.{same_kept}
use Rattle.pool_file_checks.proofs.alike.may_name.Goals as goal

pub returns-in-Some-place_before : goal.returns-in-Some-place_before
returns-in-Some-place_before c = λ e asked id.
    let os = objects_in (objects_of c.args.objects.now) c.args.index.now.entries in
    OnTrue_from c.have_one_sum.result (MayName os c.args.place c.args.sums.now e c.args.new.now) (λ yes. record {
      stands = λ _. subst (λ (k : Kind). StandsBefore os c.args.place (reference k c.args.new.now)) (sym asked) (c.in-Some.ensures.stands.0 refl);
      sum = λ _. same_kept os c.args.sums.now c.args.new.now e.id c.in-Some.now c.in-Some-place_before.before
          c.in-Some.ensures.earlier (rw id c.in-Some-place_before.ensures.earlier) (OnTrue_at yes c.have_one_sum.ensures);
    })
