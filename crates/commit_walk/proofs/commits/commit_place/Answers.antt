use Rattle.std.proofs.Common.{sym, ◌∙◌}
use Rattle.commit_walk.proofs.CommitsAt.{no_commit, kind_told, nothing_told}
use Rattle.commit_walk.proofs.commits.commit_place.Goals as goal

pub returns-in_err-place : goal.returns-in_err-place
returns-in_err-place g c =
    let none = c.from_residual.ensures in
    rw none (no_commit c.args.objects.now c.args.id.now c.in_err-place.ensures)

pub returns-in_default : goal.returns-in_default
returns-in_default g c = absurd (nothing_told c.args.objects.now c.in_ok-place.place c.in_default.ensures c.in_ok-place.ensures.1)

pub returns-then-eq : goal.returns-then-eq
returns-then-eq g c = (
  kind_told c.args.objects.now c.args.id.now c.in_ok-place.place _ c.in-Some.kind _
      c.in_ok-place.ensures.0 c.in_ok-place.ensures.1 c.in-Some.ensures
      ∙ sym c.if-eq.ensures,
  c.in_ok-place.ensures.0,
  c.in_ok-place.ensures.1,
)

pub returns-else-eq : goal.returns-else-eq
returns-else-eq g c =
    kind_told c.args.objects.now c.args.id.now c.in_ok-place.place _ c.in-Some.kind _
    c.in_ok-place.ensures.0 c.in_ok-place.ensures.1 c.in-Some.ensures
    ∙ sym c.if-eq.ensures
