use Rattle.std.proofs.Common.{refl, arith}
use Rattle.std.proofs.lemmas.Bool.{false≢true}
use Rattle.pool_file_format.specs.Shown.{objects_of}
use Rattle.pool_file_checks.proofs.ConnectLemmas.{IsFound, found, stands_found, found_before, found_kind, stands_nowhere}
use Rattle.pool_file_checks.proofs.standing.place_before.Goals as goal

pub returns-in_default-clause-stands : goal.returns-in_default-clause-stands
returns-in_default-clause-stands c = (
  λ e. absurd (false≢true e),
  λ s. absurd (stands_nowhere (objects_of c.args.objects.now) c.args.index.now.entries c.args.id.now c.args.kind c.args.place c.in_default.ensures.value s),
)

pub returns-then-place-earlier-clause-stands : goal.returns-then-place-earlier-clause-stands
returns-then-place-earlier-clause-stands c =
    let os = objects_of c.args.objects.now in let rows = c.args.index.now.entries in let id = c.args.id.now in
    let f : IsFound os rows id c.in-Some.earlier c.in-Some.number.now = found os rows id c.in-Some.earlier c.in-Some.number.now c.in-Some.ensures.index c.in-Some.ensures.value in (
      λ e. absurd (false≢true e),
      λ s. absurd (let b = found_before os rows id c.args.kind c.args.place c.in-Some.earlier c.in-Some.number.now f s in omega (arith, b)),
    )

pub returns-then-not-is_kind-clause-stands : goal.returns-then-not-is_kind-clause-stands
returns-then-not-is_kind-clause-stands c =
    let os = objects_of c.args.objects.now in let rows = c.args.index.now.entries in let id = c.args.id.now in
    let f : IsFound os rows id c.in-Some.earlier c.in-Some.number.now = found os rows id c.in-Some.earlier c.in-Some.number.now c.in-Some.ensures.index c.in-Some.ensures.value in
    let other = c.if-not-is_kind.true in (
      λ e. absurd (false≢true e),
      λ s. let same = c.is_kind.ensures.1 (found_kind os rows id c.args.kind c.args.place c.in-Some.earlier c.in-Some.number.now f s) in cc,
    )

pub returns-clause-stands : goal.returns-clause-stands
returns-clause-stands c =
    let os = objects_of c.args.objects.now in let rows = c.args.index.now.entries in let id = c.args.id.now in
    let f : IsFound os rows id c.in-Some.earlier c.in-Some.number.now = found os rows id c.in-Some.earlier c.in-Some.number.now c.in-Some.ensures.index c.in-Some.ensures.value in (
      λ _. stands_found os rows id c.args.kind c.args.place c.in-Some.earlier c.in-Some.number.now f (let l = c.if-place-earlier.false in omega (arith, l)) (c.is_kind.ensures.0 c.if-not-is_kind.false),
      λ _. refl,
    )

pub returns-clause-earlier : goal.returns-clause-earlier
returns-clause-earlier c =
    let os = objects_of c.args.objects.now in let rows = c.args.index.now.entries in let id = c.args.id.now in
    let f : IsFound os rows id c.in-Some.earlier c.in-Some.number.now = found os rows id c.in-Some.earlier c.in-Some.number.now c.in-Some.ensures.index c.in-Some.ensures.value in
    f.place
