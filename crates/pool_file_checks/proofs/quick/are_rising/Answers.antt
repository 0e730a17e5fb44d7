use Rattle.std.proofs.Common.{ℕ, ◌+◌, List, map, drop, subst, arith}
use Rattle.std.specs.Option.{option_map}
use Rattle.std.proofs.lemmas.List.{drop_all}
use Rattle.pool_file_format.specs.declared.raw.RawObject.{RawObject}
use Rattle.pool_file_format.specs.Shown.{object_of, objects_of}
use Rattle.pool_file_checks.specs.Objects.{object_key}
use Rattle.pool_file_checks.proofs.TenantLemmas.{Rises, left_at, rises_start, rises_on, rises_end}
use Rattle.pool_file_checks.proofs.quick.are_rising.Goals as goal

abbrev keys : List RawObject → List (List ℕ)
keys xs = map object_key (objects_of xs)

pub loop-object-init : goal.loop-object-init
loop-object-init c = rises_start (keys c.args.objects.now)

pub loop-object-preserved : goal.loop-object-preserved
loop-object-preserved c =
    let xs = c.args.objects.now in let i = c.loop-object.object-index in let x = c.object-item.result in
    let last = option_map (λ o. object_key (object_of o.now)) c.loop-object.last in
    rises_on last (object_key (object_of x)) (keys (drop (i + 1) xs)) (keys xs)
    (subst (λ (left : List RawObject). Rises last (keys left) (keys xs))
    (left_at xs i x (let t = c.loop-object-test.true in omega (arith, t)) c.object-item.is) c.loop-object.invariant)
    (c.is_after.ensures.0 c.if-not-is_after.false)

pub returns : goal.returns
returns c =
    let xs = c.args.objects.now in
    let last = option_map (λ o. object_key (object_of o.now)) c.loop-object.last in
    rises_end last (keys xs) (subst (λ (left : List RawObject). Rises last (keys left) (keys xs))
    (drop_all c.loop-object.object-index xs (let t = c.loop-object-test.false in omega (arith, t))) c.loop-object.invariant)
