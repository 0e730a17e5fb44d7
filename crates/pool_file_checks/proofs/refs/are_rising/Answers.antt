use Rattle.std.proofs.Common.{ℕ, ◌+◌, List, Some, map, drop, refl, sym, subst, arith}
use Rattle.std.specs.Prelude.{◌↔◌, IsTrue}
use Rattle.std.specs.Option.{option_map}
use Rattle.std.proofs.lemmas.List.{drop_all}
use Rattle.std.proofs.lemmas.Bool.{false≢true, iff_false}
use Rattle.pool_file_format.specs.declared.raw.RawRef.{RawRef}
use Rattle.pool_file_checks.specs.Objects.{IsAfter}
use Rattle.pool_file_format.specs.Shown.{refs_of}
use Rattle.pool_file_checks.proofs.TenantLemmas.{Rises, left_at, rises_on, rises_not, rises_end}
use Rattle.pool_file_checks.proofs.refs.are_rising.Goals as goal

abbrev names : List RawRef → List (List ℕ)
names rs = map (λ r. r.name) (refs_of rs)

pub returns-then-not-is_after : goal.returns-then-not-is_after
returns-then-not-is_after c =
    let last = option_map (λ o. o.now) c.loop-one.last in
    let xs = c.args.refs.now in let i = c.loop-one.one-index in let x = c.one-item.result in
    let left = left_at xs i x (let t = c.loop-one-test.true in omega (arith, t)) c.one-item.is in
    let after = subst (λ (l : List ℕ). IsTrue c.is_after.result ↔ IsAfter last l) c.deref.ensures.value c.is_after.ensures in (
      λ e. absurd (false≢true e),
      λ q. absurd (rises_not last x.name.items (names (drop (i + 1) xs)) (names xs)
          (subst (λ (rs : List RawRef). Rises last (names rs) (names xs)) left c.loop-one.invariant) (iff_false after c.if-not-is_after.true) q),
    )

pub loop-one-preserved : goal.loop-one-preserved
loop-one-preserved c =
    let last = option_map (λ o. o.now) c.loop-one.last in
    let xs = c.args.refs.now in let i = c.loop-one.one-index in let x = c.one-item.result in
    let left = left_at xs i x (let t = c.loop-one-test.true in omega (arith, t)) c.one-item.is in
    let after = subst (λ (l : List ℕ). IsTrue c.is_after.result ↔ IsAfter last l) c.deref.ensures.value c.is_after.ensures in
    subst (λ (l : List ℕ). Rises (Some l) (names (drop (i + 1) xs)) (names xs)) (sym c.as_slice.ensures.value)
    (rises_on last x.name.items (names (drop (i + 1) xs)) (names xs)
    (subst (λ (rs : List RawRef). Rises last (names rs) (names xs)) left c.loop-one.invariant) (after.0 c.if-not-is_after.false))

pub returns : goal.returns
returns c =
    let last = option_map (λ o. o.now) c.loop-one.last in
    let xs = c.args.refs.now in
    let none = drop_all c.loop-one.one-index xs (let t = c.loop-one-test.false in omega (arith, t)) in (
      λ e. rises_end last (names xs) (subst (λ (rs : List RawRef). Rises last (names rs) (names xs)) none c.loop-one.invariant),
      λ q. refl,
    )
