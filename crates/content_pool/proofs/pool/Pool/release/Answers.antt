use Rattle.std.proofs.Common.{◌≡◌, ◌-◌, Some, sym, ap, ◌∙◌, refl, subst, IsSome, arith}
use Rattle.std.proofs.lemmas.Option.{same_Some}
use Rattle.content_pool.specs.Pool.{IsLive}
use Rattle.content_pool.proofs.PoolLemmas.{stored_at, Writes-set, Writes-updates, IsPool-recounted, IsIndexed-recounted, Releases-recounted, IsPool-given_up, IsIndexed-given_up, Releases-given_up, times-at}
use Rattle.content_pool.proofs.pool.Pool.release.Goals as goal

pub index-requires : goal.index-requires
index-requires g c =
    let live : IsLive c.self.inside.cells.slots c.slot.inside.key =
    rw (c.self.view_is, c.slot.view_is) c.requires in
    let e = stored_at c.self.inside.cells.slots c.slot.inside.key live in
    subst (λ o. IsSome o) (sym e.1) refl

pub invariant_of-self : goal.invariant_of-self
invariant_of-self g c =
    let w =
    Writes-set c.self.inside.cells.slots c.slot.inside.key _
    (Some (record c.index_mut.result.now { holds = c.index_mut.result.now.holds - 1 })) c.index_mut.ensures.value in
    let same : c.index.result.now.holds ≡ c.index_mut.result.now.holds = ap (λ e. e.holds) (same_Some _ _ (sym c.index.ensures ∙ c.index_mut.ensures.value)) in (
      IsPool-recounted _ _ _ _ _ c.index_mut.ensures.value w _ c.self.invariant.0
          (omega (arith, same, c.if-index-gt-LAST.true)),
      IsIndexed-recounted _ _ _ _ _ c.index_mut.ensures.value w _ c.self.invariant.1,
    )

pub returns-then-index-gt-LAST : goal.returns-then-index-gt-LAST
returns-then-index-gt-LAST g c =
    let w =
    Writes-set c.self.inside.cells.slots c.slot.inside.key _
    (Some (record c.index_mut.result.now { holds = c.index_mut.result.now.holds - 1 })) c.index_mut.ensures.value in
    let same : c.index.result.now.holds ≡ c.index_mut.result.now.holds =
    ap (λ e. e.holds) (same_Some _ _ (sym c.index.ensures ∙ c.index_mut.ensures.value)) in
    rw (← c.self.view_is, ← c.slot.view_is) (Releases-recounted _ _ _ _ _ c.index_mut.ensures.value w (omega (arith, same, c.if-index-gt-LAST.true)))

pub forget-requires : goal.forget-requires
forget-requires g c = times-at _ _ _ _ c.remove-given_up.ensures.value c.self.invariant.1

pub invariant_of-self-2 : goal.invariant_of-self-2
invariant_of-self-2 g c =
    let w = Writes-updates _ _ _ _ c.remove-given_up.ensures.updates in (
      IsPool-given_up _ _ _ _ c.remove-given_up.ensures.value w _ c.self.invariant.0,
      IsIndexed-given_up _ _ _ _ c.remove-given_up.ensures.value w _ _ c.self.invariant.1 c.forget.ensures,
    )

pub returns : goal.returns
returns g c =
    let w = Writes-updates _ _ _ _ c.remove-given_up.ensures.updates in
    let one : c.index.result.now.holds ≡ c.remove-given_up.result.holds =
    ap (λ e. e.holds) (same_Some _ _ (sym c.index.ensures ∙ c.remove-given_up.ensures.value)) in
    let positive = c.self.invariant.0.counted _ _ c.remove-given_up.ensures.value in
    rw (← c.self.view_is, ← c.slot.view_is) (Releases-given_up _ _ _ _ c.remove-given_up.ensures.value w (omega (arith, one, positive, c.if-index-gt-LAST.false)))
