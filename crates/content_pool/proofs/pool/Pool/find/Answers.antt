use Rattle.std.proofs.Common.{◌≡◌, [], length, sym, ap, ◌∙◌, arith, unwrap_or}
use Rattle.content_pool.specs.Index.{bucket, prefix_of}
use Rattle.content_pool.proofs.PoolLemmas.{stored_in_bucket, held_nowhere, IsPool-once}
use Rattle.content_pool.proofs.pool.Pool.find.Goals as goal

pub returns-in_default-clause-found : goal.returns-in_default-clause-found
returns-in_default-clause-found g c =
    let none : bucket c.self.inside.buckets.entries c.of-prefix.result ≡ [] =
    ap (λ o. unwrap_or o []) (sym c.in_default.ensures.value) in
    rw (← c.self.view_is)
    (held_nowhere _ _ c.self.inside.buckets.entries c.of-prefix.result _ c.self.invariant.0 c.self.invariant.1 (c.of-prefix.ensures ∙ ap prefix_of c.requires) (λ k within _. absurd (omega (arith, ap length none))))

pub key_of-requires : goal.key_of-requires
key_of-requires g c =
    let slots : c.slots.result.now ≡ bucket c.self.inside.buckets.entries c.of-prefix.result =
    c.slots.ensures ∙ ap (λ o. unwrap_or o []) c.in-Some.ensures.value in
    rw slots (stored_in_bucket _ c.self.inside.buckets.entries c.of-prefix.result c.self.invariant.1)

pub returns-in_err-key-clause-found : goal.returns-in_err-key-clause-found
returns-in_err-key-clause-found g c =
    let slots : c.slots.result.now ≡ bucket c.self.inside.buckets.entries c.of-prefix.result =
    c.slots.ensures ∙ ap (λ o. unwrap_or o []) c.in-Some.ensures.value in
    rw (c.from_residual.ensures, ← c.self.view_is)
    (held_nowhere _ _ c.self.inside.buckets.entries c.of-prefix.result _ c.self.invariant.0 c.self.invariant.1 (c.of-prefix.ensures ∙ ap prefix_of c.requires) (rw slots at c.in_err-key.ensures))

pub returns-in_default-clause-once : goal.returns-in_default-clause-once
returns-in_default-clause-once g c = rw (← c.self.view_is) (IsPool-once _ _ c.self.invariant.0)

pub returns-in_err-key-clause-once : goal.returns-in_err-key-clause-once
returns-in_err-key-clause-once g c = rw (← c.self.view_is) (IsPool-once _ _ c.self.invariant.0)

pub returns-clause-once : goal.returns-clause-once
returns-clause-once g c = rw (← c.self.view_is) (IsPool-once _ _ c.self.invariant.0)
