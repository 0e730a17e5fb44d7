use Rattle.std.proofs.Common.{◌+◌, Option, refl, sym, ap, subst, ◌∙◌}
use Rattle.git_model.specs.Content.{Content, name_by}
use Rattle.content_pool.specs.Pool.{Puts, content}
use Rattle.tenant_tables.specs.declared.summary.Summary.{Summary}
use Rattle.tenant_tables.specs.Adding.{Adds}
use Rattle.tenant_tables.specs.Summed.{SummedAfter}
use Rattle.tenant_tables.specs.View.{View}
use Rattle.tenant_service.specs.Across.{HasFirst}
use Rattle.tenant_service.proofs.AcrossLemmas.{is-new, is-spare, left-first, left-stands, on-ok, put-named, put-room, put-short, put-stands, put-summed, source-live, source-named}
use Rattle.tenant_service.proofs.across.add_across.Goals as goal

pub get-kind-requires : goal.get-kind-requires
get-kind-requires g c =
    source-live _ _ _ _ _ _ c.requires c.len-distinct.ensures.distinct c.len-distinct.ensures.limited
    c.unwrap-id.result.0 c.unwrap-id.result.1 (sym c.unwrap-id.ensures ∙ c.at.ensures)

pub put_named-requires-clause-named : goal.put_named-requires-clause-named
put_named-requires-clause-named g c =
    source-named _ _ _ _ _ _ c.requires c.len-distinct.ensures.distinct c.len-distinct.ensures.limited
    c.unwrap-id.result.0 c.unwrap-id.result.1 (sym c.unwrap-id.ensures ∙ c.at.ensures)
    ∙ ap (name_by g.N.Naming.digest_of) (sym c.get-kind.ensures)

pub add_held-added-requires-clause-stands : goal.add_held-added-requires-clause-stands
add_held-added-requires-clause-stands g c =
    put-stands _ _ _ _ _ _ c.requires c.len-distinct.ensures.distinct c.len-distinct.ensures.limited
    c.unwrap-id.result.0 c.unwrap-id.result.1 (sym c.unwrap-id.ensures ∙ c.at.ensures) c.put_named.new.self c.in_ok-slot.slot
    (subst (λ (x : Content). Puts c.args.pool.now c.put_named.new.self c.in_ok-slot.slot x) c.get-kind.ensures c.in_ok-slot.ensures.puts)

pub add_held-added-requires-clause-room : goal.add_held-added-requires-clause-room
add_held-added-requires-clause-room g c =
    put-room _ _ _ _ _ _ c.requires c.len-distinct.ensures.distinct c.len-distinct.ensures.limited
    c.unwrap-id.result.0 c.unwrap-id.result.1 (sym c.unwrap-id.ensures ∙ c.at.ensures) c.put_named.new.self c.in_ok-slot.slot
    (subst (λ (x : Content). Puts c.args.pool.now c.put_named.new.self c.in_ok-slot.slot x) c.get-kind.ensures c.in_ok-slot.ensures.puts)

pub add_held-added-requires-clause-named : goal.add_held-added-requires-clause-named
add_held-added-requires-clause-named g c =
    put-named _ _ _ _ _ _ c.requires c.len-distinct.ensures.distinct c.len-distinct.ensures.limited
    c.unwrap-id.result.0 c.unwrap-id.result.1 (sym c.unwrap-id.ensures ∙ c.at.ensures) c.put_named.new.self c.in_ok-slot.slot
    (subst (λ (x : Content). Puts c.args.pool.now c.put_named.new.self c.in_ok-slot.slot x) c.get-kind.ensures c.in_ok-slot.ensures.puts)

pub add_held-added-requires-clause-new : goal.add_held-added-requires-clause-new
add_held-added-requires-clause-new g c =
    is-new _ _ _ _ _ _ c.requires c.len-distinct.ensures.distinct c.len-distinct.ensures.limited
    c.unwrap-id.result.0 c.unwrap-id.result.1 (sym c.unwrap-id.ensures ∙ c.at.ensures)

pub add_held-added-requires-clause-spare : goal.add_held-added-requires-clause-spare
add_held-added-requires-clause-spare g c =
    is-spare _ _ _ _ _ _ c.requires c.len-distinct.ensures.distinct c.len-distinct.ensures.limited
    c.unwrap-id.result.0 c.unwrap-id.result.1 (sym c.unwrap-id.ensures ∙ c.at.ensures)

pub add_held-added-requires-clause-summed : goal.add_held-added-requires-clause-summed
add_held-added-requires-clause-summed g c =
    subst (λ (s : Option Summary). SummedAfter c.args.made.now.entries
    (content c.put_named.new.self c.in_ok-slot.slot) s) (sym c.summary.ensures)
    (put-summed _ _ _ _ _ _ c.requires c.len-distinct.ensures.distinct c.len-distinct.ensures.limited
    c.unwrap-id.result.0 c.unwrap-id.result.1 (sym c.unwrap-id.ensures ∙ c.at.ensures) c.put_named.new.self c.in_ok-slot.slot
    (subst (λ (x : Content). Puts c.args.pool.now c.put_named.new.self c.in_ok-slot.slot x) c.get-kind.ensures c.in_ok-slot.ensures.puts))

pub add_held-added-requires-clause-short : goal.add_held-added-requires-clause-short
add_held-added-requires-clause-short g c =
    put-short _ _ _ _ _ _ c.requires c.len-distinct.ensures.distinct c.len-distinct.ensures.limited
    c.unwrap-id.result.0 c.unwrap-id.result.1 (sym c.unwrap-id.ensures ∙ c.at.ensures) c.put_named.new.self c.in_ok-slot.slot
    (subst (λ (x : Content). Puts c.args.pool.now c.put_named.new.self c.in_ok-slot.slot x) c.get-kind.ensures c.in_ok-slot.ensures.puts)

pub returns-clause-stands : goal.returns-clause-stands
returns-clause-stands g c =
    left-stands _ _ _ _ _ _ c.requires c.len-distinct.ensures.distinct c.len-distinct.ensures.limited
    c.unwrap-id.result.0 c.unwrap-id.result.1 (sym c.unwrap-id.ensures ∙ c.at.ensures) c.put_named.new.self c.in_ok-slot.slot
    (subst (λ (x : Content). Puts c.args.pool.now c.put_named.new.self c.in_ok-slot.slot x) c.get-kind.ensures c.in_ok-slot.ensures.puts)
    c.add_held-added.new.pool c.add_held-added.new.self.entries c.add_held-added.ensures.stands
    c.add_held-added.ensures.others c.release.new.self c.release.ensures

pub returns-clause-ok : goal.returns-clause-ok
returns-clause-ok g c =
    let D = g.N.Naming.digest_of in
    let q = c.put_named.new.self in
    let r = c.add_held-added.new.pool in
    let new : View = c.add_held-added.new.self in
    let old : View = c.args.made.now in
    let here = content q c.in_ok-slot.slot in
    on-ok c.add_held-added.result (Adds D here c.summary.result q old r new)
    (HasFirst c.args.from.now c.args.table.now.entries (c.args.place + 1) c.release.new.self new.entries)
    (λ adds.
    left-first _ _ _ _ _ _ c.requires c.len-distinct.ensures.distinct c.len-distinct.ensures.limited
    c.unwrap-id.result.0 c.unwrap-id.result.1 (sym c.unwrap-id.ensures ∙ c.at.ensures) q
    c.in_ok-slot.slot
    (subst (λ (x : Content). Puts c.args.pool.now q c.in_ok-slot.slot x) c.get-kind.ensures c.in_ok-slot.ensures.puts)
    r new.entries c.add_held-added.ensures.stands
    c.add_held-added.ensures.others c.release.new.self c.release.ensures old new refl refl
    (subst (λ (s : Option Summary). Adds D here s q old r new) c.summary.ensures adds))
    c.add_held-added.ensures.ok
