use Rattle.std.proofs.Common.{◌≡◌, List, ℕ, filter, slice_get, Some, sym, ap, ◌∙◌}
use Rattle.name_index.specs.Index.{is_between}
use Rattle.tenant_tables.specs.Abbreviation.{only_of}
use Rattle.tenant_tables.proofs.FoundLemmas.{walked_first, walked_past, walked_second}
use Rattle.tenant_tables.proofs.Joined.{next_name}
use Rattle.tenant_tables.proofs.entry_list.EntryList.among_first.Goals as goal
use Rattle.tenant_tables.proofs.entry_list.EntryList.among_first.Goals.{then-lies_between+in-None, else-lies_between}

pub returns-in_default-found : goal.returns-in_default-found
returns-in_default-found c =
    walked_second (is_between c.args.first.now c.args.last.now) c.loop-place.place c.args.count c.args.self.now.entries c.in-Some.entry.0 c.in-Some.entry.1
    c.loop-place-test.true (sym c.at.ensures.entry ∙ c.in-Some.is) (sym c.lies_between.ensures ∙ c.if-lies_between.true)
    (λ none. c.in_default-found.not-None (c.loop-place.invariant ∙ none))

pub loop-place-preserved : goal.loop-place-preserved
loop-place-preserved c =
    let p = is_between c.args.first.now c.args.last.now in
    let at : slice_get c.args.self.now.entries c.loop-place.place ≡ Some c.in-Some.entry =
    sym c.at.ensures.entry ∙ c.in-Some.is in
    let more = ap (λ (ids : List (List ℕ)). only_of (filter p ids))
    (sym (next_name c.loop-place.place c.args.self.now.entries c.in-Some.entry.0 c.in-Some.entry.1 at)) in
    elim c.if-lies_between.branch [
      | then-lies_between+in-None w ↦
          w.found-is
          ∙ walked_first p _ c.in-Some.entry.0 (sym c.lies_between.ensures ∙ w.if-lies_between.true) (sym w.in-None.is ∙ c.loop-place.invariant)
          ∙ more
      | else-lies_between w ↦
          w.found-is ∙ c.loop-place.invariant
          ∙ walked_past p _ c.in-Some.entry.0 (sym c.lies_between.ensures ∙ w.if-lies_between.false) ∙ more
    ]
