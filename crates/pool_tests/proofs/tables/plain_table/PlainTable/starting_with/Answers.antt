use Rattle.std.proofs.Common.{refl, sym, ap, ◌∙◌}
use Rattle.tenant_tables.specs.Abbreviation.{only_of}
use Rattle.pool_tests.proofs.TablesInLists.{walked_all, walked_past, walked_first, walked_second}
use Rattle.tenant_tables.proofs.FoundLemmas.{filter-none}
use Rattle.pool_tests.proofs.tables.plain_table.PlainTable.starting_with.Goals.{then-lies_between+in-None, else-lies_between}
use Rattle.pool_tests.proofs.tables.plain_table.PlainTable.starting_with.Goals as goal

pub returns-in_default : goal.returns-in_default
returns-in_default c =
    rw (← c.seen-objects.ensures.value) (sym (ap only_of (filter-none _ _ c.seen-objects.ensures.named c.in_default.ensures.none)))

pub loop-id-init : goal.loop-id-init
loop-id-init c = refl

pub returns-in_default-found : goal.returns-in_default-found
returns-in_default-found c =
    rw (← c.seen-objects.ensures.value)
    (walked_second _ _ _ _ _ c.loop-id-test.true c.loop-id-item.is _ c.in-Some.ensures.some c.seen-objects.ensures.named
    (sym c.lies_between.ensures ∙ c.if-lies_between.true)
    (λ none. c.in_default-found.not-None (c.loop-id.invariant ∙ none)))

pub loop-id-preserved : goal.loop-id-preserved
loop-id-preserved c = elim c.if-lies_between.branch [
  | then-lies_between+in-None w ↦
      w.found-is
      ∙ walked_first _ _ _ _ _ c.loop-id-test.true c.loop-id-item.is
      (sym c.lies_between.ensures ∙ w.if-lies_between.true)
      (sym w.in-None.is ∙ c.loop-id.invariant)
  | else-lies_between w ↦
      w.found-is ∙ c.loop-id.invariant
      ∙ walked_past _ _ _ _ _ c.loop-id-test.true c.loop-id-item.is
      (sym c.lies_between.ensures ∙ w.if-lies_between.false)
]

pub returns : goal.returns
returns c =
    rw (← c.seen-objects.ensures.value)
    (walked_all _ _ _ _ _ _ c.in-Some.ensures.some c.seen-objects.ensures.named c.loop-id-test.false c.loop-id.invariant)
