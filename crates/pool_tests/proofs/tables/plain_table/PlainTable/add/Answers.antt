use Rattle.std.proofs.Common.{sym}
use Rattle.tenant_tables.proofs.AddLemmas.{fault-long, fault-found, fault-full, fault-clash, fault-none, no_object, no_entry, found_adds, pushed}
use Rattle.tenant_tables.proofs.TableLemmas.{length-objects}
use Rattle.tenant_tables.proofs.PlainSums.{other-summed}
use Rattle.pool_tests.proofs.tables.plain_table.PlainTable.add.Goals as goal

pub returns-then-bytes-gt-CONTENTS_LIMIT-clause-answer : goal.returns-then-bytes-gt-CONTENTS_LIMIT-clause-answer
returns-then-bytes-gt-CONTENTS_LIMIT-clause-answer g c =
    fault-long _ _ _ c.if-bytes-gt-CONTENTS_LIMIT.true

pub returns-then-unwrap_or-clause-answer : goal.returns-then-unwrap_or-clause-answer
returns-then-unwrap_or-clause-answer g c = (
  c.in_ok-id.ensures,
  fault-found _ _ _ _
      (rw c.in_ok-id.ensures at c.has_content-there.ensures) c.if-bytes-gt-CONTENTS_LIMIT.false
      (sym c.if-unwrap_or.ensures),
)

pub returns-then-unwrap_or-clause-ok : goal.returns-then-unwrap_or-clause-ok
returns-then-unwrap_or-clause-ok g c =
    found_adds _ _ _ _ _ _ _ c.has_content-there.ensures
    (sym c.if-unwrap_or.ensures) c.in_ok-id.ensures c.requires.stands (other-summed _ _ c.requires.no_tree)

pub returns-then-is_full-clause-answer : goal.returns-then-is_full-clause-answer
returns-then-is_full-clause-answer g c =
    fault-full _ _ _ _
    (rw c.in_ok-id.ensures at c.has_content-there.ensures) c.if-bytes-gt-CONTENTS_LIMIT.false
    (sym c.if-unwrap_or.ensures)
    _ (length-objects _ _) (sym c.if-is_full.ensures)

pub returns-then-is_some-clause-answer : goal.returns-then-is_some-clause-answer
returns-then-is_some-clause-answer g c =
    fault-clash _ _ _ _
    (rw c.in_ok-id.ensures at c.has_content-there.ensures) c.if-bytes-gt-CONTENTS_LIMIT.false
    (sym c.if-unwrap_or.ensures)
    _ (length-objects _ _) (sym c.if-is_full.ensures) (sym c.if-is_some.ensures)

pub push_new-requires-clause-new : goal.push_new-requires-clause-new
push_new-requires-clause-new g c =
    no_entry _ _ _ (no_object _ _ _ _ c.has_content-there.ensures (sym c.if-is_some.ensures))

pub returns-clause-stands : goal.returns-clause-stands
returns-clause-stands g c =
    let there = c.in_ok-push_new.ensures.ok in
    (pushed _ _ _ _ _ _ _ _ _ there.1 c.in_ok-id.ensures (no_entry _ _ _ (no_object _ _ _ _ c.has_content-there.ensures (sym c.if-is_some.ensures))) c.requires.stands (other-summed _ _ c.requires.no_tree) c.if-bytes-gt-CONTENTS_LIMIT.false).stands

pub returns-clause-others : goal.returns-clause-others
returns-clause-others g c =
    let there = c.in_ok-push_new.ensures.ok in
    (pushed _ _ _ _ _ _ _ _ _ there.1 c.in_ok-id.ensures (no_entry _ _ _ (no_object _ _ _ _ c.has_content-there.ensures (sym c.if-is_some.ensures))) c.requires.stands (other-summed _ _ c.requires.no_tree) c.if-bytes-gt-CONTENTS_LIMIT.false).others

pub returns-clause-answer : goal.returns-clause-answer
returns-clause-answer g c = (
  c.in_ok-id.ensures,
  fault-none _ _ _ _
      (rw c.in_ok-id.ensures at c.has_content-there.ensures) c.if-bytes-gt-CONTENTS_LIMIT.false
      (sym c.if-unwrap_or.ensures)
      _ (length-objects _ _) (sym c.if-is_full.ensures) (sym c.if-is_some.ensures),
)

pub returns-clause-ok : goal.returns-clause-ok
returns-clause-ok g c =
    let there = c.in_ok-push_new.ensures.ok in
    (pushed _ _ _ _ _ _ _ _ _ there.1 c.in_ok-id.ensures (no_entry _ _ _ (no_object _ _ _ _ c.has_content-there.ensures (sym c.if-is_some.ensures))) c.requires.stands (other-summed _ _ c.requires.no_tree) c.if-bytes-gt-CONTENTS_LIMIT.false).adds
