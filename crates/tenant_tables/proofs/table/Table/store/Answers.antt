use Rattle.std.proofs.Common.{◌≡◌, ℕ, List, sym, ap, ◌∙◌}
use Rattle.git_model.specs.ObjectName.{object_name}
use Rattle.git_model.specs.declared.kind.Kind.{Kind}
use Rattle.tenant_tables.proofs.AddLemmas.{fault-long, fault-found, fault-full, fault-clash, fault-none, no_object, no_entry, found_adds, pushed}
use Rattle.tenant_tables.proofs.TableLemmas.{length-objects}
use Rattle.tenant_tables.proofs.table.Table.store.Goals as goal

-- A name by the digest of the same bytes.
name_is : (digest : List ℕ → List ℕ) (k : Kind) (id xs ys : List ℕ) → id ≡ object_name digest k xs
    → xs ≡ ys → id ≡ object_name digest k ys
name_is digest k id xs ys named same = named ∙ ap (object_name digest k) same

pub returns-then-len-gt-CONTENTS_LIMIT-clause-answer : goal.returns-then-len-gt-CONTENTS_LIMIT-clause-answer
returns-then-len-gt-CONTENTS_LIMIT-clause-answer g c =
    fault-long _ _ _ (rw c.len.ensures at c.if-len-gt-CONTENTS_LIMIT.true)

pub returns-then-unwrap_or-clause-answer : goal.returns-then-unwrap_or-clause-answer
returns-then-unwrap_or-clause-answer g c =
    let named = name_is g.N.Naming.digest_of c.args.kind _ _ _ c.in_ok-id.ensures c.as_slice.ensures.value in (
      named,
      fault-found _ _ _ _
          (rw (named, c.as_slice-2.ensures.value) at c.has_content-there.ensures)
          (rw c.len.ensures at c.if-len-gt-CONTENTS_LIMIT.false)
          (sym c.if-unwrap_or.ensures),
    )

pub returns-then-unwrap_or-clause-ok : goal.returns-then-unwrap_or-clause-ok
returns-then-unwrap_or-clause-ok g c =
    found_adds _ _ _ _ _ _ _ (rw c.as_slice-2.ensures.value at c.has_content-there.ensures)
    (sym c.if-unwrap_or.ensures) (name_is g.N.Naming.digest_of c.args.kind _ _ _ c.in_ok-id.ensures c.as_slice.ensures.value) c.requires.stands c.requires.summed

pub returns-then-is_full-clause-answer : goal.returns-then-is_full-clause-answer
returns-then-is_full-clause-answer g c =
    let named = name_is g.N.Naming.digest_of c.args.kind _ _ _ c.in_ok-id.ensures c.as_slice.ensures.value in
    fault-full _ _ _ _
    (rw (named, c.as_slice-2.ensures.value) at c.has_content-there.ensures)
    (rw c.len.ensures at c.if-len-gt-CONTENTS_LIMIT.false)
    (sym c.if-unwrap_or.ensures) _ (length-objects _ _) (sym c.if-is_full.ensures)

pub returns-then-is_some-clause-answer : goal.returns-then-is_some-clause-answer
returns-then-is_some-clause-answer g c =
    let named = name_is g.N.Naming.digest_of c.args.kind _ _ _ c.in_ok-id.ensures c.as_slice.ensures.value in
    fault-clash _ _ _ _
    (rw (named, c.as_slice-2.ensures.value) at c.has_content-there.ensures)
    (rw c.len.ensures at c.if-len-gt-CONTENTS_LIMIT.false)
    (sym c.if-unwrap_or.ensures)
    _ (length-objects _ _) (sym c.if-is_full.ensures) (sym c.if-is_some.ensures)

pub push_new-requires-clause-new : goal.push_new-requires-clause-new
push_new-requires-clause-new g c =
    no_entry _ _ _ (no_object _ _ _ _ c.has_content-there.ensures (sym c.if-is_some.ensures))

pub returns : goal.returns
returns g c =
    let named = name_is g.N.Naming.digest_of c.args.kind _ _ _ c.in_ok-id.ensures c.as_slice.ensures.value in
    let short = rw c.len.ensures at c.if-len-gt-CONTENTS_LIMIT.false in
    let new = no_entry _ _ _ (no_object _ _ _ _ c.has_content-there.ensures (sym c.if-is_some.ensures)) in
    let after = pushed _ _ _ _ _ _ _ _ _ c.in_ok-push_new.ensures.ok.1 named new c.requires.stands c.requires.summed short in
    record {
      stands = after.stands;
      others = after.others;
      answer = (
        named,
        fault-none _ _ _ _
            (rw (named, c.as_slice-2.ensures.value) at c.has_content-there.ensures)
            short (sym c.if-unwrap_or.ensures)
            _ (length-objects _ _) (sym c.if-is_full.ensures) (sym c.if-is_some.ensures),
      );
      ok = after.adds;
      err = tt;
    }
