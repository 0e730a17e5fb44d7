use Rattle.std.proofs.Common.{◌≡◌, length, Option, IfOk, sym, ap, ◌∙◌, subst, rules, arith}
use Rattle.file_maps.specs.declared.entry.Entry.{Entry}
use Rattle.file_maps.specs.FileMap.{Path, Listed}
use Rattle.file_maps.specs.Edits.{cut}
use Rattle.file_maps.specs.StoredFiles.{stored_files}
use Rattle.tree_build.specs.Standing.{stands_at, IsFoundAt}
use Rattle.tree_build.proofs.StoredParts.{none-named, named-here, no-directory, in-directory}
use Rattle.tree_build.proofs.reading.+reading.Goals as goal

pub returns-in_default-clause-entry : goal.returns-in_default-clause-entry
returns-in_default-clause-entry g t c =
    (none-named c.are_backed.ensures c.requires.tree c.in_ok-row.ensures c.args.rest.now c.in_default.is).0

pub returns-in_default-clause-found : goal.returns-in_default-clause-found
returns-in_default-clause-found g t c =
    (none-named c.are_backed.ensures c.requires.tree c.in_ok-row.ensures c.args.rest.now c.in_default.is).1

pub returns-in-None-clause-entry : goal.returns-in-None-clause-entry
returns-in-None-clause-entry g t c =
    (named-here c.are_backed.ensures c.requires.tree c.in_ok-row.ensures c.in-Some.row c.in-Some.is c.args.rest.now c.in-None.ensures).0

pub returns-in-None-clause-found : goal.returns-in-None-clause-found
returns-in-None-clause-found g t c =
    (named-here c.are_backed.ensures c.requires.tree c.in_ok-row.ensures c.in-Some.row c.in-Some.is c.args.rest.now c.in-None.ensures).1

pub returns-in_default-mode-clause-entry : goal.returns-in_default-mode-clause-entry
returns-in_default-mode-clause-entry g t c =
    (no-directory c.are_backed.ensures c.requires.tree c.in_ok-row.ensures c.in-Some.row c.in-Some.is c.args.rest.now
    c.in-Some-split_first.next.now c.in-Some-split_first.left c.in-Some-split_first.ensures c.in_default-mode.not-Directory).0

pub returns-in_default-mode-clause-found : goal.returns-in_default-mode-clause-found
returns-in_default-mode-clause-found g t c =
    (no-directory c.are_backed.ensures c.requires.tree c.in_ok-row.ensures c.in-Some.row c.in-Some.is c.args.rest.now
    c.in-Some-split_first.next.now c.in-Some-split_first.left c.in-Some-split_first.ensures c.in_default-mode.not-Directory).1

pub stored_entry-requires : goal.stored_entry-requires
stored_entry-requires g t c κs within =
    let below = in-directory c.are_backed.ensures c.requires.tree c.in_ok-row.ensures c.in-Some.row c.in-Some.is c.args.rest.now c.in-Directory.is in
    let less = ap (λ (p : Path). length p) c.in-Some-split_first.ensures in
    (omega (arith, c.decreases, less), (search (rules, within), below.tree))

pub returns-in-Directory-clause-entry : goal.returns-in-Directory-clause-entry
returns-in-Directory-clause-entry g t c =
    let below = in-directory c.are_backed.ensures c.requires.tree c.in_ok-row.ensures c.in-Some.row c.in-Some.is c.args.rest.now c.in-Directory.is in
    subst (λ (x : Option Entry). IfOk c.stored_entry.result (λ o. o ≡ x))
    (ap (stands_at g.N.Naming.digest_of (stored_files c.args.objects.now c.in-Some.row.name))
    (sym c.in-Some-split_first.ensures) ∙ sym below.same) c.stored_entry.ensures.entry

pub returns-in-Directory-clause-found : goal.returns-in-Directory-clause-found
returns-in-Directory-clause-found g t c =
    let os = c.args.objects.now in
    let below = in-directory c.are_backed.ensures c.requires.tree c.in_ok-row.ensures c.in-Some.row c.in-Some.is c.args.rest.now c.in-Directory.is in
    subst (λ (l : Listed). IfOk c.stored_entry.result (λ o. IsFoundAt os o l))
    (ap (λ (p : Path). cut p (stored_files os c.in-Some.row.name)) (sym c.in-Some-split_first.ensures) ∙ sym below.files) c.stored_entry.ensures.found
