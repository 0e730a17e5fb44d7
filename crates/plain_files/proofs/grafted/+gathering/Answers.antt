use Rattle.std.proofs.Common.{◌≡◌, List, sym, ◌∙◌, subst, arith, rules}
use Rattle.git_model.specs.declared.file_mode.FileMode.TheVariants as mode
use Rattle.git_objects.specs.declared.tree_entry.TreeEntry.{TreeEntry}
use Rattle.git_objects.specs.Parts.{entry_of, entries_of}
use Rattle.tenant_tables.specs.Objects.{objects}
use Rattle.file_maps.specs.StoredTree.{HasTree}
use Rattle.plain_files.proofs.Gathering.{gathers-none, component_at, inside_before, gathers_nothing}
use Rattle.plain_files.proofs.Gathering.{on_ok, file-gathered, directory-gathered, entry_turn}
use Rattle.plain_files.proofs.Gathering.{gathers-all, weighs_less, weighs_more}
use Rattle.file_maps.proofs.Standing.{position_of, placed, the_summary}
use Rattle.plain_files.proofs.grafted.+gathering.Goals as goal

pub gather-returns-then-has_none-clause-gathers : goal.gather-returns-then-has_none-clause-gathers
gather-returns-then-has_none-clause-gathers g t c =
    gathers_nothing g.N.Naming.digest_of c.args.pool.now c.args.table.now.entries c.requires.stands c.args.id.now c.args.top.now c.args.files.now.items c.requires.tree
    (sym c.has_none.ensures ∙ c.if-has_none.true)

pub gather-read_entries-requires : goal.gather-read_entries-requires
gather-read_entries-requires g t c =
    let s = the_summary _ c.requires.tree in
    let p = placed g.N.Naming.digest_of c.args.pool.now c.args.table.now.entries c.requires.stands c.args.id.now s.0 s.1 in
    rw c.of.ensures (p.0, p.1.has)

pub gather-loop-entry-init : goal.gather-loop-entry-init
gather-loop-entry-init g t c = record {
  gathered =
      gathers-none
      (objects c.args.pool.now c.args.table.now.entries) c.args.top.now c.args.files.now.items;
  paths = c.requires.paths;
}

pub gather-gather_entry-requires : goal.gather-gather_entry-requires
gather-gather_entry-requires g t c κs within =
    let has =
    subst (λ (l : List TreeEntry). HasTree (objects c.args.pool.now c.args.table.now.entries) c.args.id.now (entries_of l)) (sym c.deref-entry-items.ensures.value) (rw c.of.ensures at c.in_ok-entries.ensures) in
    let before = λ (dir : c.entry-item.result.mode ≡ mode.Directory).
    inside_before g.N.Naming.digest_of c.args.pool.now c.args.table.now.entries c.requires.stands c.args.id.now c.deref-entry-items.result.now c.loop-entry.entry-index c.entry-item.result has c.requires.tree
    c.loop-entry-test.true c.entry-item.is dir in
    let less = weighs_less c.entry-item.result.mode
    (position_of c.entry-item.result.id c.args.table.now.entries) (position_of c.args.id.now c.args.table.now.entries) (λ (dir : c.entry-item.result.mode ≡ mode.Directory). (before dir).0) in (
      omega (arith, c.decreases, less),
      (
        search (rules, within),
        (
          c.requires.stands,
          (
            component_at
                (objects c.args.pool.now c.args.table.now.entries) c.args.id.now c.deref-entry-items.result.now c.loop-entry.entry-index c.entry-item.result has c.loop-entry-test.true c.entry-item.is,
            ((λ dir. (before dir).1), c.loop-entry.invariant.paths),
          ),
        ),
      ),
    )

pub gather-loop-entry-preserved : goal.gather-loop-entry-preserved
gather-loop-entry-preserved g t c = record {
  gathered =
      entry_turn
      (objects c.args.pool.now c.args.table.now.entries) c.args.top.now c.deref-entry-items.result.now c.loop-entry.entry-index c.entry-item.result
      c.args.files.now.items c.loop-entry.files.items c.gather_entry.new.files.items
      c.loop-entry-test.true c.entry-item.is c.loop-entry.invariant.gathered c.in_ok-gather_entry.ensures.gathers;
  paths = c.in_ok-gather_entry.ensures.paths;
}

pub gather-returns : goal.gather-returns
gather-returns g t c = record {
  gathers =
      gathers-all
      (objects c.args.pool.now c.args.table.now.entries) c.args.top.now c.args.id.now c.deref-entry-items.result.now c.loop-entry.entry-index c.args.files.now.items c.loop-entry.files.items
      c.loop-entry-test.false
      (subst (λ (l : List TreeEntry). HasTree (objects c.args.pool.now c.args.table.now.entries) c.args.id.now (entries_of l)) (sym c.deref-entry-items.ensures.value) (rw c.of.ensures at c.in_ok-entries.ensures))
      c.loop-entry.invariant.gathered;
  paths = c.loop-entry.invariant.paths;
}

pub gather_entry-gather-requires : goal.gather_entry-gather-requires
gather_entry-gather-requires g t c κs within =
    let more = weighs_more c.args.entry.now.mode
    (position_of c.args.entry.now.id c.args.table.now.entries) c.in-Directory.is in (
      omega (arith, c.decreases, more),
      (search (rules, within), (c.requires.stands, (c.requires.tree c.in-Directory.is, c.requires.paths))),
    )

pub gather_entry-returns-in-Directory-clause-gathers : goal.gather_entry-returns-in-Directory-clause-gathers
gather_entry-returns-in-Directory-clause-gathers g t c =
    on_ok c.gather.result
    (directory-gathered (objects c.args.pool.now c.args.table.now.entries) c.args.top.now (entry_of c.args.entry.now) c.in_ok-path.path c.args.files.now.items c.gather.new.files.items c.in-Directory.is c.in_ok-path.ensures)
    c.gather.ensures.gathers

pub gather_entry-returns-in_default : goal.gather_entry-returns-in_default
gather_entry-returns-in_default g t c = record {
  gathers =
      on_ok c.push_file.result
      (file-gathered (objects c.args.pool.now c.args.table.now.entries) c.args.top.now (entry_of c.args.entry.now) c.in_ok-path.path c.args.files.now.items c.push_file.new.files.items c.in_default.not-Directory c.in_ok-path.ensures)
      c.push_file.ensures.file;
  paths = c.push_file.ensures.paths;
}
