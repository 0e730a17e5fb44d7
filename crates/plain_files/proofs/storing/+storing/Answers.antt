use Rattle.std.proofs.Common.{◌≡◌, ℕ, ◌-◌, ◌<◌, ◌≤◌, List, [], ◌∷◌, ◌++◌, length, take, map, OnOk}
use Rattle.std.proofs.Common.{Some, refl, sym, ap, ◌∙◌, subst, rules, arith}
use Rattle.std.specs.List.{AllByRecursion}
use Rattle.git_model.specs.ObjectName.{IsObjectName}
use Rattle.git_model.specs.Tree.{TreeEntry, tree_contents}
use Rattle.git_objects.specs.declared.tree_entry.TreeEntry as declared
use Rattle.git_objects.specs.Parts.{entries_of}
use Rattle.tenant_tables.specs.Trees.{FitsTree}
use Rattle.tenant_tables.specs.View.{summary_of}
use Rattle.tenant_tables.specs.declared.summary.Summary.{Summary}
use Rattle.plain_files.specs.declared.below.Group.{Group}
use Rattle.file_maps.specs.FileMap.{Listed, IsFile}
use Rattle.file_maps.specs.Trees.{depth_of, grouped, tree_name, entries_within, trees_within}
use Rattle.plain_files.specs.Below.{files_below, groups_of, group_of}
use Rattle.file_maps.specs.Storing.{StoresTrees}
use Rattle.plain_files.specs.Storable.{IsKnownGroup}
use Rattle.plain_files.proofs.Nested.{entries_turn, entries_end}
use Rattle.file_maps.proofs.Nested.{pushed, direct_of}
use Rattle.file_maps.proofs.Sums.{fits-tree}
use Rattle.file_maps.proofs.Stored.{adds-none, stopped}
use Rattle.plain_files.proofs.Stored.{trees_of, trees-any, entries-any, deep_some}
use Rattle.plain_files.proofs.Turns.{each-storable, ids_turn, known_turn, adds_turn, unrefused_turn}
use Rattle.plain_files.proofs.Turns.{stopped_here, refused_here, all_trees}
use Rattle.file_maps.proofs.Turns.{stores-last}
use Rattle.std.proofs.lemmas.List.{take_all, length-map}
use Rattle.plain_files.proofs.storing.+storing.Goals as goal

pub store_trees-returns-in-Err-clause-stores : goal.store_trees-returns-in-Err-clause-stores
store_trees-returns-in-Err-clause-stores g t c =
    stopped g.N.Naming.digest_of _ _ _ _ _ []
    (trees_within g.N.Naming.digest_of c.args.deep (files_below c.args.files.now))
    (adds-none g.N.Naming.digest_of c.args.pool.now c.args.table.now c.requires.stands c.requires.room) refl refl

pub store_trees-store_groups-requires : goal.store_trees-store_groups-requires
store_trees-store_groups-requires g t c κs within = (
  omega (arith, c.decreases),
  (
    search (rules, within),
    (
      c.requires.deep,
      (
        c.requires.files,
        (
          ap groups_of c.deref.ensures.value ∙ c.in-Ok.ensures,
          (c.requires.stands, c.requires.room),
        ),
      ),
    ),
  ),
)

pub store_groups-overflow_sub-deep : goal.store_groups-overflow_sub-deep
store_groups-overflow_sub-deep g t c =
    let are = c.requires.groups in
    deep_some
    (files_below c.args.files.now) c.loop-group.group-index c.args.deep c.requires.files.each c.requires.deep
    (subst (λ n. c.loop-group.group-index < n) (sym (length-map c.args.groups.now group_of) ∙ ap length are) c.loop-group-test.true)

pub store_groups-store_group-requires : goal.store_groups-store_group-requires
store_groups-store_group-requires g t c κs within =
    let are = c.requires.groups in
    let deep : 0 < c.args.deep = store_groups-overflow_sub-deep g t c in (
      omega (arith, c.decreases),
      (
        search (rules, within),
        (
          each-storable c.args.deep
              (files_below c.args.files.now) c.args.groups.now c.loop-group.group-index c.group-item.result c.requires.files c.requires.deep are c.loop-group-test.true c.group-item.is,
          (c.loop-group.invariant.adds.stands, c.loop-group.invariant.adds.room),
        ),
      ),
    )

pub store_groups-returns-in-Err-clause-stores : goal.store_groups-returns-in-Err-clause-stores
store_groups-returns-in-Err-clause-stores g t c =
    let are = c.requires.groups in
    refused_here g.N.Naming.digest_of
    (c.args.deep - 1) _ _ _ _ _ _ c.args.groups.now c.loop-group.group-index c.group-item.result c.loop-group-test.true c.group-item.is
    _ _ _
    (trees-any g.N.Naming.digest_of c.args.deep (files_below c.args.files.now) c.args.groups.now c.requires.files.each c.requires.deep are)
    c.loop-group.invariant.adds c.loop-group.invariant.unrefused c.in-Err.ensures.stores

pub store_groups-returns-then-is_err-clause-stores : goal.store_groups-returns-then-is_err-clause-stores
store_groups-returns-then-is_err-clause-stores g t c =
    let are = c.requires.groups in
    stopped_here g.N.Naming.digest_of
    (c.args.deep - 1) _ _ _ _ _ _ c.args.groups.now c.loop-group.group-index c.group-item.result c.loop-group-test.true c.group-item.is
    _ _
    (trees-any g.N.Naming.digest_of c.args.deep (files_below c.args.files.now) c.args.groups.now c.requires.files.each c.requires.deep are)
    c.loop-group.invariant.adds c.loop-group.invariant.unrefused c.in-Ok.ensures.stores.2 c.in-Ok.ensures.stores.1

pub store_groups-loop-group-preserved : goal.store_groups-loop-group-preserved
store_groups-loop-group-preserved g t c =
    let one = pushed c.push.result c.is_err.result c.push.new.self.items c.loop-group.entries.items c.entry_by.result c.is_err.ensures.negation c.if-is_err.false c.push.ensures.items in record {
      entries =
          entries_turn g.N.Naming.digest_of
          (c.args.deep - 1) c.args.groups.now c.loop-group.group-index c.group-item.result c.in-Ok.id c.entry_by.result _ _
          c.loop-group-test.true c.group-item.is c.in-Ok.ensures.stores.0 c.entry_by.ensures c.loop-group.invariant.entries one;
      ids =
          ids_turn
          (group_of c.group-item.result) c.in-Ok.id c.entry_by.result _ _ c.has_twenty_bytes.ensures c.entry_by.ensures c.loop-group.invariant.ids one;
      adds =
          adds_turn g.N.Naming.digest_of
          (c.args.deep - 1) _ _ _ _ _ _ c.args.groups.now c.loop-group.group-index c.group-item.result c.loop-group-test.true c.group-item.is
          c.loop-group.invariant.adds c.in-Ok.ensures.stores.2;
      unrefused =
          unrefused_turn g.N.Naming.digest_of
          (c.args.deep - 1) _ _ c.store_group.new.pool _ _ c.store_group.new.table c.args.groups.now c.loop-group.group-index c.group-item.result c.loop-group-test.true c.group-item.is
          c.loop-group.invariant.adds c.loop-group.invariant.unrefused c.in-Ok.ensures.stores.1;
      known =
          known_turn g.N.Naming.digest_of
          (c.args.deep - 1) _ _ c.in-Ok.ensures.stores.2.kept c.args.groups.now c.loop-group.group-index c.group-item.result c.loop-group-test.true c.group-item.is
          c.loop-group.invariant.known c.in-Ok.ensures.known;
    }

-- the entries at the end of the loop
module _ (digest : List ℕ → List ℕ) (deep : ℕ) (fs : Listed) (gs : List Group) (i : ℕ) (seen es : List declared.TreeEntry) where
  the_entries : length gs ≤ i
      → entries_of es ≡ map (direct_of digest (deep - 1)) (groups_of (take i gs))
      → groups_of gs ≡ grouped fs → seen ≡ es
      → entries_of seen ≡ map (direct_of digest (deep - 1)) (grouped fs)
  the_entries done sofar are same =
      ap entries_of same ∙ entries_end digest (deep - 1) gs i es fs done sofar are

  all_entries : AllByRecursion IsFile fs → depth_of fs ≤ deep → length gs ≤ i
      → entries_of es ≡ map (direct_of digest (deep - 1)) (groups_of (take i gs))
      → groups_of gs ≡ grouped fs → seen ≡ es → entries_of seen ≡ entries_within digest deep fs
  all_entries each within done sofar are same =
      the_entries done sofar are same ∙ sym (entries-any digest deep fs each within)

pub store_groups-add_entries-requires-clause-fits : goal.store_groups-add_entries-requires-clause-fits
store_groups-add_entries-requires-clause-fits g t c =
    let are = c.requires.groups in
    let entries = the_entries g.N.Naming.digest_of c.args.deep (files_below c.args.files.now) c.args.groups.now c.loop-group.group-index c.deref.result.now c.loop-group.entries.items c.loop-group-test.false c.loop-group.invariant.entries are c.deref.ensures.value in
    subst
    (λ (s : Summary). FitsTree c.loop-group.table.entries (tree_contents (entries_of c.deref.result.now)) s)
    (sym c.summary_of.ensures)
    (fits-tree g.N.Naming.digest_of (c.args.deep - 1) _ c.loop-group.table.entries (files_below c.args.files.now) (tree_contents (entries_of c.deref.result.now)) refl c.requires.files
    (subst (AllByRecursion (IsKnownGroup g.N.Naming.digest_of (c.args.deep - 1) c.loop-group.table.entries)) (ap groups_of (take_all c.loop-group.group-index c.args.groups.now c.loop-group-test.false) ∙ are) c.loop-group.invariant.known)
    (subst (AllByRecursion (λ e. IsObjectName e.id)) (ap entries_of (sym c.deref.ensures.value) ∙ entries) c.loop-group.invariant.ids)
    (ap tree_contents entries))

pub store_groups-returns-clause-stores : goal.store_groups-returns-clause-stores
store_groups-returns-clause-stores g t c =
    let entries = all_entries g.N.Naming.digest_of c.args.deep (files_below c.args.files.now) c.args.groups.now c.loop-group.group-index c.deref.result.now c.loop-group.entries.items
    c.requires.files.each c.requires.deep c.loop-group-test.false c.loop-group.invariant.entries c.requires.groups c.deref.ensures.value in
    stores-last g.N.Naming.digest_of (c.args.deep - 1) c.add_entries.result _ _ _ _ _ _ _
    (trees_of g.N.Naming.digest_of (c.args.deep - 1) (take c.loop-group.group-index c.args.groups.now))
    (entries_within g.N.Naming.digest_of c.args.deep (files_below c.args.files.now)) _
    c.loop-group.invariant.adds c.loop-group.invariant.unrefused
    (trees-any g.N.Naming.digest_of c.args.deep (files_below c.args.files.now) c.args.groups.now c.requires.files.each c.requires.deep c.requires.groups
    ∙ ap (λ (l : List (List TreeEntry)). l ++ entries_within g.N.Naming.digest_of c.args.deep (files_below c.args.files.now) ∷ []) (sym (all_trees g.N.Naming.digest_of (c.args.deep - 1) c.args.groups.now c.loop-group.group-index c.loop-group-test.false)))
    (subst (λ (es : List TreeEntry). StoresTrees c.add_entries.result g.N.Naming.digest_of c.loop-group.pool c.loop-group.table c.add_entries.new.pool c.add_entries.new.table (es ∷ []) (tree_name g.N.Naming.digest_of es)) entries c.add_entries.ensures.stores)

pub store_groups-returns-clause-known : goal.store_groups-returns-clause-known
store_groups-returns-clause-known g t c =
    let entries = all_entries g.N.Naming.digest_of c.args.deep (files_below c.args.files.now) c.args.groups.now c.loop-group.group-index c.deref.result.now c.loop-group.entries.items
    c.requires.files.each c.requires.deep c.loop-group-test.false c.loop-group.invariant.entries c.requires.groups c.deref.ensures.value in
    subst
    (λ (s : Summary). OnOk c.add_entries.result (summary_of (tree_name g.N.Naming.digest_of (entries_within g.N.Naming.digest_of c.args.deep (files_below c.args.files.now))) c.add_entries.new.table.entries ≡ Some s)) c.summary_of.ensures
    (subst (λ (es : List TreeEntry). OnOk c.add_entries.result (summary_of (tree_name g.N.Naming.digest_of es) c.add_entries.new.table.entries ≡ Some c.summary_of.result)) entries c.add_entries.ensures.known)
