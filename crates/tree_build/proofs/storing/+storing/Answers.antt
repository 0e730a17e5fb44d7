use Rattle.std.proofs.Common.{◌≡◌, ℕ, ◌<◌, List, [], ◌∷◌, get_or, length, Option, Some, None, Result, Ok, Err, refl, sym, ap, ◌∙◌, subst, rules, arith}
use Rattle.std.proofs.lemmas.Result.{on_ok_weaker, err_from_is_err_and}
use Rattle.std.proofs.lemmas.List.{take_all, append-nil}
use Rattle.git_model.specs.Tree.{TreeEntry}
use Rattle.file_maps.specs.declared.entry.Entry.{Entry}
use Rattle.file_maps.specs.declared.fault.Fault.{Fault}
use Rattle.tenant_tables.specs.Objects.{objects}
use Rattle.file_maps.specs.FileMap.{Listed}
use Rattle.file_maps.specs.Trees.{Groups, file_of, unless_file, nested_trees, tree_name}
use Rattle.file_maps.specs.PlainTrees.{ListsPlain}
use Rattle.file_maps.specs.Storable.{AreStorable}
use Rattle.file_maps.specs.StoredFiles.{stored_files}
use Rattle.file_maps.specs.Storing.{StoresTrees, AddsSome}
use Rattle.tree_build.specs.Shape.{Shape, Directory, unopened, opened, shape_files, held_files}
use Rattle.tree_build.specs.Nodes.{held, shape_of}
use Rattle.tree_build.specs.Branch.{IsWhat, IsShape, IsHeld}
use Rattle.tree_build.specs.ShapeCode.{shape_size}
use Rattle.tree_build.specs.Stores.{parts_of, entries_of_shape, AreNamed, trees_below, trees_of_parts}
use Rattle.tree_build.proofs.Named.{entry_here, entry_is}
use Rattle.tree_build.proofs.Places.{sound-at, part-at, parts-length, same-set, sound-set, named-set, size-at, same-size, same-length, storable-at}
use Rattle.tree_build.proofs.Later.{adds-grow, stores-grow, files-later, shape-later}
use Rattle.tree_build.proofs.Held.{adds-named}
use Rattle.tree_build.proofs.Inside.{no-root, parts-stay, files-stay, stores-own, refused-inside, stores-known}
use Rattle.tree_build.proofs.PartTurns.{adds_turn, unrefused_turn, refused_turn, all_parts}
use Rattle.tree_build.proofs.StoredAt.{StoresFiles}
use Rattle.tree_build.proofs.storing.+storing.Goals as goal
use Rattle.tree_build.proofs.storing.+storing.Goals.{store_dir-In-Some, store_dir-After-add_tree}
use Rattle.tree_build.proofs.storing.+storing.Given.{Over}

pub store_at-store_node-requires : goal.store_at-store_node-requires
store_at-store_node-requires g t c κs within =
    let os = objects c.args.pool.now c.args.table.now.entries in
    let size = size-at c.args.entries.now.items c.args.place (entry_here c.args.entries.now.items c.args.place c.node_mut.result.now) c.requires.place (entry_is c.args.entries.now.items c.args.place c.node_mut.result.now c.requires.place c.node_mut.ensures.value) in (
      omega (arith, c.decreases, size),
      (
        search (rules, within),
        (
          c.requires.stands,
          (
            c.requires.room,
            (
              sound-at os c.args.entries.now.items c.args.place (entry_here c.args.entries.now.items c.args.place c.node_mut.result.now) c.requires.place (entry_is c.args.entries.now.items c.args.place c.node_mut.result.now c.requires.place c.node_mut.ensures.value) c.requires.sound,
              storable-at os c.args.entries.now.items c.args.place (entry_here c.args.entries.now.items c.args.place c.node_mut.result.now) c.requires.place (entry_is c.args.entries.now.items c.args.place c.node_mut.result.now c.requires.place c.node_mut.ensures.value) c.requires.sound c.requires.storable,
            ),
          ),
        ),
      ),
    )

pub store_at-returns-clause-stores : goal.store_at-returns-clause-stores
store_at-returns-clause-stores g t c =
    subst
    (λ (x : List ℕ × Listed). StoresTrees c.store_node.result g.N.Naming.digest_of c.args.pool.now c.args.table.now c.store_node.new.pool c.store_node.new.table (trees_below g.N.Naming.digest_of x.1) tt)
    (sym (part-at (stored_files (objects c.args.pool.now c.args.table.now.entries)) c.args.entries.now.items c.args.place (entry_here c.args.entries.now.items c.args.place c.node_mut.result.now) ([], []) c.requires.place (entry_is c.args.entries.now.items c.args.place c.node_mut.result.now c.requires.place c.node_mut.ensures.value)))
    c.store_node.ensures.stores

pub store_at-returns-clause-same : goal.store_at-returns-clause-same
store_at-returns-clause-same g t c =
    same-set c.args.entries.now.items c.args.place (entry_here c.args.entries.now.items c.args.place c.node_mut.result.now) c.store_node.new.node c.requires.place (entry_is c.args.entries.now.items c.args.place c.node_mut.result.now c.requires.place c.node_mut.ensures.value) c.store_node.ensures.same

pub store_at-returns-clause-sound : goal.store_at-returns-clause-sound
store_at-returns-clause-sound g t c =
    let grows = stores-grow g.N.Naming.digest_of c.store_node.result c.args.pool.now c.store_node.new.pool c.args.table.now c.store_node.new.table _ tt c.store_node.ensures.stores in
    sound-set (objects c.store_node.new.pool c.store_node.new.table.entries) c.args.entries.now.items c.args.place (entry_here c.args.entries.now.items c.args.place c.node_mut.result.now) c.store_node.new.node c.requires.place (entry_is c.args.entries.now.items c.args.place c.node_mut.result.now c.requires.place c.node_mut.ensures.value) c.store_node.ensures.same
    (shape-later _ _ grows (shape_of c.args.entries.now.items) c.requires.sound) c.store_node.ensures.sound

pub store_at-returns-clause-named : goal.store_at-returns-clause-named
store_at-returns-clause-named g t c =
    on_ok_weaker c.store_node.result
    (λ one. named-set c.args.entries.now.items c.args.place (entry_here c.args.entries.now.items c.args.place c.node_mut.result.now).0 c.store_node.new.node c.requires.place one)
    c.store_node.ensures.named

pub store_node-store_dir-requires : goal.store_node-store_dir-requires
store_node-store_dir-requires g t c κs within =
    let os = objects c.args.pool.now c.args.table.now.entries in
    let sound = subst (λ n. IsHeld os (held n)) c.in-Opened.is c.requires.sound in
    let storable = subst (λ n. file_of (held_files (stored_files os) (held n)) ≡ None → AreStorable (held_files (stored_files os) (held n))) c.in-Opened.is c.requires.storable in
    let size = ap (λ n. shape_size (held n).inside) c.in-Opened.is in (
      omega (arith, c.decreases, size),
      (
        search (rules, within),
        (
          c.requires.stands,
          (c.requires.room, (sound, storable (no-root (stored_files os) c.in-Opened.dir.entries))),
        ),
      ),
    )

pub store_node-returns-in-Unopened-clause-stores : goal.store_node-returns-in-Unopened-clause-stores
store_node-returns-in-Unopened-clause-stores g t c =
    let os = objects c.args.pool.now c.args.table.now.entries in
    let sound = subst (λ n. IsHeld os (held n)) c.in-Unopened.is c.requires.sound in
    let adds = adds-named g.N.Naming.digest_of c.args.pool.now c.args.table.now c.requires.stands c.requires.room (unopened c.in-Unopened.field-0) [] sound.0 tt [] in
    subst (λ n. StoresTrees {name = Unit {0}} (Ok (tt {0})) g.N.Naming.digest_of c.args.pool.now c.args.table.now c.args.pool.now c.args.table.now (trees_below g.N.Naming.digest_of (held_files (stored_files os) (held n))) (tt {0}))
    (sym c.in-Unopened.is) (refl, adds.1, adds.0)

pub store_node-returns-in-Opened-clause-stores : goal.store_node-returns-in-Opened-clause-stores
store_node-returns-in-Opened-clause-stores g t c =
    let os = objects c.args.pool.now c.args.table.now.entries in
    let fs = shape_files (stored_files os) c.in-Opened.dir.entries in
    subst (λ n. StoresTrees c.store_dir.result g.N.Naming.digest_of c.args.pool.now c.args.table.now c.store_dir.new.pool c.store_dir.new.table (trees_below g.N.Naming.digest_of (held_files (stored_files os) (held n))) (tt {0}))
    (sym c.in-Opened.is)
    (subst (λ (o : Option Entry). StoresTrees c.store_dir.result g.N.Naming.digest_of c.args.pool.now c.args.table.now c.store_dir.new.pool c.store_dir.new.table (unless_file o (nested_trees g.N.Naming.digest_of fs)) (tt {0}))
    (sym (no-root (stored_files os) c.in-Opened.dir.entries)) c.store_dir.ensures.stores)

-- ---- a directory

-- it has the name of its tree already
known : (g : Over) (t : ℕ) (c : store_dir-In-Some g t)
    → StoresFiles g.N.Naming.digest_of (Ok c.in-Some.field-0) c.args.pool.now c.args.table.now c.args.pool.now c.args.table.now
    (shape_files (stored_files (objects c.args.pool.now c.args.table.now.entries)) c.args.dir.now.entries)
known g t c =
    let os = objects c.args.pool.now c.args.table.now.entries in
    let fs = shape_files (stored_files os) c.args.dir.now.entries in
    stores-known g.N.Naming.digest_of c.args.pool.now c.args.table.now c.in-Some.field-0 fs c.requires.stands c.requires.room
    (subst (λ (o : Option (List ℕ)). IsWhat os (opened o) fs) (sym (ap (λ (d : Directory). d.tree) c.dir.view_is) ∙ c.in-Some.is) c.requires.sound.0)

pub store_dir-returns-in-Some-clause-stores : goal.store_dir-returns-in-Some-clause-stores
store_dir-returns-in-Some-clause-stores g t c =
    let stores = known g t (goal.at.store_dir-returns-in-Some-clause-stores g t c).In-Some in
    (refl, stores.1, stores.2)

pub store_dir-returns-in-Some-clause-named : goal.store_dir-returns-in-Some-clause-named
store_dir-returns-in-Some-clause-named g t c =
    let stores = known g t (goal.at.store_dir-returns-in-Some-clause-named g t c).In-Some in
    sym (ap (λ (d : Directory). d.tree) c.dir.view_is) ∙ c.in-Some.is ∙ ap (λ (id : List ℕ). Some id) stores.0

pub store_dir-returns-in_err-store_inside-in-None-clause-stores : goal.store_dir-returns-in_err-store_inside-in-None-clause-stores
store_dir-returns-in_err-store_inside-in-None-clause-stores g t c =
    let os = objects c.args.pool.now c.args.table.now.entries in
    let fs = shape_files (stored_files os) c.args.dir.now.entries in
    let is = ap (λ (d : Directory). d.entries) c.dir.view_is in
    let failed = err_from_is_err_and c.from_residual.result c.from_residual.ensures.1 in
    subst (λ (r : Result (Unit {0}) Fault). StoresTrees r g.N.Naming.digest_of c.args.pool.now c.args.table.now c.store_inside.new.pool c.store_inside.new.table (nested_trees g.N.Naming.digest_of fs) (tt {0}))
    (sym (failed.1 ∙ ap (λ (e : Fault). Err e) failed.2))
    (subst (λ (s : Shape). AddsSome g.N.Naming.digest_of c.args.pool.now c.args.table.now c.store_inside.new.pool c.store_inside.new.table (nested_trees g.N.Naming.digest_of (shape_files (stored_files os) s)) c.in_err-store_inside-in-None.field-0.0) is
    (refused-inside g.N.Naming.digest_of c.args.pool.now c.store_inside.new.pool c.args.table.now c.store_inside.new.table
    (shape_of c.dir.inside.entries.items) (subst (IsShape os) (sym is) c.requires.sound.1) c.requires.stands c.requires.room
    c.in_err-store_inside-in-None.field-0.0 c.in_err-store_inside-in-None.ensures.stores))

pub store_dir-add_tree-requires-clause-storable : goal.store_dir-add_tree-requires-clause-storable
store_dir-add_tree-requires-clause-storable g t c =
    let os = objects c.args.pool.now c.args.table.now.entries in
    let is = ap (λ (d : Directory). d.entries) c.dir.view_is in
    let grows = stores-grow g.N.Naming.digest_of c.store_inside.result c.args.pool.now c.store_inside.new.pool c.args.table.now c.store_inside.new.table _ (tt {0}) c.store_inside.ensures.stores in
    let same = files-stay os (objects c.store_inside.new.pool c.store_inside.new.table.entries) grows (shape_of c.dir.inside.entries.items) (shape_of c.store_inside.new.entries.items) (subst (IsShape os) (sym is) c.requires.sound.1) c.store_inside.ensures.same in
    subst AreStorable (sym (same ∙ ap (shape_files (stored_files os)) is)) c.requires.storable

-- the trees of its entries, and then its own
own : (g : Over) (t : ℕ) (c : store_dir-After-add_tree g t) (answer : Result (List ℕ) Fault) → c.add_tree.result ≡ answer
    → StoresFiles g.N.Naming.digest_of answer c.args.pool.now c.args.table.now c.add_tree.new.pool c.add_tree.new.table
    (shape_files (stored_files (objects c.args.pool.now c.args.table.now.entries)) c.args.dir.now.entries)
own g t c answer was =
    let os = objects c.args.pool.now c.args.table.now.entries in
    let is = ap (λ (d : Directory). d.entries) c.dir.view_is in
    let grows = stores-grow g.N.Naming.digest_of c.store_inside.result c.args.pool.now c.store_inside.new.pool c.args.table.now c.store_inside.new.table _ (tt {0}) c.store_inside.ensures.stores in
    let inside = c.in_ok-store_inside-in-None.ensures in
    subst (λ (s : Shape). StoresFiles g.N.Naming.digest_of answer c.args.pool.now c.args.table.now c.add_tree.new.pool c.add_tree.new.table (shape_files (stored_files os) s)) is
    (stores-own g.N.Naming.digest_of c.args.pool.now c.store_inside.new.pool c.args.table.now c.store_inside.new.table
    (shape_of c.dir.inside.entries.items) (shape_of c.store_inside.new.entries.items)
    (subst (IsShape os) (sym is) c.requires.sound.1) grows c.store_inside.ensures.same inside.sound inside.named inside.stores.2.stands
    c.add_tree.new.pool c.add_tree.new.table answer (refl, inside.stores.1, inside.stores.2)
    (subst (λ (r : Result (List ℕ) Fault). StoresTrees r g.N.Naming.digest_of c.store_inside.new.pool c.store_inside.new.table c.add_tree.new.pool c.add_tree.new.table
    (entries_of_shape (shape_of c.store_inside.new.entries.items) ∷ []) (tree_name g.N.Naming.digest_of (entries_of_shape (shape_of c.store_inside.new.entries.items)))) was
    c.add_tree.ensures.stores))

pub store_dir-returns-in_err-name-in-None-clause-stores : goal.store_dir-returns-in_err-name-in-None-clause-stores
store_dir-returns-in_err-name-in-None-clause-stores g t c =
    let fs = shape_files (stored_files (objects c.args.pool.now c.args.table.now.entries)) c.args.dir.now.entries in
    let failed = err_from_is_err_and c.from_residual-in_err-name-in-None.result c.from_residual-in_err-name-in-None.ensures.1 in
    subst (λ (r : Result (Unit {0}) Fault). StoresTrees r g.N.Naming.digest_of c.args.pool.now c.args.table.now c.add_tree.new.pool c.add_tree.new.table (nested_trees g.N.Naming.digest_of fs) (tt {0}))
    (sym (failed.1 ∙ ap (λ (e : Fault). Err e) failed.2))
    (own g t (goal.at.store_dir-returns-in_err-name-in-None-clause-stores g t c).After-add_tree
    (Err c.in_err-name-in-None.field-0.0) c.in_err-name-in-None.was)

pub store_dir-returns-in_err-name-in-None-clause-sound : goal.store_dir-returns-in_err-name-in-None-clause-sound
store_dir-returns-in_err-name-in-None-clause-sound g t c =
    let os = objects c.store_inside.new.pool c.store_inside.new.table.entries in
    let after = objects c.add_tree.new.pool c.add_tree.new.table.entries in
    let grows = stores-grow g.N.Naming.digest_of c.add_tree.result c.store_inside.new.pool c.add_tree.new.pool c.store_inside.new.table c.add_tree.new.table _ _ c.add_tree.ensures.stores in
    let s = shape_of c.store_inside.new.entries.items in (
      subst (λ (o : Option (List ℕ)). IsWhat after (opened o) (shape_files (stored_files after) s)) (sym c.in-None.is) tt,
      shape-later os after grows s c.in_ok-store_inside-in-None.ensures.sound,
    )

pub store_dir-returns-in_ok-name-in-None-clause-stores : goal.store_dir-returns-in_ok-name-in-None-clause-stores
store_dir-returns-in_ok-name-in-None-clause-stores g t c =
    let stores = own g t (goal.at.store_dir-returns-in_ok-name-in-None-clause-stores g t c).After-add_tree
    (Ok c.in_ok-name-in-None.name) c.in_ok-name-in-None.was in
    (refl, stores.1, stores.2)

pub store_dir-returns-in_ok-name-in-None-clause-named : goal.store_dir-returns-in_ok-name-in-None-clause-named
store_dir-returns-in_ok-name-in-None-clause-named g t c =
    let stores = own g t (goal.at.store_dir-returns-in_ok-name-in-None-clause-named g t c).After-add_tree
    (Ok c.in_ok-name-in-None.name) c.in_ok-name-in-None.was in
    ap (λ (id : List ℕ). Some id) stores.0

pub store_dir-returns-in_ok-name-in-None-clause-sound : goal.store_dir-returns-in_ok-name-in-None-clause-sound
store_dir-returns-in_ok-name-in-None-clause-sound g t c =
    let os = objects c.store_inside.new.pool c.store_inside.new.table.entries in
    let after = objects c.add_tree.new.pool c.add_tree.new.table.entries in
    let grows = stores-grow g.N.Naming.digest_of c.add_tree.result c.store_inside.new.pool c.add_tree.new.pool c.store_inside.new.table c.add_tree.new.table _ _ c.add_tree.ensures.stores in
    let s = shape_of c.store_inside.new.entries.items in
    let sound = c.in_ok-store_inside-in-None.ensures.sound in (
      subst (ListsPlain after c.in_ok-name-in-None.name) (sym (files-later os after grows s sound))
          c.in_ok-name-in-None.ensures.lists,
      shape-later os after grows s sound,
    )

-- ---- its entries

pub store_inside-store_at-requires : goal.store_inside-store_at-requires
store_inside-store_at-requires g t c κs within =
    let os = objects c.args.pool.now c.args.table.now.entries in
    let now = objects c.loop-place.pool c.loop-place.table.entries in
    let inv = c.loop-place.invariant in
    let grows = adds-grow g.N.Naming.digest_of c.args.pool.now c.loop-place.pool c.args.table.now c.loop-place.table _ inv.adds in
    let size = same-size (shape_of c.loop-place.entries.items) (shape_of c.args.entries.now.items) inv.same in
    let many = same-length c.loop-place.entries.items c.args.entries.now.items inv.same in
    let files = files-stay os now grows (shape_of c.args.entries.now.items) (shape_of c.loop-place.entries.items) c.requires.sound inv.same in (
      omega (arith, c.decreases, size),
      (
        search (rules, within),
        (
          omega (arith, c.loop-place-test.true, c.len-place-end.ensures, many),
          (inv.adds.stands, (inv.adds.room, (inv.sound, subst AreStorable (sym files) c.requires.storable))),
        ),
      ),
    )

pub store_inside-returns-in-Err-clause-stores : goal.store_inside-returns-in-Err-clause-stores
store_inside-returns-in-Err-clause-stores g t c =
    let os = objects c.args.pool.now c.args.table.now.entries in
    let now = objects c.loop-place.pool c.loop-place.table.entries in
    let parts = parts_of (stored_files os) (shape_of c.args.entries.now.items) in
    let inv = c.loop-place.invariant in
    let grows = adds-grow g.N.Naming.digest_of c.args.pool.now c.loop-place.pool c.args.table.now c.loop-place.table _ inv.adds in
    let same = parts-stay os now grows (shape_of c.args.entries.now.items) (shape_of c.loop-place.entries.items) c.requires.sound inv.same in
    let many = parts-length (stored_files os) c.args.entries.now.items in
    refused_turn g.N.Naming.digest_of c.args.pool.now c.loop-place.pool c.store_at.new.pool c.args.table.now c.loop-place.table c.store_at.new.table parts c.loop-place.place
    (omega (arith, c.loop-place-test.true, c.len-place-end.ensures, many))
    (trees_of_parts g.N.Naming.digest_of parts) [] c.in-Err.refusal (sym (append-nil (trees_of_parts g.N.Naming.digest_of parts)))
    inv.adds inv.unrefused
    (subst (λ (ps : Groups). AddsSome g.N.Naming.digest_of c.loop-place.pool c.loop-place.table c.store_at.new.pool c.store_at.new.table (trees_below g.N.Naming.digest_of (get_or ps c.loop-place.place ([], [])).1) c.in-Err.refusal) same c.in-Err.ensures.stores)

pub store_inside-loop-place-preserved : goal.store_inside-loop-place-preserved
store_inside-loop-place-preserved g t c =
    let os = objects c.args.pool.now c.args.table.now.entries in
    let now = objects c.loop-place.pool c.loop-place.table.entries in
    let parts = parts_of (stored_files os) (shape_of c.args.entries.now.items) in
    let inv = c.loop-place.invariant in
    let grows = adds-grow g.N.Naming.digest_of c.args.pool.now c.loop-place.pool c.args.table.now c.loop-place.table _ inv.adds in
    let same = parts-stay os now grows (shape_of c.args.entries.now.items) (shape_of c.loop-place.entries.items) c.requires.sound inv.same in
    let many = parts-length (stored_files os) c.args.entries.now.items in
    let lt : c.loop-place.place < length parts = omega (arith, c.loop-place-test.true, c.len-place-end.ensures, many) in
    let stores = subst (λ (ps : Groups). StoresTrees {name = Unit {0}} (Ok (tt {0})) g.N.Naming.digest_of c.loop-place.pool c.loop-place.table c.store_at.new.pool c.store_at.new.table (trees_below g.N.Naming.digest_of (get_or ps c.loop-place.place ([], [])).1) (tt {0})) same
    (refl, c.in-Ok.ensures.stores.1, c.in-Ok.ensures.stores.2) in record {
      same = c.in-Ok.ensures.same ∙ inv.same;
      sound = c.in-Ok.ensures.sound;
      adds = adds_turn g.N.Naming.digest_of c.args.pool.now c.loop-place.pool c.store_at.new.pool c.args.table.now c.loop-place.table c.store_at.new.table parts c.loop-place.place lt inv.adds stores.2;
      unrefused = unrefused_turn g.N.Naming.digest_of c.args.pool.now c.loop-place.pool c.store_at.new.pool c.args.table.now c.loop-place.table c.store_at.new.table parts c.loop-place.place lt inv.adds inv.unrefused stores.1;
      named = c.in-Ok.ensures.named inv.named;
    }

pub store_inside-returns-clause-stores : goal.store_inside-returns-clause-stores
store_inside-returns-clause-stores g t c =
    let os = objects c.args.pool.now c.args.table.now.entries in
    let parts = parts_of (stored_files os) (shape_of c.args.entries.now.items) in
    let inv = c.loop-place.invariant in
    let many = parts-length (stored_files os) c.args.entries.now.items in
    let all = all_parts g.N.Naming.digest_of parts c.loop-place.place (omega (arith, c.loop-place-test.false, c.len-place-end.ensures, many)) in
    subst (λ (ts : List (List TreeEntry)). StoresTrees {name = Unit {0}} (Ok (tt {0})) g.N.Naming.digest_of c.args.pool.now c.args.table.now c.loop-place.pool c.loop-place.table ts (tt {0})) all
    (refl, inv.unrefused, inv.adds)

pub store_inside-returns-clause-named : goal.store_inside-returns-clause-named
store_inside-returns-clause-named g t c =
    let inv = c.loop-place.invariant in
    let many = same-length c.loop-place.entries.items c.args.entries.now.items inv.same in
    subst (λ es. AreNamed (shape_of es))
    (take_all c.loop-place.place c.loop-place.entries.items (omega (arith, c.loop-place-test.false, c.len-place-end.ensures, many))) inv.named
