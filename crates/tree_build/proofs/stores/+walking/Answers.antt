use Rattle.std.proofs.Common.{◌≡◌, [], ◌∷◌, length, None, refl, sym, ap, ◌∙◌, subst, rules, arith}
use Rattle.std.proofs.lemmas.List.Quantifiers.{position-Some}
use Rattle.tenant_tables.specs.Objects.{objects}
use Rattle.file_maps.specs.FileMap.{Path, Listed}
use Rattle.file_maps.specs.Edits.{cut}
use Rattle.file_maps.specs.Trees.{file_of}
use Rattle.file_maps.specs.Storable.{AreStorable}
use Rattle.file_maps.specs.StoredFiles.{stored_files}
use Rattle.file_maps.proofs.ListedOrder.{cut-root}
use Rattle.tree_build.specs.declared.dir.Node.{Node}
use Rattle.tree_build.specs.Branch.{IsShape, IsHeld}
use Rattle.tree_build.specs.Nodes.{has_name, held, shape_of}
use Rattle.tree_build.specs.Shape.{Directory, unopened, opened, none, shape_files, held_files}
use Rattle.tree_build.proofs.Named.{entry_here, entry_is}
use Rattle.tree_build.proofs.Inside.{no-root}
use Rattle.tree_build.proofs.Later.{stores-grow, shape-later, held-later}
use Rattle.tree_build.proofs.Looked.{cut-nothing, cut-there}
use Rattle.tree_build.proofs.Places.{sound-at, storable-at, same-set, sound-set}
use Rattle.tree_build.proofs.StoredAt.{StoresFiles, stores-none, stores-memory, opened-later, closed-there}
use Rattle.tree_build.proofs.stores.+walking.Goals as goal

pub store_path-returns-in_default-clause-stores : goal.store_path-returns-in_default-clause-stores
store_path-returns-in_default-clause-stores g t c =
    let fs = held_files (stored_files (objects c.args.pool.now c.args.table.now.entries)) (held c.args.node.now) in
    subst (λ (p : Path). StoresFiles g.N.Naming.digest_of c.store_here.result c.args.pool.now c.args.table.now c.store_here.new.pool c.store_here.new.table (cut p fs)) (sym c.in_default.ensures)
    (subst (λ (l : Listed). StoresFiles g.N.Naming.digest_of c.store_here.result c.args.pool.now c.args.table.now c.store_here.new.pool c.store_here.new.table l) (sym (cut-root fs)) c.store_here.ensures.stores)

pub store_path-returns-in-Err-clause-stores : goal.store_path-returns-in-Err-clause-stores
store_path-returns-in-Err-clause-stores g t c =
    stores-memory g.N.Naming.digest_of c.args.pool.now c.args.table.now _ c.requires.stands c.requires.room

pub store_path-returns-in-File-clause-stores : goal.store_path-returns-in-File-clause-stores
store_path-returns-in-File-clause-stores g t c =
    let k = stored_files (objects c.args.pool.now c.args.table.now.entries) in
    subst (λ (p : Path). StoresFiles g.N.Naming.digest_of c.store_none.result c.args.pool.now c.args.table.now c.store_none.new.pool c.store_none.new.table (cut p (held_files k (held c.args.node.now)))) (sym c.in-Some.ensures)
    (subst (λ (n : Node). StoresFiles g.N.Naming.digest_of c.store_none.result c.args.pool.now c.args.table.now c.store_none.new.pool c.store_none.new.table (cut (c.in-Some.name.now ∷ c.in-Some.rest) (held_files k (held n)))) (sym c.in-File.is)
    (stores-none g.N.Naming.digest_of c.store_none.result _ _ _ _ [] refl c.store_none.ensures))

pub store_path-returns-in-File-clause-sound : goal.store_path-returns-in-File-clause-sound
store_path-returns-in-File-clause-sound g t c =
    let grows = stores-grow g.N.Naming.digest_of c.store_none.result c.args.pool.now c.store_none.new.pool c.args.table.now c.store_none.new.table _ _ c.store_none.ensures in
    (held-later _ _ grows (held c.args.node.now) c.requires.sound).1

pub store_path-returns-in-Ok-clause-sound : goal.store_path-returns-in-Ok-clause-sound
store_path-returns-in-Ok-clause-sound g t c =
    let os = objects c.args.pool.now c.args.table.now.entries in
    let stores = c.store_found.ensures (cut (c.in-Some.name.now ∷ c.in-Some.rest) (stored_files os c.in-Unopened.tree)) (rw c.of-objects.ensures at c.in-Ok.ensures.found) in
    let grows = stores-grow g.N.Naming.digest_of c.store_found.result c.args.pool.now c.store_found.new.pool c.args.table.now c.store_found.new.table _ _ stores in
    (held-later _ _ grows (record { what = unopened c.in-Unopened.tree; inside = none })
    (subst (λ (n : Node). IsHeld os (held n)) c.in-Unopened.is c.requires.sound)).1

pub store_path-returns-in-Ok-clause-stores : goal.store_path-returns-in-Ok-clause-stores
store_path-returns-in-Ok-clause-stores g t c =
    let k = stored_files (objects c.args.pool.now c.args.table.now.entries) in
    subst (λ (p : Path). StoresFiles g.N.Naming.digest_of c.store_found.result c.args.pool.now c.args.table.now c.store_found.new.pool c.store_found.new.table (cut p (held_files k (held c.args.node.now)))) (sym c.in-Some.ensures)
    (subst (λ (n : Node). StoresFiles g.N.Naming.digest_of c.store_found.result c.args.pool.now c.args.table.now c.store_found.new.pool c.store_found.new.table (cut (c.in-Some.name.now ∷ c.in-Some.rest) (held_files k (held n)))) (sym c.in-Unopened.is)
    (c.store_found.ensures (cut (c.in-Some.name.now ∷ c.in-Some.rest) (k c.in-Unopened.tree)) (rw c.of-objects.ensures at c.in-Ok.ensures.found)))

pub store_path-returns-in-Opened-clause-stores : goal.store_path-returns-in-Opened-clause-stores
store_path-returns-in-Opened-clause-stores g t c =
    let k = stored_files (objects c.args.pool.now c.args.table.now.entries) in
    subst (λ (p : Path). StoresFiles g.N.Naming.digest_of c.store_below.result c.args.pool.now c.args.table.now c.store_below.new.pool c.store_below.new.table (cut p (held_files k (held c.args.node.now)))) (sym c.in-Some.ensures)
    (subst (λ (n : Node). StoresFiles g.N.Naming.digest_of c.store_below.result c.args.pool.now c.args.table.now c.store_below.new.pool c.store_below.new.table (cut (c.in-Some.name.now ∷ c.in-Some.rest) (held_files k (held n)))) (sym c.in-Opened.is)
    (subst (λ (d : Directory). StoresFiles g.N.Naming.digest_of c.store_below.result c.args.pool.now c.args.table.now c.store_below.new.pool c.store_below.new.table (cut (c.in-Some.name.now ∷ c.in-Some.rest) (shape_files k d.entries))) c.dir.view_is
    c.store_below.ensures.stores))

pub store_path-returns-in-Opened-clause-sound : goal.store_path-returns-in-Opened-clause-sound
store_path-returns-in-Opened-clause-sound g t c =
    let os = objects c.args.pool.now c.args.table.now.entries in
    let grows = stores-grow g.N.Naming.digest_of c.store_below.result c.args.pool.now c.store_below.new.pool c.args.table.now c.store_below.new.table _ _ c.store_below.ensures.stores in
    let sound = subst (λ (n : Node). IsHeld os (held n)) c.in-Opened.is c.requires.sound in
    opened-later os (objects c.store_below.new.pool c.store_below.new.table.entries) grows c.dir.inside.tree
    (shape_of c.dir.inside.entries.items) (shape_of c.store_below.new.entries.items)
    (subst (λ (d : Directory). IsHeld os (record { what = opened d.tree; inside = d.entries })) (sym c.dir.view_is) sound)
    c.store_below.ensures.same c.store_below.ensures.sound

pub store_path-store_below-requires : goal.store_path-store_below-requires
store_path-store_below-requires g t c κs within =
    let os = objects c.args.pool.now c.args.table.now.entries in
    let k = stored_files os in
    let sound = subst (λ (n : Node). IsHeld os (held n)) c.in-Opened.is c.requires.sound in
    let storable = subst (λ (n : Node). file_of (held_files k (held n)) ≡ None → AreStorable (held_files k (held n))) c.in-Opened.is c.requires.storable in
    let less = ap (λ (p : Path). length p) c.in-Some.ensures in (
      omega (arith, c.decreases, less),
      (
        search (rules, within),
        (
          c.requires.stands,
          (
            c.requires.room,
            (
              subst (λ (d : Directory). IsShape os d.entries) (sym c.dir.view_is) sound.1,
              subst (λ (d : Directory). AreStorable (shape_files k d.entries)) (sym c.dir.view_is) (storable (no-root k c.in-Opened.dir.entries)),
            ),
          ),
        ),
      ),
    )

-- ---- below a directory

pub store_below-store_path-requires : goal.store_below-store_path-requires
store_below-store_path-requires g t c κs within =
    let os = objects c.args.pool.now c.args.table.now.entries in
    let es = c.args.entries.now.items in
    let is = sym c.place_of.ensures ∙ c.in-Some.is in
    let lt = (position-Some (has_name c.args.name.now) es c.in-Some.place (entry_here c.args.entries.now.items c.in-Some.place c.node_mut-node.result.now) is).0 in (
      omega (arith, c.decreases),
      (
        search (rules, within),
        (
          c.requires.stands,
          (
            c.requires.room,
            (
              sound-at os es c.in-Some.place (entry_here c.args.entries.now.items c.in-Some.place c.node_mut-node.result.now) lt (entry_is c.args.entries.now.items c.in-Some.place c.node_mut-node.result.now (position-Some (has_name c.args.name.now) c.args.entries.now.items c.in-Some.place ([], c.node_mut-node.result.now) is).0 c.node_mut-node.ensures.value) c.requires.sound,
              storable-at os es c.in-Some.place (entry_here c.args.entries.now.items c.in-Some.place c.node_mut-node.result.now) lt (entry_is c.args.entries.now.items c.in-Some.place c.node_mut-node.result.now (position-Some (has_name c.args.name.now) c.args.entries.now.items c.in-Some.place ([], c.node_mut-node.result.now) is).0 c.node_mut-node.ensures.value) c.requires.sound c.requires.storable,
            ),
          ),
        ),
      ),
    )

pub store_below-returns-in-None-clause-sound : goal.store_below-returns-in-None-clause-sound
store_below-returns-in-None-clause-sound g t c =
    let grows = stores-grow g.N.Naming.digest_of c.store_none.result c.args.pool.now c.store_none.new.pool c.args.table.now c.store_none.new.table _ _ c.store_none.ensures in
    shape-later _ _ grows (shape_of c.args.entries.now.items) c.requires.sound

pub store_below-returns-in-None-clause-stores : goal.store_below-returns-in-None-clause-stores
store_below-returns-in-None-clause-stores g t c =
    let os = objects c.args.pool.now c.args.table.now.entries in
    let is = sym c.place_of.ensures ∙ c.in-None.is in
    subst (λ (l : Listed). StoresFiles g.N.Naming.digest_of c.store_none.result c.args.pool.now c.args.table.now c.store_none.new.pool c.store_none.new.table l)
    (sym (cut-nothing os c.args.entries.now.items c.requires.sound c.args.name.now c.args.rest.now is))
    (stores-none g.N.Naming.digest_of c.store_none.result _ _ _ _ [] refl c.store_none.ensures)

pub store_below-returns-in-Some-clause-bounded : goal.store_below-returns-in-Some-clause-bounded
store_below-returns-in-Some-clause-bounded g t c =
    let is = sym c.place_of.ensures ∙ c.in-Some.is in
    let many = closed-there c.args.entries.now.items c.args.name.now c.args.rest.now c.in-Some.place (entry_here c.args.entries.now.items c.in-Some.place c.node_mut-node.result.now) is (entry_is c.args.entries.now.items c.in-Some.place c.node_mut-node.result.now (position-Some (has_name c.args.name.now) c.args.entries.now.items c.in-Some.place ([], c.node_mut-node.result.now) is).0 c.node_mut-node.ensures.value) in
    let most = c.store_path.ensures.bounded in
    omega (arith, many, most)

pub store_below-returns-in-Some-clause-same : goal.store_below-returns-in-Some-clause-same
store_below-returns-in-Some-clause-same g t c =
    let is = sym c.place_of.ensures ∙ c.in-Some.is in
    let lt = (position-Some (has_name c.args.name.now) c.args.entries.now.items c.in-Some.place (entry_here c.args.entries.now.items c.in-Some.place c.node_mut-node.result.now) is).0 in
    same-set c.args.entries.now.items c.in-Some.place (entry_here c.args.entries.now.items c.in-Some.place c.node_mut-node.result.now) c.store_path.new.node lt (entry_is c.args.entries.now.items c.in-Some.place c.node_mut-node.result.now (position-Some (has_name c.args.name.now) c.args.entries.now.items c.in-Some.place ([], c.node_mut-node.result.now) is).0 c.node_mut-node.ensures.value) c.store_path.ensures.same

pub store_below-returns-in-Some-clause-sound : goal.store_below-returns-in-Some-clause-sound
store_below-returns-in-Some-clause-sound g t c =
    let is = sym c.place_of.ensures ∙ c.in-Some.is in
    let lt = (position-Some (has_name c.args.name.now) c.args.entries.now.items c.in-Some.place (entry_here c.args.entries.now.items c.in-Some.place c.node_mut-node.result.now) is).0 in
    let grows = stores-grow g.N.Naming.digest_of c.store_path.result c.args.pool.now c.store_path.new.pool c.args.table.now c.store_path.new.table _ _ c.store_path.ensures.stores in
    sound-set _ c.args.entries.now.items c.in-Some.place (entry_here c.args.entries.now.items c.in-Some.place c.node_mut-node.result.now) c.store_path.new.node lt (entry_is c.args.entries.now.items c.in-Some.place c.node_mut-node.result.now (position-Some (has_name c.args.name.now) c.args.entries.now.items c.in-Some.place ([], c.node_mut-node.result.now) is).0 c.node_mut-node.ensures.value) c.store_path.ensures.same
    (shape-later _ _ grows (shape_of c.args.entries.now.items) c.requires.sound) c.store_path.ensures.sound

pub store_below-returns-in-Some-clause-stores : goal.store_below-returns-in-Some-clause-stores
store_below-returns-in-Some-clause-stores g t c =
    let os = objects c.args.pool.now c.args.table.now.entries in
    let is = sym c.place_of.ensures ∙ c.in-Some.is in
    subst (λ (l : Listed). StoresFiles g.N.Naming.digest_of c.store_path.result c.args.pool.now c.args.table.now c.store_path.new.pool c.store_path.new.table l)
    (sym (cut-there os c.args.entries.now.items c.requires.sound c.args.name.now c.args.rest.now c.in-Some.place (entry_here c.args.entries.now.items c.in-Some.place c.node_mut-node.result.now) is (entry_is c.args.entries.now.items c.in-Some.place c.node_mut-node.result.now (position-Some (has_name c.args.name.now) c.args.entries.now.items c.in-Some.place ([], c.node_mut-node.result.now) is).0 c.node_mut-node.ensures.value)))
    c.store_path.ensures.stores
