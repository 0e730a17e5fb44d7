use Rattle.std.proofs.Common.{◌≡◌, sym, ap, ◌∙◌, subst}
use Rattle.file_maps.specs.FileMap.{Listed, listed}
use Rattle.file_maps.specs.Edits.{cut, files_at}
use Rattle.file_maps.specs.Trees.{file_of, depth_of, nested_trees, tree_id}
use Rattle.plain_files.specs.Below.{files_below}
use Rattle.file_maps.specs.Storing.{StoresTrees}
use Rattle.file_maps.specs.Storable.{AreStorable}
use Rattle.file_maps.proofs.Maps.{listed-of}
use Rattle.file_maps.proofs.Cutting.{storable-cut, depth-file}
use Rattle.plain_files.proofs.Turns.{stores-stands, stores-room, stores-others}
use Rattle.plain_files.proofs.files.Files.store.Goals as goal

pub store_files-requires-clause-files : goal.store_files-requires-clause-files
store_files-requires-clause-files g c none =
    let are = ap files_below c.deref.ensures.value ∙ c.in-Ok.ensures in
    subst AreStorable (sym are)
    (storable-cut c.args.at.now c.self.inside.files.entries c.self.invariant (sym (ap file_of are) ∙ none))

pub store_files-requires-clause-file : goal.store_files-requires-clause-file
store_files-requires-clause-file g c e found =
    let are = ap files_below c.deref.ensures.value ∙ c.in-Ok.ensures in
    ap depth_of are
    ∙ depth-file c.args.at.now c.self.inside.files.entries e c.self.invariant (sym (ap file_of are) ∙ found)

pub returns-clause-stores : goal.returns-clause-stores
returns-clause-stores g c =
    subst
    (λ (l : Listed). StoresTrees c.store_files.result g.N.Naming.digest_of c.args.pool.now c.args.table.now c.store_files.new.pool c.store_files.new.table
    (nested_trees g.N.Naming.digest_of l) (tree_id g.N.Naming.digest_of l))
    (ap files_below c.deref.ensures.value ∙ c.in-Ok.ensures
    ∙ ap (cut c.args.at.now)
    (sym (listed-of c.self.inside.files.entries c.self.invariant) ∙ ap listed c.self.view_is))
    c.store_files.ensures

pub returns-clause-stands : goal.returns-clause-stands
returns-clause-stands g c =
    stores-stands g.N.Naming.digest_of _ _ _ _ _ _ c.store_files.result c.store_files.ensures

pub returns-clause-room : goal.returns-clause-room
returns-clause-room g c =
    stores-room g.N.Naming.digest_of _ _ _ _ _ _ c.store_files.result c.store_files.ensures

pub returns-clause-others : goal.returns-clause-others
returns-clause-others g c =
    stores-others g.N.Naming.digest_of _ _ _ _ _ _ c.store_files.result c.store_files.ensures
