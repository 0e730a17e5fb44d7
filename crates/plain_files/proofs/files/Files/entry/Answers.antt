use Rattle.std.proofs.Common.{◌≡◌, sym, ap, ◌∙◌, subst}
use Rattle.std.specs.Prelude.{IfOk}
use Rattle.file_maps.specs.FileMap.{Listed, listed}
use Rattle.file_maps.specs.Edits.{cut, is_root}
use Rattle.file_maps.specs.Trees.{file_of, entry_or}
use Rattle.plain_files.specs.Below.{files_below}
use Rattle.file_maps.proofs.Maps.{listed-of}
use Rattle.plain_files.proofs.files.Files.entry.Goals as goal

pub returns : goal.returns
returns g c =
    subst
    (λ (l : Listed). IfOk c.entry_of.result (λ o. o ≡ entry_or g.N.Naming.digest_of (is_root c.args.path.now) l (file_of l)))
    (ap files_below c.deref.ensures.value ∙ c.in_ok-files.ensures
    ∙ ap (cut c.args.path.now)
    (sym (listed-of c.self.inside.files.entries c.self.invariant) ∙ ap listed c.self.view_is))
    c.entry_of.ensures
