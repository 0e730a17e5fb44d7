use Rattle.std.proofs.Common.{refl, sym, ap, ◌∙◌, subst}
use Rattle.std.specs.FinMap.{from_sorted}
use Rattle.git_paths.specs.Order.{path_cmp}
use Rattle.file_maps.specs.FileMap.{Listed, FileMap, AreFiles}
use Rattle.file_maps.specs.Edits.{without, is_outside}
use Rattle.file_maps.proofs.Puts.{AreFiles-filter}
use Rattle.file_maps.proofs.Maps.{retain_keys-of}
use Rattle.plain_files.proofs.files.Files.drop_path.Goals as goal

pub invariant_of-self : goal.invariant_of-self
invariant_of-self g c =
    subst AreFiles (sym c.drop_below.ensures)
    (AreFiles-filter (is_outside c.args.path.now) c.self.inside.files.entries c.self.invariant)

pub returns : goal.returns
returns g c = (
  refl,
  ap (λ (l : Listed). from_sorted {R = path_cmp} l) c.drop_below.ensures
      ∙ retain_keys-of (is_outside c.args.path.now) c.self.inside.files.entries c.self.invariant
      ∙ ap (λ (m : FileMap). without m c.args.path.now) c.self.view_is,
)
