-- The acts of an export up to its checkpoint, all in all.
use Rattle.std.proofs.Common.{◌≡◌, ℕ, ◌≤◌, true, List, [], length, refl}
use Rattle.git_model.specs.GoodRepository.{AreObjects, AreRefs}
use Rattle.git_model.specs.Repository.{Repository}
use Rattle.git_names.specs.Naming.{AnswersNames}
use Rattle.tenant_tables.specs.Sums.{TreesFit}
use Rattle.stream_parts.specs.Tags.{tag_limit}
use Rattle.export_text.specs.ExportActs.{object_acts}
use Rattle.export_text.specs.Reached.{is_exportable, reached_tags}
use Rattle.export_laws.specs.Told.{nothing_told}
use Rattle.export_laws.specs.Whole.{AreSaved, head_told}
use Rattle.export_laws.proofs.Acts.{both}
use Rattle.export_laws.proofs.FoldObjects.{AllTold, all-told}
use Rattle.export_laws.proofs.FoldOpening.{none-told, opening-leaves, opening-well}
use Rattle.export_laws.proofs.FoldSaved.{all-saved, saved, saving-leaves, saving-well}
use Rattle.export_laws.proofs.StaySound.{leaves-sound, opened-sound}
use Rattle.export_laws.proofs.WholeReached.{whole}

module _ (digest : List ℕ → List ℕ) (names : AnswersNames digest) (repository : Repository)
    (good : AreObjects digest repository.objects) (fit : TreesFit [] repository.objects)
    (refs : AreRefs repository.objects repository.refs)
    (few_tags : length (reached_tags repository) ≤ tag_limit)
    (exportable : is_exportable repository ≡ true) where
  objects-told : AllTold digest repository (object_acts repository) (head_told repository.refs.head) nothing_told
  objects-told =
      all-told digest names repository good fit few_tags (head_told repository.refs.head)
      repository.objects [] refl nothing_told (none-told repository)
      (leaves-sound digest names (opening-well repository.refs refs.head) (opened-sound digest)
      (opening-leaves digest repository.refs refs.head))

  pub are-saved : AreSaved digest repository
  are-saved =
      let told = objects-told in
      let saves = saving-leaves digest repository told.last told.tells exportable in
      record {
        told = told.last;
        saved = saved digest repository told.last told.tells exportable;
        leaves =
            both digest (both digest (opening-leaves digest repository.refs refs.head) told.leaves) saves;
        tells = told.tells;
        saves = all-saved digest repository told.last told.tells exportable;
        whole = whole digest repository good refs told.last told.tells told.sound.objects;
        sound = leaves-sound digest names saving-well told.sound saves;
      }
