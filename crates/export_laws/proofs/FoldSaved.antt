-- All is saved: the scratch branch is given up, and the checkpoint leaves the refs of the tags.
use Rattle.std.proofs.Common.{◌≡◌, ℕ, true, nat_le, List, [], ◌∷◌, length, Option, refl, sym, ap, ◌∙◌, inl, inr}
use Rattle.std.specs.Str.{bytes_eq}
use Rattle.std.specs.FinMap as finmap
use Rattle.std.proofs.lemmas.Bool.{cases_Bool, le-leb}
use Rattle.std.proofs.lemmas.Slice.Eq.{bytes_eq-Decides}
use Rattle.git_model.specs.GoodRepository.{refs_limit}
use Rattle.git_model.specs.RefStore.{RefMap, RefStore, first_head, listed_refs, no_refs}
use Rattle.git_model.specs.Repository.{Repository}
use Rattle.stream_grammar.specs.declared.act.ControlCommand.TheVariants as control
use Rattle.stream_grammar.specs.Acts.{Ref, Control}
use Rattle.stream_grammar.specs.Acts.{Reset}
use Rattle.stream_parts.specs.declared.branches.Tip.TheVariants.{Unborn}
use Rattle.stream_parts.specs.Checkpoints.{by_head, fit}
use Rattle.stream_commands.specs.Checkpoints.{checkpointed, saved_refs}
use Rattle.import_session.specs.Meaning.{after_act}
use Rattle.stream_commands.specs.Controls.{controlled}
use Rattle.stream_parts.specs.Tags.{PendingTags}
use Rattle.stream_parts.specs.OpenCommand as open_command
use Rattle.stream_commands.specs.Workspace.{Workspace, quiet}
use Rattle.export_text.specs.ExportActs.{saving_acts}
use Rattle.export_text.specs.ExportItems.{scratch}
use Rattle.export_text.specs.Reached.{is_exportable, reached_objects}
use Rattle.export_laws.specs.Leaving.{Leaves, nothing}
use Rattle.export_laws.specs.Saved.{IsSaved}
use Rattle.export_laws.specs.Told.{AreTold, Told, stream_told, tags_of, workspace_of}
use Rattle.export_laws.specs.Whole.{head_told}
use Rattle.export_laws.proofs.Acts.{asked}
use Rattle.export_laws.proofs.OpenLines.{resets}
use Rattle.export_laws.proofs.StayWell.{AreWell, scratch-well}
use Rattle.export_laws.proofs.FoldRefs.{head-kept, of-tags, refs-kept, refs_of_tags, tags-fit}

pub saving-well : AreWell saving_acts
saving-well = (scratch-well, (tt, tt))

-- the scratch branch is given up
abbrev given_up : Option (List ℕ) → Told → Workspace
given_up head told = record (workspace_of head told) {
  stream = record (stream_told head told) {
    branches = (scratch, Unborn) ∷ [];
    command = open_command.Reset scratch;
  };
}

-- ---- the checkpoint

saves : (digest : List ℕ → List ℕ) (head : Option (List ℕ)) (told : Told)
    → fit (saved_refs (given_up head told)) ≡ true
    → after_act digest (Control control.Checkpoint) (given_up head told) ≡ quiet (checkpointed (given_up head told))
unfolding after_act controlled
saves digest head told few = rw few refl

-- HEAD is that of the repository
head-is : (head : List ℕ) (store : RefStore) → store.head ≡ first_head
    → (by_head store (head_told head)).head ≡ head
unfolding head_told
head-is head store first = elim (cases_Bool (bytes_eq head first_head)) [
  | inl yea ↦ rw yea (first ∙ sym ((bytes_eq-Decides head first_head).0 yea))
  | inr nay ↦ rw nay refl
]

module _ (digest : List ℕ → List ℕ) (repository : Repository) (told : Told)
    (all : AreTold repository repository.objects told)
    (can : is_exportable repository ≡ true) where
  abbrev head : Option (List ℕ)
  head = head_told repository.refs.head

  abbrev pub saved : Workspace
  saved = checkpointed (given_up head told)

  saved-refs : saved.refs.refs ≡ (refs_of_tags repository).refs
  saved-refs =
      ap (λ (tags : PendingTags). (saved_refs (given_up head (record told { tags = tags }))).refs) all.tags
      ∙ refs-kept (refs_of_tags repository) head

  few-saved : fit (saved_refs (given_up head told)) ≡ true
  few-saved =
      ap (λ (refs : RefMap). nat_le (length (finmap.entries refs)) refs_limit) saved-refs
      ∙ le-leb (length (listed_refs (refs_of_tags repository))) refs_limit (tags-fit repository can)

  pub saving-leaves : Leaves digest saving_acts (workspace_of head told) saved
  saving-leaves =
      asked digest (Ref (Reset scratch)) _ _ _ _ (resets digest (workspace_of head told) all.branches)
      (asked digest (Control control.Checkpoint) [] _ _ _ (saves digest head told few-saved) (nothing _))

  pub all-saved : IsSaved repository told saved
  all-saved = record {
    objects = refl;
    committed = refl;
    of_tags = λ ref id h.
        of-tags repository ref id (ap (λ (refs : RefMap). finmap.get refs ref) (sym saved-refs) ∙ h);
    head = saved-head;
    stream = refl;
  }
    where
      saved-head : saved.refs.head ≡ repository.refs.head
      saved-head =
          ap (λ (tags : PendingTags). (saved_refs (given_up head (record told { tags = tags }))).head) all.tags
          ∙ head-is repository.refs.head (refs_of_tags repository)
          (head-kept (tags_of (reached_objects repository)) no_refs)
