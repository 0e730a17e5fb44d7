-- The export of a repository, imported into an empty one.
use Rattle.std.proofs.Common.{◌≡◌, ℕ, ◌≤◌, true, false, length, List, [], All, Ok, sym, ap, ◌∙◌, subst, append_assoc}
use Rattle.std.specs.List.{flat_map}
use Rattle.git_model.specs.Repository.{Object, Repository}
use Rattle.git_names.specs.Naming.{AnswersNames}
use Rattle.stream_lex.specs.Items.{Reading}
use Rattle.stream_grammar.specs.Commands.{Done, Parsing, commands, top}
use Rattle.import_session.specs.Sound.{IsSoundRepository}
use Rattle.import_session.specs.Stream.{Outcome, begun, carried, finished}
use Rattle.stream_parts.specs.Tags.{tag_limit}
use Rattle.stream_commands.specs.Workspace.{opened}
use Rattle.export_text.specs.Export.{export_items, export_text}
use Rattle.export_text.specs.ExportActs.{AsksFor, all_ref_acts, export_acts, removal_acts}
use Rattle.export_text.specs.Limits.{CanExport}
use Rattle.export_text.specs.Reached.{extra_tag_refs, is_exportable, reached_tags}
use Rattle.export_text.proofs.ExportAsked.{asks-for}
use Rattle.export_text.proofs.Writable.{read-back}
use Rattle.export_laws.specs.Copies.{FitsStream}
use Rattle.export_laws.specs.Ends.{AreRefsLeft, IsImported, imported}
use Rattle.export_laws.specs.Leaving.{Leaves}
use Rattle.export_laws.specs.Told.{AreOf}
use Rattle.export_laws.specs.Whole.{AreSaved, HasReached, acts_to_saved, nothing_there}
use Rattle.export_laws.proofs.Acts.{both}
use Rattle.export_laws.proofs.EndCarried.{carried-out, status}
use Rattle.export_laws.proofs.EndFits.{can-export}
use Rattle.export_laws.proofs.EndGoesOn.{export-goes}
use Rattle.export_laws.proofs.EndLast.{finished-well}
use Rattle.export_laws.proofs.RefsLeft.{refs-left}
use Rattle.export_laws.proofs.WholeTold.{are-saved}

module _ (digest : List ℕ → List ℕ) (names : AnswersNames digest) (repository : Repository)
    (sound : IsSoundRepository digest repository)
    (fits : All (λ o. FitsStream o.content.kind o.content.bytes) repository.objects)
    (few_tags : length (reached_tags repository) ≤ tag_limit)
    (exportable : is_exportable repository ≡ true) where
  can : CanExport repository
  can = can-export digest repository sound fits

  saved : AreSaved digest repository
  saved =
      are-saved digest names repository sound.objects sound.trees sound.refs few_tags exportable

  refs : AreRefsLeft digest repository saved.told saved.saved
  refs =
      refs-left digest repository sound.objects sound.refs exportable saved.told saved.tells saved.saved saved.saves

  leaves : Leaves digest (export_acts repository) (opened nothing_there) refs.last
  leaves =
      subst (λ (acts : List Done). Leaves digest acts (opened nothing_there) refs.last)
      (sym (append_assoc (acts_to_saved repository) (flat_map removal_acts (extra_tag_refs repository)) (all_ref_acts repository)))
      (both digest saved.leaves refs.leaves)

  asks : AsksFor repository
  asks = asks-for digest repository sound.objects can

  abbrev rest : Parsing
  rest = (commands (Ok top) (export_items repository)).rest

  -- the text is read as its items, and they are carried out as their acts
  stands : imported digest (export_text repository) ≡ status refs.last rest false []
  stands =
      ap (λ (read : Reading). carried digest (begun (opened nothing_there)) read.items read.tail)
      (read-back digest repository sound.objects can)
      ∙ carried-out digest leaves (export_items repository) (Ok top) false false []
      (export-goes repository) asks.given asks.end

  abbrev left : Repository
  left = record { objects = refs.done.objects; refs = refs.done.refs }

  pub export-imported : IsImported digest repository
  export-imported = record {
    left = left;
    prints = ap (λ (o : Outcome). o.replies) stands;
    ends =
        ap (λ (o : Outcome). finished digest o.status) stands
        ∙ finished-well digest refs.last refs.done rest asks.end refs.needs_done refs.ends
        (refs.committed ∙ sym (ap (λ (l : List Object). length l) refs.objects));
    copy = record {
      refs = refs.refs;
      whole = subst (HasReached repository) (sym refs.objects) saved.whole;
      only = subst (AreOf repository) (sym refs.objects) saved.tells.objects;
      order = refs.objects ∙ saved.tells.order;
    };
  }
