-- A blob is told: it is stored and marked.
use Rattle.std.proofs.Common.{◌≡◌, ℕ, true, List, [], ◌∷◌, ◌++◌, None, Some, Ok, refl, sym, ap, ◌∙◌, arith}
use Rattle.git_model.specs.declared.kind.Kind.TheVariants as kind
use Rattle.git_model.specs.Content.{content_from, name_by}
use Rattle.git_model.specs.GoodRepository.{AreObjects}
use Rattle.git_model.specs.Reach.{is_referred_to}
use Rattle.git_model.specs.Repository.{Object, Repository, with_object}
use Rattle.tenant_tables.specs.Adding.{store_fault}
use Rattle.stream_grammar.specs.Acts.{Wait, Object as ObjectAct}
use Rattle.stream_grammar.specs.Acts.{Blob}
use Rattle.stream_parts.specs.Marks.{room_for, with_mark}
use Rattle.import_session.specs.Meaning.{after_act}
use Rattle.stream_commands.specs.Objects.{object_stored}
use Rattle.stream_commands.specs.Workspace.{Workspace, quiet}
use Rattle.export_text.specs.ExportActs.{number_of}
use Rattle.export_laws.specs.Leaving.{nothing}
use Rattle.export_laws.specs.Told.{AreTold, IsToldNext, Told, reached_among, tags_of}
use Rattle.export_laws.proofs.Acts.{asked}
use Rattle.export_laws.proofs.Known.{IsKnown, known}
use Rattle.export_laws.proofs.MarksSet.{mark-room}
use Rattle.export_laws.proofs.Next.{reached-last, tags-of-other, told-next}
use Rattle.export_laws.proofs.OrderNames.{added-named}
use Rattle.export_laws.proofs.Storing.{IsStored, stored}

-- the command is not whole yet
pub waits : (digest : List ℕ → List ℕ) (w : Workspace) → after_act digest Wait w ≡ quiet w
unfolding after_act
waits digest w = refl

-- a blob that is not refused
pub blob-stored : (digest : List ℕ → List ℕ) (w : Workspace) (mark : ℕ) (id bytes : List ℕ)
    → id ≡ name_by digest (content_from kind.Blob bytes)
    → room_for w.stream.marks (Some mark) ≡ Ok tt
    → store_fault id (content_from kind.Blob bytes) w.objects ≡ None
    → after_act digest (ObjectAct (Blob (Some mark) bytes)) w ≡ quiet (record w {
      objects = with_object id (content_from kind.Blob bytes) w.objects;
      stream = record w.stream { marks = with_mark w.stream.marks (Some mark) kind.Blob id };
    })
unfolding after_act object_stored
blob-stored digest w mark id bytes named room unrefused =
    rw (room, ← named, unrefused) refl

module _ (digest : List ℕ → List ℕ) (repository : Repository) (good : AreObjects digest repository.objects)
    (first rest : List Object) (id bytes : List ℕ)
    (is : repository.objects ≡ first ++ record { id = id; content = content_from kind.Blob bytes } ∷ rest)
    (reached : is_referred_to repository id ≡ true) (told : Told) (all : AreTold repository first told) where
  abbrev o : Object
  o = record { id = id; content = content_from kind.Blob bytes }

  abbrev mark : ℕ
  mark = number_of repository.objects id

  abbrev next : Told
  next = record told {
    objects = with_object id (content_from kind.Blob bytes) told.objects;
    marks = with_mark told.marks (Some mark) kind.Blob id;
  }

  what : IsKnown digest repository.objects first o
  what = known digest repository.objects first rest o good is

  now : IsStored repository told.objects id (content_from kind.Blob bytes)
  now = stored repository told.objects all.objects good.few id (content_from kind.Blob bytes) what.named reached what.is.short

  has-room : room_for told.marks (Some mark) ≡ Ok tt
  has-room =
      mark-room told.marks mark
      (let few = all.few in let lt = what.within in let limit = good.few in omega (arith, few, lt, limit))

  pub blob-told : IsToldNext digest repository first o told
  blob-told = record {
    next = next;
    leaves = λ head.
        asked digest Wait _ _ _ _ (waits digest _)
        (asked digest Wait _ _ _ _ (waits digest _)
        (asked digest (ObjectAct (Blob (Some mark) bytes)) [] _ _ _
        (blob-stored digest _ mark id bytes what.is.named has-room now.unrefused) (nothing _)));
    tells =
        told-next repository first rest o told next is what.named all now.of now.kept now.named refl
        all.branches
        (all.tags
        ∙ sym (ap tags_of (reached-last repository first o reached)
        ∙ tags-of-other (reached_among repository first) o refl)) reached
        (added-named repository.objects id (content_from kind.Blob bytes) told.objects what.named);
  }
