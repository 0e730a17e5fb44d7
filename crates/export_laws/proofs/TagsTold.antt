-- A tag of a repository is told.
use Rattle.std.proofs.Common.{◌≡◌, ℕ, ◌<◌, ◌≤◌, true, List, [], ◌∷◌, ◌++◌, length, Option, None, Some, refl, sym, ap, ◌∙◌, subst, arith}
use Rattle.std.specs.List.{filter}
use Rattle.std.specs.Option.{option_map}
use Rattle.std.proofs.lemmas.List.{length-append, length-map}
use Rattle.std.proofs.lemmas.List.Elements.{filter-append}
use Rattle.git_model.specs.declared.kind.Kind.TheVariants as kind
use Rattle.git_model.specs.Content.{Content, content_from, name_by}
use Rattle.git_model.specs.GoodRepository.{AreObjects, IsValid}
use Rattle.git_model.specs.Reach.{is_referred_to}
use Rattle.git_model.specs.References.{reference}
use Rattle.git_model.specs.Repository.{Object, Repository, with_object}
use Rattle.git_model.specs.Tag.{Tag, CanWriteTag, tag_contents}
use Rattle.git_model.specs.TagReading.{tag_read}
use Rattle.git_model.proofs.TagReadings.{tag_back}
use Rattle.tenant_tables.specs.Adding.{store_fault}
use Rattle.stream_parts.specs.Marks.{with_mark}
use Rattle.stream_parts.specs.Tags.{tag_limit, PendingTags}
use Rattle.stream_commands.specs.Workspace.{Workspace}
use Rattle.export_text.specs.ExportActs.{number_of, tag_acts}
use Rattle.export_text.specs.Reached.{is_tag, reached_objects, reached_tags, tag_ref}
use Rattle.export_laws.specs.Leaving.{Leaves}
use Rattle.export_laws.specs.Told.{AreTold, IsThere, IsToldNext, Told, reached_among, stream_told, tags_of, workspace_of}
use Rattle.export_laws.proofs.Known.{IsEarlier, IsKnown, known, reached-on}
use Rattle.export_laws.proofs.MarksSet.{mark-room, named-by-mark}
use Rattle.export_laws.proofs.Next.{reached-last, tags-of-tag, told-next}
use Rattle.export_laws.proofs.OrderNames.{added-named}
use Rattle.export_laws.proofs.Storing.{IsStored, stored}
use Rattle.export_laws.proofs.Tags.{MayTag, tag-leaves}

-- the bytes of a tag are those of what they read as, which can be written
pub record IsWritten (bytes : List ℕ) : Type 0 where
  pub text : bytes ≡ tag_contents (tag_read bytes)
  pub can : CanWriteTag (tag_read bytes)

pub tag-written : (os : List Object) (bytes : List ℕ) → IsValid os kind.Tag bytes → IsWritten bytes
tag-written os bytes (t, is) =
    let back : t ≡ tag_read bytes = sym (ap tag_read is.contents ∙ tag_back t is.writable) in
    record { text = is.contents ∙ ap tag_contents back; can = subst CanWriteTag back is.writable }

module _ (digest : List ℕ → List ℕ) (repository : Repository) (good : AreObjects digest repository.objects)
    (few_tags : length (reached_tags repository) ≤ tag_limit)
    (first rest : List Object) (id bytes : List ℕ)
    (is : repository.objects ≡ first ++ record { id = id; content = content_from kind.Tag bytes } ∷ rest)
    (reached : is_referred_to repository id ≡ true) (told : Told) (all : AreTold repository first told) where
  abbrev o : Object
  o = record { id = id; content = content_from kind.Tag bytes }

  abbrev mark : ℕ
  mark = number_of repository.objects id

  abbrev t : Tag
  t = tag_read bytes

  abbrev next : Told
  next = record {
    objects = with_object id (content_from kind.Tag bytes) told.objects;
    marks = with_mark told.marks (Some mark) kind.Tag id;
    branches = told.branches;
    tags = told.tags ++ (tag_ref t.name, id) ∷ [];
  }

  what : IsKnown digest repository.objects first o
  what = known digest repository.objects first rest o good is

  written : IsWritten bytes
  written = tag-written repository.objects bytes what.is.valid

  now : IsStored repository told.objects id (content_from kind.Tag bytes)
  now = stored repository told.objects all.objects good.few id (content_from kind.Tag bytes) what.named reached what.is.short

  target : IsEarlier repository.objects first (reference t.kind t.target)
  target = what.refers.0

  target-there : IsThere repository.objects told t.target target.content
  target-there =
      all.each t.target target.content target.before
      (reached-on digest repository good id (content_from kind.Tag bytes) what.named reached).0
      (λ tree. written.can.kind (sym target.kind ∙ tree))

  -- the tags that wait are those that were told, and this one is not among them
  fewer : length told.tags < tag_limit
  fewer =
      let here : length told.tags ≡ length (filter is_tag (reached_among repository first)) =
      ap (λ (l : PendingTags). length l) all.tags ∙ length-map (filter is_tag (reached_among repository first)) _ in
      let whole : reached_objects repository ≡ reached_among repository first ++ reached_among repository (o ∷ rest) =
      ap (reached_among repository) is ∙ filter-append (λ (x : Object). is_referred_to repository x.id) first (o ∷ rest) in
      let parts : reached_tags repository ≡ filter is_tag (reached_among repository first) ++ filter is_tag (reached_among repository (o ∷ rest)) =
      ap (filter is_tag) whole ∙ filter-append is_tag (reached_among repository first) (reached_among repository (o ∷ rest)) in
      let count = ap (λ (l : List Object). length l) parts ∙ length-append (filter is_tag (reached_among repository first)) _ in
      omega (arith, here, count, some-more, few_tags)
    where
      one : reached_among repository (o ∷ rest) ≡ o ∷ reached_among repository rest
      one = rw reached refl

      some-more : 0 < length (filter is_tag (reached_among repository (o ∷ rest)))
      some-more = rw one (omega arith)

  may : (head : Option (List ℕ)) → MayTag digest (workspace_of head told) (Some mark) t (number_of repository.objects t.target)
  may head = record {
    target =
        named-by-mark told.marks (number_of repository.objects t.target) target.content.kind t.target
        target-there.mark;
    kind_is = ap (option_map (λ (c : Content). c.kind)) target-there.object ∙ ap Some target.kind;
    no_tree = written.can.kind;
    marks = mark-room told.marks mark
        (let few = all.few in let lt = what.within in let limit = good.few in omega (arith, few, lt, limit));
    tags = fewer;
    unrefused =
        subst (λ (b : List ℕ). store_fault (name_by digest (content_from kind.Tag b)) (content_from kind.Tag b) told.objects ≡ None)
        written.text
        (subst (λ (i : List ℕ). store_fault i (content_from kind.Tag bytes) told.objects ≡ None) what.is.named now.unrefused);
  }

  abbrev left : Option (List ℕ) → List ℕ → List ℕ → Workspace
  left head b i = record (workspace_of head told) {
    objects = with_object i (content_from kind.Tag b) told.objects;
    stream = record (stream_told head told) {
      marks = with_mark told.marks (Some mark) kind.Tag i;
      tags = told.tags ++ (tag_ref t.name, i) ∷ [];
    };
  }

  acts-leave : (head : Option (List ℕ))
      → Leaves digest (tag_acts repository.objects (Some mark) t) (workspace_of head told) (workspace_of head next)
  acts-leave head =
      subst (λ (i : List ℕ). Leaves digest (tag_acts repository.objects (Some mark) t) (workspace_of head told) (left head bytes i))
      (sym what.is.named)
      (subst (λ (b : List ℕ). Leaves digest (tag_acts repository.objects (Some mark) t) (workspace_of head told) (left head b (name_by digest (content_from kind.Tag b))))
      (sym written.text)
      (tag-leaves digest (workspace_of head told) (number_of repository.objects t.target) (Some mark) t (may head)))

  pub tag-told : IsToldNext digest repository first o told
  tag-told = record {
    next = next;
    leaves = acts-leave;
    tells =
        told-next repository first rest o told next is what.named all now.of now.kept now.named refl
        all.branches
        (ap (λ (l : PendingTags). l ++ (tag_ref t.name, id) ∷ []) all.tags
        ∙ sym (ap tags_of (reached-last repository first o reached)
        ∙ tags-of-tag (reached_among repository first) o refl)) reached
        (added-named repository.objects id (content_from kind.Tag bytes) told.objects what.named);
  }
