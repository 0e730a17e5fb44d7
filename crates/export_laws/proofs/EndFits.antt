-- A sound repository whose objects fit into a stream can be exported.
use Rattle.std.proofs.Common.{◌≡◌, ℕ, ◌<◌, List, [], ◌∷◌, length, All, Some}
use Rattle.std.specs.List.{AllByRecursion}
use Rattle.std.proofs.lemmas.List.Elements.{All-from_get_or, All-from_recursion, recursion_from_All}
use Rattle.git_model.specs.declared.kind.Kind.{Kind}
use Rattle.git_model.specs.declared.kind.Kind.TheVariants as kind
use Rattle.git_model.specs.CommitReading.{commit_read}
use Rattle.git_model.specs.GoodRepository.{StandsBefore}
use Rattle.git_model.specs.References.{Reference, kind_named, object_at, references_in, references_of}
use Rattle.git_model.specs.Repository.{Object, Repository}
use Rattle.git_model.proofs.Places.{at_place}
use Rattle.file_maps.specs.FileMap.{IsFile, Listed, listed}
use Rattle.file_maps.specs.StoredFiles.{stored_map}
use Rattle.file_maps.proofs.Apart.{all-weaker}
use Rattle.export_text.specs.Limits.{CanExport, Fits, FitsPath}
use Rattle.import_session.specs.Sound.{IsSoundRepository}
use Rattle.export_laws.specs.Copies.{FitsStream}
use Rattle.export_laws.proofs.OpenTrees.{files-good}

from-places : (P : Object → Type 0) (os : List Object)
    → ((i : ℕ) → i < length os → P (object_at i os)) → AllByRecursion P os
unfolding object_at
from-places P os h = recursion_from_All P os (All-from_get_or P os _ h)

-- the files of a branch have paths within the limits
paths-fit : (files : Listed) → AllByRecursion IsFile files → AllByRecursion FitsPath files
paths-fit [] good = tt
paths-fit (f ∷ files) good = (good.0.limits, paths-fit files good.1)

module _ (digest : List ℕ → List ℕ) (repository : Repository)
    (sound : IsSoundRepository digest repository)
    (fits : All (λ o. FitsStream o.content.kind o.content.bytes) repository.objects) where
  abbrev os : List Object
  os = repository.objects

  fits-by-kind : (k : Kind) (bytes : List ℕ)
      → AllByRecursion (λ (x : Reference). kind_named x.id os ≡ Some x.kind) (references_of k bytes)
      → FitsStream k bytes → Fits os k bytes
  fits-by-kind kind.Blob bytes named fit = fit
  fits-by-kind kind.Tree bytes named fit = tt
  fits-by-kind kind.Commit bytes named fit =
      let tree = (commit_read bytes).tree in
      let files = listed (stored_map os tree) in
      record {
        author = fit.author;
        committer = fit.committer;
        encoding = fit.encoding;
        message = fit.message;
        paths = All-from_recursion FitsPath files
            (paths-fit files (files-good digest os sound.objects sound.trees tree named.0).each);
      }
  fits-by-kind kind.Tag bytes named fit = fit

  fits-at : (i : ℕ) → i < length os
      → Fits os (object_at i os).content.kind (object_at i os).content.bytes
  fits-at i lt =
      fits-by-kind (object_at i os).content.kind (object_at i os).content.bytes
      (all-weaker (StandsBefore os i) (λ (x : Reference). kind_named x.id os ≡ Some x.kind)
      (λ x h. h.kind) (references_in (object_at i os).content)
      (recursion_from_All (StandsBefore os i) (references_in (object_at i os).content)
      (sound.objects.connected i lt)))
      (at_place (λ (o : Object). FitsStream o.content.kind o.content.bytes) os i fits lt)

  pub can-export : CanExport repository
  can-export = record {
    head = sound.refs.head;
    names = sound.refs.names;
    objects = All-from_recursion
        (λ (o : Object). Fits os o.content.kind o.content.bytes) os
        (from-places (λ (o : Object). Fits os o.content.kind o.content.bytes) os fits-at);
  }
