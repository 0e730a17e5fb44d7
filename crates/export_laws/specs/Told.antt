-- What the acts of exported objects leave of a stream, object by object.
use Rattle.std.specs.Prelude.{◌≡◌, ◌≢◌, ℕ, nat_eq, ◌≤◌, ◌⊎◌, false, true, List, [], ◌∷◌, ◌++◌, length, map, filter, Option, Some}
use Rattle.std.specs.List.{IsDistinct}
use Rattle.std.specs.Map.{lookup}
use Rattle.std.specs.Str.{bytes_eq}
use Rattle.git_model.specs.declared.kind.Kind.{Kind}
use Rattle.git_model.specs.declared.kind.Kind.TheVariants as kind
use Rattle.git_model.specs.Content.{Content}
use Rattle.git_model.specs.Reach.{is_referred_to}
use Rattle.git_model.specs.RefStore.{no_refs}
use Rattle.git_model.specs.Repository.{Object, Repository, object_named}
use Rattle.export_text.specs.ExportActs.{acts_of_object, number_of}
use Rattle.export_text.specs.ExportItems.{scratch}
use Rattle.export_text.specs.Reached.{is_tag, ref_of_tag}
use Rattle.stream_parts.specs.declared.branches.Tip.{Tip}
use Rattle.stream_parts.specs.Marks.{as_marked, Marks}
use Rattle.stream_parts.specs.Branches.{Branches}
use Rattle.stream_parts.specs.Tags.{PendingTags}
use Rattle.stream_parts.specs.OpenCommand.{Nothing}
use Rattle.stream_parts.specs.StreamOf.{StreamOf}
use Rattle.open_commits.specs.OpenCommit.{OpenCommit}
use Rattle.stream_commands.specs.Workspace.{Workspace}
use Rattle.export_laws.specs.Leaving.{Leaves}
use Rattle.export_laws.specs.Order.{stored_with}

-- What changes of a workspace while objects are told, as it is between two objects: the objects,
-- marks, branches and pending tags. No command is open then.
pub record Told : Type 0 where
  pub objects : List Object
  pub marks : Marks
  pub branches : Branches
  pub tags : PendingTags

-- What the stream has of its own then. It updates refs by force.
abbrev pub stream_told : Option (List ℕ) → Told → StreamOf OpenCommit
stream_told head told = record {
  marks = told.marks;
  branches = told.branches;
  tags = told.tags;
  command = Nothing;
  head = head;
  forces = true;
  needs_done = false;
}

-- The workspace with these parts, in a stream that began with an empty repository: nothing is saved
-- yet.
abbrev pub workspace_of : Option (List ℕ) → Told → Workspace
workspace_of head told = record {
  objects = told.objects;
  committed = 0;
  refs = no_refs;
  stream = stream_told head told;
}

-- Before the first object.
abbrev pub nothing_told : Told
nothing_told = record { objects = []; marks = []; branches = []; tags = [] }

-- Each object among these is one of the repository, under the same name, and some ref of the
-- repository reaches it. No two have the same name.
pub record AreOf (repository : Repository) (objects : List Object) : Type 0 where
  pub same : (id : List ℕ) (content : Content) → object_named id objects ≡ Some content
      → object_named id repository.objects ≡ Some content
  pub reached : (id : List ℕ) (content : Content) → object_named id objects ≡ Some content
      → is_referred_to repository id ≡ true
  pub distinct : IsDistinct bytes_eq (map (λ (o : Object). o.id) objects)

-- A mark stands for the object of this name, with its kind.
abbrev pub StandsFor : Marks → ℕ → Kind → List ℕ → Type 0
StandsFor marks mark kind id = lookup (nat_eq mark) marks ≡ Some (as_marked kind id)

-- An object is there, under its name and under its mark.
pub record IsThere (os : List Object) (told : Told) (id : List ℕ) (content : Content) : Type 0 where
  pub object : object_named id told.objects ≡ Some content
  pub mark : StandsFor told.marks (number_of os id) content.kind id

-- There is no branch except the one on which commits are told.
abbrev pub IsScratchAlone : Branches → Type 0
IsScratchAlone branches = (branches ≡ []) ⊎ ((tip : Tip) × (branches ≡ (scratch, tip) ∷ []))

-- The objects among some that the refs reach.
abbrev pub reached_among : Repository → List Object → List Object
reached_among repository os = filter (λ o. is_referred_to repository o.id) os

-- The refs that tags are imported under, in their order.
abbrev pub tags_of : List Object → PendingTags
tags_of os = map (λ o. (ref_of_tag o, o.id)) (filter is_tag os)

-- The first objects of a repository were told. Those that a ref reaches are there with their marks,
-- except trees. Nothing is there that the repository does not have, or that no ref reaches. The
-- objects came in the order of the repository, each commit after its trees. The tags wait for the
-- next checkpoint.
pub record AreTold (repository : Repository) (first : List Object) (told : Told) : Type 0 where
  pub objects : AreOf repository told.objects
  pub each : (id : List ℕ) (content : Content) → object_named id first ≡ Some content
      → is_referred_to repository id ≡ true → content.kind ≢ kind.Tree
      → IsThere repository.objects told id content
  pub order : told.objects ≡ stored_with repository.objects (reached_among repository first)
  pub few : length told.marks ≤ length first
  pub branches : IsScratchAlone told.branches
  pub tags : told.tags ≡ tags_of (reached_among repository first)

-- The acts of one more object lead to a workspace in which it is told too, whatever HEAD will name.
pub record IsToldNext (digest : List ℕ → List ℕ) (repository : Repository) (first : List Object)
    (o : Object) (told : Told) : Type 0 where
  pub next : Told
  pub leaves : (head : Option (List ℕ)) → Leaves digest (acts_of_object repository.objects o)
      (workspace_of head told) (workspace_of head next)
  pub tells : AreTold repository (first ++ o ∷ []) next
