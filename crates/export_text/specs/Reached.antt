-- What an export holds: what is reachable from the refs; git-fast-export(1).
use Rattle.std.specs.Prelude.{ℕ, ◌+◌, not, nat_le, is_some, Bool, List, ◌++◌, length, map, filter, codes}
use Rattle.std.specs.List.{flat_map}
use Rattle.std.specs.Ordering.{nat_cmp}
use Rattle.std.specs.Cmp.Lexicographic.{slice_cmp}
use Rattle.std.specs.FinMap as finmap
use Rattle.git_model.specs.declared.kind.Kind.{Kind}
use Rattle.git_model.specs.Limits.{export_refs_limit}
use Rattle.git_model.specs.TagReading.{tag_read}
use Rattle.git_model.specs.RefStore.{RefStore, listed_refs, target_of}
use Rattle.git_model.specs.Repository.{Object, Repository}
use Rattle.git_model.specs.Peeling.{is_no_tag}
use Rattle.git_model.specs.References.{content_named}
use Rattle.git_model.specs.Reach.{is_referred_to}

-- The objects that the refs reach, in the order of the repository.
abbrev pub reached_objects : Repository → List Object
reached_objects repository = filter (λ o. is_referred_to repository o.id) repository.objects

-- The tags among them.
abbrev pub is_tag : Object → Bool
is_tag o = not (is_no_tag o.content.kind)

abbrev pub reached_tags : Repository → List Object
reached_tags repository = filter is_tag (reached_objects repository)

-- The ref that a tag is imported under.
abbrev pub tag_ref : List ℕ → List ℕ
tag_ref name = codes "refs/tags/" ++ name

abbrev pub ref_of_tag : Object → List ℕ
ref_of_tag o = tag_ref (tag_read o.content.bytes).name

-- The refs of these tags, each once, in the order of their bytes.
abbrev pub each_once : List (List ℕ) → List (List ℕ)
each_once names =
    finmap.keys (finmap.from_entries {R = slice_cmp nat_cmp} (map (λ name. (name, tt {0})) names))

abbrev pub tag_refs : Repository → List (List ℕ)
tag_refs repository = each_once (map ref_of_tag (reached_tags repository))

-- Those that the repository does not have: importing the tags sets them.
abbrev pub is_missing : RefStore → List ℕ → Bool
is_missing store ref = not (is_some (target_of store ref))

abbrev pub extra_tag_refs : Repository → List (List ℕ)
extra_tag_refs repository = filter (is_missing repository.refs) (tag_refs repository)

-- The refs and those of the tags together are few enough to be imported beside one scratch branch.
abbrev pub is_exportable : Repository → Bool
is_exportable repository =
    nat_le (length (listed_refs repository.refs) + length (tag_refs repository)) export_refs_limit

-- What is told of a ref, by the kind and the bytes of the object that it holds.
abbrev pub by_target : {X : Type 0} → (List Object → List ℕ → List ℕ → Kind → List ℕ → List X)
    → List Object → List ℕ × List ℕ → List X
by_target tell os ref = let content = content_named ref.1 os in
    tell os ref.0 ref.1 content.kind content.bytes

-- The parts of an export in their order: the opening, each object, what saves them, each ref that is
-- removed, and each ref.
abbrev pub in_order : {X : Type 0} → (RefStore → List X) → (List Object → Object → List X) → List X
    → (List ℕ → List X) → (List Object → List ℕ × List ℕ → List X) → Repository → List X
in_order opening of_object saving removal of_ref repository = opening repository.refs
    ++ flat_map (of_object repository.objects) (reached_objects repository)
    ++ saving
    ++ flat_map removal (extra_tag_refs repository)
    ++ flat_map (of_ref repository.objects) (listed_refs repository.refs)
