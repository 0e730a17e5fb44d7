-- The export of a repository: git-fast-export(1).
use Rattle.std.specs.Prelude.{◌≡◌, ℕ, true, false, if◌then◌else◌, List, [], ◌∷◌, ◌++◌, replicate, None, Result, Ok, Err, codes}
use Rattle.std.specs.List.{flat_map}
use Rattle.std.specs.Str.{bytes_eq}
use Rattle.git_model.specs.declared.kind.Kind.{Kind}
use Rattle.git_model.specs.declared.kind.Kind.TheVariants as kind
use Rattle.git_model.specs.TagReading.{tag_read}
use Rattle.git_model.specs.RefStore.{RefStore, first_head}
use Rattle.git_model.specs.Repository.{Object, Repository}
use Rattle.stream_lex.specs.Items.{Item, Line, Blank}
use Rattle.export_text.specs.declared.fault.Fault.{Fault}
use Rattle.export_text.specs.declared.fault.Fault.TheVariants as fault
use Rattle.export_text.specs.ItemText.{items_text}
use Rattle.export_text.specs.Reached.{reached_objects, is_exportable, by_target, in_order}
use Rattle.export_text.specs.ExportItems.{marked, scratch, tag_items, items_of_object}

-- First the stream may move refs to any commit, and HEAD is set where it is not that of a new
-- repository.
unfoldable pub head_items : List ℕ → List Item
head_items head =
    if bytes_eq head first_head then []
    else Line (codes "option gitpool head " ++ head) ∷ []

abbrev pub opening_items : RefStore → List Item
opening_items store = Line (codes "feature force") ∷ head_items store.head

-- Then comes each object, in the order of the repository, so it comes after all that it refers to.
abbrev pub object_items : Repository → List Item
object_items repository =
    flat_map (items_of_object repository.objects) (reached_objects repository)

-- Then the scratch branch is reset, and a checkpoint saves the objects.
abbrev pub saving_items : List Item
saving_items = Line (codes "reset " ++ scratch) ∷ Line (codes "checkpoint") ∷ []

-- Then the refs that importing the tags has set, and the repository does not have, are removed.
abbrev pub removal_items : List ℕ → List Item
removal_items ref =
    Line (codes "reset " ++ ref) ∷ Line (codes "from " ++ replicate 40 48) ∷ Blank ∷ []

-- Then each ref is set: to a commit by a reset, and to a tag by the tag once more.
abbrev pub ref_items : List Object → List ℕ → List ℕ → Kind → List ℕ → List Item
ref_items os ref id kind.Tag bytes = tag_items os None (tag_read bytes)
ref_items os ref id other bytes =
    Line (codes "reset " ++ ref) ∷ marked os (codes "from ") id ∷ Blank ∷ []

abbrev pub items_of_ref : List Object → List ℕ × List ℕ → List Item
items_of_ref = by_target ref_items

-- The items of an export.
abbrev pub export_items : Repository → List Item
export_items = in_order opening_items items_of_object saving_items removal_items items_of_ref

-- The text of an export.
unfoldable pub export_text : Repository → List ℕ
export_text repository = items_text (export_items repository)

-- The text was appended or, where there are too many refs, that was the refusal. Out of memory may
-- be answered instead of either.
abbrev pub Exports : Repository → List ℕ → List ℕ → Result Unit Fault → Type 0
Exports repository old new (Ok u) =
    (is_exportable repository ≡ true) × (new ≡ old ++ export_text repository)
Exports repository old new (Err fault.Limit) = is_exportable repository ≡ false
Exports repository old new (Err fault.Memory) = Unit {0}
