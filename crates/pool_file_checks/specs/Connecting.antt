-- What a tenant's objects refer to: git-fsck(1), the connectivity of objects.
use Rattle.std.specs.Prelude.{◌≡◌, ℕ, ◌<◌, List, length, All, true}
use Rattle.git_model.specs.Tree.{TreeEntry}
use Rattle.git_model.specs.Modes.{kind_of_mode}
use Rattle.git_model.specs.Repository.{Object}
use Rattle.git_model.specs.References.{reference, is_reference, references_in, object_at}
use Rattle.git_model.specs.GoodRepository.{StandsBefore}

-- An object with the entry's name and kind stands before a place. A gitlink refers to nothing.
abbrev pub EntryStands : List Object → ℕ → TreeEntry → Type 0
EntryStands os place e =
    is_reference e.mode ≡ true → StandsBefore os place (reference (kind_of_mode e.mode) e.id)

-- The objects to which an object refers stand before it, with the kinds that it asks for.
abbrev pub AreConnected : List Object → Type 0
AreConnected os =
    (i : ℕ) → i < length os → All (StandsBefore os i) (references_in (object_at i os).content)
