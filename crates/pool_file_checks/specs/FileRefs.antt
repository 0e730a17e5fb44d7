-- Which refs a tenant of a file may have: git-check-ref-format(1), gitnamespaces(7). Which targets
-- they may have is this service's own rule.
use Rattle.std.specs.Prelude.{◌≡◌, ◌⊎◌, ℕ, ◌<◌, List, [], ◌∷◌, ◌++◌, length, map, codes, All, Option, None, Some, IfSome, slice_get}
use Rattle.std.specs.Option.{option_and_then}
use Rattle.git_model.specs.declared.kind.Kind.TheVariants as kind
use Rattle.git_model.specs.Tag.{Tag, CanWriteTag, tag_contents}
use Rattle.git_model.specs.GoodRepository.{IsShortRefName}
use Rattle.tenant_refs.specs.FullName.{namespaces}
use Rattle.pool_file_format.specs.declared.refusal.Refusal.TheVariants as refusal
use Rattle.pool_file_format.specs.Format.{RawObject, RawRef, RawTenant}
use Rattle.pool_file_checks.specs.Checks.{Checks}
use Rattle.pool_file_checks.specs.Objects.{kind_byte, IsAfter}

-- The object at this place among a tenant's objects, if there is one.
abbrev pub target_at : List RawObject → List ℕ → ℕ → Option RawObject
target_at os numbers place = option_and_then (slice_get os) (slice_get numbers place)

-- The ref is `refs/tags/N`, and the bytes are those of a tag whose own name is N.
pub record IsOwnTag (ref bytes : List ℕ) : Type 0 where
  pub tag : Tag
  pub writable : CanWriteTag tag
  pub contents : bytes ≡ tag_contents tag
  pub ref_is : ref ≡ codes "refs/tags/" ++ tag.name

-- The target of a ref may be a commit, or the tag whose own name the ref has.
abbrev pub MayTarget : List ℕ → RawObject → Type 0
MayTarget ref o = (o.kind ≡ kind_byte kind.Commit)
    ⊎ ((o.kind ≡ kind_byte kind.Tag) × IsOwnTag ref o.bytes)

-- A ref is in the tenant's namespaces, has a good name after them, and may have its target. Without
-- an object at its place there is no target to judge here.
pub record IsGoodRef (front : List ℕ) (os : List RawObject) (numbers : List ℕ) (r : RawRef)
    : Type 0 where
  pub ref : List ℕ
  pub full : r.name ≡ front ++ ref
  pub name : IsShortRefName ref
  pub target : IfSome (target_at os numbers r.place) (MayTarget ref)

-- Names rise, each after the one before it.
unfoldable pub AreRising : Option (List ℕ) → List (List ℕ) → Type 0
AreRising last [] = Unit {0}
AreRising last (text ∷ more) = IsAfter last text × AreRising (Some text) more

-- Each ref by itself, then their order, then their places, then HEAD.
abbrev pub ref_checks : List RawObject → RawTenant → Checks
ref_checks os t =
    (All (IsGoodRef (namespaces t.name) os t.numbers) t.refs, refusal.BadRef)
    ∷ (AreRising None (map (λ r. r.name) t.refs), refusal.NotCanonical)
    ∷ (All (λ r. r.place < length t.numbers) t.refs, refusal.MissingReference)
    ∷ (IsShortRefName t.head, refusal.BadRef)
    ∷ []
