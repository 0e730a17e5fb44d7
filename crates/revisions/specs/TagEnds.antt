-- Ways along tags: gitrevisions(7), "<rev>^{}".
use Rattle.std.specs.Prelude.{◌≡◌, ℕ, List, Some}
use Rattle.std.specs.Map.{lookup}
use Rattle.std.specs.Str.{bytes_eq}
use Rattle.git_model.specs.declared.kind.Kind.TheVariants as kind
use Rattle.git_model.specs.Peeling.{ComesFirstTo, is_there_untagged, next_to}
use Rattle.git_model.specs.Repository.{Object}
use Rattle.revisions.specs.FirstParents.{IsFirstParentChain}
use Rattle.revisions.specs.declared.tag_ends.ChainCache.{ChainCache}

-- Tags lead from an object to another, which is the first on the way that is no tag.
abbrev pub EndsAt : List Object → List ℕ → List ℕ → Type 0
EndsAt os tag end = ComesFirstTo (is_there_untagged os) (next_to os kind.Blob) tag end

-- The way from each tag of a map ends at the object that the map has for it.
abbrev pub AreTagEnds : List Object → List (List ℕ × List ℕ) → Type 0
AreTagEnds os tags = (tag end : List ℕ) → lookup (bytes_eq tag) tags ≡ Some end
    → EndsAt os tag end

-- What is kept of walks is a chain of first parents and ends of tags of these objects.
pub record AreChains (os : List Object) (chains : ChainCache) : Type 0 where
  pub commits : IsFirstParentChain os chains.first_parents
  pub tags : AreTagEnds os chains.tags
