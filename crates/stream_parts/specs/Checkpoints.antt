-- What a checkpoint compares and saves: git-fast-import(1), "checkpoint"; gitglossary(7),
-- "fast-forward".
use Rattle.std.specs.Prelude.{ℕ, nat_le, Bool, false, List, length, fold, Option, None, Some}
use Rattle.git_model.specs.declared.kind.Kind.TheVariants as kind
use Rattle.git_model.specs.GoodRepository.{refs_limit}
use Rattle.git_model.specs.Peeling.{peeled_to}
use Rattle.git_model.specs.Reach.{reaches}
use Rattle.git_model.specs.RefStore.{RefStore, listed_refs, with_ref, with_head}
use Rattle.git_model.specs.Repository.{Object}
use Rattle.stream_parts.specs.Tags.{PendingTags}

-- An update is a fast-forward if the new tip reaches the commit that the old value is peeled to.
abbrev pub reaches_old : List Object → List ℕ → Option (List ℕ) → Bool
reaches_old objects tip None = false
reaches_old objects tip (Some old) = reaches objects tip old

-- Whether a ref that stands for `old` may be set to this tip without force.
abbrev pub is_fast_forward : List Object → List ℕ → List ℕ → Bool
is_fast_forward objects old tip = reaches_old objects tip (peeled_to objects kind.Commit old)

-- The refs after each tag in turn sets its ref.
abbrev pub by_tags : RefStore → PendingTags → RefStore
by_tags store tags = fold (λ saved tag. with_ref saved tag.0 tag.1) store tags

-- HEAD names the ref that the stream set, if it set one.
abbrev pub by_head : RefStore → Option (List ℕ) → RefStore
by_head store None = store
by_head store (Some ref) = with_head store ref

-- A repository has at most this many refs, counted after the checkpoint.
abbrev pub fit : RefStore → Bool
fit store = nat_le (length (listed_refs store)) refs_limit
