-- How the pool finds a content: the prefix of its object name leads to a bucket of slots. No public
-- clause cites this module.
use Rattle.std.specs.Prelude.{◌≡◌, ℕ, length, slice_index, IsSome, ◌+◌, ◌<◌, ◌==◌, ◌&&◌, Bool}
use Rattle.std.specs.Prelude.{false, if◌then◌else◌, List, [], Some, ◌∷◌, take, count_by, unwrap_or}
use Rattle.std.specs.Option.{option_map_or}
use Rattle.std.specs.Str.{bytes_eq}
use Rattle.std.specs.Map.{lookup}
use Rattle.git_model.specs.Content.{Content, name_by}
use Rattle.content_pool.specs.Pool.{Cells, cell, content_of}
use Rattle.content_pool.specs.declared.stored.Stored.{Stored}
use Rattle.content_pool.specs.declared.bucket.Slots.{Slots}
use Rattle.content_pool.specs.declared.bucket.Slots.TheVariants as held

-- What of an object name leads to its bucket: its first seven bytes.
abbrev pub prefix_of : List ℕ → List ℕ
prefix_of id = take 7 id

-- The slots of a bucket.
abbrev pub slots_of : Slots → List ℕ
slots_of held.None = []
slots_of (held.One s) = s ∷ []
slots_of (held.Many list) = list.value.items

-- Prefixes, each with the slots in its bucket.
abbrev pub Buckets : Type 0
Buckets = List (List ℕ × List ℕ)

-- The bucket of a prefix, empty if there is none.
abbrev pub bucket : Buckets → List ℕ → List ℕ
bucket m n = unwrap_or (lookup (bytes_eq n) m) []

-- How often a slot is in a bucket.
abbrev pub times : List ℕ → ℕ → ℕ
times slots s = count_by (λ t. t == s) slots

-- Whether what is stored in this slot has this prefix.
abbrev pub has_prefix : Cells → ℕ → List ℕ → Bool
has_prefix p s n = option_map_or (λ e. bytes_eq e.prefix n) (cell p s) false

-- The slot stores this content.
pub record Stores (p : Cells) (s : ℕ) (c : Content) : Type 0 where
  pub stored : Stored
  pub there : cell p s ≡ Some stored
  pub same : content_of stored ≡ c

-- Something is stored under each of these keys.
abbrev pub AllStored : Cells → List ℕ → Type 0
AllStored p keys = (k : ℕ) → k < length keys → IsSome (cell p (slice_index keys k))

-- The content is stored under none of these keys.
abbrev pub StoresNone : Cells → List ℕ → Content → Type 0
StoresNone p keys c = (k : ℕ) → k < length keys → Stores p (slice_index keys k) c → ⊥

-- What is stored is held, is kept with the prefix of its name, and no two slots store one content.
pub record IsPool (digest : List ℕ → List ℕ) (p : Cells) : Type 0 where
  pub counted : (s : ℕ) (e : Stored) → cell p s ≡ Some e → 0 < e.holds
  pub named : (s : ℕ) (e : Stored) → cell p s ≡ Some e
      → e.prefix ≡ prefix_of (name_by digest (content_of e))
  pub distinct : (s t : ℕ) (e f : Stored) → cell p s ≡ Some e → cell p t ≡ Some f
      → content_of e ≡ content_of f → s ≡ t

-- Each slot is once in the bucket of its prefix, and in no other bucket.
abbrev pub IsIndexed : Cells → Buckets → Type 0
IsIndexed p m = (n : List ℕ) (s : ℕ) → times (bucket m n) s ≡ (if has_prefix p s n then 1 else 0)

-- 1 for this slot in the bucket of this prefix, and 0 elsewhere.
abbrev pub one_at : List ℕ → ℕ → List ℕ → ℕ → ℕ
one_at prefix slot n s = if bytes_eq prefix n && (slot == s) then 1 else 0

-- The slot is once more in the bucket of this prefix.
pub record Notes (old new : Buckets) (prefix : List ℕ) (slot : ℕ) : Type 0 where
  pub added : (n : List ℕ) (s : ℕ)
      → times (bucket new n) s ≡ times (bucket old n) s + one_at prefix slot n s

-- The slot, which was once in the bucket of this prefix, is no longer there.
pub record Forgets (old new : Buckets) (prefix : List ℕ) (slot : ℕ) : Type 0 where
  pub taken : (n : List ℕ) (s : ℕ)
      → times (bucket new n) s + one_at prefix slot n s ≡ times (bucket old n) s

-- Every bucket has the slots that it had.
abbrev pub SameBuckets : Buckets → Buckets → Type 0
SameBuckets old new = (n : List ℕ) → bucket new n ≡ bucket old n
