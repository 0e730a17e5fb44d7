-- Logs: a set of commits from new to old, git-log(1).
use Rattle.std.specs.Prelude.{◌≡◌, ◌↔◌, ℕ, List, map, filter, Contains, AllPairs, Bool, IsTrue}
use Rattle.std.specs.declared.cmp.Ordering.{Ordering}
use Rattle.std.specs.declared.cmp.Ordering.TheVariants.{Less}
use Rattle.std.specs.Ordering.{nat_cmp, ordering_then}
use Rattle.std.specs.Cmp.Lexicographic.{slice_cmp}
use Rattle.std.specs.FinMap as finmap
use Rattle.git_model.specs.CommitReading.{time_of}
use Rattle.git_model.specs.Repository.{Object}
use Rattle.git_model.specs.References.{content_named}

-- The committer's time of a commit decides its place in a log, and then its name.
pub record LogKey : Type 0 where
  pub time : ℕ
  pub id : List ℕ

abbrev pub log_key : List Object → List ℕ → LogKey
log_key os id = record { time = time_of (content_named id os).bytes; id = id }

-- Later times come first, and commits of one time by rising name.
abbrev pub log_cmp : LogKey → LogKey → Ordering
log_cmp a b = ordering_then (nat_cmp b.time a.time) (slice_cmp nat_cmp a.id b.id)

-- A list is the log of a set of commits: it has the members of the set, and each comes before all
-- later ones, so none is there twice.
pub record IsLogOf (os : List Object) (set : List ℕ → Bool) (log : List (List ℕ)) : Type 0 where
  pub members : (id : List ℕ)
      → Contains log id ↔ (Contains (map (λ o. o.id) os) id × IsTrue (set id))
  pub in_order : AllPairs (λ a b. log_cmp (log_key os a) (log_key os b) ≡ Less) log

-- Keys in the order of a log, each once.
abbrev pub in_log_order : List LogKey → List LogKey
in_log_order ks = finmap.keys (finmap.from_entries {R = log_cmp} (map (λ k. (k, tt {0})) ks))

-- The log of a set, as a function. No other list is its log.
unfoldable pub log_of : List Object → (List ℕ → Bool) → List (List ℕ)
log_of os set =
    map (λ k. k.id) (in_log_order (map (λ o. log_key os o.id) (filter (λ o. set o.id) os)))

-- Keys are those of the members of a set, in any order.
abbrev pub AreKeysOf : List Object → (List ℕ → Bool) → List LogKey → Type 0
AreKeysOf os set keys =
    (k : LogKey) → Contains keys k ↔ Contains (map (λ o. log_key os o.id) (filter (λ o. set o.id) os)) k
