-- Live contents: what a pool stores, counted by distinct contents.
use Rattle.std.specs.Prelude.{◌≡◌, ℕ, ◌-◌, ◌^◌, nat_lt, List, length, map, filter, min}
use Rattle.std.specs.Prelude.{sum_by, Contains}
use Rattle.std.specs.List.{filter_map}
use Rattle.std.specs.Set.{unique_keys}
use Rattle.git_model.specs.Content.{Content, same_content}
use Rattle.content_pool.specs.Pool.{Cells, content_of, content, IsLive}

-- How many distinct contents a list has, and the sum of their sizes in bytes, 2^64 - 1 if it is
-- more.
unfoldable pub stored_sizes : List Content → ℕ × ℕ
stored_sizes cs = let distinct = unique_keys same_content cs in
    (length distinct, min (sum_by (λ c. length c.bytes) distinct) (2 ^ 64 - 1))

-- The contents of the live slots, by rising slot.
unfoldable pub live_contents : Cells → List Content
live_contents p = map content_of (filter (λ e. nat_lt 0 e.holds) (filter_map (λ o. o) p))

-- The members of a list are exactly the contents of the live slots, in any order and any number of
-- times.
pub record ListsLive (p : Cells) (cs : List Content) : Type 0 where
  pub live : (c : Content) → Contains cs c → (s : ℕ) × IsLive p s × (content p s ≡ c)
  pub all : (s : ℕ) → IsLive p s → Contains cs (content p s)
