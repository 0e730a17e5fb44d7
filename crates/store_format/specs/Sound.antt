-- Which states and rows are accepted beyond what they say: the checks of a load that a pool file
-- does not need. The limits are this service's own.
use Rattle.std.specs.Prelude.{◌≡◌, ◌≢◌, ℕ, ◌*◌, ◌<◌, ◌≤◌, ◌^◌, List, [], ◌∷◌}
use Rattle.store_format.specs.State.{ContentsFile, State}

-- The bytes of a file of contents.
abbrev pub contents_file_limit : ℕ
contents_file_limit = 2 ^ 30

-- The number of a file is one that a file has had. Numbers are from 1.
pub record IsUsed (s : State) (number : ℕ) : Type 0 where
  pub first : 0 < number
  pub used : number < s.next

-- A file of contents comes after the one before it, and its number is that of no other file.
pub record IsSoundFile (s : State) (last : ℕ) (c : ContentsFile) : Type 0 where
  pub after : last < c.number
  pub used : c.number < s.next
  pub rows : c.number ≢ s.rows.number
  pub tenants : c.number ≢ s.tenants.number
  pub size : c.size ≤ contents_file_limit

abbrev pub AreSoundFrom : State → ℕ → List ContentsFile → Type 0
AreSoundFrom s last [] = Unit {0}
AreSoundFrom s last (c ∷ cs) = IsSoundFile s last c × AreSoundFrom s c.number cs

-- The files of rows and of records.
pub record AreSoundListings (s : State) : Type 0 where
  pub rows : IsUsed s s.rows.number
  pub tenants : IsUsed s s.tenants.number
  pub apart : s.rows.number ≢ s.tenants.number
  pub size : s.rows.size ≡ 41 * s.rows.count

-- `NotCanonical` (64) where one of these does not hold.
pub record IsSoundState (s : State) : Type 0 where
  pub listings : AreSoundListings s
  pub contents : AreSoundFrom s 0 s.contents
