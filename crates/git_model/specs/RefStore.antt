-- The refs of a repository and its HEAD: "ref" and "HEAD" of gitglossary(7).
use Rattle.std.specs.Prelude.{◌≡◌, ◌≢◌, ℕ, List, Option, codes}
use Rattle.std.specs.Ordering.{nat_cmp}
use Rattle.std.specs.Cmp.Lexicographic.{slice_cmp}
use Rattle.std.specs.Coded.{Coded, code_by, coded×, coded_list, coded_ℕ}
use Rattle.std.specs.Prelude.{refl}
use Rattle.std.specs.FinMap as map

-- The object name that each ref holds, in the order of the bytes of the refs.
abbrev pub RefMap : Type 0
RefMap = map.FinMap (slice_cmp nat_cmp) (List ℕ)

-- A repository's refs, and the ref that HEAD names, which need not be among them.
pub record RefStore : Type 0 where
  pub refs : RefMap
  pub head : List ℕ

-- A store is coded as the pair of its fields.
abbrev pub ref_store_code : Coded RefStore
ref_store_code =
    code_by (RefMap × List ℕ)
    (coded× (map.code (coded_list coded_ℕ) (coded_list coded_ℕ)) (coded_list coded_ℕ))
    (λ store. (store.refs, store.head)) (λ pair. record { refs = pair.0; head = pair.1 })
    (λ _. refl)

-- HEAD before anyone sets it.
abbrev pub first_head : List ℕ
first_head = codes "refs/heads/main"

-- No refs yet.
abbrev pub no_refs : RefStore
no_refs = record { refs = map.empty; head = first_head }

-- The object name that a ref holds.
abbrev pub target_of : RefStore → List ℕ → Option (List ℕ)
target_of store ref = map.get store.refs ref

-- All refs with the object names that they hold, in the order of their bytes.
abbrev pub listed_refs : RefStore → List (List ℕ × List ℕ)
listed_refs store = map.entries store.refs

-- The store with one ref set.
abbrev pub with_ref : RefStore → List ℕ → List ℕ → RefStore
with_ref store ref target = record store { refs = map.insert store.refs ref target }

-- The store without one ref.
abbrev pub without_ref : RefStore → List ℕ → RefStore
without_ref store ref = record store { refs = map.remove store.refs ref }

-- The store with another HEAD.
abbrev pub with_head : RefStore → List ℕ → RefStore
with_head store ref = record store { head = ref }

-- One ref changes to the given target, and every other ref and HEAD stay as they are.
pub record ChangesRef (old new : RefStore) (ref : List ℕ) (target : Option (List ℕ)) : Type 0 where
  pub this_ref : target_of new ref ≡ target
  pub other_refs : (other : List ℕ) → other ≢ ref → target_of new other ≡ target_of old other
  pub head : new.head ≡ old.head
