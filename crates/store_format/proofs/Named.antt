-- Rows that have the names of their contents, one by one.
use Rattle.std.proofs.Common.{◌≡◌, ℕ, ◌+◌, ◌<◌, ◌≤◌, List, length, drop, get_or, Ok, refl, sym}
use Rattle.std.proofs.lemmas.List.{drop_more, drop_all}
use Rattle.pool_file_format.specs.declared.fault.Fault.{Fault}
use Rattle.pool_file_format.specs.declared.fault.Fault.TheVariants as fault
use Rattle.pool_file_format.specs.Taking.{Fails}
use Rattle.store_format.specs.declared.row.Row.{Row as CodeRow}
use Rattle.store_format.specs.Saying.{Numbered}
use Rattle.store_format.specs.Naming.{named, all_named}
use Rattle.store_format.specs.Shown.{row_of, rows_of}

pub named_on : (digest : List ℕ → List ℕ) (files : List Numbered) (rs : List CodeRow) (i : ℕ) (d : CodeRow) → i < length rs
    → named digest files (row_of (get_or rs i d)) ≡ Ok tt → all_named digest files (rows_of (drop (i + 1) rs)) ≡ all_named digest files (rows_of (drop i rs))
unfolding all_named
named_on digest files rs i d lt e = sym (rw (drop_more rs i d lt, e) refl)

pub named_fails : (digest : List ℕ → List ℕ) (files : List Numbered) (rs : List CodeRow) (i : ℕ) (d : CodeRow) (e : Fault) → i < length rs
    → Fails e (named digest files (row_of (get_or rs i d))) → Fails e (all_named digest files (rows_of (drop i rs)))
unfolding all_named
named_fails digest files rs i d fault.Memory lt f = tt
named_fails digest files rs i d fault.Device lt f = tt
named_fails digest files rs i d (fault.Refused r) lt f = rw (drop_more rs i d lt, f) refl

pub named_end : (digest : List ℕ → List ℕ) (files : List Numbered) (rs : List CodeRow) (i : ℕ) → length rs ≤ i → all_named digest files (rows_of (drop i rs)) ≡ Ok tt
unfolding all_named
named_end digest files rs i le = rw (drop_all i rs le) refl
