-- The summary of a tree, entry by entry, and that of one object after those of a table.
use Rattle.std.proofs.Common.{◌≡◌, ℕ, ◌+◌, ◌<◌, List, [], ◌∷◌, length, drop, get_or, map, Some, refl, sym, ap, ◌∙◌, subst, arith}
use Rattle.std.specs.Prelude.{fold}
use Rattle.git_model.specs.declared.kind.Kind.{Kind}
use Rattle.git_model.specs.declared.kind.Kind.TheVariants as kind
use Rattle.git_model.specs.TreeReading.{tree_read}
use Rattle.git_objects.specs.declared.tree_entry.TreeEntry.{TreeEntry}
use Rattle.git_objects.specs.Parts.{entry_of, entries_of}
use Rattle.tenant_tables.specs.declared.summary.Summary.{Summary}
use Rattle.tenant_tables.specs.View.{Entries}
use Rattle.tenant_tables.specs.Sums.{IsWithin}
use Rattle.tenant_tables.specs.Trees.{both, entry_summary}
use Rattle.pool_file_checks.specs.Sums.{Sums, Fits}
use Rattle.pool_file_checks.proofs.SumLemmas.{noted_sum, own_sum}
use Rattle.pool_file_checks.proofs.TenantLemmas.{left_at}
use Rattle.pool_file.specs.Tables.{AreNoted, FitsIn, summary_in}

-- ---- parts of a sum within the limits

first_within : (a b : Summary) → IsWithin (both a b) → IsWithin a
first_within a b h =
    let f = h.files in let d = h.depth in let l = h.longest in
    record { files = omega (arith, f); depth = omega (arith, d); longest = omega (arith, l) }

pub second_within : (a b : Summary) → IsWithin (both a b) → IsWithin b
second_within a b h =
    let f = h.files in let d = h.depth in let l = h.longest in
    record { files = omega (arith, f); depth = omega (arith, d); longest = omega (arith, l) }

abbrev pub sum_with : Entries → Summary → List TreeEntry → Summary
sum_with table sum es = fold both sum (map (entry_summary table) (entries_of es))

before_within : (table : Entries) (sum : Summary) (es : List TreeEntry) → IsWithin (sum_with table sum es) → IsWithin sum
before_within table sum [] h = h
before_within table sum (e ∷ es) h =
    first_within sum (entry_summary table (entry_of e)) (before_within table (both sum (entry_summary table (entry_of e))) es h)

-- one more of the entries that are left
pub next_sum : (table : Entries) (es : List TreeEntry) (i : ℕ) (x : TreeEntry) (sum total : Summary)
    → i < length es → x ≡ get_or es i x → sum_with table sum (drop i es) ≡ total
    → sum_with table (both sum (entry_summary table (entry_of x))) (drop (i + 1) es) ≡ total
next_sum table es i x sum total lt at is = ap (sum_with table sum) (sym (left_at es i x lt at)) ∙ is

pub next_within : (table : Entries) (es : List TreeEntry) (i : ℕ) (x : TreeEntry) (sum total : Summary)
    → i < length es → x ≡ get_or es i x → sum_with table sum (drop i es) ≡ total → IsWithin total
    → IsWithin (both sum (entry_summary table (entry_of x)))
next_within table es i x sum total lt at is h =
    before_within table (both sum (entry_summary table (entry_of x))) (drop (i + 1) es)
    (subst IsWithin (sym (next_sum table es i x sum total lt at is)) h)

-- ---- sums that a table has

pub fits_in : (entries : Entries) (sums : Sums) (k : Kind) (bytes : List ℕ) → AreNoted sums entries
    → Fits k bytes sums → FitsIn entries k bytes
fits_in entries sums kind.Tree bytes noted f =
    (f.0, subst IsWithin (noted_sum sums entries (tree_read bytes) noted) f.1.within)
fits_in entries sums kind.Blob bytes noted f = tt
fits_in entries sums kind.Commit bytes noted f = tt
fits_in entries sums kind.Tag bytes noted f = tt

pub summary_own : (entries : Entries) (sums : Sums) (k : Kind) (bytes : List ℕ) → AreNoted sums entries
    → summary_in entries k bytes ≡ own_sum k bytes sums
summary_own entries sums kind.Tree bytes noted =
    ap (λ (s : Summary). Some s) (sym (noted_sum sums entries (tree_read bytes) noted))
summary_own entries sums kind.Blob bytes noted = refl
summary_own entries sums kind.Commit bytes noted = refl
summary_own entries sums kind.Tag bytes noted = refl
