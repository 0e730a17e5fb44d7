-- What a table knows of its trees.
use Rattle.std.proofs.Common.{◌≡◌, ℕ, ◌+◌, List, [], take, Option, Some, sym, ap, ◌∙◌}
use Rattle.std.specs.Prelude.{slice_get}
use Rattle.std.specs.List.{IsDistinct}
use Rattle.std.specs.Str.{bytes_eq}
use Rattle.git_model.specs.Content.{Content}
use Rattle.content_pool.specs.Pool.{Cells, content}
use Rattle.tenant_tables.specs.declared.entry.Entry.{Entry}
use Rattle.tenant_tables.specs.declared.summary.Summary.{Summary}
use Rattle.tenant_tables.specs.View.{Entries, names, summary_of}
use Rattle.tenant_tables.specs.Summed.{IsSummed, SummedAfter}
use Rattle.tenant_tables.proofs.Joined.{new_at, take-one}
use Rattle.pool_file_checks.specs.Sums.{Fits, Sums, SameSums, sums_with}
use Rattle.pool_file_checks.proofs.SumLemmas.{own_sum, noted_on, none_noted, summed_after}
use Rattle.pool_file.specs.Tables.{AreNoted}

-- ---- the summary of one object

-- what stands beside it in a table with the same summaries is its own sum
own_known : (sums : Sums) (es : Entries) (c : Content) (s : Option Summary) → AreNoted sums es
    → Fits c.kind c.bytes sums → SummedAfter es c s → s ≡ own_sum c.kind c.bytes sums
own_known sums es c s noted fits after =
    after.sum ∙ sym (summed_after c.kind c.bytes sums es noted fits).sum

-- ---- a table that begins alike

-- Up to a count, the summaries of another table are those of the sums.
pub record IsLike (pool : Cells) (sums : Sums) (count : ℕ) (other : Entries) : Type 0 where
  pub summed : IsSummed pool other
  pub noted : AreNoted sums (take count other)

pub like_none : (pool : Cells) (other : Entries) → IsSummed pool other → IsLike pool [] 0 other
like_none pool other summed = record { summed = summed; noted = none_noted }

module _ (pool : Cells) (sums : Sums) (count : ℕ) (other : Entries) (like : IsLike pool sums count other)
    (id : List ℕ) (e : Entry) (distinct : IsDistinct bytes_eq (names other))
    (at : slice_get other count ≡ Some (id, e))
    (fits : Fits (content pool e.slot).kind (content pool e.slot).bytes sums) where
  abbrev c : Content
  c = content pool e.slot

  own : e.summary ≡ own_sum c.kind c.bytes sums
  unfolding IsSummed
  own = own_known sums (take count other) c e.summary like.noted fits (like.summed count id e at)

  -- and is like the table with the object
  pub like_on : (more : Sums) → SameSums more (sums_with c.kind id c.bytes sums)
      → IsLike pool more (count + 1) other
  like_on more same = record {
    summed = like.summed;
    noted = λ x. same x
        ∙ noted_on c.kind id c.bytes sums (take count other) e like.noted (new_at other count id e distinct at) own x
        ∙ ap (summary_of x) (sym (take-one count other (id, e) at));
  }
