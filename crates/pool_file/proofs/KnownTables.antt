-- The objects of a tenant whose summaries are known, added to its table one after another.
use Rattle.std.proofs.Common.{◌≡◌, ℕ, ◌+◌, ◌<◌, List, ◌∷◌, length, drop, get_or, Option, Some, Result, refl, sym, ap, subst, ◌∙◌}
use Rattle.std.specs.Prelude.{OnOk}
use Rattle.git_model.specs.declared.kind.Kind.{Kind}
use Rattle.git_model.specs.declared.kind.Kind.TheVariants as kind
use Rattle.git_model.specs.Content.{Content}
use Rattle.git_model.specs.Repository.{Object}
use Rattle.git_model.specs.TreeReading.{tree_read}
use Rattle.content_pool.specs.Pool.{Cells, content}
use Rattle.tenant_tables.specs.declared.summary.Summary.{Summary}
use Rattle.tenant_tables.specs.View.{View, Entries}
use Rattle.tenant_tables.specs.Adding.{Adds}
use Rattle.tenant_tables.specs.IsBackedBy.{IsBackedBy, PreservesOthers}
use Rattle.tenant_tables.specs.Summed.{SummedAfter}
use Rattle.tenant_tables.specs.Trees.{no_files}
use Rattle.pool_file_checks.specs.Own.{own_objects}
use Rattle.pool_file_checks.specs.Quick.{AreSums}
use Rattle.pool_file_checks.specs.Sums.{Sums, sum_of_tree}
use Rattle.pool_file_checks.proofs.SumLemmas.{own_sum}
use Rattle.pool_file_checks.proofs.TenantLemmas.{left_at}
use Rattle.pool_file.specs.Building.{objects_at, MayLoad}
use Rattle.pool_file.specs.Tables.{CanAdd, Loads, known_sum, object_of, sums_on}
use Rattle.pool_file.proofs.LoadedTables.{AreLoaded, any_default, left_here, summed_own, loaded_own, same, may_load, loaded_on}

-- ---- one object

own_is : (k : Kind) (bytes : List ℕ) (noted : Sums) (sum : Summary) → (k ≡ kind.Tree → sum ≡ sum_of_tree noted (tree_read bytes))
    → known_sum k sum ≡ own_sum k bytes noted
own_is kind.Tree bytes noted sum is = ap (λ (s : Summary). Some s) (is refl)
own_is kind.Blob bytes noted sum is = refl
own_is kind.Commit bytes noted sum is = refl
own_is kind.Tag bytes noted sum is = refl

module _ (digest : List ℕ → List ℕ) (p : Cells) (old : View) (slot : ℕ) (sum : Summary) (can : CanAdd digest p old.entries slot sum)
    (k : Kind) (s : Option Summary) (kind_is : k ≡ (content p slot).kind) (is : s ≡ known_sum k sum) where
  made : s ≡ own_sum (content p slot).kind (content p slot).bytes can.noted
  made = is ∙ ap (λ (j : Kind). known_sum j sum) kind_is ∙ own_is (content p slot).kind (content p slot).bytes can.noted sum can.sum_is

  pub summed_known : SummedAfter old.entries (content p slot) s
  summed_known = summed_own digest p old can.noted slot can.can s made

  pub loaded_known : {A E : Type 0} (r : Result A E) (q : Cells) (new : View) → IsBackedBy digest q new.entries → PreservesOthers p old.entries q new.entries
      → OnOk r (Adds digest (content p slot) s p old q new)
      → OnOk r (Loads digest slot p old.entries can.noted q new.entries (sums_on digest (content p slot) can.noted))
  loaded_known = loaded_own digest p old can.noted slot can.can s made

-- ---- one object after another

-- The table has the objects before those that are left, of which the summaries are known.
pub record AreKnownSoFar (digest : List ℕ → List ℕ) (before pool : Cells) (entries : Entries) (kept : List Summary)
    (rest whole : List Object) : Type 0 where
  pub noted : Sums
  pub loaded : AreLoaded digest before pool entries noted rest whole
  pub sums : AreSums noted kept rest

module _ (digest : List ℕ → List ℕ) (p0 p : Cells) (slots numbers : List ℕ) (entries : Entries) (kept : List Summary)
    (may : MayLoad digest p0 slots numbers) (i slot : ℕ) (l : i < length numbers) (at : slot ≡ get_or slots (get_or numbers i 0) slot)
    (short : i < length kept) where
  abbrev sum : Summary
  sum = get_or kept i no_files

  abbrev own : List Object
  own = own_objects digest (objects_at p0 slots) numbers

  abbrev o : Object
  o = object_of digest (content p0 slot)

  module _ (h : AreKnownSoFar digest p0 p entries (drop i kept) (drop i own) own) where
    both : AreSums h.noted (sum ∷ drop (i + 1) kept) (o ∷ drop (i + 1) own)
    both =
        subst (λ (ks : List Summary). AreSums h.noted ks (o ∷ drop (i + 1) own)) (left_at kept i sum short (any_default kept i no_files sum short))
        (subst (λ (os : List Object). AreSums h.noted (drop i kept) os) (left_here digest p0 p slots numbers entries h.noted may i slot l at) h.sums)

    here_same : content p slot ≡ content p0 slot
    here_same = same digest p0 p slots numbers entries h.noted may i slot l at h.loaded

    pub can_add : CanAdd digest p entries slot sum
    can_add = record {
      noted = h.noted;
      can = may_load digest p0 p slots numbers entries h.noted may i slot l at h.loaded;
      sum_is = subst (λ (c : Content). c.kind ≡ kind.Tree → sum ≡ sum_of_tree h.noted (tree_read c.bytes)) (sym here_same) both.0;
    }

    pub known_on : (q : Cells) (new : Entries)
        → ((can : CanAdd digest p entries slot sum) → Loads digest slot p entries can.noted q new (sums_on digest (content p slot) can.noted))
        → AreKnownSoFar digest p0 q new (drop (i + 1) kept) (drop (i + 1) own) own
    unfolding can_add
    known_on q new loads = record {
      noted = sums_on digest (content p slot) h.noted;
      loaded = loaded_on digest p0 p slots numbers entries h.noted may i slot l at h.loaded q new (sums_on digest (content p slot) h.noted) (loads can_add);
      sums = subst (λ (c : Content). AreSums (sums_on digest c h.noted) (drop (i + 1) kept) (drop (i + 1) own)) (sym here_same) both.1;
    }
