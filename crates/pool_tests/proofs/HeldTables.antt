-- That the conditions of `add_held` can be met: a content that was put into a pool which held
-- nothing, and a table that has nothing.
use Rattle.std.proofs.Common.{◌≡◌, ℕ, Bool, false, ◌&&◌, cond, List, [], ◌∷◌, All, None, Some, refl, sym, ap, subst, ◌∙◌, arith}
use Rattle.std.specs.List.{list_all}
use Rattle.std.proofs.lemmas.List.Elements.{All-cons, All-nil}
use Rattle.git_model.specs.declared.file_mode.FileMode.TheVariants as mode
use Rattle.git_model.specs.declared.kind.Kind.TheVariants as kind
use Rattle.git_model.specs.Content.{Content, content_from}
use Rattle.git_model.specs.Tree.{TreeEntry}
use Rattle.git_model.specs.TreeReading.{tree_read}
use Rattle.content_pool.specs.Pool.{Cells, IsLive, IsVacant, Puts}
use Rattle.tenant_tables.specs.IsBackedBy.{IsBackedBy, PreservesOthers}
use Rattle.tenant_tables.specs.SumIn.{is_known_by, is_tree_text, is_within, plain_sum}
use Rattle.tenant_tables.specs.Summed.{IsDirectoryThere, SummedAfter}
use Rattle.tenant_tables.specs.Trees.{tree_summary_by}
use Rattle.tenant_tables.specs.View.{Entries, entry_named, summary_of}
use Rattle.tenant_tables.proofs.HoldLemmas.{held-nil}
use Rattle.tenant_tables.proofs.TableLemmas.{IsBackedBy-nil}

pub put_lives : (p q : Cells) (slot : ℕ) (c : Content) → Puts p q slot c → IsLive q slot
put_lives p q slot c put = let h = put.held in omega (arith, h)

pub none_stand : (digest : List ℕ → List ℕ) (p : Cells) (es : Entries) → es ≡ []
    → IsBackedBy digest p es
none_stand digest p es e = rw e (IsBackedBy-nil digest p)

pub none_named : (id : List ℕ) (es : Entries) → es ≡ [] → entry_named id es ≡ None
unfolding entry_named
none_named id es e = rw e refl

-- what a table took is live still
pub still_lives : (q r : Cells) (es fs : Entries) (slot : ℕ) → es ≡ [] → IsLive q slot
    → PreservesOthers q es r fs → IsLive r slot
still_lives q r es fs slot e live others =
    let none = held-nil slot in let rest = rw e at others.rest slot in omega (arith, none, rest, live)

-- ---- a tree that is not plain

-- none of its entries is a directory
no_directory : (es : Entries) (bytes : List ℕ) (e : TreeEntry) → tree_read bytes ≡ e ∷ []
    → e.mode ≡ mode.Regular → All (IsDirectoryThere es) (tree_read bytes)
no_directory es bytes e read regular =
    subst (All (IsDirectoryThere es)) (sym read)
    (All-cons (IsDirectoryThere es) e [] (λ is. let no : mode.Regular ≡ mode.Directory = sym regular ∙ is in cc no)
    (All-nil (IsDirectoryThere es)))

-- and it has no summary
pub odd_summed : (es : Entries) (c : Content) (bytes : List ℕ) (e : TreeEntry)
    → c ≡ content_from kind.Tree bytes → tree_read bytes ≡ e ∷ [] → e.mode ≡ mode.Regular
    → is_tree_text bytes ≡ false → SummedAfter es c None
unfolding plain_sum
odd_summed es c bytes e is read regular odd =
    let known = λ (id : List ℕ). summary_of id es in
    let none : None ≡ plain_sum known bytes = sym (ap (λ (b : Bool).
    cond (b && list_all (is_known_by known) (tree_read bytes) && is_within (tree_summary_by known (tree_read bytes)))
    (Some (tree_summary_by known (tree_read bytes))) None) odd) in
    subst (λ (x : Content). SummedAfter es x None) (sym is) (record {
      directories = λ tree. no_directory es bytes e read regular;
      sum = none;
    })
