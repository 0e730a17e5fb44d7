-- The trees of a table are good: each has its own name and fits, and those with a summary have no empty directory.
use Rattle.std.proofs.Common.{◌≡◌, ℕ, ◌≤◌, Bool, cond, List, [], ◌∷◌, length, Option, Some, None, refl, sym, ap, ◌∙◌, subst}
use Rattle.std.specs.List.{AllByRecursion}
use Rattle.std.specs.Map.{lookup}
use Rattle.std.specs.Option.{option_map}
use Rattle.std.specs.Str.{bytes_eq}
use Rattle.std.proofs.lemmas.Slice.Eq.{bytes_eq-Decides}
use Rattle.std.proofs.lemmas.List.Elements.{recursion_from_All}
use Rattle.git_model.specs.Content.{Content, name_by}
use Rattle.git_model.specs.Repository.{object_named}
use Rattle.git_paths.proofs.Cases.{some_is, by_cases}
use Rattle.content_pool.specs.Pool.{Cells, content}
use Rattle.tenant_tables.specs.declared.entry.Entry.{Entry}
use Rattle.tenant_tables.specs.declared.table.TheConstants.{CONTENTS_LIMIT}
use Rattle.tenant_tables.specs.View.{Entries, entry_named}
use Rattle.tenant_tables.specs.Objects.{objects}
use Rattle.tenant_tables.specs.IsBackedBy.{IsBackedBy}
use Rattle.tenant_tables.proofs.HoldLemmas.{object_named-objects}
use Rattle.file_maps.specs.Trees.{tree_content}
use Rattle.file_maps.specs.PlainTrees.{HasSummary}
use Rattle.file_maps.specs.StoredAgain.{AreTreesGood}
use Rattle.file_maps.proofs.KnownTrees.{sum-filled}

-- what holds of each entry holds of the one that is found
lookup_all : (P : List ℕ → Entry → Type 0) (id : List ℕ) (es : Entries) (e : Entry)
    → AllByRecursion (λ x. P x.0 x.1) es → lookup (bytes_eq id) es ≡ Some e → P id e
lookup_all P id [] e h is = cc is
lookup_all P id (x ∷ es) e h is =
    by_cases (bytes_eq id x.0)
    (λ yea.
    let found : Some x.1 ≡ Some e = ap (λ (b : Bool). cond b (Some x.1) (lookup (bytes_eq id) es))
    (sym yea) ∙ is in
    subst (λ (k : List ℕ). P k e) (sym ((bytes_eq-Decides id x.0).0 yea))
    (subst (P x.0) (some_is x.1 e found) h.0))
    (λ nay. lookup_all P id es e h.1
    (ap (λ (b : Bool). cond b (Some x.1) (lookup (bytes_eq id) es)) (sym nay) ∙ is))

module _ (digest : List ℕ → List ℕ) (pool : Cells) (entries : Entries)
    (stands : IsBackedBy digest pool entries) where
  -- what holds of each entry's content holds of each object
  pub object_all : (P : List ℕ → Content → Type 0)
      → AllByRecursion (λ e. P e.0 (content pool e.1.slot)) entries → (id : List ℕ) (c : Content)
      → object_named id (objects pool entries) ≡ Some c → P id c
  unfolding entry_named
  object_all P h id c is =
      by (lookup (bytes_eq id) entries) refl (sym (object_named-objects pool id entries) ∙ is)
    where
      by : (o : Option Entry) → lookup (bytes_eq id) entries ≡ o
          → option_map (λ (x : Entry). content pool x.slot) o ≡ Some c → P id c
      by None at k = cc k
      by (Some e) at k =
          subst (P id) (some_is (content pool e.slot) c k)
          (lookup_all (λ (k : List ℕ) (x : Entry). P k (content pool x.slot)) id entries e h at)

  pub trees-good : AreTreesGood digest (objects pool entries) (HasSummary (objects pool entries))
  trees-good = record {
    named = λ id es h. object_all (λ (k : List ℕ) (c : Content). k ≡ name_by digest c)
        (recursion_from_All _ entries stands.named) id (tree_content es) h.content;
    short = λ id es h. object_all (λ (k : List ℕ) (c : Content). length c.bytes ≤ CONTENTS_LIMIT)
        (recursion_from_All _ entries stands.short) id (tree_content es) h.content;
    filled = λ id es h meant. sum-filled (objects pool entries) id es h meant;
  }
