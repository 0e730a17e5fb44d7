-- No directory of a tree that fits is empty.
use Rattle.std.proofs.Common.{◌≡◌, ◌≢◌, ℕ, Bool, true, false, cond, List, [], ◌∷◌, Option, None, Some, refl, sym, ap, subst, ◌∙◌, inl, inr}
use Rattle.std.specs.Prelude.{IsSomeAnd}
use Rattle.std.specs.List.{AllByRecursion, IsDistinct}
use Rattle.std.specs.Map.{lookup}
use Rattle.std.specs.Str.{bytes_eq}
use Rattle.std.proofs.lemmas.Slice.Eq.{bytes_eq-Decides}
use Rattle.std.proofs.lemmas.List.Elements.{All-weaker}
use Rattle.git_model.specs.declared.kind.Kind.{Kind}
use Rattle.git_model.specs.declared.kind.Kind.TheVariants as kind
use Rattle.git_model.specs.declared.file_mode.FileMode.TheVariants as mode
use Rattle.git_model.specs.Tree.{TreeEntry}
use Rattle.git_model.specs.TreeReading.{tree_read}
use Rattle.git_model.specs.Content.{Content}
use Rattle.git_model.specs.Repository.{Object, object_named}
use Rattle.git_model.specs.References.{content_named}
use Rattle.git_model.specs.GoodRepository.{IsTree}
use Rattle.git_model.proofs.Places.{first_named, later_named}
use Rattle.git_model.proofs.TreeReadings.{entries_back, tree_back}
use Rattle.tenant_tables.specs.declared.summary.Summary.{Summary}
use Rattle.pool_file_checks.specs.Objects.{IsTreeText}
use Rattle.pool_file_checks.specs.Sums.{Sums, sum_of_tree, HasFiles, FitsAfter, Fits, sums_with, TreesFit}
use Rattle.pool_file_checks.proofs.Members.{Has, has_map}
use Rattle.pool_file_checks.proofs.OwnObjects.{ids, apart}

-- ---- an object is what its name is for

by_recursion_has : (P : List ℕ → Type 0) (xs : List (List ℕ)) (x : List ℕ) → AllByRecursion P xs
    → Has xs x → P x
by_recursion_has P [] x all h = absurd h
by_recursion_has P (y ∷ ys) x all (inl e) = subst P e all.0
by_recursion_has P (y ∷ ys) x all (inr h) = by_recursion_has P ys x all.1 h

pub named_has : (os : List Object) (o : Object) → IsDistinct bytes_eq (ids os) → Has os o
    → object_named o.id os ≡ Some o.content
unfolding IsDistinct
named_has [] o d h = absurd h
named_has (x ∷ xs) o d (inl e) =
    subst (λ (y : Object). object_named y.id (x ∷ xs) ≡ Some y.content) e
    (first_named x.id x xs ((bytes_eq-Decides x.id x.id).1 refl))
named_has (x ∷ xs) o d (inr h) =
    let differs = by_recursion_has (λ y. bytes_eq x.id y ≡ false) (ids xs) o.id d.0
    (has_map (λ (y : Object). y.id) xs o h) in
    let other : bytes_eq o.id x.id ≡ false = apart (bytes_eq o.id x.id) (λ e.
    let back = (bytes_eq-Decides x.id o.id).1 (sym ((bytes_eq-Decides o.id x.id).0 e)) in
    let w = sym back ∙ differs in cc) in
    later_named o.id x xs other ∙ named_has xs o d.1 h

-- ---- trees in turn

-- A sum with files is that of a tree with bytes.
abbrev HaveBytes : List Object → Sums → Type 0
HaveBytes whole sums = (id : List ℕ) (s : Summary) → lookup (bytes_eq id) sums ≡ Some s
    → s.files ≢ 0 → (content_named id whole).bytes ≢ []

directory_has : (whole : List Object) (sums : Sums) (e : TreeEntry) → HaveBytes whole sums
    → HasFiles sums e → e.mode ≡ mode.Directory → (content_named e.id whole).bytes ≢ []
directory_has whole sums e have h is = by (lookup (bytes_eq e.id) sums) refl (h is)
  where
    by : (o : Option Summary) → lookup (bytes_eq e.id) sums ≡ o → IsSomeAnd o (λ s. s.files ≢ 0)
        → (content_named e.id whole).bytes ≢ []
    by None n some = absurd some
    by (Some s) n some = have e.id s n some

tree_is : (whole : List Object) (sums : Sums) (bytes : List ℕ) (es : List TreeEntry)
    → HaveBytes whole sums → IsTreeText bytes es → FitsAfter sums es → IsTree whole bytes es
tree_is whole sums bytes es have text fits = record {
  writable = text.writable;
  contents = text.contents;
  none_empty = All-weaker (HasFiles sums)
      (λ e. e.mode ≡ mode.Directory → (content_named e.id whole).bytes ≢ [])
      (λ e h. directory_has whole sums e have h) es fits.directories;
}

no_entries : (bytes : List ℕ) (es : List TreeEntry) → IsTreeText bytes es → bytes ≡ [] → es ≡ []
no_entries bytes es text e =
    sym (tree_back es text.writable) ∙ ap tree_read (sym text.contents ∙ e) ∙ entries_back [] tt

more_sums : (whole : List Object) (sums : Sums) (id bytes : List ℕ) (es : List TreeEntry)
    → HaveBytes whole sums → IsTreeText bytes es → (content_named id whole).bytes ≡ bytes
    → HaveBytes whole ((id, sum_of_tree sums es) ∷ sums)
more_sums whole sums id bytes es have text is other s found files none =
    by (bytes_eq other id) refl found
  where
    by : (b : Bool) → bytes_eq other id ≡ b
        → cond b (Some (sum_of_tree sums es)) (lookup (bytes_eq other) sums) ≡ Some s → ⊥
    by true t f =
        let same : other ≡ id = (bytes_eq-Decides other id).0 t in
        let empty : bytes ≡ [] =
        sym is ∙ sym (ap (λ (x : List ℕ). (content_named x whole).bytes) same) ∙ none in
        let sum : sum_of_tree sums es ≡ s = cc in
        files (sym (ap (λ (x : Summary). x.files) sum)
        ∙ ap (λ (xs : List TreeEntry). (sum_of_tree sums xs).files) (no_entries bytes es text empty))
    by false t f = have other s f files none

-- What is known of an object that fits, and after it.
record IsFitting (whole : List Object) (k : Kind) (id bytes : List ℕ) (sums : Sums) : Type 0 where
  have : HaveBytes whole (sums_with k id bytes sums)
  tree : k ≡ kind.Tree → (es : List TreeEntry) × IsTree whole bytes es

fitting : (whole : List Object) (k : Kind) (id bytes : List ℕ) (sums : Sums)
    → HaveBytes whole sums → (content_named id whole).bytes ≡ bytes → Fits k bytes sums
    → IsFitting whole k id bytes sums
fitting whole kind.Tree id bytes sums have is fits = record {
  have = more_sums whole sums id bytes (tree_read bytes) have fits.0 is;
  tree = λ _. (tree_read bytes, tree_is whole sums bytes (tree_read bytes) have fits.0 fits.1);
}
fitting whole kind.Blob id bytes sums have is fits = record { have = have; tree = λ no. cc }
fitting whole kind.Commit id bytes sums have is fits = record { have = have; tree = λ no. cc }
fitting whole kind.Tag id bytes sums have is fits = record { have = have; tree = λ no. cc }

in_turn : (whole os : List Object) (sums : Sums) → HaveBytes whole sums
    → ((o : Object) → Has os o → object_named o.id whole ≡ Some o.content) → TreesFit sums os
    → (o : Object) → Has os o → o.content.kind ≡ kind.Tree
    → (es : List TreeEntry) × IsTree whole o.content.bytes es
in_turn whole [] sums have named t o h is = absurd h
in_turn whole (x ∷ xs) sums have named t o h is =
    let content : content_named x.id whole ≡ x.content = let e = named x (inl refl) in cc in
    let f = fitting whole x.content.kind x.id x.content.bytes sums have
    (ap (λ (c : Content). c.bytes) content) t.0 in
    elim h [
      | inl e ↦ subst (λ (y : Object). (es : List TreeEntry) × IsTree whole y.content.bytes es) e
          (f.tree (ap (λ (y : Object). y.content.kind) e ∙ is))
      | inr later ↦
          in_turn whole xs (sums_with x.content.kind x.id x.content.bytes sums) f.have
          (λ y k. named y (inr k)) t.1 o later is
    ]

pub trees_are : (os : List Object) → IsDistinct bytes_eq (ids os) → TreesFit [] os
    → (o : Object) → Has os o → o.content.kind ≡ kind.Tree
    → (es : List TreeEntry) × IsTree os o.content.bytes es
trees_are os d t =
    in_turn os os [] (λ id s found files none. cc) (λ o h. named_has os o d h) t
