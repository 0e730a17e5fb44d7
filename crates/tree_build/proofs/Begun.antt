-- Contents that begin with the text of an entry.
use Rattle.std.proofs.Common.{◌≡◌, ℕ, List, [], ◌∷◌, ◌++◌, Option, Some, None, IfSome, MatchOption, sym, ap, ◌∙◌, append_assoc, append-nil}
use Rattle.std.proofs.lemmas.List.Concat.{flat_map-append}
use Rattle.git_model.specs.Tree.{TreeEntry, entry_text, tree_contents}

pub if-some : {X : Type 0} (r : Option X) (P : Type 0) (Q : X → Type 0) → MatchOption r P Q → IfSome r Q
if-some None P Q h = tt
if-some (Some x) P Q h = h

-- one more entry is read
pub read-more : (contents rest more : List ℕ) (es : List TreeEntry) (e : TreeEntry)
    → contents ≡ tree_contents es ++ rest → rest ≡ entry_text e ++ more
    → contents ≡ tree_contents (es ++ e ∷ []) ++ more
read-more contents rest more es e is next =
    is ∙ ap (λ (l : List ℕ). tree_contents es ++ l) next
    ∙ sym (append_assoc (tree_contents es) (entry_text e) more)
    ∙ ap (λ (l : List ℕ). l ++ more) (sym (own es e))
  where
    own : (es : List TreeEntry) (e : TreeEntry) → tree_contents (es ++ e ∷ []) ≡ tree_contents es ++ entry_text e
    own es e = flat_map-append entry_text es (e ∷ []) ∙ ap (λ (l : List ℕ). tree_contents es ++ l) (append-nil (entry_text e))
