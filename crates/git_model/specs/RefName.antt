-- Ref names: git-check-ref-format(1), and two rules of this service.
use Rattle.std.specs.Prelude.{◌≡◌, ℕ, List, [], ◌∷◌, codes, Bool, false, ◌==◌, ◌||◌, ◌&&◌, not, nat_lt, nat_eq}
use Rattle.std.specs.List.{slice_split, starts_with, ends_with, list_all, list_any, AllByRecursion}
use Rattle.git_model.specs.Bytes.{BeginsWith, EndsWith, Holds, holds}

-- The components of a text are the parts between its slashes.
abbrev pub components : List ℕ → List (List ℕ)
components text = slice_split (λ byte. byte == 47) text

-- A byte is forbidden if it is a control character, DEL, a space or one of `~ ^ : ? * [ \`.
abbrev pub is_forbidden : ℕ → Bool
is_forbidden byte = nat_lt byte 33 || list_any (λ b. byte == b) (127 ∷ codes "~^:?*[\\")

-- The rules of the manual in its order, and then two of our own: a name begins with `refs/`, and
-- not with `refs/namespaces/`. The first of these implies the manual's rules 2 (the name has a
-- slash) and 9 (the name is not `@`).
pub record IsRefName (text : List ℕ) : Type 0 where
  pub no_component_begins_with_a_dot : AllByRecursion (λ c. ¬ BeginsWith c (codes "."))
      (components text)
  pub no_component_ends_with_lock : AllByRecursion (λ c. ¬ EndsWith c (codes ".lock"))
      (components text)
  pub no_two_dots : ¬ Holds text (codes "..")
  pub no_forbidden_byte : AllByRecursion (λ byte. is_forbidden byte ≡ false) text
  pub no_empty_component : AllByRecursion (λ c. ¬ (c ≡ [])) (components text)
  pub no_dot_at_the_end : ¬ EndsWith text (codes ".")
  pub no_at_brace : ¬ Holds text (codes "@{")
  pub begins_with_refs : BeginsWith text (codes "refs/")
  pub is_no_namespace : ¬ BeginsWith text (codes "refs/namespaces/")

-- The same rules as a test: of the beginning, of the whole text, and of each component.
abbrev pub is_in_refs : List ℕ → Bool
is_in_refs text = starts_with nat_eq text (codes "refs/")
    && not (starts_with nat_eq text (codes "refs/namespaces/"))

abbrev pub is_ref_text : List ℕ → Bool
is_ref_text text = not (holds text (codes "..")) && not (holds text (codes "@{"))
    && not (ends_with nat_eq text (codes ".")) && list_all (λ byte. not (is_forbidden byte)) text

abbrev pub is_ref_component : List ℕ → Bool
is_ref_component [] = false
is_ref_component (byte ∷ rest) = not (starts_with nat_eq (byte ∷ rest) (codes "."))
    && not (ends_with nat_eq (byte ∷ rest) (codes ".lock"))

unfoldable pub is_ref_name : List ℕ → Bool
is_ref_name text =
    is_in_refs text && is_ref_text text && list_all is_ref_component (components text)
