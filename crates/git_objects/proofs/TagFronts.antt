-- The header of a tag at the front of a text: its target, the target's kind, its name and its end.
use Rattle.std.proofs.Common.{◌≡◌, ℕ, List, [], ◌∷◌, ◌++◌, sym, ap, subst, ◌∙◌, Option, Some, None, codes}
use Rattle.std.proofs.lemmas.List.{append_assoc}
use Rattle.std.proofs.lemmas.Option.{none-some, some_pair_parts}
use Rattle.git_model.specs.declared.kind.Kind.{Kind}
use Rattle.git_model.specs.ObjectName.{IsObjectName}
use Rattle.git_model.specs.RefName.{IsRefName}
use Rattle.git_model.specs.Commit.{line, name_line, optional_line}
use Rattle.git_model.specs.Tag.{Tag, CanWriteTag, tag_contents}
use Rattle.git_model.specs.TagReading.{tag_read}
use Rattle.git_model.proofs.TagReadings.{tag_back}
use Rattle.git_objects.specs.Fronts.{IsFront}
use Rattle.git_objects.specs.HeaderParts.{end_lines}
use Rattle.git_objects.specs.TagParts.{IsTagged, IsTagger, kind_line}
use Rattle.git_objects.proofs.Fronts.{Both, both, first_missing, second_missing, both_there}
pub use Rattle.git_model.proofs.OneLine.{tagger_one_line}
use Rattle.git_model.proofs.OneLine.{IsOneLine, tag_name_one_line}

abbrev Named : List ℕ × Option (List ℕ) → Type 0
Named = Both IsOneLine IsTagger (line (codes "tag ")) (end_lines (codes "tagger "))

abbrev named : List ℕ × Option (List ℕ) → List ℕ
named = both IsOneLine IsTagger (line (codes "tag ")) (end_lines (codes "tagger "))

abbrev Lines : Kind × (List ℕ × Option (List ℕ)) → Type 0
Lines = Both IsTagged Named kind_line named

abbrev lines : Kind × (List ℕ × Option (List ℕ)) → List ℕ
lines = both IsTagged Named kind_line named

abbrev Head : Type 0
Head = List ℕ × (Kind × (List ℕ × Option (List ℕ)))

abbrev pub IsHead : Head → Type 0
IsHead = Both IsObjectName Lines (name_line (codes "object ")) lines

abbrev pub head_text : Head → List ℕ
head_text = both IsObjectName Lines (name_line (codes "object ")) lines

abbrev tag_from : Head → List ℕ → Tag
tag_from h message = record { target = h.0; kind = h.1.0; name = h.1.1.0; tagger = h.1.1.1; message = message }

abbrev head_of : Tag → Head
head_of t = (t.target, (t.kind, (t.name, t.tagger)))

regroup : (object type tag tagger message : List ℕ)
    → (object ++ (type ++ (tag ++ (tagger ++ 10 ∷ [])))) ++ message
    ≡ object ++ type ++ tag ++ tagger ++ 10 ∷ message
regroup object type tag tagger message = simp append_assoc

whole_text : (t : Tag) → head_text (head_of t) ++ t.message ≡ tag_contents t
whole_text t =
    regroup (name_line (codes "object ") t.target) (kind_line t.kind) (line (codes "tag ") t.name)
    (optional_line (codes "tagger ") t.tagger) t.message

head_is : (t : Tag) → CanWriteTag t → IsHead (head_of t)
head_is t is = (is.target, (is.kind, (tag_name_one_line t.name is.name, is.tagger)))

pub no_tag : (bytes : List ℕ) → IsFront IsHead head_text bytes None → (t : Tag) → CanWriteTag t
    → bytes ≡ tag_contents t → ⊥
no_tag bytes f t is e =
    none-some _ (f.only (head_of t) t.message (head_is t is) (e ∙ sym (whole_text t)))

pub tag_found : (bytes : List ℕ) (h : Head) (message : List ℕ)
    → IsFront IsHead head_text bytes (Some (h, message)) → IsRefName (codes "refs/tags/" ++ h.1.1.0)
    → CanWriteTag (tag_from h message) × (bytes ≡ tag_contents (tag_from h message))
tag_found bytes h message f name = (
  record { target = f.found.0.0; kind = f.found.0.1.0; name = name; tagger = f.found.0.1.1.1 },
  f.found.1 ∙ whole_text (tag_from h message),
)

pub tag_reads : (bytes : List ℕ) (h : Head) (message : List ℕ)
    → IsFront IsHead head_text bytes (Some (h, message)) → IsRefName (codes "refs/tags/" ++ h.1.1.0)
    → tag_from h message ≡ tag_read bytes
tag_reads bytes h message f name =
    let found = tag_found bytes h message f name in sym (ap tag_read found.1 ∙ tag_back (tag_from h message) found.0)

pub tag_only : (bytes : List ℕ) (h : Head) (message : List ℕ)
    → IsFront IsHead head_text bytes (Some (h, message)) → (t : Tag) → CanWriteTag t
    → bytes ≡ tag_contents t → tag_from h message ≡ t
tag_only bytes h message f t is e =
    let same =
    some_pair_parts _ _ _ _
    (f.only (head_of t) t.message (head_is t is) (e ∙ sym (whole_text t))) in
    ap (λ (p : Head × List ℕ). tag_from p.0 p.1) (λ i. (same.0 i, same.1 i))

-- the header is there, but no ref may have this name
pub wrong_name : (bytes : List ℕ) (h : Head) (message : List ℕ)
    → IsFront IsHead head_text bytes (Some (h, message))
    → (IsRefName (codes "refs/tags/" ++ h.1.1.0) → ⊥) → (t : Tag) → CanWriteTag t
    → bytes ≡ tag_contents t → ⊥
wrong_name bytes h message f wrong t is e =
    wrong
    (subst (λ (x : Tag). IsRefName (codes "refs/tags/" ++ x.name)) (sym (tag_only bytes h message f t is e)) is.name)

-- ---- line after line

-- The lines of a tag's target and of its kind were taken: these, and what stands after them.
pub record HasKind (bytes target : List ℕ) (kind : Kind) (rest : List ℕ) : Type 0 where
  pub after_target : List ℕ
  pub target_line : IsFront IsObjectName (name_line (codes "object ")) bytes (Some (target, after_target))
  pub kind_is : IsFront IsTagged kind_line after_target (Some (kind, rest))

-- The line of its name was taken, too.
pub record HasName (bytes target : List ℕ) (kind : Kind) (name rest : List ℕ) : Type 0 where
  pub after_kind : List ℕ
  pub has_kind : HasKind bytes target kind after_kind
  pub tag_line : IsFront IsOneLine (line (codes "tag ")) after_kind (Some (name, rest))

pub kind_taken : (bytes target after_target : List ℕ) (kind : Kind) (rest : List ℕ)
    → IsFront IsObjectName (name_line (codes "object ")) bytes (Some (target, after_target))
    → IsFront IsTagged kind_line after_target (Some (kind, rest)) → HasKind bytes target kind rest
kind_taken bytes target after_target kind rest line is =
    record { after_target = after_target; target_line = line; kind_is = is }

pub name_taken : (bytes target : List ℕ) (kind : Kind) (after_kind name rest : List ℕ)
    → HasKind bytes target kind after_kind
    → IsFront IsOneLine (line (codes "tag ")) after_kind (Some (name, rest))
    → HasName bytes target kind name rest
name_taken bytes target kind after_kind name rest has line =
    record { after_kind = after_kind; has_kind = has; tag_line = line }

-- ---- what is missing

-- What follows the kind is missing.
after_kind_missing : (bytes target : List ℕ) (kind : Kind) (rest : List ℕ)
    → HasKind bytes target kind rest → IsFront Named named rest None
    → IsFront IsHead head_text bytes None
after_kind_missing bytes target kind rest h none =
    second_missing IsObjectName Lines (name_line (codes "object ")) lines
    bytes target h.after_target h.target_line
    (second_missing IsTagged Named kind_line named h.after_target kind rest h.kind_is none)

pub target_missing : (bytes : List ℕ)
    → IsFront IsObjectName (name_line (codes "object ")) bytes None
    → IsFront IsHead head_text bytes None
target_missing bytes none =
    first_missing IsObjectName Lines (name_line (codes "object ")) lines bytes none

pub kind_missing : (bytes target rest : List ℕ)
    → IsFront IsObjectName (name_line (codes "object ")) bytes (Some (target, rest))
    → IsFront IsTagged kind_line rest None → IsFront IsHead head_text bytes None
kind_missing bytes target rest line none =
    second_missing IsObjectName Lines (name_line (codes "object ")) lines bytes target rest line
    (first_missing IsTagged Named kind_line named rest none)

pub name_missing : (bytes target : List ℕ) (kind : Kind) (rest : List ℕ)
    → HasKind bytes target kind rest → IsFront IsOneLine (line (codes "tag ")) rest None
    → IsFront IsHead head_text bytes None
name_missing bytes target kind rest h none =
    after_kind_missing bytes target kind rest h
    (first_missing IsOneLine IsTagger (line (codes "tag ")) (end_lines (codes "tagger ")) rest none)

pub tagger_missing : (bytes target : List ℕ) (kind : Kind) (name rest : List ℕ)
    → HasName bytes target kind name rest → IsFront IsTagger (end_lines (codes "tagger ")) rest None
    → IsFront IsHead head_text bytes None
tagger_missing bytes target kind name rest h none =
    after_kind_missing bytes target kind h.after_kind h.has_kind
    (second_missing IsOneLine IsTagger (line (codes "tag ")) (end_lines (codes "tagger "))
    h.after_kind name rest h.tag_line none)

-- Nothing is missing.
pub head_there : (bytes target : List ℕ) (kind : Kind) (name rest : List ℕ)
    (tagger : Option (List ℕ)) (message : List ℕ) → HasName bytes target kind name rest
    → IsFront IsTagger (end_lines (codes "tagger ")) rest (Some (tagger, message))
    → IsFront IsHead head_text bytes (Some ((target, (kind, (name, tagger))), message))
head_there bytes target kind name rest tagger message h last =
    let k = h.has_kind in
    both_there IsObjectName Lines (name_line (codes "object ")) lines
    bytes target k.after_target (kind, (name, tagger)) message k.target_line
    (both_there IsTagged Named kind_line named
    k.after_target kind h.after_kind (name, tagger) message k.kind_is
    (both_there IsOneLine IsTagger (line (codes "tag ")) (end_lines (codes "tagger "))
    h.after_kind name rest tagger message h.tag_line last))
