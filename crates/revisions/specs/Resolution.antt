-- What an expression names: gitrevisions(7), "Specifying Revisions".
use Rattle.std.specs.Prelude.{ℕ, zero, suc, ◌||◌, ◌&&◌, nat_le, nat_lt, Bool, if◌then◌else◌, List, [], ◌∷◌, ◌++◌, length, map, filter_map, slice_get, is_some, Option, None, Some, Result, Ok, Err, codes}
use Rattle.std.specs.Str.{bytes_eq}
use Rattle.hex.specs.declared.error.FromHexError.{FromHexError}
use Rattle.hex.specs.Hex.{decode_sized}
use Rattle.git_model.specs.declared.kind.Kind.{Kind}
use Rattle.git_model.specs.declared.kind.Kind.TheVariants as kind
use Rattle.git_model.specs.RefStore.{RefStore, target_of}
use Rattle.git_model.specs.Repository.{Object, object_named}
use Rattle.git_model.specs.References.{parents_of}
use Rattle.git_model.specs.Peeling.{peeled_to, without_tags}
use Rattle.git_model.specs.Tree.{TreeEntry}
use Rattle.git_model.specs.StoredPath.{entry_at_path}
use Rattle.git_paths.specs.Paths.{is_within_limits}
use Rattle.tenant_tables.specs.declared.found.Found.{Found}
use Rattle.tenant_tables.specs.declared.found.Found.TheVariants as found
use Rattle.tenant_tables.specs.Abbreviation.{found_among}
use Rattle.revisions.specs.declared.fault.Fault.{Fault}
use Rattle.revisions.specs.declared.fault.Fault.TheVariants as fault
use Rattle.git_model.specs.Results.{and_then, or_fault}
use Rattle.revisions.specs.declared.suffix.Suffix.{Suffix}
use Rattle.revisions.specs.declared.suffix.Suffix.TheVariants.{Parent, Ancestor, PeelTo, PeelTags, Itself, AtPath}
use Rattle.revisions.specs.Expressions.{Path, Expression}
use Rattle.revisions.specs.ExpressionReading.{expression_of}

-- An object that is not there is an unknown revision.
abbrev pub if_there : List Object → List ℕ → Result (List ℕ) Fault
if_there os id = if is_some (object_named id os) then Ok id else Err fault.UnknownRevision

-- ---- the base

-- `HEAD`, and `@` alone, means the ref that HEAD names.
abbrev pub is_head : List ℕ → Bool
is_head base = bytes_eq base (codes "HEAD") || bytes_eq base (codes "@")

-- <refname>: the refs that it may mean. The first one that exists is meant.
abbrev pub refs_meant_by : List ℕ → List (List ℕ)
refs_meant_by base = base ∷ (codes "refs/" ++ base) ∷ (codes "refs/tags/" ++ base)
    ∷ (codes "refs/heads/" ++ base) ∷ (codes "refs/remotes/" ++ base)
    ∷ (codes "refs/remotes/" ++ base ++ codes "/HEAD") ∷ []

abbrev pub ref_meant_by : RefStore → List ℕ → Option (List ℕ)
ref_meant_by store base = slice_get (filter_map (target_of store) (refs_meant_by base)) 0

-- <sha1>, abbreviated: 4 to 39 hexadecimal digits that one object name begins with. Other bytes
-- begin none.
abbrev pub is_short : List ℕ → Bool
is_short base = nat_le 4 (length base) && nat_lt (length base) 40

abbrev pub only_one : Found → Result (List ℕ) Fault
only_one found.None = Err fault.UnknownRevision
only_one (found.One id) = Ok id
only_one found.Many = Err fault.Ambiguous

unfoldable pub abbreviated : List Object → List ℕ → Result (List ℕ) Fault
abbreviated os base =
    if is_short base then only_one (found_among base (map (λ o. o.id) os))
    else Err fault.UnknownRevision

-- A ref is looked for before an abbreviation.
abbrev pub ref_or_abbreviation : List Object → List ℕ → Option (List ℕ) → Result (List ℕ) Fault
ref_or_abbreviation os base (Some id) = Ok id
ref_or_abbreviation os base None = abbreviated os base

-- <sha1>, whole: where 40 hexadecimal digits stand, nothing else is tried.
abbrev pub digits_or_ref : List Object → RefStore → List ℕ → Result (List ℕ) FromHexError
    → Result (List ℕ) Fault
digits_or_ref os store base (Ok id) = if_there os id
digits_or_ref os store base (Err e) = ref_or_abbreviation os base (ref_meant_by store base)

-- What a base names.
unfoldable pub base_named : List Object → RefStore → List ℕ → Result (List ℕ) Fault
base_named os store base =
    if is_head base then or_fault fault.UnknownRevision (target_of store store.head)
    else digits_or_ref os store base (decode_sized base 20)

-- ---- suffixes

-- What an object is peeled to, where it can be.
abbrev pub peeled : List Object → Kind → List ℕ → Result (List ℕ) Fault
peeled os wanted id = or_fault fault.WrongKind (peeled_to os wanted id)

abbrev pub peeled_untagged : List Object → List ℕ → Result (List ℕ) Fault
peeled_untagged os id = or_fault fault.WrongKind (without_tags os id)

-- The nth parent of a commit, counted from 1; the commit itself where n is 0.
abbrev pub nth_parent : List Object → ℕ → List ℕ → Result (List ℕ) Fault
nth_parent os zero commit = Ok commit
nth_parent os (suc n) commit = or_fault fault.UnknownRevision (slice_get (parents_of os commit) n)

-- The first parent, n times.
unfoldable pub nth_ancestor : List Object → ℕ → List ℕ → Result (List ℕ) Fault
nth_ancestor os zero commit = Ok commit
nth_ancestor os (suc n) commit = and_then (nth_parent os 1 commit) (nth_ancestor os n)

-- An entry that is not there, and one whose object is not there, are unknown. So is a path past the
-- limits.
abbrev pub entry_object : List Object → Option TreeEntry → Result (List ℕ) Fault
entry_object os None = Err fault.UnknownRevision
entry_object os (Some e) = if_there os e.id

unfoldable pub at_path : List Object → Path → List ℕ → Result (List ℕ) Fault
at_path os path tree =
    if is_within_limits path then entry_object os (entry_at_path os tree path)
    else Err fault.UnknownRevision

-- The object that a suffix leads to from another.
abbrev pub after_suffix : List Object → Suffix → List ℕ → Result (List ℕ) Fault
after_suffix os (Parent n) id = and_then (peeled os kind.Commit id) (nth_parent os n)
after_suffix os (Ancestor n) id = and_then (peeled os kind.Commit id) (nth_ancestor os n)
after_suffix os (PeelTo wanted) id = peeled os wanted id
after_suffix os PeelTags id = peeled_untagged os id
after_suffix os Itself id = Ok id
after_suffix os (AtPath path) id = and_then (peeled os kind.Tree id) (at_path os path)

-- Suffixes are applied from left to right; the first one that is refused decides.
abbrev pub after_suffixes : List Object → List Suffix → List ℕ → Result (List ℕ) Fault
after_suffixes os [] id = Ok id
after_suffixes os (suffix ∷ suffixes) id =
    and_then (after_suffix os suffix id) (after_suffixes os suffixes)

-- ---- expressions

-- What an expression names, among these objects and with these refs.
unfoldable pub named_by : List Object → RefStore → Expression → Result (List ℕ) Fault
named_by os store expression =
    and_then (base_named os store expression.base) (after_suffixes os expression.suffixes)

-- The same for a text. A malformed text is refused before anything is looked up.
abbrev pub resolved : List Object → RefStore → List ℕ → Result (List ℕ) Fault
resolved os store text =
    and_then (or_fault fault.Malformed (expression_of text)) (named_by os store)
