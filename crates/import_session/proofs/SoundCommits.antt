-- What a commit-ish is peeled to is a commit of good objects.
use Rattle.std.proofs.Common.{◌≡◌, ℕ, Bool, true, false, List, [], ◌∷◌, Option, None, Some, Result, Ok, Err, length, refl, All}
use Rattle.std.specs.Prelude.{IfOk, IfSome}
use Rattle.std.specs.Map.{lookup}
use Rattle.std.specs.Option.{option_and_then}
use Rattle.std.specs.Str.{bytes_eq}
use Rattle.std.proofs.lemmas.List.Elements.{All-head, All-tail, All-weaker}
use Rattle.git_model.specs.declared.kind.Kind.TheVariants as kind
use Rattle.git_model.specs.HeldObjects.{AreHeld}
use Rattle.git_model.specs.Peeling.{ComesFirstTo, at_once, later, is_of, next_to, peeled_to}
use Rattle.git_model.specs.References.{kind_named, place_of}
use Rattle.git_model.specs.Repository.{Object}
use Rattle.git_model.proofs.Earlier.{place_within, next_falls}
use Rattle.git_model.proofs.Peelings.{first_is, is_of_kind}
use Rattle.revisions.specs.declared.fault.Fault.TheVariants as revision_fault
use Rattle.git_model.specs.Results.{or_fault}
use Rattle.revisions.specs.Resolution.{peeled}
use Rattle.stream_grammar.specs.Names.{CommitIsh}
use Rattle.stream_parts.specs.declared.branches.Tip.{Tip}
use Rattle.stream_parts.specs.declared.branches.Tip.TheVariants.{Unborn, Deleted, At}
use Rattle.stream_parts.specs.declared.fault.Fault.{Fault}
use Rattle.git_model.specs.Results.{and_then}
use Rattle.stream_parts.specs.Faults.{resolved_or}
use Rattle.stream_commands.specs.Workspace.{Workspace}
use Rattle.stream_parts.specs.Branches.{commit_at, tip_of, tip_commit}
use Rattle.stream_commands.specs.CommitIshes.{commit_in, is_branch, named_in, start_in}
use Rattle.import_session.specs.Opening.{IsTipCommit}
use Rattle.import_session.specs.Sound.{IsStreamBranch, IsSound, IsTip}

-- ---- what is carried out, and then what comes after it

pub then_good : {A B : Type 0} (P : A → Type 0) (Q : B → Type 0) (r : Result A Fault)
    (next : A → Result B Fault)
    → IfOk r P → ((value : A) → P value → IfOk (next value) Q) → IfOk (and_then r next) Q
then_good P Q (Ok value) next good goes_on = goes_on value good
then_good P Q (Err e) next good goes_on = tt

pub then_any : {A B : Type 0} (Q : B → Type 0) (r : Result A Fault) (next : A → Result B Fault)
    → ((value : A) → IfOk (next value) Q) → IfOk (and_then r next) Q
then_any Q (Ok value) next goes_on = goes_on value
then_any Q (Err e) next goes_on = tt

pub by_test : {P : Type 0} (test : Bool) → (test ≡ true → P) → (test ≡ false → P) → P
by_test true holds fails = holds refl
by_test false holds fails = fails refl

-- ---- what a commit-ish stands for

-- a commit is there
abbrev pub IsCommitOf : List Object → List ℕ → Type 0
IsCommitOf os id = kind_named id os ≡ Some kind.Commit

-- the end of a way passes the test
passes : {A : Type 0} (test : A → Bool) (next : A → Option A) {a c : A}
    → ComesFirstTo test next a c → test c ≡ true
passes test next (at_once a yea) = yea
passes test next (later a b c nay e rest) = passes test next rest

peeled_passes : (digest : List ℕ → List ℕ) (os : List Object) → AreHeld digest os
    → (id end : List ℕ) → peeled_to os kind.Commit id ≡ Some end → is_of os kind.Commit end ≡ true
unfolding peeled_to
peeled_passes digest os good id end e =
    let test = is_of os kind.Commit in
    let next = next_to os kind.Commit in
    passes test next ((first_is test next (λ k. place_of k os)
    (next_falls digest os good kind.Commit) (length os) id end (place_within id os)).0 e)

pub peeled_commit : (digest : List ℕ → List ℕ) (os : List Object) → AreHeld digest os
    → (id : List ℕ) → IfOk (resolved_or (peeled os kind.Commit id)) (IsCommitOf os)
peeled_commit digest os good id = by_end (peeled_to os kind.Commit id) refl
  where
    by_end : (end : Option (List ℕ)) → peeled_to os kind.Commit id ≡ end
        → IfOk (resolved_or (or_fault revision_fault.WrongKind end)) (IsCommitOf os)
    by_end None e = tt
    by_end (Some end) e = (is_of_kind os kind.Commit end).0 (peeled_passes digest os good id end e)

-- what a commit-ish stands for in `from`, `merge` and `alias` is a commit
pub commit_good : (digest : List ℕ → List ℕ) (workspace : Workspace)
    → AreHeld digest workspace.objects → (commit : CommitIsh)
    → IfOk (commit_in workspace commit) (IsCommitOf workspace.objects)
commit_good digest workspace good commit =
    then_any (IsCommitOf workspace.objects) (named_in workspace commit) _
    (λ id. peeled_commit digest workspace.objects good id)

pub start_good : (digest : List ℕ → List ℕ) (workspace : Workspace)
    → AreHeld digest workspace.objects → (ref : List ℕ) (from : CommitIsh)
    → IfOk (start_in workspace ref from) (IsCommitOf workspace.objects)
start_good digest workspace good ref from =
    by_test (is_branch workspace ref from)
    (λ is. rw is tt)
    (λ other. rw other (commit_good digest workspace good from))

-- ---- the commit that a branch stands at

lookup_has : {V : Type 0} (P : V → Type 0) (test : List ℕ → Bool) (entries : List (List ℕ × V))
    → All (λ (e : List ℕ × V). P e.1) entries → IfSome (lookup test entries) P
lookup_has P test [] held = tt
lookup_has P test (e ∷ entries) held =
    by_test (test e.0)
    (λ same. rw same (All-head (λ e. P e.1) e entries held))
    (λ other. rw other (lookup_has P test entries (All-tail (λ e. P e.1) e entries held)))

tip_is : (os : List Object) (tip : Option Tip) → IfSome tip (IsTip os)
    → IfSome (option_and_then commit_at tip) (IsCommitOf os)
tip_is os None is = tt
tip_is os (Some Unborn) is = tt
tip_is os (Some Deleted) is = tt
tip_is os (Some (At id)) is = is

pub tip_commit_is : (digest : List ℕ → List ℕ) (workspace : Workspace) → IsSound digest workspace
    → (ref : List ℕ) → IsTipCommit workspace.objects (tip_commit workspace.stream.branches ref)
tip_commit_is digest workspace sound ref =
    tip_is workspace.objects (tip_of workspace.stream.branches ref)
    (lookup_has (IsTip workspace.objects) (bytes_eq ref) workspace.stream.branches
    (All-weaker (IsStreamBranch workspace.objects) (λ branch. IsTip workspace.objects branch.1)
    (λ branch is. is.tip) workspace.stream.branches sound.branches))
