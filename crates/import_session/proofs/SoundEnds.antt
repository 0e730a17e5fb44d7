-- A sound stream stays sound where objects are added and its open commit ends.
use Rattle.std.proofs.Common.{◌≡◌, ◌++◌, nat_eq, ℕ, zero, suc, Bool, true, false, List, [], ◌∷◌, take, Option, Some, None, Result, Ok, Err, refl, sym, ap, ◌∙◌, subst, All}
use Rattle.std.specs.Prelude.{IfOk, IfSome, unwrap_or}
use Rattle.std.specs.Result.{result_unwrap_or}
use Rattle.std.specs.Str.{bytes_eq}
use Rattle.std.proofs.lemmas.List.Elements.{All-nil, All-cons, All-head, All-tail, All-weaker}
use Rattle.indexmap.specs.IndexMap.{insert_entry}
use Rattle.git_model.specs.declared.kind.Kind.{Kind}
use Rattle.git_model.specs.declared.kind.Kind.TheVariants as kind
use Rattle.git_model.specs.Content.{Content, no_content}
use Rattle.git_model.specs.GoodRepository.{AreRefs, IsShortRefName, IsTagNamed}
use Rattle.git_model.specs.RefStore.{RefStore}
use Rattle.git_model.specs.References.{kind_named}
use Rattle.git_model.specs.Repository.{Object, object_named}
use Rattle.git_model.specs.TagReading.{tag_read}
use Rattle.git_model.proofs.GoodRefs.{kind_longer, refs_longer, there as stays}
use Rattle.git_names.specs.Naming.{AnswersNames}
use Rattle.tenant_tables.specs.Sums.{TreesFit}
use Rattle.tenant_tables.proofs.StoredGood.{Grows}
use Rattle.stream_grammar.specs.declared.marked_object.MarkedObject.{MarkedObject}
use Rattle.open_commits.specs.declared.fault.Fault.{Fault as CommitFault}
use Rattle.open_commits.specs.Ends.{Closed, closed}
use Rattle.open_commits.specs.GoodCommits.{AreMarks, GrowGood, HoldsCommit, IsMarked}
use Rattle.open_commits.specs.OpenCommit.{OpenCommit as Opened}
use Rattle.open_commits.proofs.FitCommits.{end_fits}
use Rattle.open_commits.proofs.GoodCommits.{end_keeps as commit_end}
use Rattle.stream_parts.specs.declared.branches.Tip.{Tip}
use Rattle.stream_parts.specs.declared.branches.Tip.TheVariants.{Unborn, Deleted, At}
use Rattle.stream_parts.specs.Branches.{Branches, with_branch}
use Rattle.git_model.specs.Results.{and_then}
use Rattle.stream_parts.specs.Marks.{Marks, as_marked, room_for, with_mark}
use Rattle.stream_parts.specs.OpenCommand.{OpenCommand}
use Rattle.stream_parts.specs.OpenCommand as open_command
use Rattle.stream_parts.specs.StreamOf.{StreamOf}
use Rattle.stream_parts.specs.Tags.{PendingTags}
use Rattle.stream_commands.specs.Faults.{changed_or}
use Rattle.stream_commands.specs.Workspace.{Workspace}
use Rattle.import_session.specs.Commits.{closed_at, closed_where, open_closed}
use Rattle.import_session.specs.Sound.{IsPending, IsSound, IsSoundCommand, IsStreamBranch, IsTip}
use Rattle.import_session.proofs.SoundCommits.{by_test, then_any}

-- ---- entries of a map

-- what holds of each entry, and of an old key with the new value, holds of each where one is set
entry_set : {K V : Type 0} (eq : K → K → Bool) (P : K × V → Type 0) (entries : List (K × V))
    (k : K) (v : V) → All P entries → ((e : K × V) → P e → P (e.0, v)) → P (k, v)
    → All P (insert_entry eq entries k v)
entry_set eq P [] k v held anew new = All-cons P (k, v) [] new (All-nil P)
entry_set eq P (e ∷ entries) k v held anew new =
    let first = All-head P e entries held in
    let rest = All-tail P e entries held in
    by_test (eq k e.0)
    (λ same. rw same (All-cons P (e.0, v) entries (anew e first) rest))
    (λ other. rw other (All-cons P e (insert_entry eq entries k v) first
    (entry_set eq P entries k v rest anew new)))

-- ---- more objects

-- what a prefix of more objects is
record Longer (os more : List Object) (n : ℕ) : Type 0 where
  rest : List Object
  is : take n (os ++ more) ≡ take n os ++ rest

taken_longer : (n : ℕ) (os more : List Object) → Longer os more n
taken_longer zero os more = record { rest = []; is = refl }
taken_longer (suc n) [] more = record { rest = take (suc n) more; is = refl }
taken_longer (suc n) (o ∷ os) more = let later = taken_longer n os more in
    record { rest = later.rest; is = ap (λ (l : List Object). o ∷ l) later.is }

pub refs_grown : (os new : List Object) → Grows os new → (committed : ℕ) (store : RefStore)
    → AreRefs (take committed os) store → AreRefs (take committed new) store
refs_grown os new grows committed store good =
    let longer = taken_longer committed os grows.more in
    subst (λ (prefix : List Object). AreRefs prefix store)
    (sym (ap (λ (l : List Object). take committed l) grows.are ∙ longer.is))
    (refs_longer (take committed os) longer.rest store good)

named_longer : (os more : List Object) (id name : List ℕ) → IsTagNamed os id name
    → IsTagNamed (os ++ more) id name
named_longer os more id name is = (
  kind_longer os more id kind.Tag is.0,
  ap (λ (o : Option Content). (tag_read (unwrap_or o no_content).bytes).name)
      (stays os more id kind.Tag (object_named id os) refl is.0).object ∙ is.1,
)

pub tags_grown : (os new : List Object) → Grows os new → (tags : PendingTags)
    → All (IsPending os) tags → All (IsPending new) tags
tags_grown os new grows tags =
    All-weaker (IsPending os) (IsPending new)
    (λ tag is. subst (λ (objects : List Object). IsPending objects tag) (sym grows.are)
    (record {
      name = is.name;
      named = (is.named.0, is.named.1, named_longer os grows.more tag.1 is.named.0 is.named.2);
    })) tags

tip_longer : (os new : List Object) → Grows os new → (tip : Tip) → IsTip os tip → IsTip new tip
tip_longer os new grows Unborn stands = tt
tip_longer os new grows Deleted stands = tt
tip_longer os new grows (At id) stands =
    subst (λ (objects : List Object). kind_named id objects ≡ Some kind.Commit) (sym grows.are)
    (kind_longer os grows.more id kind.Commit stands)

pub branches_longer : (os new : List Object) → Grows os new → (branches : Branches)
    → All (IsStreamBranch os) branches → All (IsStreamBranch new) branches
branches_longer os new grows branches =
    All-weaker (IsStreamBranch os) (IsStreamBranch new)
    (λ branch is. record { name = is.name; tip = tip_longer os new grows branch.1 is.tip }) branches

-- what grew
pub grown_by : (digest : List ℕ → List ℕ) (os new : List Object) → GrowGood digest os new → Grows os new
grown_by digest os new grows = record { more = grows.more; are = grows.are }

-- ---- marks and branches

pub marks_with : (os : List Object) (marks : Marks) (mark : Option ℕ) (k : Kind) (id : List ℕ)
    → AreMarks os marks → kind_named id os ≡ Some k → AreMarks os (with_mark marks mark k id)
marks_with os marks None k id good new = good
marks_with os marks (Some mark) k id good new =
    entry_set nat_eq (λ (e : ℕ × MarkedObject). IsMarked os e.1) marks mark (as_marked k id) good
    (λ e old. new) new

pub marks_longer : (os new : List Object) → Grows os new → (marks : Marks) → AreMarks os marks
    → AreMarks new marks
marks_longer os new grows marks =
    All-weaker (λ (e : ℕ × MarkedObject). IsMarked os e.1)
    (λ (e : ℕ × MarkedObject). IsMarked new e.1)
    (λ e is. subst (λ (objects : List Object). IsMarked objects e.1) (sym grows.are)
    (kind_longer os grows.more e.1.name e.1.kind is)) marks

pub branch_keeps : (os : List Object) (branches : Branches) (ref : List ℕ) (tip : Tip)
    → All (IsStreamBranch os) branches → IsStreamBranch os (ref, tip)
    → All (IsStreamBranch os) (with_branch branches ref tip)
branch_keeps os branches ref tip good new =
    entry_set bytes_eq (IsStreamBranch os) branches ref tip good
    (λ old is. record { name = is.name; tip = new.tip }) new

-- ---- what the stream has of its own

-- only that changes, and it stays sound
pub stream_keeps : (digest : List ℕ → List ℕ) (workspace : Workspace) → IsSound digest workspace
    → (stream : StreamOf Opened) → IfSome stream.head IsShortRefName
    → AreMarks workspace.objects stream.marks
    → All (IsStreamBranch workspace.objects) stream.branches
    → All (IsPending workspace.objects) stream.tags
    → IsSoundCommand workspace.objects stream.command
    → IsSound digest (record workspace { stream = stream })
stream_keeps digest workspace sound stream head marks branches tags command =
    record { objects = sound.objects; trees = sound.trees; refs = sound.refs; next_head = head; marks = marks; branches = branches; tags = tags; command = command }

-- ---- the end of a commit

closed_keeps : (digest : List ℕ → List ℕ) → AnswersNames digest → (workspace : Workspace)
    → IsSound digest workspace → (command : OpenCommand Opened)
    → IsSoundCommand workspace.objects command
    → IfOk (open_closed digest workspace command) (IsSound digest)
closed_keeps digest names workspace sound (open_command.Changes commit) is =
    then_any (IsSound digest) (room_for workspace.stream.marks commit.header.mark) _ (λ _.
    by_end (closed digest workspace.objects commit)
    (λ end e. commit_end digest names workspace.objects sound.objects commit is.good is.files end e)
    (λ end e. end_fits digest names workspace.objects sound.objects sound.trees commit is.good is.files
    end e))
  where
    by_end : (r : Result Closed CommitFault)
        → ((end : Closed) → r ≡ Ok end → HoldsCommit digest workspace.objects end.objects end.id)
        → ((end : Closed) → r ≡ Ok end → TreesFit [] end.objects)
        → IfOk (and_then (changed_or r) (λ end. Ok (closed_at workspace commit.header end)))
        (IsSound digest)
    by_end (Err e) holds fit = tt
    by_end (Ok end) holds fit =
        let held = holds end refl in
        let more = grown_by digest workspace.objects end.objects held.grows in
        record {
          objects = held.grows.good;
          trees = fit end refl;
          refs = refs_grown workspace.objects end.objects more workspace.committed workspace.refs
              sound.refs;
          next_head = sound.next_head;
          marks = marks_with end.objects workspace.stream.marks commit.header.mark kind.Commit end.id
              (marks_longer workspace.objects end.objects more workspace.stream.marks sound.marks)
              held.commit;
          branches = branch_keeps end.objects workspace.stream.branches commit.header.ref (At end.id)
              (branches_longer workspace.objects end.objects more workspace.stream.branches sound.branches)
              (record { name = is.ref; tip = held.commit });
          tags = tags_grown workspace.objects end.objects more workspace.stream.tags sound.tags;
          command = tt;
        }
closed_keeps digest names workspace sound _ is = sound

pub where_keeps : (digest : List ℕ → List ℕ) → AnswersNames digest → (ends : Bool)
    → (workspace : Workspace) → IsSound digest workspace
    → IfOk (closed_where digest ends workspace) (IsSound digest)
where_keeps digest names false workspace sound = sound
where_keeps digest names true workspace sound =
    closed_keeps digest names workspace sound workspace.stream.command sound.command

pub from_ok : {A E : Type 0} (P : A → Type 0) (r : Result A E) (value : A) → r ≡ Ok value → IfOk r P
    → P value
from_ok P (Ok other) value e h = subst P (ap (λ r. result_unwrap_or r other) e) h
from_ok P (Err fault) value e h = cc

-- what the end of the open commit leaves
pub ended_sound : (digest : List ℕ → List ℕ) → AnswersNames digest → (ends : Bool)
    (workspace left : Workspace) → IsSound digest workspace
    → closed_where digest ends workspace ≡ Ok left → IsSound digest left
ended_sound digest names ends workspace left sound ended =
    from_ok (IsSound digest) (closed_where digest ends workspace) left ended
    (where_keeps digest names ends workspace sound)
