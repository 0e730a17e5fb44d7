-- A reset to no commit, and one to a commit.
use Rattle.std.proofs.Common.{◌≡◌, ℕ, ◌<◌, ◌≤◌, ◌+◌, true, false, cond, codes, is_some, length, replicate, List, Some, Result, Ok, refl, sym, ap, ◌∙◌, inl, inr, arith}
use Rattle.std.specs.Str.{bytes_eq}
use Rattle.std.proofs.lemmas.Bool.{cases_Bool, lt-ltb}
use Rattle.git_model.specs.declared.kind.Kind.TheVariants as kind
use Rattle.git_model.specs.Repository.{Object}
use Rattle.stream_grammar.specs.Acts.{Wait, Ref}
use Rattle.stream_grammar.specs.Acts.{Reset, ResetFrom}
use Rattle.stream_grammar.specs.Names.{CommitIsh, Marked, Expression}
use Rattle.stream_parts.specs.declared.branches.Tip.{Tip}
use Rattle.stream_parts.specs.declared.branches.Tip.TheVariants.{Unborn, Deleted, At}
use Rattle.open_commits.specs.OpenCommit.{OpenCommit}
use Rattle.stream_parts.specs.Branches.{branch_limit, has_branch_room, ref_meant, tip_of, with_branch, Branches}
use Rattle.import_session.specs.Meaning.{after_act}
use Rattle.stream_commands.specs.Refs.{is_zeros, ref_set, tip_from}
use Rattle.stream_parts.specs.Tags.{PendingTags}
use Rattle.stream_parts.specs.OpenCommand as open_command
use Rattle.stream_parts.specs.OpenCommand.{OpenCommand}
use Rattle.stream_commands.specs.Workspace.{Workspace, quiet, with_command}
use Rattle.stream_parts.specs.declared.fault.Fault.{Fault}
use Rattle.git_model.specs.Results.{and_then}
use Rattle.export_text.specs.ExportActs.{number_of, reset_acts}
use Rattle.export_laws.specs.Leaving.{Leaves, nothing}
use Rattle.export_laws.proofs.Acts.{asked}
use Rattle.export_laws.proofs.Blobs.{waits}
use Rattle.export_laws.proofs.OpenParents.{IsToldAs, commit-meant}
use Rattle.export_laws.proofs.RefsBranches.{placed-found, placed-length, twice}

-- What changes while refs are set, of a workspace where all is saved.
abbrev pub state : Workspace → Branches → PendingTags → OpenCommand OpenCommit → Workspace
state saved branches tags command = record saved {
  stream = record saved.stream { branches = branches; tags = tags; command = command };
}

-- ---- the branch of a reset

abbrev pub placed : Branches → List ℕ → Tip → Branches
placed branches ref tip = with_branch (with_branch branches ref Unborn) ref tip

pub placed-tip : (branches : Branches) (ref : List ℕ) (tip : Tip) (q : List ℕ)
    → tip_of (placed branches ref tip) q
    ≡ cond (bytes_eq q ref) (Some tip) (tip_of branches q)
placed-tip branches ref tip q =
    placed-found (with_branch branches ref Unborn) ref tip q
    ∙ ap (cond (bytes_eq q ref) (Some tip)) (placed-found branches ref Unborn q)
    ∙ sym (twice (bytes_eq q ref) (Some tip) (Some Unborn) (tip_of branches q))

pub placed-few : (branches : Branches) (ref : List ℕ) (tip : Tip)
    → length (placed branches ref tip) ≤ length branches + 2
placed-few branches ref tip =
    let one = placed-length branches ref Unborn in
    let two = placed-length (with_branch branches ref Unborn) ref tip in
    omega (arith, one, two)

has-room : (branches : Branches) (ref : List ℕ) → length branches < branch_limit
    → has_branch_room branches ref ≡ true
unfolding has_branch_room
has-room branches ref few = elim (cases_Bool (is_some (tip_of branches ref))) [
  | inl yea ↦ rw yea refl
  | inr nay ↦ rw nay (lt-ltb (length branches) branch_limit few)
]

-- ---- its acts

begins : (digest : List ℕ → List ℕ) (w : Workspace) (ref : List ℕ)
    → bytes_eq ref (codes "HEAD") ≡ false → has_branch_room w.stream.branches ref ≡ true
    → after_act digest (Ref (Reset ref)) w
    ≡ quiet (record w {
      stream = record w.stream {
        branches = with_branch w.stream.branches ref Unborn;
        command = open_command.Reset ref;
      };
    })
unfolding after_act ref_set ref_meant
begins digest w ref name room = rw (name, room) refl

places : (digest : List ℕ → List ℕ) (w : Workspace) (ref : List ℕ) (to : CommitIsh) (tip : Tip)
    → tip_from (with_command w (open_command.Reset ref)) ref to ≡ Ok tip
    → after_act digest (Ref (ResetFrom to)) (with_command w (open_command.Reset ref))
    ≡ quiet (record w {
      stream = record w.stream {
        branches = with_branch w.stream.branches ref tip;
        command = open_command.Nothing;
      };
    })
unfolding after_act ref_set
places digest w ref to tip is = rw is refl

pub reset-leaves : (digest : List ℕ → List ℕ) (saved : Workspace) (branches : Branches)
    (tags : PendingTags) (command : OpenCommand OpenCommit) (ref : List ℕ) (to : CommitIsh) (tip : Tip)
    → bytes_eq ref (codes "HEAD") ≡ false → length branches < branch_limit
    → tip_from (state saved (with_branch branches ref Unborn) tags (open_command.Reset ref)) ref to ≡ Ok tip
    → Leaves digest (reset_acts ref to) (state saved branches tags command)
    (state saved (placed branches ref tip) tags open_command.Nothing)
reset-leaves digest saved branches tags command ref to tip name few is =
    asked digest (Ref (Reset ref)) _ _ _ _
    (begins digest (state saved branches tags command) ref name (has-room branches ref few))
    (asked digest (Ref (ResetFrom to)) _ _ _ _
    (places digest (state saved (with_branch branches ref Unborn) tags open_command.Nothing) ref to tip is)
    (asked digest Wait _ _ _ _ (waits digest _) (nothing _)))

-- ---- what it is reset to

pub to-none : (w : Workspace) (ref : List ℕ)
    → tip_from w ref (Expression (replicate 40 48)) ≡ Ok Deleted
unfolding is_zeros
to-none w ref = refl

-- the mark of a commit that is there
pub to-marked : (os : List Object) (w : Workspace) (ref id : List ℕ)
    → IsToldAs os w id kind.Commit → tip_from w ref (Marked (number_of os id)) ≡ Ok (At id)
unfolding is_zeros
to-marked os w ref id told =
    ap (λ (r : Result (List ℕ) Fault). and_then r (λ id. Ok (At id))) (commit-meant os w id told)
