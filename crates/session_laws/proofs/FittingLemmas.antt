-- No act comes where its command is not open.
use Rattle.std.proofs.Common.{◌≡◌, ◌≢◌, ℕ, Bool, cond, true, false, ◌&&◌, ◌||◌, not, List, [], ◌∷◌, Option, Some, None, Result, Ok, Err, refl, sym, ap, subst, ◌∙◌}
use Rattle.std.specs.Prelude.{IfOk}
use Rattle.std.proofs.lemmas.Bool.{false≢true}
use Rattle.git_model.specs.Repository.{Repository, object_named}
use Rattle.stream_lex.specs.Items.{Item, Line, Data, Blank}
use Rattle.stream_grammar.specs.declared.fault.Fault.{Fault as TextFault}
use Rattle.stream_grammar.specs.declared.feature.OptionCommand.{OptionCommand}
use Rattle.stream_grammar.specs.declared.feature.OptionCommand.TheVariants as option
use Rattle.stream_grammar.specs.declared.part.Part.{Part}
use Rattle.stream_grammar.specs.declared.part.Part.TheVariants as part
use Rattle.stream_grammar.specs.declared.part.OpeningLine.TheVariants as opening_line
use Rattle.stream_grammar.specs.declared.part.ReplyLine.{ReplyLine}
use Rattle.stream_grammar.specs.declared.part.ReplyLine.TheVariants as reply_line
use Rattle.stream_grammar.specs.declared.part.ControlLine.{ControlLine}
use Rattle.stream_grammar.specs.declared.part.ControlLine.TheVariants as control_line
use Rattle.stream_grammar.specs.declared.part.HeaderLine.TheVariants as header_line
use Rattle.stream_grammar.specs.declared.part.CommitIshLine.TheVariants as commit_ish_line
use Rattle.stream_grammar.specs.declared.part.ChangeLine.TheVariants as change_line
use Rattle.stream_grammar.specs.declared.stage.BlobNext.TheVariants as blob
use Rattle.stream_grammar.specs.declared.stage.CommitNext.{CommitNext}
use Rattle.stream_grammar.specs.declared.stage.CommitNext.TheVariants as commit
use Rattle.stream_grammar.specs.declared.stage.ChangeNext.TheVariants as change
use Rattle.stream_grammar.specs.declared.stage.TagNext.{TagNext}
use Rattle.stream_grammar.specs.declared.stage.TagNext.TheVariants as tag
use Rattle.stream_grammar.specs.declared.stage.ResetNext.TheVariants as reset
use Rattle.stream_grammar.specs.declared.stage.AliasNext.TheVariants as alias
use Rattle.stream_grammar.specs.declared.stage.Stage.{Stage}
use Rattle.stream_grammar.specs.declared.stage.Stage.TheVariants as stage
use Rattle.stream_grammar.specs.declared.stage.Opened.{Opened}
use Rattle.stream_grammar.specs.declared.stage.Opened.TheVariants as opened
use Rattle.stream_grammar.specs.Acts.{Act, Wait, Change, Ref, Reply, Effect as Given, brings}
use Rattle.stream_grammar.specs.Acts.{Modify, ModifyInline, Delete, Copy, Rename, ResetFrom, Alias, CatBlob, Ls, LsInCommit}
use Rattle.stream_grammar.specs.Acts as acts
use Rattle.stream_grammar.specs.Changes.{last_path, modified, modified_inline, object_and_path, paths_of, encoding_of, is_quoted}
use Rattle.stream_grammar.specs.Commands.{Done, Open, Parsing, Step as Parsed, after, done_by, done_of, goes_on, is_commit, next_of, opened_after, opened_by, opens, step as parsed, step_by, step_outside}
use Rattle.stream_grammar.specs.Features.{feature_of, in_time, quiet_of, head_of, option_of}
use Rattle.stream_grammar.specs.Grammar.{Term, fit, Fit, Stands, Ends, Misses, is_empty, production_of}
use Rattle.stream_grammar.specs.Lines.{alias_act, control_act, data_act, first_act, inner_effect, line_effect, ls_act, option_act, reply_act}
use Rattle.stream_grammar.specs.Names.{CommitIsh, commit_ish_of, ident_of, ref_of, tag_ref_of}
use Rattle.stream_grammar.specs.Parts.{first_fit, fits, is_early, is_inline, part_by_word, part_of, part_of_line, with_inline, words}
use Rattle.stream_grammar.specs.Stages.{opened_of, terms_of}
use Rattle.stream_grammar.specs.Texts.{argument, dataref_of, mark_of, read}
use Rattle.stream_grammar.proofs.Filled.{by_test}
use Rattle.open_commits.specs.OpenCommit.{OpenCommit, begun as begun_commit}
use Rattle.open_commits.specs.Changes.{all_deleted, contents_put, copied_to, deleted, modified as commit_modified, renamed_to}
use Rattle.open_commits.specs.Showing.{commit_entry_shown}
use Rattle.stream_parts.specs.declared.branches.Tip.TheVariants.{Unborn}
use Rattle.stream_parts.specs.declared.fault.Fault.{Fault}
use Rattle.stream_parts.specs.declared.headers.CommitHeader.{CommitHeader}
use Rattle.stream_parts.specs.declared.headers.InlineFile.{InlineFile}
use Rattle.stream_parts.specs.OpenCommand.{OpenCommand, changes_in, commit_header_in, inline_in, tag_header_in}
use Rattle.stream_parts.specs.OpenCommand as open_command
use Rattle.stream_parts.specs.Branches.{branch_set, tip_commit, tip_for}
use Rattle.git_model.specs.Results.{and_then}
use Rattle.stream_parts.specs.Faults.{text_first}
use Rattle.stream_parts.specs.Marks.{referred_name}
use Rattle.stream_parts.specs.Printing.{shown_object}
use Rattle.stream_parts.specs.Showing.{entry_shown}
use Rattle.stream_commands.specs.CommitIshes.{ref_in}
use Rattle.stream_commands.specs.Faults.{changed_or}
use Rattle.stream_commands.specs.Workspace.{Effect, Workspace, opened as opened_on, quiet, with_command}
use Rattle.stream_commands.specs.Lines.{in_changes, in_commit_header, in_tag_header}
use Rattle.stream_commands.specs.Objects.{object_stored}
use Rattle.import_session.specs.Commits.{begun_from, closed_where, commit_merged, commit_opened, commit_said, commit_started, header_said}
use Rattle.import_session.specs.Changes.{file_stored, files_changed}
use Rattle.stream_commands.specs.Refs.{branch_unborn, ref_set}
use Rattle.stream_commands.specs.Replies.{replied}
use Rattle.import_session.specs.Meaning.{after_act}
use Rattle.import_session.specs.Stream.{Running, Step, begun, is_finish, step}
use Rattle.import_session.proofs.ItemLemmas.{done_step, stepped}
use Rattle.import_session.proofs.SoundCommits.{then_any, then_good}
use Rattle.session_laws.proofs.StepLemmas.{step_leaves}
use Rattle.session_laws.specs.Fitting.{Fits, HasCommitter, HasTarget, IsAtStage, IsChanging, IsCommit, IsCommitBefore, IsInStep, IsInline, IsOpenAt, IsReset, IsTag, IsTagBefore}

-- ---- the stage after a part

-- the stage after a part that stands; where it stands nowhere, any stage with terms
abbrev next : Part → Stage → Stage
next (part.Header header_line.Mark) (stage.Blob _) = stage.Blob blob.OriginalOid
next (part.Header header_line.Mark) (stage.Commit _) = stage.Commit commit.OriginalOid
next (part.Header header_line.Mark) (stage.Tag _) = stage.Tag tag.From
next (part.Header header_line.Mark) (stage.Alias _) = stage.Alias alias.To
next (part.Header header_line.OriginalOid) (stage.Blob _) = stage.Blob blob.Data
next (part.Header header_line.OriginalOid) (stage.Commit _) = stage.Commit commit.Author
next (part.Header header_line.OriginalOid) (stage.Tag _) = stage.Tag tag.Tagger
next (part.Header header_line.Author) _ = stage.Commit commit.Committer
next (part.Header header_line.Committer) _ = stage.Commit commit.Encoding
next (part.Header header_line.Encoding) _ = stage.Commit commit.Data
next part.Data (stage.Blob _) = stage.Top
next part.Data (stage.Commit _) = stage.Changes change.From
next part.Data stage.Inline = stage.Changes change.Change
next part.Data (stage.Tag _) = stage.Top
next (part.CommitIsh commit_ish_line.From) (stage.Changes _) = stage.Changes change.Merge
next (part.CommitIsh commit_ish_line.From) (stage.Tag _) = stage.Tag tag.OriginalOid
next (part.CommitIsh commit_ish_line.From) (stage.Reset _) = stage.Reset reset.Blank
next (part.CommitIsh commit_ish_line.Merge) _ = stage.Changes change.Merge
next (part.Header header_line.Tagger) _ = stage.Tag tag.Data
next (part.CommitIsh commit_ish_line.To) (stage.Alias _) = stage.Top
next (part.Change change_line.ModifyInline) _ = stage.Inline
next part.Blank _ = stage.Top
next _ _ = stage.Changes change.Change

-- the parts of each command
abbrev belongs : Opened → Part → Bool
belongs opened.Blob (part.Header header_line.Mark) = true
belongs opened.Blob (part.Header header_line.OriginalOid) = true
belongs opened.Blob part.Data = true
belongs opened.Commit (part.Header header_line.Mark) = true
belongs opened.Commit (part.Header header_line.OriginalOid) = true
belongs opened.Commit (part.Header header_line.Author) = true
belongs opened.Commit (part.Header header_line.Committer) = true
belongs opened.Commit (part.Header header_line.Encoding) = true
belongs opened.Commit part.Data = true
belongs opened.Changes (part.CommitIsh commit_ish_line.From) = true
belongs opened.Changes (part.CommitIsh commit_ish_line.Merge) = true
belongs opened.Changes (part.Change change_line.Modify) = true
belongs opened.Changes (part.Change change_line.ModifyInline) = true
belongs opened.Changes (part.Change change_line.Delete) = true
belongs opened.Changes (part.Change change_line.Copy) = true
belongs opened.Changes (part.Change change_line.Rename) = true
belongs opened.Changes (part.Change change_line.DeleteAll) = true
belongs opened.Changes (part.Reply reply_line.CatBlob) = true
belongs opened.Changes (part.Reply reply_line.Ls) = true
belongs opened.Changes part.Blank = true
belongs opened.Inline part.Data = true
belongs opened.Tag (part.Header header_line.Mark) = true
belongs opened.Tag (part.Header header_line.OriginalOid) = true
belongs opened.Tag (part.CommitIsh commit_ish_line.From) = true
belongs opened.Tag (part.Header header_line.Tagger) = true
belongs opened.Tag part.Data = true
belongs opened.Reset (part.CommitIsh commit_ish_line.From) = true
belongs opened.Reset part.Blank = true
belongs opened.Alias (part.Header header_line.Mark) = true
belongs opened.Alias (part.CommitIsh commit_ish_line.To) = true
belongs _ _ = false

-- what stands belongs to the open command, and leaves the terms of the next stage
record Moves (taken : Part) (at : Stage) (left : List Term) : Type 0 where
  own : belongs (opened_of at) taken ≡ true
  terms : left ≡ terms_of (next taken at)
  kind : opened_after taken (opened_of at) ≡ opened_of (next taken at)

-- the same if the part stands, as tests that a table can compute
abbrev stands : Fit → Bool
stands (Stands left) = true
stands _ = false

abbrev left_or : List Term → Fit → List Term
left_or other (Stands left) = left
left_or other _ = other

abbrev MovesIf : Part → Stage → Fit → Type 0
MovesIf taken at place =
    (stands place && not (belongs (opened_of at) taken) ≡ false)
    × (left_or (terms_of (next taken at)) place ≡ terms_of (next taken at))
    × (cond (stands place) (opened_after taken (opened_of at)) (opened_of (next taken at))
    ≡ opened_of (next taken at))

-- the lines before the last split the stages and the parts; the last stands for what is left
moves_if : (at : Stage) (taken : Part) → MovesIf taken at (fit taken (terms_of at))
moves_if (stage.Blob blob.Mark) part.Blank = (refl, refl, refl)
moves_if (stage.Commit commit.Mark) part.Blank = (refl, refl, refl)
moves_if (stage.Changes change.From) part.Blank = (refl, refl, refl)
moves_if (stage.Tag tag.Mark) part.Blank = (refl, refl, refl)
moves_if (stage.Reset reset.From) part.Blank = (refl, refl, refl)
moves_if (stage.Alias alias.Mark) part.Blank = (refl, refl, refl)
moves_if _ (part.Header header_line.Mark) = (refl, refl, refl)
moves_if _ (part.CommitIsh commit_ish_line.From) = (refl, refl, refl)
moves_if _ (part.Change change_line.Modify) = (refl, refl, refl)
moves_if _ (part.Reply reply_line.CatBlob) = (refl, refl, refl)
moves_if _ (part.Opening opening_line.Blob) = (refl, refl, refl)
moves_if _ (part.Control control_line.Done) = (refl, refl, refl)
moves_if _ _ = (refl, refl, refl)

moves : (at : Stage) (taken : Part) (left : List Term) → fit taken (terms_of at) ≡ Stands left
    → Moves taken at left
moves at taken left is = by_own (belongs (opened_of at) taken) refl
  where
    tested : MovesIf taken at (Stands left)
    tested = subst (MovesIf taken at) is (moves_if at taken)

    by_own : (own : Bool) → belongs (opened_of at) taken ≡ own → Moves taken at left
    by_own true own = record { own = own; terms = tested.1; kind = tested.2 }
    by_own false other = absurd (false≢true (sym tested.0 ∙ ap not other))

-- the stage after a part that begins a command
abbrev first : Part → Stage
first (part.Opening opening_line.Blob) = stage.Blob blob.Mark
first (part.Opening opening_line.Commit) = stage.Commit commit.Mark
first (part.Opening opening_line.Tag) = stage.Tag tag.Mark
first (part.Opening opening_line.Reset) = stage.Reset reset.From
first (part.Opening opening_line.Alias) = stage.Alias alias.Mark
first _ = stage.Top

first_terms : (taken : Part) (terms : List Term) → production_of taken ≡ Some terms
    → terms ≡ terms_of (first taken)
first_terms (part.Opening opening_line.Blob) terms is = cc
first_terms _ terms is = cc

first_kind : (taken : Part) → opened_by taken ≡ opened_of (first taken)
first_kind (part.Opening opening_line.Blob) = refl
first_kind _ = refl

-- ---- the part of a line is neither data nor blank

abbrev IsLine : Part → Type 0
IsLine part.Data = ⊥
IsLine part.Blank = ⊥
IsLine _ = Unit {0}

abbrev AreLines : List (List ℕ × Part) → Type 0
AreLines [] = Unit {0}
AreLines (row ∷ rows) = IsLine row.1 × AreLines rows

first_fit_line : (rows : List (List ℕ × Part)) (text : List ℕ) → AreLines rows
    → IsLine (first_fit rows text)
first_fit_line [] text are = tt
first_fit_line (row ∷ rows) text are =
    by_test (fits row.0 text)
    (λ here. rw here are.0)
    (λ other. rw other (first_fit_line rows text are.1))

word_line : (text : List ℕ) → IsLine (part_by_word text)
unfolding part_by_word
word_line text = first_fit_line words text
    (tt, (tt, (tt, (tt, (tt, (tt, (tt, (tt, (tt, (tt, (tt, (tt, (tt, (tt, (tt, (tt, (tt, (tt, (tt, (tt, (tt, (tt, (tt, (tt, (tt, (tt, (tt, tt)))))))))))))))))))))))))))

inline_line : (known : Part) (inline : Bool) → IsLine known → IsLine (with_inline known inline)
inline_line (part.Change change_line.Modify) true is = tt
inline_line (part.Change change_line.Modify) false is = tt
inline_line _ inline is = is

line_part : (text : List ℕ) → IsLine (part_of_line text)
line_part text = inline_line (part_by_word text) (is_inline text) (word_line text)

-- no line ends a commit by itself
goes_within : (at : Stage) (taken : Part) → taken ≢ part.Blank
    → is_commit (opened_of at) && is_empty (terms_of (next taken at)) ≡ false
goes_within (stage.Changes n) part.Blank other = absurd (other refl)
goes_within (stage.Changes n) (part.Header header_line.Mark) other = refl
goes_within (stage.Changes n) (part.CommitIsh commit_ish_line.From) other = refl
goes_within (stage.Changes n) (part.Change change_line.Modify) other = refl
goes_within (stage.Changes n) _ other = refl
goes_within stage.Inline part.Blank other = absurd (other refl)
goes_within stage.Inline (part.Header header_line.Mark) other = refl
goes_within stage.Inline (part.CommitIsh commit_ish_line.From) other = refl
goes_within stage.Inline (part.Change change_line.Modify) other = refl
goes_within stage.Inline _ other = refl
goes_within _ taken other = refl

-- ---- what is read, and what is carried out

any_read : {A B : Type 0} (Q : B → Type 0) (reading : Result A TextFault)
    (next : A → Result B TextFault) → ((value : A) → IfOk (next value) Q) → IfOk (read reading next) Q
any_read Q (Ok value) next later = later value
any_read Q (Err e) next later = tt

-- read for an act, which is brought
twice : {A : Type 0} (Q : Given → Type 0) (mark : Option ℕ) (reading : Result A TextFault)
    (next : A → Act) → ((value : A) → Q (record { mark = mark; act = next value }))
    → IfOk (read (read reading (λ value. Ok (next value))) (λ act. brings mark act)) Q
twice Q mark (Ok value) next later = later value
twice Q mark (Err e) next later = tt

any_ok : {A E : Type 0} (r : Result A E) → IfOk r (λ _. Unit {0})
any_ok (Ok value) = tt
any_ok (Err e) = tt

with_ok : {A E : Type 0} (P Q : A → Type 0) (r : Result A E) → IfOk r P
    → ((value : A) → P value → Q value) → IfOk r Q
with_ok P Q (Ok value) is more = more value is
with_ok P Q (Err e) is more = tt

-- ---- what is open before a part, and after it

named_commit : (command : OpenCommand OpenCommit) → HasCommitter command → IsCommit command
named_commit (open_command.Commit header) named = tt
named_commit _ named = absurd named

commit_before : (n : CommitNext) (w : Workspace) → IsCommitBefore n w → IsCommit w.stream.command
commit_before commit.Encoding w there = named_commit w.stream.command there
commit_before commit.Data w there = named_commit w.stream.command there
commit_before _ w there = there

tag_with : (command : OpenCommand OpenCommit) → HasTarget command → IsTag command
tag_with (open_command.Tag header) target = tt
tag_with _ target = absurd target

tag_before : (n : TagNext) (w : Workspace) → IsTagBefore n w → IsTag w.stream.command
tag_before tag.Mark w there = there
tag_before tag.From w there = there
tag_before _ w there = tag_with w.stream.command there

-- the header is there after a line of it
abbrev HeaderThere : Effect → Type 0
HeaderThere effect = IsCommit effect.workspace.stream.command

header_there : (more : CommitHeader → CommitHeader) (w : Workspace)
    → IfOk (in_commit_header more w) HeaderThere
header_there more w = then_any HeaderThere (commit_header_in w.stream.command) _ (λ header. tt)

-- a committer is named there after his line, and stays so
abbrev Named : Effect → Type 0
Named effect = HasCommitter effect.workspace.stream.command

committer_there : (ident : List ℕ) (w : Workspace)
    → IfOk (in_commit_header (λ header. record header { committer = Some ident }) w) Named
committer_there ident w = then_any Named (commit_header_in w.stream.command) _ (λ header. tt)

committer_stays : (encoding : List ℕ) (w : Workspace) → HasCommitter w.stream.command
    → IfOk (in_commit_header (λ header. record header { encoding = Some encoding }) w) Named
committer_stays encoding w named = by_command w.stream.command named
  where
    by_command : (command : OpenCommand OpenCommit) → HasCommitter command
        → IfOk (and_then (commit_header_in command) (λ header.
        quiet (with_command w
        (open_command.Commit (record header { encoding = Some encoding }))))) Named
    by_command (open_command.Commit header) named = named
    by_command _ named = tt

-- what a tag names is there after its line, and stays so
abbrev TargetThere : Effect → Type 0
TargetThere effect = HasTarget effect.workspace.stream.command

target_there : (target : CommitIsh) (w : Workspace)
    → IfOk (in_tag_header (λ header. record header { target = Some target }) w) TargetThere
target_there target w = then_any TargetThere (tag_header_in w.stream.command) _ (λ header. tt)

target_stays : (ident : List ℕ) (w : Workspace) → HasTarget w.stream.command
    → IfOk (in_tag_header (λ header. record header { tagger = Some ident }) w) TargetThere
target_stays ident w target = by_command w.stream.command target
  where
    by_command : (command : OpenCommand OpenCommit) → HasTarget command
        → IfOk (and_then (tag_header_in command) (λ header.
        quiet (with_command w (open_command.Tag (record header { tagger = Some ident })))))
        TargetThere
    by_command (open_command.Tag header) target = target
    by_command _ target = tt

-- the commit is there after a change of it, and after its message
abbrev CommitThere : Effect → Type 0
CommitThere effect = IsChanging effect.workspace.stream.command

commit_there : (change : OpenCommit → Result OpenCommit Fault) (w : Workspace)
    → IfOk (in_changes change w) CommitThere
commit_there change w =
    then_any CommitThere (changes_in w.stream.command) _ (λ commit.
    then_any CommitThere (change commit) _ (λ next. tt))

message_there : (mark : Option ℕ) (message : List ℕ) (w : Workspace)
    → IfOk (and_then (commit_header_in w.stream.command) (λ said.
    commit_opened mark message said w)) CommitThere
message_there mark message w =
    then_any CommitThere (commit_header_in w.stream.command) _ (λ said.
    then_any CommitThere (header_said mark said) _ (λ header.
    then_any CommitThere
    (branch_set w.stream.branches header.ref (tip_for (tip_commit w.stream.branches header.ref))) _
    (λ branches. then_any CommitThere
    (begun_from w.objects (tip_commit w.stream.branches header.ref) (begun_commit header message)) _
    (λ opening. tt))))

-- a file of it waits after its line, and no longer after its data
inline_there : (file : InlineFile) (w : Workspace)
    → IfOk (and_then (changes_in w.stream.command) (λ commit.
    quiet (with_command w (open_command.Inline commit file))))
    (λ effect. IsInline effect.workspace.stream.command)
inline_there file w =
    then_any (λ (effect : Effect). IsInline effect.workspace.stream.command)
    (changes_in w.stream.command) _ (λ commit. tt)

file_there : (digest : List ℕ → List ℕ) (bytes : List ℕ) (w : Workspace)
    → IfOk (and_then (inline_in w.stream.command) (λ inline.
    file_stored digest bytes inline.0 inline.1 w)) CommitThere
file_there digest bytes w =
    then_any CommitThere (inline_in w.stream.command) _ (λ inline.
    then_any CommitThere
    (changed_or (contents_put digest w.objects inline.1.mode inline.1.path bytes inline.0)) _
    (λ left. tt))

reset_there : (ref : List ℕ) (w : Workspace)
    → IfOk (branch_unborn ref w) (λ effect. IsReset effect.workspace.stream.command)
reset_there ref w =
    then_any (λ (effect : Effect). IsReset effect.workspace.stream.command)
    (branch_set w.stream.branches ref Unborn) _ (λ branches. tt)

-- ---- what a part of the open command gives

-- an act that fits, and leaves open what a stage needs
abbrev Begins : (List ℕ → List ℕ) → Stage → Workspace → Act → Type 0
Begins digest to w act =
    Fits act w × IfOk (after_act digest act w) (λ effect. IsOpenAt to effect.workspace)

abbrev Goes : (List ℕ → List ℕ) → Stage → Workspace → Given → Type 0
Goes digest to w given = Begins digest to w given.act

alias_goes : (digest : List ℕ → List ℕ) (mark : Option ℕ) (commit : CommitIsh) (w : Workspace)
    → Goes digest stage.Top w (record { mark = None; act = alias_act mark commit })
alias_goes digest (Some mark) commit w =
    (tt, any_ok (after_act digest (Ref (Alias mark commit)) w))
alias_goes digest None commit w = (tt, any_ok (after_act digest Wait w))

no_part : {P : Type 0} → false ≡ true → P
no_part is = absurd (false≢true is)

abbrev LineGoes : (List ℕ → List ℕ) → Stage → Part → Option ℕ → List ℕ → Workspace → Type 0
LineGoes digest at taken mark text w =
    IfOk (line_effect (opened_of at) mark taken text) (Goes digest (next taken at) w)

-- lines of a commit up to its message
header_goes : (digest : List ℕ → List ℕ) (n : _) (taken : Part) (left : List Term)
    → fit taken (terms_of (stage.Commit n)) ≡ Stands left → IsLine taken → (mark : Option ℕ)
    (text : List ℕ) (w : Workspace) → IsOpenAt (stage.Commit n) w
    → LineGoes digest (stage.Commit n) taken mark text w
unfolding after_act commit_said
header_goes digest n part.Data left is line mark text w there = absurd line
header_goes digest n part.Blank left is line mark text w there = absurd line
header_goes digest n (part.Header header_line.Mark) left is line mark text w there =
    any_read (Goes digest (stage.Commit commit.OriginalOid) w) (mark_of (argument text)) _
    (λ number. (tt, commit_before n w there))
header_goes digest n (part.Header header_line.OriginalOid) left is line mark text w there =
    (tt, commit_before n w there)
header_goes digest n (part.Header header_line.Author) left is line mark text w there =
    any_read (Goes digest (stage.Commit commit.Committer) w) (ident_of (argument text)) _
    (λ ident. (
      commit_before n w there,
      header_there (λ header. record header { author = Some ident }) w,
    ))
header_goes digest n (part.Header header_line.Committer) left is line mark text w there =
    any_read (Goes digest (stage.Commit commit.Encoding) w) (ident_of (argument text)) _
    (λ ident. (commit_before n w there, committer_there ident w))
header_goes digest commit.Encoding (part.Header header_line.Encoding) left is line mark text w there =
    any_read (Goes digest (stage.Commit commit.Data) w) (encoding_of (argument text)) _
    (λ encoding. (named_commit w.stream.command there, committer_stays encoding w there))
header_goes digest _ (part.Header header_line.Encoding) left is line mark text w there = absurd (cc is)
header_goes digest n taken left is line mark text w there =
    no_part (moves (stage.Commit n) taken left is).own

-- lines of a commit after its message
change_goes : (digest : List ℕ → List ℕ) (n : _) (taken : Part) (left : List Term)
    → fit taken (terms_of (stage.Changes n)) ≡ Stands left → IsLine taken → (mark : Option ℕ)
    (text : List ℕ) (w : Workspace) → IsChanging w.stream.command
    → LineGoes digest (stage.Changes n) taken mark text w
unfolding after_act commit_said files_changed replied
change_goes digest n part.Data left is line mark text w there = absurd line
change_goes digest n part.Blank left is line mark text w there = absurd line
change_goes digest n (part.CommitIsh commit_ish_line.From) left is line mark text w there =
    any_read (Goes digest (stage.Changes change.Merge) w) (commit_ish_of (argument text)) _
    (λ from. (there, commit_there (commit_started w from) w))
change_goes digest n (part.CommitIsh commit_ish_line.Merge) left is line mark text w there =
    any_read (Goes digest (stage.Changes change.Merge) w) (commit_ish_of (argument text)) _
    (λ other. (there, commit_there (commit_merged w other) w))
change_goes digest n (part.Change change_line.Modify) left is line mark text w there =
    twice (Goes digest (stage.Changes change.Change) w) mark (modified (argument text))
    (λ file. Change (Modify file.0 file.1 file.2))
    (λ file. (
      there,
      commit_there (λ commit.
          changed_or (commit_modified w.objects w.stream.marks file.0 file.1 file.2 commit)) w,
    ))
change_goes digest n (part.Change change_line.ModifyInline) left is line mark text w there =
    twice (Goes digest stage.Inline w) mark (modified_inline (argument text))
    (λ file. Change (ModifyInline file.0 file.1))
    (λ file. (there, inline_there (record { mode = file.0; path = file.1 }) w))
change_goes digest n (part.Change change_line.Delete) left is line mark text w there =
    twice (Goes digest (stage.Changes change.Change) w) mark (last_path (argument text))
    (λ path. Change (Delete path))
    (λ path. (there, commit_there (λ commit. Ok (deleted path commit)) w))
change_goes digest n (part.Change change_line.Copy) left is line mark text w there =
    twice (Goes digest (stage.Changes change.Change) w) mark (paths_of (argument text))
    (λ paths. Change (Copy paths.0 paths.1))
    (λ paths. (there, commit_there (λ commit. changed_or (copied_to paths.0 paths.1 commit)) w))
change_goes digest n (part.Change change_line.Rename) left is line mark text w there =
    twice (Goes digest (stage.Changes change.Change) w) mark (paths_of (argument text))
    (λ paths. Change (Rename paths.0 paths.1))
    (λ paths. (there, commit_there (λ commit. changed_or (renamed_to paths.0 paths.1 commit)) w))
change_goes digest n (part.Change change_line.DeleteAll) left is line mark text w there =
    (there, commit_there (λ commit. Ok (all_deleted commit)) w)
change_goes digest n (part.Reply reply_line.CatBlob) left is line mark text w there =
    twice (Goes digest (stage.Changes change.Change) w) mark (dataref_of (argument text))
    (λ object. Reply (CatBlob object))
    (λ object. (
      tt,
      then_any CommitThere (referred_name w.stream.marks object) _ (λ id.
          then_any CommitThere (shown_object id (object_named id w.objects)) _ (λ line. there)),
    ))
change_goes digest n (part.Reply reply_line.Ls) left is line mark text w there =
    ls_goes (is_quoted (argument text)) (argument text)
  where
    ls_goes : (quoted : Bool) (rest : List ℕ)
        → IfOk (read (ls_act quoted rest) (λ act. brings mark act))
        (Goes digest (stage.Changes change.Change) w)
    ls_goes true rest =
        twice (Goes digest (stage.Changes change.Change) w) mark (last_path rest)
        (λ path. Reply (LsInCommit path))
        (λ path. (
          there,
          then_any CommitThere (changes_in w.stream.command) _ (λ commit.
              then_any CommitThere
              (changed_or (commit_entry_shown digest w.objects commit.files path)) _ (λ shown. there)),
        ))
    ls_goes false rest =
        twice (Goes digest (stage.Changes change.Change) w) mark (object_and_path rest)
        (λ entry. Reply (Ls entry.0 entry.1))
        (λ entry. (
          tt,
          then_any CommitThere
              (entry_shown w.objects w.stream.marks entry.0 entry.1) _ (λ line. there),
        ))
change_goes digest n taken left is line mark text w there =
    no_part (moves (stage.Changes n) taken left is).own

-- lines of a tag
tag_goes : (digest : List ℕ → List ℕ) (n : _) (taken : Part) (left : List Term)
    → fit taken (terms_of (stage.Tag n)) ≡ Stands left → IsLine taken → (mark : Option ℕ)
    (text : List ℕ) (w : Workspace) → IsTagBefore n w
    → LineGoes digest (stage.Tag n) taken mark text w
unfolding after_act object_stored
tag_goes digest n part.Data left is line mark text w there = absurd line
tag_goes digest n (part.Header header_line.Mark) left is line mark text w there =
    any_read (Goes digest (stage.Tag tag.From) w) (mark_of (argument text)) _
    (λ number. (tt, tag_before n w there))
tag_goes digest n (part.CommitIsh commit_ish_line.From) left is line mark text w there =
    any_read (Goes digest (stage.Tag tag.OriginalOid) w) (commit_ish_of (argument text)) _
    (λ target. (tag_before n w there, target_there target w))
tag_goes digest tag.Mark (part.Header header_line.OriginalOid) left is line mark text w there = absurd (cc is)
tag_goes digest tag.From (part.Header header_line.OriginalOid) left is line mark text w there = absurd (cc is)
tag_goes digest _ (part.Header header_line.OriginalOid) left is line mark text w there = (tt, there)
tag_goes digest tag.Mark (part.Header header_line.Tagger) left is line mark text w there = absurd (cc is)
tag_goes digest tag.From (part.Header header_line.Tagger) left is line mark text w there = absurd (cc is)
tag_goes digest _ (part.Header header_line.Tagger) left is line mark text w there =
    any_read (Goes digest (stage.Tag tag.Data) w) (ident_of (argument text)) _
    (λ ident. (tag_with w.stream.command there, target_stays ident w there))
tag_goes digest n taken left is line mark text w there =
    no_part (moves (stage.Tag n) taken left is).own

good_line : (digest : List ℕ → List ℕ) (at : Stage) (taken : Part) (left : List Term)
    → fit taken (terms_of at) ≡ Stands left → IsLine taken → (mark : Option ℕ) (text : List ℕ)
    (w : Workspace) → IsOpenAt at w → LineGoes digest at taken mark text w
unfolding after_act
good_line digest (stage.Commit n) taken left is line mark text w there =
    header_goes digest n taken left is line mark text w there
good_line digest (stage.Changes n) taken left is line mark text w there =
    change_goes digest n taken left is line mark text w there
good_line digest (stage.Tag n) taken left is line mark text w there =
    tag_goes digest n taken left is line mark text w there
good_line digest (stage.Blob n) part.Data left is line mark text w there = absurd line
good_line digest (stage.Blob n) (part.Header header_line.Mark) left is line mark text w there =
    any_read (Goes digest (stage.Blob blob.OriginalOid) w) (mark_of (argument text)) _
    (λ number. (tt, tt))
good_line digest (stage.Blob n) (part.Header header_line.OriginalOid) left is line mark text w there = (tt, tt)
good_line digest (stage.Reset n) part.Blank left is line mark text w there = absurd line
good_line digest (stage.Reset reset.From) (part.CommitIsh commit_ish_line.From) left is line mark text w there =
    any_read (Goes digest (stage.Reset reset.Blank) w) (commit_ish_of (argument text)) _
    (λ from. (there, any_ok (after_act digest (Ref (ResetFrom from)) w)))
good_line digest (stage.Reset reset.Blank) (part.CommitIsh commit_ish_line.From) left is line mark text w there = absurd (cc is)
good_line digest (stage.Alias n) (part.Header header_line.Mark) left is line mark text w there =
    any_read (Goes digest (stage.Alias alias.To) w) (mark_of (argument text)) _ (λ number. (tt, tt))
good_line digest (stage.Alias n) (part.CommitIsh commit_ish_line.To) left is line mark text w there =
    any_read (Goes digest stage.Top w) (commit_ish_of (argument text)) _
    (λ commit. alias_goes digest mark commit w)
good_line digest stage.Inline part.Data left is line mark text w there = absurd line
good_line digest at taken left is line mark text w there = no_part (moves at taken left is).own

-- data
good_data : (digest : List ℕ → List ℕ) (at : Stage) (left : List Term)
    → fit part.Data (terms_of at) ≡ Stands left → (mark : Option ℕ) (contents : List ℕ)
    (w : Workspace) → IsOpenAt at w
    → Goes digest (next part.Data at) w
    (record { mark = None; act = data_act (opened_of at) mark contents })
unfolding after_act commit_said files_changed
good_data digest (stage.Blob n) left is mark contents w there =
    (tt, any_ok (after_act digest (acts.Object (acts.Blob mark contents)) w))
good_data digest (stage.Tag tag.Mark) left is mark contents w there = absurd (cc is)
good_data digest (stage.Tag tag.From) left is mark contents w there = absurd (cc is)
good_data digest (stage.Tag _) left is mark contents w there =
    (there, any_ok (after_act digest (acts.Object (acts.Tag mark contents)) w))
good_data digest stage.Inline left is mark contents w there = (there, file_there digest contents w)
good_data digest (stage.Commit commit.Encoding) left is mark contents w there =
    (there, message_there mark contents w)
good_data digest (stage.Commit commit.Data) left is mark contents w there =
    (there, message_there mark contents w)
good_data digest (stage.Commit _) left is mark contents w there = absurd (cc is)
good_data digest at left is mark contents w there = no_part (moves at part.Data left is).own

-- a blank line asks for nothing
good_blank : (digest : List ℕ → List ℕ) (w : Workspace)
    → Goes digest stage.Top w (record { mark = None; act = Wait })
unfolding after_act
good_blank digest w = (tt, tt)

-- ---- what begins a command

FitsAnywhere : Act → Type 0
FitsAnywhere act = (w : Workspace) → Fits act w

fits_option : (late : Bool) (whose : OptionCommand) (text : List ℕ)
    → IfOk (option_act late whose text) FitsAnywhere
unfolding FitsAnywhere
fits_option late option.Git text =
    any_read FitsAnywhere (in_time late) _ (λ u.
    any_read FitsAnywhere (quiet_of text) _ (λ v w. tt))
fits_option late option.Head text =
    any_read FitsAnywhere (in_time late) _ (λ u.
    any_read FitsAnywhere (head_of (argument (argument text))) _ (λ ref w. tt))
fits_option late option.Other text = λ w. tt

fits_control : (late : Bool) (line : ControlLine) (text : List ℕ)
    → IfOk (control_act late line text) FitsAnywhere
unfolding FitsAnywhere
fits_control late control_line.Feature text =
    any_read FitsAnywhere (in_time late) _ (λ u.
    any_read FitsAnywhere (feature_of text) _ (λ feature w. tt))
fits_control late control_line.OptionCommand text = fits_option late (option_of text) text
fits_control late _ text = λ w. tt

fits_reply : (line : ReplyLine) (text : List ℕ) → IfOk (reply_act false line text) FitsAnywhere
unfolding FitsAnywhere
fits_reply reply_line.Progress text = λ w. tt
fits_reply reply_line.GetMark text =
    any_read FitsAnywhere (mark_of (argument text)) _ (λ mark w. tt)
fits_reply reply_line.CatBlob text =
    any_read FitsAnywhere (dataref_of (argument text)) _ (λ object w. tt)
fits_reply reply_line.Ls text =
    any_read FitsAnywhere (object_and_path (argument text)) _ (λ entry w. tt)

good_first_line : (digest : List ℕ → List ℕ) (late : Bool) (command : Part) (text : List ℕ)
    (w : Workspace) → IfOk (first_act late command (Line text)) (Begins digest (first command) w)
unfolding after_act object_stored commit_said ref_set FitsAnywhere
good_first_line digest late (part.Opening opening_line.Commit) text w =
    any_read (Begins digest (stage.Commit commit.Mark) w) (ref_of (argument text)) _
    (λ ref. (tt, tt))
good_first_line digest late (part.Opening opening_line.Tag) text w =
    any_read (Begins digest (stage.Tag tag.Mark) w) (tag_ref_of (argument text)) _
    (λ ref. (tt, tt))
good_first_line digest late (part.Opening opening_line.Reset) text w =
    any_read (Begins digest (stage.Reset reset.From) w) (ref_of (argument text)) _
    (λ ref. (tt, reset_there (ref_in w ref) w))
good_first_line digest late (part.Reply line) text w =
    with_ok FitsAnywhere (Begins digest stage.Top w) (reply_act false line text)
    (fits_reply line text) (λ act fits. (fits w, any_ok (after_act digest act w)))
good_first_line digest late (part.Control line) text w =
    with_ok FitsAnywhere (Begins digest stage.Top w) (control_act late line (argument text))
    (fits_control late line (argument text)) (λ act fits. (fits w, any_ok (after_act digest act w)))
good_first_line digest late _ text w = (tt, tt)

good_first : (digest : List ℕ → List ℕ) (late : Bool) (item : Item) (w : Workspace)
    → IfOk (first_act late (part_of item) item) (Begins digest (first (part_of item)) w)
unfolding after_act
good_first digest late (Line text) w = good_first_line digest late (part_of_line text) text w
good_first digest late (Data contents) w = (tt, tt)
good_first digest late Blank w = (tt, tt)

-- ---- items

-- what an item gives fits the workspace after the end of the open commit, and leaves the parser in
-- step with it
StaysInStep : (List ℕ → List ℕ) → Workspace → Parsed → Type 0
StaysInStep digest before given =
    (w : Workspace) → closed_where digest given.done.ends_commit before ≡ Ok w
    → Fits given.done.act w × IfOk (after_act digest given.done.act w)
    (λ effect. IsAtStage given.next effect.workspace)

abbrev at_stage : Bool → Option ℕ → Stage → Open
at_stage late mark at =
    record { late = late; opened = opened_of at; mark = mark; left = terms_of at }

-- nothing ends
same_workspace : (digest : List ℕ → List ℕ) (P : Workspace → Type 0) (ends : Bool)
    (before w : Workspace) → ends ≡ false → closed_where digest ends before ≡ Ok w → P before → P w
same_workspace digest P false before w going closed is =
    let same : before ≡ w = cc in subst P same is
same_workspace digest P true before w going closed is = no_part (sym going)

-- what a part of the open command gives
within : (digest : List ℕ → List ℕ) (at : Stage) (late : Bool) (mark : Option ℕ) (item : Item)
    (left : List Term) → fit (part_of item) (terms_of at) ≡ Stands left → (before : Workspace)
    → IsOpenAt at before
    → IfOk (inner_effect (opened_of at) mark (part_of item) item) (λ given. (w : Workspace)
    → closed_where digest (is_commit (opened_of at) && is_empty left) before ≡ Ok w
    → Goes digest (next (part_of item) at) w given)
within digest at late mark (Line text) left is before there =
    let taken = part_of_line text in
    let line = line_part text in
    let stays : is_commit (opened_of at) && is_empty left ≡ false =
    rw (moves at taken left is).terms (goes_within at taken (λ blank. subst IsLine blank line)) in
    with_ok (Goes digest (next taken at) before) (λ given. (w : Workspace)
    → closed_where digest (is_commit (opened_of at) && is_empty left) before ≡ Ok w
    → Goes digest (next taken at) w given)
    (line_effect (opened_of at) mark taken text) (good_line digest at taken left is line mark text before there)
    (λ given goes w closed. same_workspace digest (λ w. Goes digest (next taken at) w given)
    (is_commit (opened_of at) && is_empty left) before w stays closed goes)
within digest at late mark (Data contents) left is before there = λ w closed.
    let stays : is_commit (opened_of at) && is_empty left ≡ false =
    rw (moves at part.Data left is).terms (goes_within at part.Data (λ blank. cc)) in
    same_workspace digest (λ w. Goes digest (next part.Data at) w
    (record { mark = None; act = data_act (opened_of at) mark contents }))
    (is_commit (opened_of at) && is_empty left) before w stays closed
    (good_data digest at left is mark contents before there)
within digest at late mark Blank left is before there = λ w closed. good_blank digest w

by_fit : (digest : List ℕ → List ℕ) (at : Stage) (late : Bool) (mark : Option ℕ) (item : Item)
    (before : Workspace) → IsOpenAt at before → (place : Fit)
    → fit (part_of item) (terms_of at) ≡ place
    → IfOk (step_by (at_stage late mark at) (part_of item) item place) (StaysInStep digest before)
unfolding StaysInStep
by_fit digest at late mark item before there Misses is = tt
by_fit digest at late mark item before there Ends is =
    begin (production_of (part_of item)) refl
  where
    opened_well : (terms : List Term) → production_of (part_of item) ≡ Some terms
        → (r : Result Act TextFault) → IfOk r (λ act. (w : Workspace)
        → Begins digest (first (part_of item)) w act)
        → IfOk (opens (at_stage late mark at) (part_of item) terms r) (StaysInStep digest before)
    opened_well terms some (Ok act) goes = λ w closed. (
      (goes w).0,
      with_ok (λ effect. IsOpenAt (first (part_of item)) effect.workspace)
          (λ effect. IsAtStage (record {
            late = late || not (is_early (part_of item));
            opened = opened_by (part_of item);
            mark = None;
            left = terms;
          }) effect.workspace) (after_act digest act w) (goes w).1
          (λ effect is_open. record {
            stage = first (part_of item);
            kind = first_kind (part_of item);
            terms = first_terms (part_of item) terms some;
            there = is_open;
          }),
    )
    opened_well terms some (Err e) goes = tt

    begin : (terms : Option (List Term)) → production_of (part_of item) ≡ terms
        → IfOk (step_outside (at_stage late mark at) terms (part_of item) item)
        (StaysInStep digest before)
    begin None none = tt
    begin (Some terms) some =
        opened_well terms some (first_act late (part_of item) item)
        (for_all (first_act late (part_of item) item) (good_first digest late item))
      where
        for_all : (r : Result Act TextFault)
            → ((w : Workspace) → IfOk r (Begins digest (first (part_of item)) w))
            → IfOk r (λ act. (w : Workspace) → Begins digest (first (part_of item)) w act)
        for_all (Ok act) each = each
        for_all (Err e) each = tt
by_fit digest at late mark item before there (Stands left) is =
    went (inner_effect (opened_of at) mark (part_of item) item)
    (within digest at late mark item left is before there)
  where
    went : (r : Result Given TextFault) → IfOk r (λ given. (w : Workspace)
        → closed_where digest (is_commit (opened_of at) && is_empty left) before ≡ Ok w
        → Goes digest (next (part_of item) at) w given)
        → IfOk (goes_on (at_stage late mark at) (part_of item) left r) (StaysInStep digest before)
    went (Ok given) goes = λ w closed. (
      (goes w closed).0,
      with_ok (λ effect. IsOpenAt (next (part_of item) at) effect.workspace)
          (λ effect. IsAtStage (record {
            late = late;
            opened = opened_after (part_of item) (opened_of at);
            mark = given.mark;
            left = left;
          }) effect.workspace) (after_act digest given.act w) (goes w closed).1
          (λ effect is_open. record {
            stage = next (part_of item) at;
            kind = (moves at (part_of item) left is).kind;
            terms = (moves at (part_of item) left is).terms;
            there = is_open;
          }),
    )
    went (Err e) goes = tt

stays : (digest : List ℕ → List ℕ) (now : Open) (item : Item) (before : Workspace)
    → IsAtStage now before → IfOk (parsed now item) (StaysInStep digest before)
unfolding parsed
stays digest now item before at =
    subst (λ (command : Open). IfOk (step_by command (part_of item) item (fit (part_of item) command.left))
    (StaysInStep digest before)) (sym is)
    (by_fit digest at.stage now.late now.mark item before at.there
    (fit (part_of item) (terms_of at.stage)) refl)
  where
    is : now ≡ at_stage now.late now.mark at.stage
    is = rw (at.kind, at.terms) refl

-- ---- the laws

pub new_in_step : (repository : Repository) → IsInStep (begun (opened_on repository))
new_in_step repository = record { stage = stage.Top; kind = refl; terms = refl; there = tt }

pub act_fits : (digest : List ℕ → List ℕ) (now : Running) (item : Item) (done : Done)
    (w : Workspace) → IsInStep now → done_by now.parsing item ≡ Ok done
    → closed_where digest done.ends_commit now.workspace ≡ Ok w → Fits done.act w
unfolding StaysInStep
act_fits digest now item done w = by_parsing now.parsing
  where
    by_step : (r : Result Parsed TextFault) → IfOk r (StaysInStep digest now.workspace)
        → done_of r ≡ Ok done → closed_where digest done.ends_commit now.workspace ≡ Ok w
        → Fits done.act w
    by_step (Ok given) in_step same closed =
        let is : given.done ≡ done = cc in
        subst (λ (d : Done). Fits d.act w) is
        (in_step w (subst (λ (d : Done). closed_where digest d.ends_commit now.workspace ≡ Ok w)
        (sym is) closed)).0
    by_step (Err e) in_step same closed = let no = same in cc

    by_parsing : (parsing : Parsing) → IfOk parsing (λ opened. IsAtStage opened now.workspace)
        → done_by parsing item ≡ Ok done
        → closed_where digest done.ends_commit now.workspace ≡ Ok w → Fits done.act w
    by_parsing (Ok command) at same closed =
        by_step (parsed command item) (stays digest command item now.workspace at) same closed
    by_parsing (Err e) at same closed = let no = same in cc

-- what an item leaves of a running stream, by its parser
abbrev going : (List ℕ → List ℕ) → Workspace → Result Done TextFault → Parsing → Result Step Fault
going digest before given left = and_then (text_first given) (done_step digest before left)

abbrev LeavesInStep : Step → Type 0
LeavesInStep left = IsInStep left.running

going_in_step : (digest : List ℕ → List ℕ) (before : Workspace) (r : Result Parsed TextFault)
    → IfOk r (StaysInStep digest before)
    → IfOk (going digest before (done_of r) (next_of r)) LeavesInStep
unfolding StaysInStep
going_in_step digest before (Err e) in_step = tt
going_in_step digest before (Ok given) in_step =
    by_end (closed_where digest given.done.ends_commit before) refl
  where
    by_end : (end : Result Workspace Fault)
        → closed_where digest given.done.ends_commit before ≡ end
        → IfOk (and_then end (λ w. and_then (after_act digest given.done.act w)
        (λ effect. Ok (stepped effect (Ok given.next) (is_finish given.done.act))))) LeavesInStep
    by_end (Ok w) closed =
        then_good (λ (effect : Effect). IsAtStage given.next effect.workspace) LeavesInStep
        (after_act digest given.done.act w) _ (in_step w closed).1 (λ effect at. at)
    by_end (Err e) closed = tt

taken_in_step : (digest : List ℕ → List ℕ) (before : Workspace) (parsing : Parsing) (item : Item)
    → IfOk parsing (λ opened. IsAtStage opened before)
    → IfOk (going digest before (done_by parsing item) (after parsing item)) LeavesInStep
taken_in_step digest before (Ok command) item at =
    going_in_step digest before (parsed command item) (stays digest command item before at)
taken_in_step digest before (Err e) item at = tt

pub item_in_step : (digest : List ℕ → List ℕ) (now : Running) (item : Item) (left : Step)
    → IsInStep now → step digest now item ≡ Ok left → IsInStep left.running
item_in_step digest now item left at =
    step_leaves LeavesInStep digest now item left at
    (taken_in_step digest now.workspace now.parsing item at)
