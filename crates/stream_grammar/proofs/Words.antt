-- What words say is no fault of an item's place.
use Rattle.std.proofs.Common.{◌==◌, ◌||◌, ◌&&◌, ◌++◌, nat_le, length, codes, ℕ, Bool, true, false, List, Option, Some, None, Result, Ok, Err}
use Rattle.std.specs.Str.{bytes_eq}
use Rattle.git_names.specs.StoredName.{names_ref}
use Rattle.hex.specs.declared.error.FromHexError.{FromHexError}
use Rattle.hex.specs.Hex.{decode_sized}
use Rattle.git_model.specs.declared.file_mode.FileMode.{FileMode}
use Rattle.git_model.specs.declared.file_mode.FileMode.TheVariants as mode
use Rattle.git_model.specs.IdentReading.{BadIdent, BadIdentity, BadDate, read_ident}
use Rattle.git_paths.specs.declared.fault.Fault.{Fault as PathFault}
use Rattle.git_paths.specs.declared.fault.Fault.TheVariants as path_fault
use Rattle.git_paths.specs.declared.place.Place.TheVariants.{Source, Last}
use Rattle.git_paths.specs.Reading.{path_at}
use Rattle.numerals.specs.Numbers.{number_of}
use Rattle.stream_lex.specs.Items.{Item, Line, Data, Blank}
use Rattle.stream_grammar.specs.declared.fault.Fault.{Fault}
use Rattle.stream_grammar.specs.declared.feature.OptionCommand.{OptionCommand}
use Rattle.stream_grammar.specs.declared.feature.OptionCommand.TheVariants as option
use Rattle.stream_grammar.specs.declared.part.OpeningLine.{OpeningLine}
use Rattle.stream_grammar.specs.declared.part.OpeningLine.TheVariants as opening
use Rattle.stream_grammar.specs.declared.part.ReplyLine.{ReplyLine}
use Rattle.stream_grammar.specs.declared.part.ReplyLine.TheVariants as reply
use Rattle.stream_grammar.specs.declared.part.ControlLine.{ControlLine}
use Rattle.stream_grammar.specs.declared.part.ControlLine.TheVariants as control
use Rattle.stream_grammar.specs.declared.part.HeaderLine.{HeaderLine}
use Rattle.stream_grammar.specs.declared.part.HeaderLine.TheVariants as header
use Rattle.stream_grammar.specs.declared.part.CommitIshLine.{CommitIshLine}
use Rattle.stream_grammar.specs.declared.part.CommitIshLine.TheVariants as commit_ish
use Rattle.stream_grammar.specs.declared.part.ChangeLine.{ChangeLine}
use Rattle.stream_grammar.specs.declared.part.ChangeLine.TheVariants as change
use Rattle.stream_grammar.specs.declared.part.Part.{Part}
use Rattle.stream_grammar.specs.declared.part.Part.TheVariants as part
use Rattle.stream_grammar.specs.declared.stage.Opened.{Opened}
use Rattle.stream_grammar.specs.Texts.{read, argument, after_space, after_colon, first_word, required, numbered, marked, mark_of, named, referred, dataref_of}
use Rattle.stream_grammar.specs.Names.{ref_of, ident_judged, ident_of, commit_at, commit_ish_of}
use Rattle.stream_grammar.specs.Changes.{mode_of, mode_inline, path_read, last_path, paths_of, object_and_path, modified, inline_path, modified_inline, is_encoding, encoding_of, is_quoted}
use Rattle.stream_grammar.specs.Features.{feature_of, in_time, quiet_of, head_of, option_of}
use Rattle.stream_grammar.specs.Acts.{Act, Effect, brings}
use Rattle.stream_grammar.specs.Lines.{header_effect, commit_ish_effect, change_act, ls_act, reply_act}
use Rattle.stream_grammar.specs.Lines.{line_effect, inner_effect}
use Rattle.stream_grammar.specs.Lines.{option_act, control_act, opening_act, first_line_act, first_act}
use Rattle.stream_grammar.specs.Whole.{FindsPlace}
use Rattle.stream_grammar.proofs.Filled.{by_test}

found-read : {A B : Type 0} (reading : Result A Fault) (next : A → Result B Fault)
    → FindsPlace reading → ((value : A) → FindsPlace (next value)) → FindsPlace (read reading next)
found-read (Ok value) next found later = later value
found-read (Err e) next found later = found

-- an act for each value that is read
found-then : {A B : Type 0} (reading : Result A Fault) (value_of : A → B) → FindsPlace reading
    → FindsPlace (read reading (λ value. Ok (value_of value)))
found-then (Ok value) value_of found = tt
found-then (Err e) value_of found = found

found-numbered : (number : Option ℕ) → FindsPlace (numbered number)
unfolding numbered
found-numbered None = ((λ same. cc), (λ same. cc))
found-numbered (Some number) =
    by_test (number == 0)
    (λ is. rw is ((λ same. cc), (λ same. cc)))
    (λ other. rw other tt)

found-marked : (digits : Option (List ℕ)) → FindsPlace (marked digits)
found-marked None = ((λ same. cc), (λ same. cc))
found-marked (Some digits) = found-numbered (number_of digits)

found-mark_of : (text : List ℕ) → FindsPlace (mark_of text)
found-mark_of text = found-marked (after_colon text)

found-named : (id : Result (List ℕ) FromHexError) → FindsPlace (named id)
found-named (Ok id) = tt
found-named (Err e) = ((λ same. cc), (λ same. cc))

found-referred : (text : List ℕ) (digits : Option (List ℕ)) → FindsPlace (referred text digits)
found-referred text None = found-named (decode_sized text 20)
found-referred text (Some digits) = found-then _ _ (found-numbered (number_of digits))

found-dataref_of : (text : List ℕ) → FindsPlace (dataref_of text)
found-dataref_of text = found-referred text (after_colon text)

found-commit_at : (text : List ℕ) (digits : Option (List ℕ)) → FindsPlace (commit_at text digits)
found-commit_at text None = tt
found-commit_at text (Some digits) = found-then _ _ (found-numbered (number_of digits))

found-commit_ish_of : (text : List ℕ) → FindsPlace (commit_ish_of text)
found-commit_ish_of text = found-commit_at text (after_colon text)

found-required : {A : Type 0} (value : Option A) → FindsPlace (required value)
found-required None = ((λ same. cc), (λ same. cc))
found-required (Some value) = tt

found-ref_of : (text : List ℕ) → FindsPlace (ref_of text)
unfolding ref_of
found-ref_of text =
    by_test (names_ref text)
    (λ named. by_test (nat_le (length text) 1024)
    (λ short. rw (named, short) tt)
    (λ long. rw (named, long) ((λ same. cc), (λ same. cc))))
    (λ unnamed. rw unnamed ((λ same. cc), (λ same. cc)))

found-head_of : (text : List ℕ) → FindsPlace (head_of text)
unfolding head_of
found-head_of text =
    by_test (bytes_eq text (codes "HEAD"))
    (λ is. rw is ((λ same. cc), (λ same. cc)))
    (λ other. rw other (found-ref_of text))

found-ident_judged : (ident : Result (List ℕ) BadIdent) → FindsPlace (ident_judged ident)
found-ident_judged (Ok ident) = tt
found-ident_judged (Err BadIdentity) = ((λ same. cc), (λ same. cc))
found-ident_judged (Err BadDate) = ((λ same. cc), (λ same. cc))

found-ident_of : (text : List ℕ) → FindsPlace (ident_of text)
found-ident_of text = found-ident_judged (read_ident text)

found-path_read : {A : Type 0} (reading : Result A PathFault) → FindsPlace (path_read reading)
found-path_read (Ok found) = tt
found-path_read (Err path_fault.BadPath) = ((λ same. cc), (λ same. cc))
found-path_read (Err path_fault.Limit) = ((λ same. cc), (λ same. cc))
found-path_read (Err path_fault.Memory) = ((λ same. cc), (λ same. cc))

found-last_path : (text : List ℕ) → FindsPlace (last_path text)
found-last_path text = found-then _ _ (found-path_read (path_at Last text))

found-paths_of : (text : List ℕ) → FindsPlace (paths_of text)
found-paths_of text =
    found-read _ _ (found-path_read (path_at Source text))
    (λ source. found-then _ _ (found-last_path source.1))

found-object_and_path : (text : List ℕ) → FindsPlace (object_and_path text)
found-object_and_path text =
    found-read _ _ (found-dataref_of (first_word text)) (λ object.
    found-read _ _ (found-required (after_space text)) (λ rest.
    found-then _ _ (found-last_path rest)))

found-mode_of : (word : List ℕ) → FindsPlace (mode_of word)
unfolding mode_of
found-mode_of word =
    by_test (bytes_eq word (codes "100644") || bytes_eq word (codes "644"))
    (λ is. rw is tt) (λ other. rw other (
    by_test (bytes_eq word (codes "100755") || bytes_eq word (codes "755"))
    (λ is. rw is tt) (λ other. rw other (
    by_test (bytes_eq word (codes "120000")) (λ is. rw is tt) (λ other. rw other (
    by_test (bytes_eq word (codes "160000")) (λ is. rw is tt) (λ other. rw other (
    by_test (bytes_eq word (codes "040000")) (λ is. rw is tt)
    (λ other. rw other ((λ same. cc), (λ same. cc)))))))))))

found-mode_inline : (file_mode : FileMode) → FindsPlace (mode_inline file_mode)
found-mode_inline mode.Regular = tt
found-mode_inline mode.Executable = tt
found-mode_inline mode.Symlink = tt
found-mode_inline mode.Gitlink = ((λ same. cc), (λ same. cc))
found-mode_inline mode.Directory = ((λ same. cc), (λ same. cc))

found-modified : (text : List ℕ) → FindsPlace (modified text)
found-modified text =
    found-read _ _ (found-mode_of (first_word text)) (λ file_mode.
    found-read _ _ (found-required (after_space text)) (λ rest.
    found-then _ _ (found-object_and_path rest)))

found-inline_path : (text : List ℕ) → FindsPlace (inline_path text)
found-inline_path text =
    found-read _ _ (found-required (after_space text)) (λ rest. found-last_path rest)

found-modified_inline : (text : List ℕ) → FindsPlace (modified_inline text)
found-modified_inline text =
    found-read _ _ (found-mode_of (first_word text)) (λ file_mode.
    found-read _ _ (found-required (after_space text)) (λ rest.
    found-read _ _ (found-mode_inline file_mode) (λ kept.
    found-then _ _ (found-inline_path rest))))

found-encoding_of : (text : List ℕ) → FindsPlace (encoding_of text)
found-encoding_of text =
    by_test (is_encoding text) (λ is. rw is tt) (λ empty. rw empty ((λ same. cc), (λ same. cc)))

found-in_time : (late : Bool) → FindsPlace (in_time late)
unfolding in_time
found-in_time true = ((λ same. cc), (λ same. cc))
found-in_time false = tt

found-quiet_of : (words : List ℕ) → FindsPlace (quiet_of words)
unfolding quiet_of
found-quiet_of words =
    by_test (bytes_eq words (codes "git quiet")) (λ is. rw is tt)
    (λ other. rw other ((λ same. cc), (λ same. cc)))

found-feature_of : (word : List ℕ) → FindsPlace (feature_of word)
unfolding feature_of
found-feature_of word =
    by_test (bytes_eq word (codes "done")) (λ is. rw is tt) (λ other. rw other (
    by_test (bytes_eq word (codes "force")) (λ is. rw is tt) (λ other. rw other (
    by_test (bytes_eq word (codes "get-mark")) (λ is. rw is tt) (λ other. rw other (
    by_test (bytes_eq word (codes "cat-blob")) (λ is. rw is tt) (λ other. rw other (
    by_test (bytes_eq word (codes "ls")) (λ is. rw is tt) (λ other. rw other (
    by_test (bytes_eq word (codes "date-format=raw")) (λ is. rw is tt)
    (λ other. rw other ((λ same. cc), (λ same. cc)))))))))))))

found-header_effect : (mark : Option ℕ) (line : HeaderLine) (text : List ℕ)
    → FindsPlace (header_effect mark line text)
found-header_effect mark header.Mark text = found-then _ _ (found-mark_of text)
found-header_effect mark header.OriginalOid text = tt
found-header_effect mark header.Author text = found-then _ _ (found-ident_of text)
found-header_effect mark header.Committer text = found-then _ _ (found-ident_of text)
found-header_effect mark header.Encoding text = found-then _ _ (found-encoding_of text)
found-header_effect mark header.Tagger text = found-then _ _ (found-ident_of text)

found-commit_ish_effect : (now : Opened) (mark : Option ℕ) (line : CommitIshLine) (text : List ℕ)
    → FindsPlace (commit_ish_effect now mark line text)
found-commit_ish_effect now mark commit_ish.From text = found-then _ _ (found-commit_ish_of text)
found-commit_ish_effect now mark commit_ish.Merge text = found-then _ _ (found-commit_ish_of text)
found-commit_ish_effect now mark commit_ish.To text = found-then _ _ (found-commit_ish_of text)

found-change_act : (line : ChangeLine) (text : List ℕ) → FindsPlace (change_act line text)
found-change_act change.Modify text = found-then _ _ (found-modified text)
found-change_act change.ModifyInline text = found-then _ _ (found-modified_inline text)
found-change_act change.Delete text = found-then _ _ (found-last_path text)
found-change_act change.Copy text = found-then _ _ (found-paths_of text)
found-change_act change.Rename text = found-then _ _ (found-paths_of text)
found-change_act change.DeleteAll text = tt

found-ls_act : (path_alone : Bool) (text : List ℕ) → FindsPlace (ls_act path_alone text)
found-ls_act true text = found-then _ _ (found-last_path text)
found-ls_act false text = found-then _ _ (found-object_and_path text)

found-reply_act : (inside : Bool) (line : ReplyLine) (text : List ℕ)
    → FindsPlace (reply_act inside line text)
found-reply_act inside reply.Progress text = tt
found-reply_act inside reply.GetMark text = found-then _ _ (found-mark_of (argument text))
found-reply_act inside reply.CatBlob text = found-then _ _ (found-dataref_of (argument text))
found-reply_act inside reply.Ls text =
    found-ls_act (inside && is_quoted (argument text)) (argument text)

-- what an act brings
found-brings : (mark : Option ℕ) (act : Result Act Fault) → FindsPlace act
    → FindsPlace (read act (λ act. brings mark act))
found-brings mark act found =
    found-then {A = Act} {B = Effect} act (λ act. record { mark = mark; act = act }) found

found-line_effect : (now : Opened) (mark : Option ℕ) (taken : Part) (text : List ℕ)
    → FindsPlace (line_effect now mark taken text)
found-line_effect now mark (part.Header line) text = found-header_effect mark line (argument text)
found-line_effect now mark (part.CommitIsh line) text =
    found-commit_ish_effect now mark line (argument text)
found-line_effect now mark (part.Change line) text =
    found-brings mark (change_act line (argument text)) (found-change_act line (argument text))
found-line_effect now mark (part.Reply line) text =
    found-brings mark (reply_act true line text) (found-reply_act true line text)
found-line_effect now mark _ text = tt

-- What an item brings in the open command.
pub found-inner_effect : (now : Opened) (mark : Option ℕ) (part : Part) (item : Item)
    → FindsPlace (inner_effect now mark part item)
found-inner_effect now mark part (Line text) = found-line_effect now mark part text
found-inner_effect now mark part (Data contents) = tt
found-inner_effect now mark part Blank = tt

found-option_act : (late : Bool) (whose : OptionCommand) (words : List ℕ)
    → FindsPlace (option_act late whose words)
found-option_act late option.Git words =
    found-read _ _ (found-in_time late) (λ u. found-then _ _ (found-quiet_of words))
found-option_act late option.Head words =
    found-read _ _ (found-in_time late)
    (λ u. found-then _ _ (found-head_of (argument (argument words))))
found-option_act late option.Other words = tt

found-control_act : (late : Bool) (line : ControlLine) (text : List ℕ)
    → FindsPlace (control_act late line text)
found-control_act late control.Checkpoint text = tt
found-control_act late control.Done text = tt
found-control_act late control.Feature text =
    found-read _ _ (found-in_time late) (λ u. found-then _ _ (found-feature_of text))
found-control_act late control.OptionCommand text = found-option_act late (option_of text) text

found-opening_act : (line : OpeningLine) (text : List ℕ) → FindsPlace (opening_act line text)
found-opening_act opening.Blob text = tt
found-opening_act opening.Commit text = found-then _ _ (found-ref_of text)
found-opening_act opening.Tag text = found-then _ _ (found-ref_of (codes "refs/tags/" ++ text))
found-opening_act opening.Reset text = found-then _ _ (found-ref_of text)
found-opening_act opening.Alias text = tt

found-first_line_act : (late : Bool) (command : Part) (text : List ℕ)
    → FindsPlace (first_line_act late command text)
found-first_line_act late (part.Opening line) text = found-opening_act line (argument text)
found-first_line_act late (part.Reply line) text = found-reply_act false line text
found-first_line_act late (part.Control line) text = found-control_act late line (argument text)
found-first_line_act late _ text = tt

-- What an item asks for that begins a command.
pub found-first_act : (late : Bool) (part : Part) (item : Item)
    → FindsPlace (first_act late part item)
found-first_act late part (Line text) = found-first_line_act late part text
found-first_act late part (Data contents) = tt
found-first_act late part Blank = tt
