-- What an item asks for is well formed.
use Rattle.std.proofs.Common.{◌≡◌, ◌≢◌, ◌==◌, ◌&&◌, ◌++◌, ◌<◌, ◌≤◌, nat_le, nat_lt, not, length, codes, ℕ, Bool, true, false, List, [], Option, Some, None, Result, Ok, Err, refl, sym, ap, ◌∙◌, ◌*◌, subst, inl, inr, arith}
use Rattle.std.specs.Prelude.{IfOk}
use Rattle.std.specs.Result.{result_unwrap_or}
use Rattle.std.specs.List.{list_all}
use Rattle.std.specs.Str.{bytes_eq}
use Rattle.std.proofs.lemmas.Bool.{and_parts, leb-true, ltb-true, false≢true}
use Rattle.std.proofs.lemmas.Slice.Eq.{bytes_eq-Decides}
use Rattle.std.proofs.lemmas.List.{get_or_default}
use Rattle.hex.specs.declared.error.FromHexError.{FromHexError}
use Rattle.hex.specs.Hex.{decode_of, decode_sized}
use Rattle.hex.proofs.HexLemmas.{decode_of-ok, decode_sized-ok, decode_sized-twice}
use Rattle.git_model.specs.Commit.{IsEncoding}
use Rattle.git_model.specs.GoodRepository.{IsShortRefName}
use Rattle.git_model.specs.Ident.{IsWrittenIdent}
use Rattle.git_model.specs.IdentReading.{BadIdent, BadIdentity, BadDate, read_ident}
use Rattle.git_model.specs.ObjectName.{IsObjectName}
use Rattle.git_model.specs.declared.file_mode.FileMode.{FileMode}
use Rattle.git_model.specs.declared.file_mode.FileMode.TheVariants as mode
use Rattle.git_model.proofs.IdentLaws.{read_ident-Ok_only, written_ident-IsWritten}
use Rattle.git_model.proofs.OneLine.{all_from}
use Rattle.git_names.specs.StoredName.{names_ref}
use Rattle.git_names.proofs.StoredNames.{names_ref-yes}
use Rattle.git_paths.specs.declared.fault.Fault.{Fault as PathFault}
use Rattle.git_paths.specs.declared.place.Place.{Place}
use Rattle.git_paths.specs.declared.place.Place.TheVariants.{Source, Last}
use Rattle.git_paths.specs.Paths.{components_of, is_path, is_within_limits}
use Rattle.git_paths.specs.Reading.{Parts, bytes_at, judged, path_and_rest, path_at, path_within_limits}
use Rattle.git_paths.proofs.Decided.{IsPath-from_test, IsWithinLimits-from_test}
use Rattle.stream_lex.specs.Items.{Item, Line, Data, Blank}
use Rattle.stream_grammar.specs.declared.fault.Fault.{Fault}
use Rattle.stream_grammar.specs.declared.feature.OptionCommand.{OptionCommand}
use Rattle.stream_grammar.specs.declared.feature.OptionCommand.TheVariants as option
use Rattle.stream_grammar.specs.declared.part.OpeningLine.{OpeningLine}
use Rattle.stream_grammar.specs.declared.part.OpeningLine.TheVariants as opening
use Rattle.stream_grammar.specs.declared.part.ReplyLine.{ReplyLine}
use Rattle.stream_grammar.specs.declared.part.ReplyLine.TheVariants as reply
use Rattle.stream_grammar.specs.declared.part.ControlLine.{ControlLine}
use Rattle.stream_grammar.specs.declared.part.ControlLine.TheVariants as control
use Rattle.stream_grammar.specs.declared.part.HeaderLine.{HeaderLine}
use Rattle.stream_grammar.specs.declared.part.HeaderLine.TheVariants as header
use Rattle.stream_grammar.specs.declared.part.CommitIshLine.{CommitIshLine}
use Rattle.stream_grammar.specs.declared.part.CommitIshLine.TheVariants as commit_ish
use Rattle.stream_grammar.specs.declared.part.ChangeLine.{ChangeLine}
use Rattle.stream_grammar.specs.declared.part.ChangeLine.TheVariants as change
use Rattle.stream_grammar.specs.declared.part.Part.{Part}
use Rattle.stream_grammar.specs.declared.part.Part.TheVariants as part
use Rattle.stream_grammar.specs.declared.stage.Opened.{Opened}
use Rattle.stream_grammar.specs.declared.stage.Opened.TheVariants as opened
use Rattle.stream_grammar.specs.declared.data_ref.DataRef.{DataRef}
use Rattle.stream_grammar.specs.Texts.{read, argument, after_space, after_colon, first_word, required, idnum_of, mark_of, named, referred, dataref_of}
use Rattle.stream_grammar.specs.Names.{CommitIsh, ref_of, tag_ref_of, ident_judged, ident_of, commit_ish_of}
use Rattle.stream_grammar.specs.Changes.{Path, mode_of, mode_inline, path_read, last_path, paths_of, object_and_path, modified, inline_path, modified_inline, is_encoding, encoding_of, is_quoted}
use Rattle.stream_grammar.specs.Features.{feature_of, in_time, quiet_of, head_of, option_of}
use Rattle.stream_grammar.specs.Acts.{Act, Effect, brings}
use Rattle.stream_grammar.specs.Grammar.{Fit, Stands, Ends, Misses, Term, production_of, fit}
use Rattle.stream_grammar.specs.Parts.{part_of}
use Rattle.stream_grammar.specs.Lines.{from_act, alias_act, data_act}
use Rattle.stream_grammar.specs.Lines.{header_effect, commit_ish_effect, change_act, ls_act, reply_act}
use Rattle.stream_grammar.specs.Lines.{line_effect, inner_effect}
use Rattle.stream_grammar.specs.Lines.{option_act, control_act, opening_act, first_line_act, first_act}
use Rattle.stream_grammar.specs.Commands.{Open, Done, Step, Parsing, step, step_by, step_outside, goes_on, opens, done_of, done_by}
use Rattle.stream_grammar.specs.WellFormed.{NamesShortRef, IsTagRef, IsTreePath, IsReferred, HoldsContents, IsWellFormed}
use Rattle.stream_grammar.proofs.Filled.{by_test}

-- ---- what is read

-- what is read, and then what is made of it
good_read : {A B : Type 0} (P : A → Type 0) (Q : B → Type 0) (reading : Result A Fault)
    (next : A → Result B Fault)
    → IfOk reading P → ((value : A) → P value → IfOk (next value) Q) → IfOk (read reading next) Q
good_read P Q (Ok value) next good later = later value good
good_read P Q (Err e) next good later = tt

any_read : {A B : Type 0} (Q : B → Type 0) (reading : Result A Fault) (next : A → Result B Fault)
    → ((value : A) → IfOk (next value) Q) → IfOk (read reading next) Q
any_read Q (Ok value) next later = later value
any_read Q (Err e) next later = tt

-- ---- refs and idents

short_of : (text : List ℕ) → nat_le (length text) 1024 ≡ true → length text ≤ 1024
short_of text h = leb-true (length text) 1024 h

good_ref : (text : List ℕ) → IfOk (ref_of text) (λ ref. NamesShortRef ref × (ref ≡ text))
unfolding ref_of
good_ref text =
    by_test (names_ref text)
    (λ named. by_test (nat_le (length text) 1024)
    (λ short. rw (named, short)
    (record { name = names_ref-yes text named; short = short_of text short }, refl))
    (λ long. rw (named, long) tt))
    (λ unnamed. rw unnamed tt)

-- what is not `HEAD` is a ref name
no_head : (ref : List ℕ) → NamesShortRef ref → ref ≢ codes "HEAD" → IsShortRefName ref
no_head ref h other = elim h.name [
  | inl name ↦ record { name = name; short = h.short }
  | inr head ↦ absurd (other head)
]

no_tag_head : (rest : List ℕ) → codes "refs/tags/" ++ rest ≢ codes "HEAD"
no_tag_head rest e = cc

good_tag_ref : (name : List ℕ) → IfOk (tag_ref_of name) IsTagRef
good_tag_ref name =
    let text = codes "refs/tags/" ++ name in
    by_ok (ref_of text) (good_ref text)
  where
    by_ok : (r : Result (List ℕ) Fault)
        → IfOk r (λ ref. NamesShortRef ref × (ref ≡ codes "refs/tags/" ++ name)) → IfOk r IsTagRef
    by_ok (Ok ref) h = record {
      name = no_head ref h.0 (λ e. no_tag_head name (sym h.1 ∙ e));
      tag = (name, h.1);
    }
    by_ok (Err e) h = tt

good_head : (text : List ℕ) → IfOk (head_of text) IsShortRefName
unfolding head_of
good_head text =
    by_test (bytes_eq text (codes "HEAD"))
    (λ is. rw is tt)
    (λ other. rw other (by_ok other (ref_of text) (good_ref text)))
  where
    by_ok : bytes_eq text (codes "HEAD") ≡ false → (r : Result (List ℕ) Fault)
        → IfOk r (λ ref. NamesShortRef ref × (ref ≡ text)) → IfOk r IsShortRefName
    by_ok other (Ok ref) h = no_head ref h.0
        (λ e. false≢true (sym other ∙ (bytes_eq-Decides text (codes "HEAD")).1 (sym h.1 ∙ e)))
    by_ok other (Err e) h = tt

good_ident : (text : List ℕ) → IfOk (ident_of text) IsWrittenIdent
good_ident text = judged_so (read_ident text) refl
  where
    judged_so : (r : Result (List ℕ) BadIdent) → read_ident text ≡ r
        → IfOk (ident_judged r) IsWrittenIdent
    judged_so (Ok ident) e =
        let only = read_ident-Ok_only text ident e in
        subst IsWrittenIdent (sym only.1) (written_ident-IsWritten text only.0)
    judged_so (Err BadIdentity) e = tt
    judged_so (Err BadDate) e = tt

good_encoding : (text : List ℕ) → IfOk (encoding_of text) IsEncoding
good_encoding text =
    by_test (is_encoding text)
    (λ is. let both = and_parts (nat_lt 0 (length text)) (list_all (λ byte. not (byte == 10)) text) is in
    rw is (record {
      not_empty = λ e. none (ltb-true 0 (length text) both.0) e;
      one_line = all_from (λ byte. not (byte == 10)) refl text both.1;
    }))
    (λ other. rw other tt)
  where
    none : 0 < length text → text ≡ [] → ⊥
    none some e = let empty : length text ≡ 0 = ap length e in omega arith

-- ---- paths and datarefs

good_path_read : (bytes : List ℕ) → IfOk (path_within_limits bytes) IsTreePath
unfolding path_within_limits
good_path_read bytes =
    by_test (is_path (components_of bytes))
    (λ is. by_test (is_within_limits (components_of bytes))
    (λ short. rw (is, short) (record {
      components = IsPath-from_test (components_of bytes) is;
      limits = IsWithinLimits-from_test (components_of bytes) short;
    }))
    (λ long. rw (is, long) tt))
    (λ none. rw none tt)

good_path_at : (place : Place) (text : List ℕ)
    → IfOk (path_read (path_at place text)) (λ found. IsTreePath found.0)
good_path_at place text = by_parts (bytes_at place text)
  where
    by_path : (r : Result Path PathFault) (rest : List ℕ) → IfOk r IsTreePath
        → IfOk (path_read (path_and_rest r rest)) (λ found. IsTreePath found.0)
    by_path (Ok path) rest h = h
    by_path (Err e) rest h = tt

    by_parts : (parts : Parts) → IfOk (path_read (judged parts)) (λ found. IsTreePath found.0)
    by_parts None = tt
    by_parts (Some (bytes, rest)) = by_path (path_within_limits bytes) rest (good_path_read bytes)

good_path : (text : List ℕ) → IfOk (last_path text) IsTreePath
good_path text =
    good_read (λ (found : Path × List ℕ). IsTreePath found.0) IsTreePath (path_read (path_at Last text))
    (λ found. Ok found.0) (good_path_at Last text) (λ found h. h)

good_paths : (text : List ℕ)
    → IfOk (paths_of text) (λ paths. IsTreePath paths.0 × IsTreePath paths.1)
good_paths text =
    good_read (λ (found : Path × List ℕ). IsTreePath found.0)
    (λ (paths : Path × Path). IsTreePath paths.0 × IsTreePath paths.1) (path_read (path_at Source text))
    (λ source. read (last_path source.1) (λ path. Ok (source.0, path)))
    (good_path_at Source text)
    (λ source h. good_read IsTreePath
    (λ (paths : Path × Path). IsTreePath paths.0 × IsTreePath paths.1) (last_path source.1)
    (λ path. Ok (source.0, path)) (good_path source.1) (λ path p. (h, p)))

-- what forty digits of a name decode to
name_of_digits : (text id : List ℕ) → decode_sized text 20 ≡ Ok id → IsObjectName id
name_of_digits text id e =
    let forty : length text ≡ 2 * 20 = decode_sized-ok text 20 id e in
    let whole : decode_of text ≡ Ok id = sym (decode_sized-twice text 20 forty) ∙ e in
    let parts = decode_of-ok text id whole in
    let two : length text ≡ 2 * length id = parts.2 in
    record {
      size = omega arith;
      bytes = λ k d lt. rw (get_or_default id k d 0 lt) (parts.3 k);
    }

good_dataref : (text : List ℕ) → IfOk (dataref_of text) IsReferred
good_dataref text = by_digits (after_colon text)
  where
    by_name : (r : Result (List ℕ) FromHexError) → decode_sized text 20 ≡ r → IfOk (named r) IsReferred
    by_name (Ok id) e = name_of_digits text id e
    by_name (Err fault) e = tt

    by_digits : (digits : Option (List ℕ)) → IfOk (referred text digits) IsReferred
    by_digits None = by_name (decode_sized text 20) refl
    by_digits (Some digits) = any_read IsReferred (idnum_of digits) _ (λ mark. tt)

abbrev IsPlaced : DataRef × Path → Type 0
IsPlaced file = IsReferred file.0 × IsTreePath file.1

good_object_and_path : (text : List ℕ) → IfOk (object_and_path text) IsPlaced
good_object_and_path text =
    good_read IsReferred IsPlaced (dataref_of (first_word text)) _ (good_dataref (first_word text))
    (λ object h. any_read IsPlaced (required (after_space text)) _
    (λ rest. good_read IsTreePath IsPlaced (last_path rest) _ (good_path rest) (λ path p. (h, p))))

good_modified : (text : List ℕ)
    → IfOk (modified text) (λ file. IsReferred file.1 × IsTreePath file.2)
good_modified text =
    let Q : FileMode × DataRef × Path → Type 0 = λ file. IsReferred file.1 × IsTreePath file.2 in
    any_read Q (mode_of (first_word text)) _ (λ file_mode.
    any_read Q (required (after_space text)) _ (λ rest.
    good_read IsPlaced Q (object_and_path rest) _ (good_object_and_path rest) (λ file h. h)))

abbrev IsInline : FileMode × Path → Type 0
IsInline file = HoldsContents file.0 × IsTreePath file.1

good_mode_inline : (file_mode : FileMode) → IfOk (mode_inline file_mode) HoldsContents
good_mode_inline mode.Regular = record { no_gitlink = λ e. cc; no_directory = λ e. cc }
good_mode_inline mode.Executable = record { no_gitlink = λ e. cc; no_directory = λ e. cc }
good_mode_inline mode.Symlink = record { no_gitlink = λ e. cc; no_directory = λ e. cc }
good_mode_inline mode.Gitlink = tt
good_mode_inline mode.Directory = tt

good_modified_inline : (text : List ℕ) → IfOk (modified_inline text) IsInline
good_modified_inline text =
    any_read IsInline (mode_of (first_word text)) _ (λ file_mode.
    any_read IsInline (required (after_space text)) _ (λ rest.
    good_read HoldsContents IsInline (mode_inline file_mode) _ (good_mode_inline file_mode) (λ kept h.
    good_read IsTreePath IsInline (inline_path rest) _ (good_inline_path rest)
    (λ path p. (h, p)))))
  where
    good_inline_path : (rest : List ℕ) → IfOk (inline_path rest) IsTreePath
    good_inline_path rest =
        any_read IsTreePath (required (after_space rest)) _ (λ text. good_path text)

-- ---- acts

good_change_act : (line : ChangeLine) (text : List ℕ) → IfOk (change_act line text) IsWellFormed
good_change_act change.Modify text =
    good_read _ IsWellFormed (modified text) _ (good_modified text) (λ file h. h)
good_change_act change.ModifyInline text =
    good_read _ IsWellFormed (modified_inline text) _ (good_modified_inline text) (λ file h. h)
good_change_act change.Delete text =
    good_read _ IsWellFormed (last_path text) _ (good_path text) (λ path h. h)
good_change_act change.Copy text =
    good_read _ IsWellFormed (paths_of text) _ (good_paths text) (λ paths h. h)
good_change_act change.Rename text =
    good_read _ IsWellFormed (paths_of text) _ (good_paths text) (λ paths h. h)
good_change_act change.DeleteAll text = tt

good_ls_act : (path_alone : Bool) (text : List ℕ) → IfOk (ls_act path_alone text) IsWellFormed
good_ls_act true text =
    good_read IsTreePath IsWellFormed (last_path text) _ (good_path text) (λ path h. h)
good_ls_act false text =
    good_read IsPlaced IsWellFormed (object_and_path text) _ (good_object_and_path text) (λ entry h. h)

good_reply_act : (inside : Bool) (line : ReplyLine) (text : List ℕ)
    → IfOk (reply_act inside line text) IsWellFormed
good_reply_act inside reply.Progress text = tt
good_reply_act inside reply.GetMark text =
    any_read IsWellFormed (mark_of (argument text)) _ (λ mark. tt)
good_reply_act inside reply.CatBlob text =
    good_read _ IsWellFormed (dataref_of (argument text)) _ (good_dataref (argument text)) (λ object h. h)
good_reply_act inside reply.Ls text =
    good_ls_act (inside && is_quoted (argument text)) (argument text)

abbrev IsGood : Effect → Type 0
IsGood effect = IsWellFormed effect.act

from_good : (now : Opened) (commit : CommitIsh) → IsWellFormed (from_act now commit)
from_good opened.Changes commit = tt
from_good opened.Tag commit = tt
from_good opened.Reset commit = tt
from_good _ commit = tt

alias_good : (mark : Option ℕ) (commit : CommitIsh) → IsWellFormed (alias_act mark commit)
alias_good (Some mark) commit = tt
alias_good None commit = tt

data_good : (now : Opened) (mark : Option ℕ) (contents : List ℕ)
    → IsWellFormed (data_act now mark contents)
data_good opened.Blob mark contents = tt
data_good opened.Commit mark contents = tt
data_good opened.Inline mark contents = tt
data_good opened.Tag mark contents = tt
data_good _ mark contents = tt

good_header_effect : (mark : Option ℕ) (line : HeaderLine) (text : List ℕ)
    → IfOk (header_effect mark line text) IsGood
good_header_effect mark header.Mark text = any_read IsGood (mark_of text) _ (λ number. tt)
good_header_effect mark header.OriginalOid text = tt
good_header_effect mark header.Author text =
    good_read _ IsGood (ident_of text) _ (good_ident text) (λ ident h. h)
good_header_effect mark header.Committer text =
    good_read _ IsGood (ident_of text) _ (good_ident text) (λ ident h. h)
good_header_effect mark header.Encoding text =
    good_read _ IsGood (encoding_of text) _ (good_encoding text) (λ encoding h. h)
good_header_effect mark header.Tagger text =
    good_read _ IsGood (ident_of text) _ (good_ident text) (λ ident h. h)

good_commit_ish_effect : (now : Opened) (mark : Option ℕ) (line : CommitIshLine) (text : List ℕ)
    → IfOk (commit_ish_effect now mark line text) IsGood
good_commit_ish_effect now mark commit_ish.From text =
    any_read IsGood (commit_ish_of text) _ (λ commit. from_good now commit)
good_commit_ish_effect now mark commit_ish.Merge text =
    any_read IsGood (commit_ish_of text) _ (λ commit. tt)
good_commit_ish_effect now mark commit_ish.To text =
    any_read IsGood (commit_ish_of text) _ (λ commit. alias_good mark commit)

-- what an act brings
good_brings : (mark : Option ℕ) (act : Result Act Fault) → IfOk act IsWellFormed
    → IfOk (read act (λ act. brings mark act)) IsGood
good_brings mark (Ok act) good = good
good_brings mark (Err e) good = tt

good_line_effect : (now : Opened) (mark : Option ℕ) (taken : Part) (text : List ℕ)
    → IfOk (line_effect now mark taken text) IsGood
good_line_effect now mark (part.Header line) text = good_header_effect mark line (argument text)
good_line_effect now mark (part.CommitIsh line) text =
    good_commit_ish_effect now mark line (argument text)
good_line_effect now mark (part.Change line) text =
    good_brings mark (change_act line (argument text)) (good_change_act line (argument text))
good_line_effect now mark (part.Reply line) text =
    good_brings mark (reply_act true line text) (good_reply_act true line text)
good_line_effect now mark _ text = tt

good_inner_effect : (now : Opened) (mark : Option ℕ) (part : Part) (item : Item)
    → IfOk (inner_effect now mark part item) IsGood
good_inner_effect now mark part (Line text) = good_line_effect now mark part text
good_inner_effect now mark part (Data contents) = data_good now mark contents
good_inner_effect now mark part Blank = tt

good_option_act : (late : Bool) (whose : OptionCommand) (words : List ℕ)
    → IfOk (option_act late whose words) IsWellFormed
good_option_act late option.Git words =
    any_read IsWellFormed (in_time late) _ (λ u.
    any_read IsWellFormed (quiet_of words) _ (λ v. tt))
good_option_act late option.Head words =
    any_read IsWellFormed (in_time late) _ (λ u.
    good_read IsShortRefName IsWellFormed (head_of (argument (argument words))) _
    (good_head (argument (argument words))) (λ ref h. h))
good_option_act late option.Other words = tt

good_control_act : (late : Bool) (line : ControlLine) (text : List ℕ)
    → IfOk (control_act late line text) IsWellFormed
good_control_act late control.Checkpoint text = tt
good_control_act late control.Done text = tt
good_control_act late control.Feature text =
    any_read IsWellFormed (in_time late) _ (λ u.
    any_read IsWellFormed (feature_of text) _ (λ feature. tt))
good_control_act late control.OptionCommand text = good_option_act late (option_of text) text

good_opening_act : (line : OpeningLine) (text : List ℕ) → IfOk (opening_act line text) IsWellFormed
good_opening_act opening.Blob text = tt
good_opening_act opening.Commit text =
    good_read _ IsWellFormed (ref_of text) _ (good_ref text) (λ ref h. h.0)
good_opening_act opening.Tag text =
    good_read IsTagRef IsWellFormed (tag_ref_of text) _ (good_tag_ref text) (λ ref h. h)
good_opening_act opening.Reset text =
    good_read _ IsWellFormed (ref_of text) _ (good_ref text) (λ ref h. h.0)
good_opening_act opening.Alias text = tt

good_first_line_act : (late : Bool) (command : Part) (text : List ℕ)
    → IfOk (first_line_act late command text) IsWellFormed
good_first_line_act late (part.Opening line) text = good_opening_act line (argument text)
good_first_line_act late (part.Reply line) text = good_reply_act false line text
good_first_line_act late (part.Control line) text = good_control_act late line (argument text)
good_first_line_act late _ text = tt

good_first_act : (late : Bool) (part : Part) (item : Item)
    → IfOk (first_act late part item) IsWellFormed
good_first_act late part (Line text) = good_first_line_act late part text
good_first_act late part (Data contents) = tt
good_first_act late part Blank = tt

-- ---- items

abbrev IsGoodStep : Step → Type 0
IsGoodStep step = IsWellFormed step.done.act

good_outside : (now : Open) (terms : Option (List Term)) (part : Part) (item : Item)
    → IfOk (step_outside now terms part item) IsGoodStep
good_outside now None part item = tt
good_outside now (Some terms) part item =
    by_act (first_act now.late part item) (good_first_act now.late part item)
  where
    by_act : (r : Result Act Fault) → IfOk r IsWellFormed
        → IfOk (opens now part terms r) IsGoodStep
    by_act (Ok act) h = h
    by_act (Err e) h = tt

good_step_by : (now : Open) (part : Part) (item : Item) (fits : Fit)
    → IfOk (step_by now part item fits) IsGoodStep
good_step_by now part item (Stands left) =
    by_effect (inner_effect now.opened now.mark part item)
    (good_inner_effect now.opened now.mark part item)
  where
    by_effect : (r : Result Effect Fault) → IfOk r IsGood
        → IfOk (goes_on now part left r) IsGoodStep
    by_effect (Ok effect) h = h
    by_effect (Err e) h = tt
good_step_by now part item Ends = good_outside now (production_of part) part item
good_step_by now part item Misses = tt

good_step : (now : Open) (item : Item) → IfOk (step now item) IsGoodStep
unfolding step
good_step now item = good_step_by now (part_of item) item (fit (part_of item) now.left)

pub well_formed : (parsing : Parsing) (item : Item) (done : Done) → done_by parsing item ≡ Ok done
    → IsWellFormed done.act
well_formed (Ok now) item done e = by_step (step now item) (good_step now item) e
  where
    by_step : (r : Result Step Fault) → IfOk r IsGoodStep → done_of r ≡ Ok done
        → IsWellFormed done.act
    by_step (Ok step) h same = subst (λ (d : Done). IsWellFormed d.act) (ap (λ (r : Result Done Fault). result_unwrap_or r step.done) same) h
    by_step (Err fault) h same = cc
well_formed (Err fault) item done e = cc
