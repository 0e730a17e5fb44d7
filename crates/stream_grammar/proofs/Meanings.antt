-- Which items ask for nothing, and the mark of an alias.
use Rattle.std.proofs.Common.{◌≡◌, sym, subst, refl, ℕ, Bool, true, false, is_some, List, [], ◌∷◌, Option, Some, None, Result, Ok, Err}
use Rattle.std.specs.Prelude.{IfOk}
use Rattle.std.specs.List.{list_all}
use Rattle.std.proofs.lemmas.Bool.{and_parts}
use Rattle.stream_lex.specs.Items.{Item, Line, Data, Blank}
use Rattle.stream_grammar.specs.declared.fault.Fault.{Fault}
use Rattle.stream_grammar.specs.declared.part.OpeningLine.{OpeningLine}
use Rattle.stream_grammar.specs.declared.part.OpeningLine.TheVariants as opening
use Rattle.stream_grammar.specs.declared.part.ReplyLine.{ReplyLine}
use Rattle.stream_grammar.specs.declared.part.ReplyLine.TheVariants as reply
use Rattle.stream_grammar.specs.declared.part.ControlLine.{ControlLine}
use Rattle.stream_grammar.specs.declared.part.ControlLine.TheVariants as control
use Rattle.stream_grammar.specs.declared.part.HeaderLine.{HeaderLine}
use Rattle.stream_grammar.specs.declared.part.HeaderLine.TheVariants as header
use Rattle.stream_grammar.specs.declared.part.CommitIshLine.{CommitIshLine}
use Rattle.stream_grammar.specs.declared.part.CommitIshLine.TheVariants as commit_ish
use Rattle.stream_grammar.specs.declared.part.ChangeLine.{ChangeLine}
use Rattle.stream_grammar.specs.declared.part.ChangeLine.TheVariants as change
use Rattle.stream_grammar.specs.declared.part.Part.{Part}
use Rattle.stream_grammar.specs.declared.part.Part.TheVariants as part
use Rattle.stream_grammar.specs.declared.stage.Opened.{Opened}
use Rattle.stream_grammar.specs.declared.stage.AliasNext.TheVariants as alias
use Rattle.stream_grammar.specs.declared.stage.Stage.{Stage}
use Rattle.stream_grammar.specs.declared.stage.Stage.TheVariants as stage
use Rattle.stream_grammar.specs.Texts.{read, argument, mark_of, dataref_of}
use Rattle.stream_grammar.specs.Names.{CommitIsh, ref_of, tag_ref_of, ident_of, commit_ish_of}
use Rattle.stream_grammar.specs.Changes.{last_path, paths_of, object_and_path, modified, modified_inline, encoding_of}
use Rattle.stream_grammar.specs.Features.{feature_of, in_time, option_of}
use Rattle.stream_grammar.specs.Acts.{Act, Wait, Effect, brings}
use Rattle.stream_grammar.specs.Grammar.{Term, production_of}
use Rattle.stream_grammar.specs.Parts.{part_of, part_by_word, part_of_line, with_inline, is_inline, first_fit, fits, words}
use Rattle.stream_grammar.specs.Lines.{from_act, alias_act, data_act, may_wait}
use Rattle.stream_grammar.specs.Lines.{header_effect, commit_ish_effect, change_act, ls_act, reply_act}
use Rattle.stream_grammar.specs.Lines.{line_effect, inner_effect}
use Rattle.stream_grammar.specs.Lines.{option_act, control_act, opening_act, first_line_act, first_act}
use Rattle.stream_grammar.specs.Stages.{opened_of, has_meaning, HasMark, FollowsMark}
use Rattle.stream_grammar.proofs.Filled.{by_test}

-- ---- what is read

abbrev pub Asks : Part → Act → Type 0
Asks part act = act ≡ Wait → may_wait part ≡ true

any_read : {A B : Type 0} (Q : B → Type 0) (reading : Result A Fault) (next : A → Result B Fault)
    → ((value : A) → IfOk (next value) Q) → IfOk (read reading next) Q
any_read Q (Ok value) next later = later value
any_read Q (Err e) next later = tt

-- ---- lines are never data

abbrev no_data : Part → Bool
no_data part.Data = false
no_data _ = true

first_fit-no_data : (rows : List (List ℕ × Part)) (text : List ℕ)
    → list_all (λ row. no_data row.1) rows ≡ true → no_data (first_fit rows text) ≡ true
first_fit-no_data [] text all = refl
first_fit-no_data (row ∷ rows) text all =
    let both = and_parts (no_data row.1) (list_all (λ row. no_data row.1) rows) all in
    by_test (fits row.0 text)
    (λ here. rw here both.0)
    (λ other. rw other (first_fit-no_data rows text both.1))

with_inline-no_data : (known : Part) (inline : Bool) → no_data known ≡ true
    → no_data (with_inline known inline) ≡ true
with_inline-no_data (part.Change change.Modify) true some = refl
with_inline-no_data (part.Change change.Modify) false some = refl
with_inline-no_data (part.Change change.ModifyInline) inline some = refl
with_inline-no_data (part.Change change.Delete) inline some = refl
with_inline-no_data (part.Change change.Copy) inline some = refl
with_inline-no_data (part.Change change.Rename) inline some = refl
with_inline-no_data (part.Change change.DeleteAll) inline some = refl
with_inline-no_data (part.Opening line) inline some = refl
with_inline-no_data (part.Reply line) inline some = refl
with_inline-no_data (part.Control line) inline some = refl
with_inline-no_data (part.Header line) inline some = refl
with_inline-no_data (part.CommitIsh line) inline some = refl
with_inline-no_data part.Data inline some = some
with_inline-no_data part.Blank inline some = refl
with_inline-no_data part.Unknown inline some = refl

line-no_data : (text : List ℕ) → no_data (part_of_line text) ≡ true
unfolding part_by_word
line-no_data text =
    with_inline-no_data (first_fit words text) (is_inline text) (first_fit-no_data words text refl)

-- ---- inside a command

abbrev pub AsksEffect : Part → Effect → Type 0
AsksEffect part effect = Asks part effect.act

header-asks : (mark : Option ℕ) (line : HeaderLine) (text : List ℕ)
    → IfOk (header_effect mark line text) (AsksEffect (part.Header line))
header-asks mark header.Mark text = any_read (AsksEffect (part.Header header.Mark)) (mark_of text) _ (λ number e. refl)
header-asks mark header.OriginalOid text = λ e. refl
header-asks mark header.Author text = any_read (AsksEffect (part.Header header.Author)) (ident_of text) _ (λ ident e. cc)
header-asks mark header.Committer text = any_read (AsksEffect (part.Header header.Committer)) (ident_of text) _ (λ ident e. cc)
header-asks mark header.Encoding text = any_read (AsksEffect (part.Header header.Encoding)) (encoding_of text) _ (λ encoding e. cc)
header-asks mark header.Tagger text = any_read (AsksEffect (part.Header header.Tagger)) (ident_of text) _ (λ ident e. cc)

from-asks : (now : Stage) (commit : CommitIsh) → has_meaning now (part.CommitIsh commit_ish.From) ≡ true
    → Asks (part.CommitIsh commit_ish.From) (from_act (opened_of now) commit)
from-asks (stage.Changes next) commit means = λ e. cc
from-asks (stage.Tag next) commit means = λ e. cc
from-asks (stage.Reset next) commit means = λ e. cc
from-asks _ commit means = cc

to-asks : (now : Stage) (mark : Option ℕ) (commit : CommitIsh)
    → has_meaning now (part.CommitIsh commit_ish.To) ≡ true → HasMark now mark
    → Asks (part.CommitIsh commit_ish.To) (alias_act mark commit)
to-asks (stage.Alias alias.To) (Some mark) commit means has = λ e. cc
to-asks (stage.Alias alias.To) None commit means has = cc
to-asks _ mark commit means has = cc

data-asks : (now : Stage) (mark : Option ℕ) (contents : List ℕ) → has_meaning now part.Data ≡ true
    → Asks part.Data (data_act (opened_of now) mark contents)
data-asks (stage.Blob next) mark contents means = λ e. cc
data-asks (stage.Commit next) mark contents means = λ e. cc
data-asks stage.Inline mark contents means = λ e. cc
data-asks (stage.Tag next) mark contents means = λ e. cc
data-asks _ mark contents means = cc

commit_ish-asks : (now : Stage) (mark : Option ℕ) (line : CommitIshLine) (text : List ℕ)
    → has_meaning now (part.CommitIsh line) ≡ true → HasMark now mark
    → IfOk (commit_ish_effect (opened_of now) mark line text) (AsksEffect (part.CommitIsh line))
commit_ish-asks now mark commit_ish.From text means has =
    any_read (AsksEffect (part.CommitIsh commit_ish.From)) (commit_ish_of text) _ (λ commit. from-asks now commit means)
commit_ish-asks now mark commit_ish.Merge text means has =
    any_read (AsksEffect (part.CommitIsh commit_ish.Merge)) (commit_ish_of text) _ (λ commit e. cc)
commit_ish-asks now mark commit_ish.To text means has =
    any_read (AsksEffect (part.CommitIsh commit_ish.To)) (commit_ish_of text) _ (λ commit. to-asks now mark commit means has)

change-asks : (line : ChangeLine) (text : List ℕ) → IfOk (change_act line text) (Asks (part.Change line))
change-asks change.Modify text = any_read (Asks (part.Change change.Modify)) (modified text) _ (λ file e. cc)
change-asks change.ModifyInline text = any_read (Asks (part.Change change.ModifyInline)) (modified_inline text) _ (λ file e. cc)
change-asks change.Delete text = any_read (Asks (part.Change change.Delete)) (last_path text) _ (λ path e. cc)
change-asks change.Copy text = any_read (Asks (part.Change change.Copy)) (paths_of text) _ (λ paths e. cc)
change-asks change.Rename text = any_read (Asks (part.Change change.Rename)) (paths_of text) _ (λ paths e. cc)
change-asks change.DeleteAll text = λ e. cc

ls-asks : (path_alone : Bool) (text : List ℕ) → IfOk (ls_act path_alone text) (Asks (part.Reply reply.Ls))
ls-asks true text = any_read (Asks (part.Reply reply.Ls)) (last_path text) _ (λ path e. cc)
ls-asks false text = any_read (Asks (part.Reply reply.Ls)) (object_and_path text) _ (λ entry e. cc)

reply-asks : (inside : Bool) (line : ReplyLine) (text : List ℕ)
    → IfOk (reply_act inside line text) (Asks (part.Reply line))
reply-asks inside reply.Progress text = λ e. cc
reply-asks inside reply.GetMark text = any_read (Asks (part.Reply reply.GetMark)) (mark_of (argument text)) _ (λ mark e. cc)
reply-asks inside reply.CatBlob text = any_read (Asks (part.Reply reply.CatBlob)) (dataref_of (argument text)) _ (λ object e. cc)
reply-asks inside reply.Ls text = ls-asks _ (argument text)

brings-asks : (taken : Part) (mark : Option ℕ) (act : Result Act Fault) → IfOk act (Asks taken)
    → IfOk (read act (λ act. brings mark act)) (AsksEffect taken)
brings-asks taken mark (Ok act) asks = asks
brings-asks taken mark (Err e) asks = tt

line-asks : (now : Stage) (mark : Option ℕ) (taken : Part) (text : List ℕ)
    → no_data taken ≡ true → has_meaning now taken ≡ true → HasMark now mark
    → IfOk (line_effect (opened_of now) mark taken text) (AsksEffect taken)
line-asks now mark (part.Header line) text some means has = header-asks mark line (argument text)
line-asks now mark (part.CommitIsh line) text some means has =
    commit_ish-asks now mark line (argument text) means has
line-asks now mark (part.Change line) text some means has =
    brings-asks (part.Change line) mark (change_act line (argument text)) (change-asks line (argument text))
line-asks now mark (part.Reply line) text some means has =
    brings-asks (part.Reply line) mark (reply_act true line text) (reply-asks true line text)
line-asks now mark part.Blank text some means has = λ e. refl
line-asks now mark part.Data text some means has = cc
line-asks now mark _ text some means has = cc

pub inner-asks : (now : Stage) (mark : Option ℕ) (item : Item) → has_meaning now (part_of item) ≡ true
    → HasMark now mark → IfOk (inner_effect (opened_of now) mark (part_of item) item) (AsksEffect (part_of item))
inner-asks now mark (Line text) means has = line-asks now mark (part_of_line text) text (line-no_data text) means has
inner-asks now mark (Data contents) means has = data-asks now mark contents means
inner-asks now mark Blank means has = λ e. refl

-- ---- the first part of a command

may-asks : (taken : Part) (act : Result Act Fault) → may_wait taken ≡ true → IfOk act (Asks taken)
may-asks taken (Ok act) may = λ e. may
may-asks taken (Err e) may = tt

control-asks : (late : Bool) (line : ControlLine) (text : List ℕ)
    → IfOk (control_act late line text) (Asks (part.Control line))
control-asks late control.Checkpoint text = λ e. cc
control-asks late control.Done text = λ e. cc
control-asks late control.Feature text =
    any_read (Asks (part.Control control.Feature)) (in_time late) _ (λ u.
    any_read (Asks (part.Control control.Feature)) (feature_of text) _ (λ feature e. cc))
control-asks late control.OptionCommand text =
    may-asks (part.Control control.OptionCommand) (option_act late (option_of text) text) refl

opening-asks : (line : OpeningLine) (text : List ℕ) → IfOk (opening_act line text) (Asks (part.Opening line))
opening-asks opening.Blob text = λ e. refl
opening-asks opening.Commit text = any_read (Asks (part.Opening opening.Commit)) (ref_of text) _ (λ ref e. cc)
opening-asks opening.Tag text = any_read (Asks (part.Opening opening.Tag)) (tag_ref_of text) _ (λ ref e. cc)
opening-asks opening.Reset text = any_read (Asks (part.Opening opening.Reset)) (ref_of text) _ (λ ref e. cc)
opening-asks opening.Alias text = λ e. refl

first_line-asks : (late : Bool) (command : Part) (terms : List Term) (text : List ℕ)
    → production_of command ≡ Some terms → IfOk (first_line_act late command text) (Asks command)
first_line-asks late (part.Opening line) terms text begins = opening-asks line (argument text)
first_line-asks late (part.Reply line) terms text begins = reply-asks false line text
first_line-asks late (part.Control line) terms text begins = control-asks late line (argument text)
first_line-asks late part.Blank terms text begins = λ e. refl
first_line-asks late _ terms text begins = cc

pub first-asks : (late : Bool) (item : Item) (terms : List Term)
    → production_of (part_of item) ≡ Some terms → IfOk (first_act late (part_of item) item) (Asks (part_of item))
first-asks late (Line text) terms begins = first_line-asks late (part_of_line text) terms text begins
first-asks late (Data contents) terms begins = cc
first-asks late Blank terms begins = λ e. refl

-- ---- the mark of an alias

any : {A : Type 0} (r : Result A Fault) → IfOk r (λ a. Unit {0})
any (Ok a) = tt
any (Err e) = tt

mark-set : (now : Opened) (mark : Option ℕ) (taken : Part) (text : List ℕ) → taken ≡ part.Header header.Mark
    → IfOk (line_effect now mark taken text) (λ effect. is_some effect.mark ≡ true)
mark-set now mark taken text is =
    subst (λ (p : Part). IfOk (line_effect now mark p text) (λ effect. is_some effect.mark ≡ true)) (sym is)
    (any_read (λ (effect : Effect). is_some effect.mark ≡ true) (mark_of (argument text)) _ (λ number. refl))

item-sets : (now : Opened) (mark : Option ℕ) (item : Item) → part_of item ≡ part.Header header.Mark
    → IfOk (inner_effect now mark (part_of item) item) (λ effect. is_some effect.mark ≡ true)
item-sets now mark (Line text) is = mark-set now mark (part_of_line text) text is
item-sets now mark (Data contents) is = let absent : part.Data ≡ part.Header header.Mark = is in cc
item-sets now mark Blank is = let absent : part.Blank ≡ part.Header header.Mark = is in cc

pub inner-marks : (next : Stage) (now : Opened) (mark : Option ℕ) (item : Item) → FollowsMark (part_of item) next
    → IfOk (inner_effect now mark (part_of item) item) (λ effect. HasMark next effect.mark)
inner-marks (stage.Alias alias.To) now mark item follows = item-sets now mark item follows
inner-marks (stage.Alias alias.Mark) now mark item follows = any (inner_effect now mark (part_of item) item)
inner-marks _ now mark item follows = any (inner_effect now mark (part_of item) item)

-- ---- what a call gave

pub asked : (now : Stage) (mark new : Option ℕ) (given : Opened) (taken : Part) (item : Item) (act : Act)
    → given ≡ opened_of now → taken ≡ part_of item → has_meaning now taken ≡ true → HasMark now mark
    → inner_effect given mark taken item ≡ Ok (record { mark = new; act = act })
    → Asks (part_of item) act
asked now mark new given taken item act opened_is taken_is means has brings =
    let meant : has_meaning now (part_of item) ≡ true =
    subst (λ (p : Part). has_meaning now p ≡ true) taken_is means in
    let here : inner_effect given mark (part_of item) item ≡ Ok (record { mark = new; act = act }) =
    subst (λ (p : Part). inner_effect given mark p item ≡ Ok (record { mark = new; act = act })) taken_is brings in
    let whole : inner_effect (opened_of now) mark (part_of item) item ≡ Ok (record { mark = new; act = act }) =
    subst (λ (o : Opened). inner_effect o mark (part_of item) item ≡ Ok (record { mark = new; act = act })) opened_is here in
    subst (λ (r : Result Effect Fault). IfOk r (AsksEffect (part_of item))) whole (inner-asks now mark item meant has)
