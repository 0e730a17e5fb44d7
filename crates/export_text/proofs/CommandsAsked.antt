-- What the commands of an export ask for: blobs, commits, tags and resets.
use Rattle.std.proofs.Common.{◌≡◌, ℕ, ◌<◌, ◌≤◌, ◌^◌, Bool, true, false, List, [], ◌∷◌, ◌++◌, length, map, replicate, Option, None, Some, Result, Ok, refl, ap, arith, codes, inl}
use Rattle.std.specs.Prelude.{IfSome}
use Rattle.std.specs.List.{AllByRecursion}
use Rattle.git_model.specs.declared.file_mode.FileMode.{FileMode}
use Rattle.git_model.specs.declared.file_mode.FileMode.TheVariants as mode
use Rattle.git_model.specs.Commit.{Commit, CanWriteCommit, IsEncoding}
use Rattle.git_model.specs.GoodRepository.{IsShortRefName, objects_limit}
use Rattle.git_model.specs.Ident.{IsWrittenIdent}
use Rattle.git_model.specs.ObjectName.{IsObjectName}
use Rattle.git_model.specs.RefName.{is_ref_name}
use Rattle.git_model.specs.Repository.{Object}
use Rattle.git_model.specs.Tag.{Tag, CanWriteTag}
use Rattle.git_model.proofs.Earlier.{place_within}
use Rattle.git_model.proofs.OneLine.{bytes_of}
use Rattle.file_maps.specs.declared.entry.Entry.{Entry}
use Rattle.file_maps.specs.FileMap.{Path, Listed, listed}
use Rattle.file_maps.specs.StoredFiles.{stored_map}
use Rattle.stream_lex.specs.Items.{Item, Line, Data, Blank}
use Rattle.stream_grammar.specs.declared.data_ref.DataRef.TheVariants as data_ref
use Rattle.stream_grammar.specs.declared.fault.Fault.{Fault}
use Rattle.stream_grammar.specs.declared.part.Part.TheVariants as part
use Rattle.stream_grammar.specs.declared.part.OpeningLine.TheVariants as opening
use Rattle.stream_grammar.specs.declared.part.ControlLine.TheVariants as control_line
use Rattle.stream_grammar.specs.declared.part.HeaderLine.TheVariants as header
use Rattle.stream_grammar.specs.declared.part.CommitIshLine.TheVariants as commit_ish
use Rattle.stream_grammar.specs.declared.part.ChangeLine.TheVariants as change_line
use Rattle.stream_grammar.specs.declared.stage.Opened.{Opened}
use Rattle.stream_grammar.specs.declared.stage.Opened.TheVariants as opened
use Rattle.stream_grammar.specs.Texts.{read}
use Rattle.stream_grammar.specs.Names.{CommitIsh, Marked, Expression, ref_of}
use Rattle.stream_grammar.specs.declared.act.ControlCommand.TheVariants as control
use Rattle.stream_grammar.specs.Acts.{Act, Wait, Object as ObjectAct, Commit as CommitAct, Change}
use Rattle.stream_grammar.specs.Acts.{Ref, Control, Effect, brings}
use Rattle.stream_grammar.specs.Acts.{BeginTag, TagTarget, Tagger, Tag as TagCommand}
use Rattle.stream_grammar.specs.Acts.{Begin, Author, Committer, Encoding, Merge}
use Rattle.stream_grammar.specs.Acts.{DeleteAll}
use Rattle.stream_grammar.specs.Acts.{Reset, ResetFrom}
use Rattle.stream_grammar.specs.Grammar.{Term, Stands, Ends, fit, perhaps, once, any_number, changes}
use Rattle.stream_grammar.specs.Lines.{from_act, line_effect}
use Rattle.stream_grammar.specs.Parts.{part_by_word, part_of_line}
use Rattle.stream_grammar.specs.Commands.{Open, Done, is_commit}
use Rattle.stream_grammar.proofs.Printed.{mark_of-decimal, dataref_of-decimal, dataref_of-encode_lower}
use Rattle.stream_grammar.proofs.Refs.{ref_of-Ok}
use Rattle.export_text.specs.Reached.{tag_ref}
use Rattle.export_text.specs.ExportItems.{mark_text, marked, line_if, blob_items, scratch, fresh_branch, parent_items, dataref_text, item_of_file, commit_items, tag_items}
use Rattle.export_text.specs.ExportActs.{asks, number_of, encoding_act, tagger_act, asks_if, blob_acts, fresh_acts, merges, parent_acts, dataref, act_of_file, commit_acts, tag_acts, saving_acts, reset_acts, removal_acts}
use Rattle.export_text.specs.Export.{saving_items, removal_items}
use Rattle.export_text.proofs.WrittenWords.{mark-spaceless, name-spaceless, name-other, commit_ish-mark, commit_ish-none, ident-read, encoding-read}
use Rattle.export_text.proofs.Asking.{Asks, AsksAlone, Gives, idle, under_way, nothing-asked, then-more, and-then, inside, data-inside, blank-inside, begins}
use Rattle.export_text.proofs.FilesAsked.{Refers, CanWritePath, file-asked}

-- ---- the branch of commits

scratch-read : ref_of scratch ≡ Ok scratch
unfolding ref_of is_ref_name
scratch-read = refl

-- ---- the terms that are left

abbrev blank_left : List Term
blank_left = perhaps part.Blank ∷ []

abbrev changes_left : List Term
changes_left = any_number changes ∷ blank_left

abbrev merges_left : List Term
merges_left = any_number (part.CommitIsh commit_ish.Merge ∷ []) ∷ changes_left

abbrev from_left : List Term
from_left = perhaps (part.CommitIsh commit_ish.From) ∷ merges_left

abbrev message_left : List Term
message_left = once part.Data ∷ from_left

abbrev encoding_left : List Term
encoding_left = perhaps (part.Header header.Encoding) ∷ message_left

abbrev committer_left : List Term
committer_left = once (part.Header header.Committer) ∷ encoding_left

abbrev author_left : List Term
author_left = perhaps (part.Header header.OriginalOid) ∷ perhaps (part.Header header.Author) ∷ committer_left

abbrev commit_left : List Term
commit_left = perhaps (part.Header header.Mark) ∷ author_left

abbrev blob_data_left : List Term
blob_data_left = perhaps (part.Header header.OriginalOid) ∷ once part.Data ∷ []

abbrev tag_data_left : List Term
tag_data_left = once part.Data ∷ []

abbrev tagger_left : List Term
tagger_left = perhaps (part.Header header.OriginalOid) ∷ perhaps (part.Header header.Tagger) ∷ tag_data_left

abbrev target_left : List Term
target_left = once (part.CommitIsh commit_ish.From) ∷ tagger_left

abbrev reset_left : List Term
reset_left = perhaps (part.CommitIsh commit_ish.From) ∷ blank_left

abbrev effect : Option ℕ → Act → Effect
effect mark act = record { mark = mark; act = act }

-- ---- resets

module _ (ref : List ℕ) (is : ref_of ref ≡ Ok ref) where
  reset-begins : (late : Bool)
      → Gives (idle late) (Line (codes "reset " ++ ref)) (asks (Ref (Reset ref))) (under_way opened.Reset None reset_left)
  reset-begins late =
      begins (idle late) (codes "reset " ++ ref) (part.Opening opening.Reset) reset_left (Ref (Reset ref)) (unfold part_by_word in refl)
      refl refl refl refl (ap (λ (r : Result (List ℕ) Fault). read r (λ x. Ok (Ref (Reset x)))) is)

-- A checkpoint after a reset.
pub saving-asked : AsksAlone saving_items saving_acts
saving-asked late = (
  true,
  then-more (reset-begins scratch scratch-read late)
      (then-more (begins (under_way opened.Reset None reset_left) (codes "checkpoint") (part.Control control_line.Checkpoint) [] (Control control.Checkpoint) (unfold part_by_word in refl) refl refl refl refl refl)
      (nothing-asked (idle true))),
)

-- A ref is set to what a text says.
pub reset-asked : (ref to : List ℕ) (commit : CommitIsh) → IsShortRefName ref
    → line_effect opened.Reset None (part.CommitIsh commit_ish.From) (codes "from " ++ to) ≡ brings None (Ref (ResetFrom commit))
    → AsksAlone (Line (codes "reset " ++ ref) ∷ Line (codes "from " ++ to) ∷ Blank ∷ []) (reset_acts ref commit)
reset-asked ref to commit is says late = (
  true,
  then-more (reset-begins ref (ref_of-Ok ref (inl is.name) is.short) late)
      (then-more (inside (under_way opened.Reset None reset_left) (codes "from " ++ to) (part.CommitIsh commit_ish.From) blank_left (effect None (Ref (ResetFrom commit))) (unfold part_by_word in refl) refl says)
      (then-more (blank-inside (under_way opened.Reset None blank_left) [] refl) (nothing-asked (idle true)))),
)

pub removal-asked : (ref : List ℕ) → IsShortRefName ref
    → AsksAlone (removal_items ref) (removal_acts ref)
removal-asked ref is =
    reset-asked ref (replicate 40 48) (Expression (replicate 40 48)) is
    (ap (λ (c : Result CommitIsh Fault). read c (λ c. brings None (from_act opened.Reset c))) commit_ish-none)

-- A file of a tree that can be written.
pub record CanWriteFile (f : Path × Entry) : Type 0 where
  pub path : CanWritePath f.0
  pub name : IsObjectName f.1.name

-- What a line of a header brings, whose text is read.
header-says : {A : Type 0} (act : A → Act) (mark : Option ℕ) {reading : Result A Fault} {value : A}
    → reading ≡ Ok value
    → read reading (λ value. brings mark (act value)) ≡ brings mark (act value)
header-says {A} act mark is =
    ap (λ (r : Result A Fault). read r (λ value. brings mark (act value))) is

-- ---- marks

module _ (os : List Object) (few : length os ≤ objects_limit) where
  fits : (id : List ℕ) → number_of os id < 2 ^ 64
  fits id = let within = place_within id os in omega arith

  some : (id : List ℕ) → 0 < number_of os id
  some id = omega arith

  mark-says : (now : Opened) (old : Option ℕ) (id : List ℕ)
      → line_effect now old (part.Header header.Mark) (codes "mark " ++ mark_text os id)
      ≡ brings (Some (number_of os id)) Wait
  mark-says now old id =
      ap (λ (n : Result ℕ Fault). read n (λ n. brings (Some n) Wait))
      (mark_of-decimal (number_of os id) (some id) (fits id))

  from-says : (now : Opened) (mark : Option ℕ) (id : List ℕ)
      → line_effect now mark (part.CommitIsh commit_ish.From) (codes "from " ++ mark_text os id)
      ≡ brings mark (from_act now (Marked (number_of os id)))
  from-says now mark id =
      ap (λ (c : Result CommitIsh Fault). read c (λ c. brings mark (from_act now c)))
      (commit_ish-mark (number_of os id) (some id) (fits id))

  merge-says : (now : Opened) (mark : Option ℕ) (id : List ℕ)
      → line_effect now mark (part.CommitIsh commit_ish.Merge) (codes "merge " ++ mark_text os id)
      ≡ brings mark (CommitAct (Merge (Marked (number_of os id))))
  merge-says now mark id =
      header-says (λ c. CommitAct (Merge c)) mark
      (commit_ish-mark (number_of os id) (some id) (fits id))

  pub commit-set : (ref id : List ℕ) → IsShortRefName ref
      → AsksAlone (Line (codes "reset " ++ ref) ∷ marked os (codes "from ") id ∷ Blank ∷ [])
      (reset_acts ref (Marked (number_of os id)))
  commit-set ref id is =
      reset-asked ref (mark_text os id) (Marked (number_of os id)) is (from-says opened.Reset None id)

  -- ---- blobs

  pub blob-asked : (id bytes : List ℕ) → AsksAlone (blob_items os id bytes) (blob_acts os id bytes)
  blob-asked id bytes late = (
    true,
    then-more (begins (idle late) (codes "blob") (part.Opening opening.Blob) (perhaps (part.Header header.Mark) ∷ blob_data_left) Wait (unfold part_by_word in refl) refl refl refl refl refl)
        (then-more (inside (under_way opened.Blob None (perhaps (part.Header header.Mark) ∷ blob_data_left)) (codes "mark " ++ mark_text os id) (part.Header header.Mark) blob_data_left (effect (Some (number_of os id)) Wait) (unfold part_by_word in refl) refl (mark-says opened.Blob None id))
        (then-more (data-inside (under_way opened.Blob (Some (number_of os id)) blob_data_left) bytes [] refl) (nothing-asked (idle true)))),
  )

  -- ---- commits

  ident-says : (now : Opened) (mark : Option ℕ) (ident : List ℕ) → IsWrittenIdent ident
      → line_effect now mark (part.Header header.Author) (codes "author " ++ ident) ≡ brings mark (CommitAct (Author ident))
  ident-says now mark ident is =
      header-says (λ i. CommitAct (Author i)) mark (ident-read ident is)

  committer-says : (now : Opened) (mark : Option ℕ) (ident : List ℕ) → IsWrittenIdent ident
      → line_effect now mark (part.Header header.Committer) (codes "committer " ++ ident)
      ≡ brings mark (CommitAct (Committer ident))
  committer-says now mark ident is =
      header-says (λ i. CommitAct (Committer i)) mark (ident-read ident is)

  -- The lines up to a message, where it may stand.
  record Ready (what : Opened) (after : List Term) (now : Open) (items : List Item) (acts : List Done) (mark : Option ℕ) : Type 0 where
    left : List Term
    stands : fit part.Data left ≡ Stands after
    asked : Asks now items acts (under_way what mark left)

  -- A line before the message, which may be left out.
  line-ready : (what : Opened) (mark : Option ℕ) (after none some : List Term) (word : List ℕ) (act : List ℕ → Act)
      (IsText : List ℕ → Type 0) → fit part.Data none ≡ Stands after → fit part.Data some ≡ Stands after
      → ((text : List ℕ) → IsText text → Gives (under_way what mark none) (Line (word ++ text)) (asks (act text)) (under_way what mark some))
      → (text : Option (List ℕ)) → IfSome text IsText
      → Ready what after (under_way what mark none) (line_if word text) (asks_if act text) mark
  line-ready what mark after none some word act IsText without with gives None is =
      record { left = none; stands = without; asked = nothing-asked (under_way what mark none) }
  line-ready what mark after none some word act IsText without with gives (Some text) is =
      record { left = some; stands = with; asked = then-more (gives text is) (nothing-asked (under_way what mark some)) }

  encoding-ready : (mark : Option ℕ) (encoding : Option (List ℕ)) → IfSome encoding IsEncoding
      → Ready opened.Commit from_left (under_way opened.Commit mark encoding_left) (line_if (codes "encoding ") encoding) (asks_if encoding_act encoding) mark
  encoding-ready mark =
      line-ready opened.Commit mark from_left encoding_left message_left (codes "encoding ") encoding_act IsEncoding refl refl
      (λ text is. inside (under_way opened.Commit mark encoding_left) (codes "encoding " ++ text) (part.Header header.Encoding) message_left (effect mark (CommitAct (Encoding text))) (unfold part_by_word in refl) refl
      (header-says encoding_act mark (encoding-read text is)))

  module _ (id : List ℕ) (c : Commit) (can : CanWriteCommit c) where
    abbrev the_mark : Option ℕ
    the_mark = Some (number_of os id)

    abbrev header_items : List Item
    header_items = marked os (codes "mark ") id
        ∷ Line (codes "author " ++ c.author) ∷ Line (codes "committer " ++ c.committer)
        ∷ line_if (codes "encoding ") c.encoding

    abbrev header_acts : List Done
    header_acts = asks Wait ∷ asks (CommitAct (Author c.author)) ∷ asks (CommitAct (Committer c.committer)) ∷ asks_if encoding_act c.encoding

    header-ready : Ready opened.Commit from_left (under_way opened.Commit None commit_left) header_items header_acts the_mark
    header-ready = let ready = encoding-ready the_mark c.encoding can.encoding in record {
      left = ready.left;
      stands = ready.stands;
      asked =
          then-more (inside (under_way opened.Commit None commit_left) (codes "mark " ++ mark_text os id) (part.Header header.Mark) author_left (effect the_mark Wait) (unfold part_by_word in refl) refl (mark-says opened.Commit None id))
          (then-more (inside (under_way opened.Commit the_mark author_left) (codes "author " ++ c.author) (part.Header header.Author) committer_left (effect the_mark (CommitAct (Author c.author))) (unfold part_by_word in refl) refl (ident-says opened.Commit the_mark c.author can.author))
          (then-more (inside (under_way opened.Commit the_mark committer_left) (codes "committer " ++ c.committer) (part.Header header.Committer) encoding_left (effect the_mark (CommitAct (Committer c.committer))) (unfold part_by_word in refl) refl (committer-says opened.Commit the_mark c.committer can.committer))
          ready.asked));
    }

    commit-line : (now : Open) → fit (part.Opening opening.Commit) now.left ≡ Ends
        → is_commit now.opened ≡ false
        → Gives now (Line (codes "commit " ++ scratch)) (asks (CommitAct (Begin scratch))) (under_way opened.Commit None commit_left)
    commit-line now none outside =
        begins now (codes "commit " ++ scratch) (part.Opening opening.Commit) commit_left (CommitAct (Begin scratch)) (unfold part_by_word in refl) none refl refl outside
        (ap (λ (r : Result (List ℕ) Fault). read r (λ x. Ok (CommitAct (Begin x)))) scratch-read)

    head-ready : (late : Bool) (parents : List (List ℕ))
        → Ready opened.Commit from_left (idle late) (fresh_branch parents ++ Line (codes "commit " ++ scratch) ∷ header_items) (fresh_acts parents ++ asks (CommitAct (Begin scratch)) ∷ header_acts) the_mark
    head-ready late [] = let ready = header-ready in record {
      left = ready.left;
      stands = ready.stands;
      asked = then-more (reset-begins scratch scratch-read late)
          (then-more (commit-line (under_way opened.Reset None reset_left) refl refl) ready.asked);
    }
    head-ready late (first ∷ others) = let ready = header-ready in record {
      left = ready.left;
      stands = ready.stands;
      asked = then-more (commit-line (idle late) refl refl) ready.asked;
    }

  -- A state of an open commit, where all files may be dropped.
  record Dropping (items : List Item) (acts : List Done) : Type 0 where
    left : List Term
    stands : fit (part.Change change_line.DeleteAll) left ≡ Stands changes_left
    asked : Asks (under_way opened.Changes None from_left) items acts (under_way opened.Changes None left)

  merges-asked : (ids : List (List ℕ))
      → Asks (under_way opened.Changes None merges_left) (map (marked os (codes "merge ")) ids) (map (merges os) ids) (under_way opened.Changes None merges_left)
  merges-asked [] = nothing-asked (under_way opened.Changes None merges_left)
  merges-asked (id ∷ ids) =
      then-more (inside (under_way opened.Changes None merges_left) (codes "merge " ++ mark_text os id) (part.CommitIsh commit_ish.Merge) merges_left (effect None (CommitAct (Merge (Marked (number_of os id))))) (unfold part_by_word in refl) refl (merge-says opened.Changes None id))
      (merges-asked ids)

  parents-asked : (ids : List (List ℕ)) → Dropping (parent_items os ids) (parent_acts os ids)
  parents-asked [] = record {
    left = from_left;
    stands = refl;
    asked = nothing-asked (under_way opened.Changes None from_left);
  }
  parents-asked (first ∷ others) = record {
    left = merges_left;
    stands = refl;
    asked = then-more (inside (under_way opened.Changes None from_left) (codes "from " ++ mark_text os first) (part.CommitIsh commit_ish.From) merges_left (effect None (from_act opened.Changes (Marked (number_of os first)))) (unfold part_by_word in refl) refl (from-says opened.Changes None first))
        (merges-asked others);
  }

  by-mark : (id : List ℕ) → Refers (mark_text os id) (data_ref.Mark (number_of os id))
  by-mark id = record {
    no_space = mark-spaceless (number_of os id) (fits id);
    no_inline = refl;
    is = dataref_of-decimal (number_of os id) (some id) (fits id);
  }

  refers : (m : FileMode) (id : List ℕ) → IsObjectName id
      → Refers (dataref_text os m id) (dataref os m id)
  refers mode.Gitlink id is = record {
    no_space = name-spaceless id is;
    no_inline = name-other id is;
    is = dataref_of-encode_lower id (bytes_of id is) is.size;
  }
  refers mode.Regular id is = by-mark id
  refers mode.Executable id is = by-mark id
  refers mode.Symlink id is = by-mark id
  refers mode.Directory id is = by-mark id

  files-asked : (files : Listed) → AllByRecursion CanWriteFile files
      → Asks (under_way opened.Changes None changes_left) (map (item_of_file os) files) (map (act_of_file os) files) (under_way opened.Changes None changes_left)
  files-asked [] can = nothing-asked (under_way opened.Changes None changes_left)
  files-asked (f ∷ files) can =
      then-more (file-asked f.1.mode (dataref_text os f.1.mode f.1.name) (dataref os f.1.mode f.1.name) f.0 changes_left (refers f.1.mode f.1.name can.0.name) can.0.path refl refl)
      (files-asked files can.1)

  pub commit-asked : (id : List ℕ) (c : Commit) → CanWriteCommit c
      → AllByRecursion CanWriteFile (listed (stored_map os c.tree))
      → AsksAlone (commit_items os id c) (commit_acts os id c)
  commit-asked id c can files late =
      let head = head-ready id c can late c.parents in
      let parents = parents-asked c.parents in (
        true,
        and-then (and-then (and-then (and-then head.asked
            (then-more (data-inside (under_way opened.Commit (Some (number_of os id)) head.left) c.message from_left head.stands) (nothing-asked (under_way opened.Changes None from_left))))
            parents.asked)
            (then-more (inside (under_way opened.Changes None parents.left) (codes "deleteall") (part.Change change_line.DeleteAll) changes_left (effect None (Change DeleteAll)) (unfold part_by_word in refl) parents.stands refl)
            (files-asked (listed (stored_map os c.tree)) files)))
            (then-more (blank-inside (under_way opened.Changes None changes_left) [] refl) (nothing-asked (idle true))),
      )

  -- ---- tags

  tagger-ready : (mark : Option ℕ) (tagger : Option (List ℕ)) → IfSome tagger IsWrittenIdent
      → Ready opened.Tag [] (under_way opened.Tag mark tagger_left) (line_if (codes "tagger ") tagger) (asks_if tagger_act tagger) mark
  tagger-ready mark =
      line-ready opened.Tag mark [] tagger_left tag_data_left (codes "tagger ") tagger_act IsWrittenIdent refl refl
      (λ text is. inside (under_way opened.Tag mark tagger_left) (codes "tagger " ++ text) (part.Header header.Tagger) tag_data_left (effect mark (ObjectAct (Tagger text))) (unfold part_by_word in refl) refl
      (header-says tagger_act mark (ident-read text is)))

  target-asked : (now : Open) (front : List Item) (acts : List Done) (mark : Option ℕ) (left : List Term) (t : Tag)
      → Asks now front acts (under_way opened.Tag mark left) → fit (part.CommitIsh commit_ish.From) left ≡ Stands tagger_left
      → CanWriteTag t
      → Asks now (front ++ marked os (codes "from ") t.target ∷ [] ++ line_if (codes "tagger ") t.tagger ++ Data t.message ∷ [])
      (acts ++ asks (ObjectAct (TagTarget (Marked (number_of os t.target)))) ∷ [] ++ asks_if tagger_act t.tagger ++ asks (ObjectAct (TagCommand mark t.message)) ∷ []) (idle true)
  target-asked now front acts mark left t begun stands can =
      let tagger = tagger-ready mark t.tagger can.tagger in
      and-then (and-then (and-then begun
      (then-more (inside (under_way opened.Tag mark left) (codes "from " ++ mark_text os t.target) (part.CommitIsh commit_ish.From) tagger_left (effect mark (from_act opened.Tag (Marked (number_of os t.target)))) (unfold part_by_word in refl) stands (from-says opened.Tag mark t.target))
      (nothing-asked (under_way opened.Tag mark tagger_left))))
      tagger.asked)
      (then-more (data-inside (under_way opened.Tag mark tagger.left) t.message [] tagger.stands) (nothing-asked (idle true)))

  tag-line : (late : Bool) (name : List ℕ) → IsShortRefName (tag_ref name)
      → Gives (idle late) (Line (codes "tag " ++ name)) (asks (ObjectAct (BeginTag (tag_ref name)))) (under_way opened.Tag None (perhaps (part.Header header.Mark) ∷ target_left))
  tag-line late name is =
      begins (idle late) (codes "tag " ++ name) (part.Opening opening.Tag) (perhaps (part.Header header.Mark) ∷ target_left) (ObjectAct (BeginTag (tag_ref name))) (unfold part_by_word in refl) refl refl refl refl
      (ap (λ (r : Result (List ℕ) Fault). read r (λ x. Ok (ObjectAct (BeginTag x)))) (ref_of-Ok (tag_ref name) (inl is.name) is.short))

  pub tag-asked : (id : List ℕ) (t : Tag) → CanWriteTag t → length (tag_ref t.name) ≤ 1024
      → AsksAlone (tag_items os (Some id) t) (tag_acts os (Some (number_of os id)) t)
  tag-asked id t can short late = (
    true,
    target-asked (idle late) (Line (codes "tag " ++ t.name) ∷ marked os (codes "mark ") id ∷ []) (asks (ObjectAct (BeginTag (tag_ref t.name))) ∷ asks Wait ∷ []) (Some (number_of os id)) target_left t
        (then-more (tag-line late t.name (record { name = can.name; short = short }))
        (then-more (inside (under_way opened.Tag None (perhaps (part.Header header.Mark) ∷ target_left)) (codes "mark " ++ mark_text os id) (part.Header header.Mark) target_left (effect (Some (number_of os id)) Wait) (unfold part_by_word in refl) refl (mark-says opened.Tag None id))
        (nothing-asked (under_way opened.Tag (Some (number_of os id)) target_left)))) refl can,
  )

  pub tag-again : (t : Tag) → CanWriteTag t → length (tag_ref t.name) ≤ 1024
      → AsksAlone (tag_items os None t) (tag_acts os None t)
  tag-again t can short late = (
    true,
    target-asked (idle late) (Line (codes "tag " ++ t.name) ∷ []) (asks (ObjectAct (BeginTag (tag_ref t.name))) ∷ []) None (perhaps (part.Header header.Mark) ∷ target_left) t
        (then-more (tag-line late t.name (record { name = can.name; short = short }))
        (nothing-asked (under_way opened.Tag None (perhaps (part.Header header.Mark) ∷ target_left)))) refl can,
  )
