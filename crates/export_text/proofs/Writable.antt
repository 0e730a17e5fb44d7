-- The items of an export can be written.
use Rattle.std.proofs.Common.{◌≡◌, ◌≢◌, ℕ, ◌+◌, ◌*◌, ◌<◌, ◌≤◌, ◌^◌, ◌==◌, ◌&&◌, ◌||◌, eqb, Bool, true, false, not, List, [], ◌∷◌, ◌++◌, length, map, replicate, find, All, Option, None, Some, refl, sym, ap, subst, ◌∙◌, arith, codes, length-append}
use Rattle.std.specs.Prelude.{decimal, unwrap_or, nat_eq, nat_lt, nat_le, IfSome}
use Rattle.std.specs.Char.{is_ascii_digit}
use Rattle.std.specs.List.{AllByRecursion, list_all, list_any, starts_with, flat_map}
use Rattle.std.specs.Option.{option_map}
use Rattle.std.specs.Str.{bytes_eq}
use Rattle.std.proofs.lemmas.Bool.{and_parts, false≢true, eqb-true, leb-true, ltb-true}
use Rattle.std.proofs.lemmas.Bool.Decides.{nat_tests}
use Rattle.std.proofs.lemmas.List.Elements.{All-nil, All-cons, All-append, All-weaker, All-from_recursion}
use Rattle.hex.specs.Hex.{lower_digits}
use Rattle.hex.proofs.HexLemmas.{length-encode_with}
use Rattle.numerals.proofs.Numerals.{is_numeral-decimal}
use Rattle.git_model.specs.declared.file_mode.FileMode.{FileMode}
use Rattle.git_model.specs.declared.file_mode.FileMode.TheVariants as mode
use Rattle.git_model.specs.declared.kind.Kind.{Kind}
use Rattle.git_model.specs.declared.kind.Kind.TheVariants as kind
use Rattle.git_model.specs.Commit.{Commit, CanWriteCommit, IsEncoding}
use Rattle.git_model.specs.CommitReading.{commit_read}
use Rattle.git_model.specs.Ident.{IsWrittenIdent}
use Rattle.git_model.specs.GoodRepository.{AreObjects, IsValid, IsShortRefName, objects_limit}
use Rattle.git_model.specs.Modes.{six_digits}
use Rattle.git_model.specs.ObjectName.{IsObjectName}
use Rattle.git_model.specs.RefName.{IsRefName, is_forbidden}
use Rattle.git_model.specs.RefStore.{first_head, listed_refs}
use Rattle.git_model.specs.References.{Reference, content_named, kind_named, place_of, references_of}
use Rattle.git_model.specs.Repository.{Object, Repository, object_named}
use Rattle.git_model.specs.Tag.{Tag, CanWriteTag}
use Rattle.git_model.specs.TagReading.{tag_read}
use Rattle.git_model.proofs.Earlier.{place_within}
use Rattle.git_model.proofs.Places.{stands_at, at_place}
use Rattle.git_model.specs.Content.{Content, no_content}
use Rattle.git_model.proofs.OneLine.{IsOneLine, all_from, is_no_end, ident_one_line, digits_one_line, tag_name_one_line, word_one_line}
use Rattle.git_paths.specs.Paths.{joined}
use Rattle.git_paths.specs.Quoting.{letters, letter_of_byte, is_special, escape_by, escape, quoted}
use Rattle.file_maps.specs.declared.entry.Entry.{Entry}
use Rattle.file_maps.specs.FileMap.{Path, listed}
use Rattle.file_maps.specs.StoredFiles.{stored_map}
use Rattle.file_maps.proofs.Apart.{all-map, all-weaker}
use Rattle.file_maps.proofs.Listing.{all-append}
use Rattle.stream_lex.specs.declared.header.LineKind.TheVariants.{Other}
use Rattle.stream_lex.specs.Headers.{HasNoLineEnd, kind_of, longest_line, is_line_end}
use Rattle.stream_lex.specs.Items.{Item, Line, Data, Blank}
use Rattle.stream_lex.specs.Reading.{reading}
use Rattle.stream_lex.specs.Items.{Rest}
use Rattle.stream_lex.proofs.Cases.{by_cases}
use Rattle.export_text.specs.Export.{head_items, opening_items, object_items, saving_items, removal_items, ref_items, items_of_ref, export_items, export_text}
use Rattle.export_text.specs.ExportActs.{number_of}
use Rattle.export_text.specs.ExportItems.{mark_text, marked, line_if, scratch, fresh_branch, parent_items, dataref_text, item_of_file, file_items, commit_head, commit_items, mark_if, tag_items, items_of, items_of_object}
use Rattle.export_text.specs.ItemText.{CanWriteItem}
use Rattle.export_text.specs.Limits.{FitsLine, FitsCommit, FitsTag, Fits, CanExport}
use Rattle.export_text.specs.Reached.{tag_ref, reached_objects, extra_tag_refs}
use Rattle.export_text.proofs.WrittenWords.{no_ends}
use Rattle.export_text.proofs.FilesAsked.{file-line}
use Rattle.export_text.proofs.CommandsAsked.{CanWriteFile}
use Rattle.export_text.proofs.ExportAsked.{IsKnown, commit-writable, tag-writable, files-writable, reached-known, extra-names, ref-names, content-valid}
use Rattle.export_text.proofs.ReadBack.{reads-back}

-- ---- lines

none_end : (text : List ℕ) → list_all (λ byte. not (byte == 10)) text ≡ true → HasNoLineEnd text
none_end [] h = refl
none_end (x ∷ text) h =
    let parts = and_parts (not (x == 10)) (list_all (λ byte. not (byte == 10)) text) h in
    let other : is_line_end x ≡ false = not_so (x == 10) parts.0 in
    rw other (let rest = none_end text parts.1 in omega arith)
  where
    not_so : (b : Bool) → not b ≡ true → b ≡ false
    not_so true h = absurd (false≢true h)
    not_so false h = refl

other-kind : (text : List ℕ) → 0 < length text → starts_with nat_eq text (codes "#") ≡ false
    → starts_with nat_eq text (codes "data ") ≡ false → kind_of text ≡ Other
unfolding kind_of
other-kind text some comment data_line =
    by_cases (eqb (length text) 0)
    (λ empty. absurd (omega (arith, eqb-true (length text) 0 empty)))
    (λ full. rw (full, comment, data_line) refl)

-- A line of a word and a text.
line-written : (word text : List ℕ) → list_all is_no_end word ≡ true → IsOneLine text
    → 0 < length word → length (word ++ text) ≤ longest_line
    → starts_with nat_eq (word ++ text) (codes "#") ≡ false
    → starts_with nat_eq (word ++ text) (codes "data ") ≡ false
    → CanWriteItem (Line (word ++ text))
line-written word text plain one some fits comment data_line =
    let long = length-append word text in (
      record {
        one_line = none_end (word ++ text) (no_ends (word ++ text) (word_one_line word text plain one));
        within_limit = fits;
      },
      other-kind (word ++ text) (omega (arith, long, some)) comment data_line,
    )

-- No text.
nothing_else : IsOneLine []
nothing_else = All-nil (λ b. b ≢ 10)

mark-one_line : (n : ℕ) → n < 2 ^ 64 → IsOneLine (codes ":" ++ decimal n)
mark-one_line n lt =
    let digits = (and_parts (nat_lt 0 (length (decimal n)) && nat_le (length (decimal n)) 20) (list_all is_ascii_digit (decimal n)) (is_numeral-decimal n lt)).1 in
    word_one_line (codes ":") (decimal n) refl (all_from is_ascii_digit refl (decimal n) digits)

mark-short : (n : ℕ) → n < 2 ^ 64 → length (codes ":" ++ decimal n) ≤ 21
mark-short n lt =
    let parts = (and_parts (nat_lt 0 (length (decimal n)) && nat_le (length (decimal n)) 20) (list_all is_ascii_digit (decimal n)) (is_numeral-decimal n lt)).0 in
    let short : length (decimal n) ≤ 20 = grind (arith, nat_tests, (and_parts (nat_lt 0 (length (decimal n))) (nat_le (length (decimal n)) 20) parts).1) in
    omega (arith, length-append (codes ":") (decimal n), short)

ref-one_line : (ref : List ℕ) → IsRefName ref → IsOneLine ref
ref-one_line ref is =
    All-weaker (λ byte. is_forbidden byte ≡ false) (λ byte. byte ≢ 10)
    (λ b h e. false≢true (sym (subst (λ x. is_forbidden x ≡ false) e h))) ref
    (All-from_recursion (λ byte. is_forbidden byte ≡ false) ref is.no_forbidden_byte)

reset-written : (ref : List ℕ) → IsShortRefName ref → CanWriteItem (Line (codes "reset " ++ ref))
reset-written ref is =
    line-written (codes "reset ") ref refl (ref-one_line ref is.name) (omega arith)
    (let short = is.short in omega (arith, length-append (codes "reset ") ref)) refl refl

-- ---- quoted paths

record IsPlain (text : List ℕ) (most : ℕ) : Type 0 where
  one_line : AllByRecursion (λ byte. byte ≢ 10) text
  short : length text ≤ most

found-letter : (test : ℕ × ℕ → Bool) (es : List (ℕ × ℕ)) → AllByRecursion (λ e. e.0 ≢ 10) es
    → IfSome (find test es) (λ e. e.0 ≢ 10)
found-letter test [] h = tt
found-letter test (e ∷ es) h =
    by_cases (test e) (λ yea. rw yea h.0) (λ nay. rw nay (found-letter test es h.1))

letters-plain : AllByRecursion (λ e. e.0 ≢ 10) letters
letters-plain = ((λ e. cc), ((λ e. cc), ((λ e. cc), ((λ e. cc), ((λ e. cc), ((λ e. cc), ((λ e. cc), ((λ e. cc), ((λ e. cc), tt)))))))))

letter-some : (o : Option (ℕ × ℕ)) → IfSome o (λ e. e.0 ≢ 10)
    → IfSome (option_map (λ (e : ℕ × ℕ). e.0) o) (λ l. l ≢ 10)
letter-some None h = tt
letter-some (Some e) h = h

letter-plain : (b : ℕ) → IfSome (letter_of_byte b) (λ l. l ≢ 10)
unfolding letter_of_byte
letter-plain b = letter-some (find (λ e. e.1 == b) letters) (found-letter (λ e. e.1 == b) letters letters-plain)

escape-by-plain : (b : ℕ) (o : Option ℕ) → IfSome o (λ l. l ≢ 10) → IsPlain (escape_by b o) 4
escape-by-plain b (Some l) h = record { one_line = ((λ e. cc), (h, tt)); short = omega arith }
escape-by-plain b None h =
    by_cases (is_special b)
    (λ yea. rw yea (record { one_line = ((λ e. cc), ((λ e. omega arith), ((λ e. omega arith), ((λ e. omega arith), tt)))); short = omega arith }))
    (λ nay. rw nay (record { one_line = ((λ e. false≢true (sym nay ∙ ap is_special e)), tt); short = omega arith }))

escape-plain : (b : ℕ) → IsPlain (escape b) 4
unfolding escape
escape-plain b = escape-by-plain b (letter_of_byte b) (letter-plain b)

escapes-plain : (bytes : List ℕ) → IsPlain (flat_map escape bytes) (4 * length bytes)
escapes-plain [] = record { one_line = tt; short = omega arith }
escapes-plain (b ∷ bytes) =
    let one = escape-plain b in let rest = escapes-plain bytes in record {
      one_line = all-append (λ byte. byte ≢ 10) (escape b) (flat_map escape bytes) one.one_line rest.one_line;
      short = let first = one.short in let others = rest.short in omega (arith, length-append (escape b) (flat_map escape bytes));
    }

plain-bytes : (bytes : List ℕ) → list_any is_special bytes ≡ false
    → AllByRecursion (λ byte. byte ≢ 10) bytes
plain-bytes [] h = tt
plain-bytes (b ∷ bytes) h =
    let parts = neither (is_special b) (list_any is_special bytes) h in
    ((λ e. false≢true (sym parts.0 ∙ ap is_special e)), plain-bytes bytes parts.1)
  where
    neither : (x y : Bool) → (x || y) ≡ false → (x ≡ false) × (y ≡ false)
    neither true y h = absurd (false≢true (sym h))
    neither false y h = (refl, h)

quoted-plain : (bytes : List ℕ) → IsPlain (quoted bytes) (4 * length bytes + 2)
unfolding quoted
quoted-plain bytes =
    by_cases (list_any is_special bytes)
    (λ yea. let inside = escapes-plain bytes in rw yea (record {
      one_line = ((λ e. cc), all-append (λ byte. byte ≢ 10) (flat_map escape bytes) (34 ∷ []) inside.one_line ((λ e. cc), tt));
      short = let s = inside.short in omega (arith, length-append (flat_map escape bytes) (34 ∷ []));
    }))
    (λ nay. rw nay (record { one_line = plain-bytes bytes nay; short = omega arith }))

-- ---- the items of objects

abbrev CanWrite : List Item → Type 0
CanWrite items = AllByRecursion CanWriteItem items

both : (xs ys : List Item) → CanWrite xs → CanWrite ys → CanWrite (xs ++ ys)
both = all-append CanWriteItem

-- A line of known words.
word-written : (word : List ℕ) → list_all is_no_end word ≡ true → nat_lt 0 (length word) ≡ true
    → nat_le (length word) 1048575 ≡ true → starts_with nat_eq word (codes "#") ≡ false
    → starts_with nat_eq word (codes "data ") ≡ false → CanWriteItem (Line word)
word-written word plain some short comment data_line = (
  record { one_line = none_end word plain; within_limit = leb-true (length word) 1048575 short },
  other-kind word (ltb-true 0 (length word) some) comment data_line,
)

blob-line : CanWriteItem (Line (codes "blob"))
blob-line = word-written (codes "blob") refl refl refl refl refl

deleteall-line : CanWriteItem (Line (codes "deleteall"))
deleteall-line = word-written (codes "deleteall") refl refl refl refl refl

commit-line : CanWriteItem (Line (codes "commit " ++ scratch))
commit-line = word-written (codes "commit " ++ scratch) refl refl refl refl refl

scratch-line : CanWriteItem (Line (codes "reset " ++ scratch))
scratch-line = word-written (codes "reset " ++ scratch) refl refl refl refl refl

fresh-written : (parents : List (List ℕ)) → CanWrite (fresh_branch parents)
fresh-written [] = (scratch-line, tt)
fresh-written (first ∷ others) = tt

mode-plain : (m : FileMode) → (list_all is_no_end (six_digits m) ≡ true) × (length (six_digits m) ≡ 6)
mode-plain mode.Regular = (refl, refl)
mode-plain mode.Executable = (refl, refl)
mode-plain mode.Symlink = (refl, refl)
mode-plain mode.Gitlink = (refl, refl)
mode-plain mode.Directory = (refl, refl)

tagger-written : (tagger : Option (List ℕ)) → IfSome tagger IsWrittenIdent
    → IfSome tagger (FitsLine (codes "tagger ")) → CanWrite (line_if (codes "tagger ") tagger)
tagger-written None is fits = tt
tagger-written (Some text) is fits =
    (line-written (codes "tagger ") text refl (ident_one_line text is) (omega arith) fits refl refl, tt)

encoding-written : (encoding : Option (List ℕ)) → IfSome encoding IsEncoding
    → IfSome encoding (FitsLine (codes "encoding ")) → CanWrite (line_if (codes "encoding ") encoding)
encoding-written None is fits = tt
encoding-written (Some text) is fits =
    (line-written (codes "encoding ") text refl is.one_line (omega arith) fits refl refl, tt)

module _ (os : List Object) (few : length os ≤ objects_limit) where
  number-fits : (id : List ℕ) → number_of os id < 2 ^ 64
  number-fits id = let within = place_within id os in omega arith

  mark-written : (id : List ℕ) → CanWriteItem (marked os (codes "mark ") id)
  mark-written id =
      line-written (codes "mark ") (mark_text os id) refl (mark-one_line (number_of os id) (number-fits id)) (omega arith)
      (let short = mark-short (number_of os id) (number-fits id) in omega (arith, length-append (codes "mark ") (mark_text os id), short)) refl refl

  from-written : (id : List ℕ) → CanWriteItem (marked os (codes "from ") id)
  from-written id =
      line-written (codes "from ") (mark_text os id) refl (mark-one_line (number_of os id) (number-fits id)) (omega arith)
      (let short = mark-short (number_of os id) (number-fits id) in omega (arith, length-append (codes "from ") (mark_text os id), short)) refl refl

  merge-written : (id : List ℕ) → CanWriteItem (marked os (codes "merge ") id)
  merge-written id =
      line-written (codes "merge ") (mark_text os id) refl (mark-one_line (number_of os id) (number-fits id)) (omega arith)
      (let short = mark-short (number_of os id) (number-fits id) in omega (arith, length-append (codes "merge ") (mark_text os id), short)) refl refl

  merges-written : (ids : List (List ℕ)) → CanWrite (map (marked os (codes "merge ")) ids)
  merges-written [] = tt
  merges-written (id ∷ ids) = (merge-written id, merges-written ids)

  parents-written : (ids : List (List ℕ)) → CanWrite (parent_items os ids)
  parents-written [] = tt
  parents-written (first ∷ others) = (from-written first, merges-written others)

  by-mark : (id : List ℕ) → IsOneLine (mark_text os id) × (length (mark_text os id) ≤ 40)
  by-mark id =
      let short = mark-short (number_of os id) (number-fits id) in
      (mark-one_line (number_of os id) (number-fits id), omega (arith, short))

  dataref-plain : (m : FileMode) (id : List ℕ) → IsObjectName id
      → IsOneLine (dataref_text os m id) × (length (dataref_text os m id) ≤ 40)
  dataref-plain mode.Gitlink id is =
      (digits_one_line id is, omega (arith, is.size, length-encode_with lower_digits id))
  dataref-plain mode.Regular id is = by-mark id
  dataref-plain mode.Executable id is = by-mark id
  dataref-plain mode.Symlink id is = by-mark id
  dataref-plain mode.Directory id is = by-mark id

  file-written : (f : Path × Entry) → CanWriteFile f → CanWriteItem (item_of_file os f)
  file-written f can =
      let m : FileMode = f.1.mode in
      let word : List ℕ = dataref_text os f.1.mode f.1.name in
      let path : List ℕ = quoted (joined f.0) in
      let said : List ℕ = six_digits m ++ 32 ∷ (word ++ 32 ∷ path) in
      let refers = dataref-plain f.1.mode f.1.name can.name in
      let plain = quoted-plain (joined f.0) in
      let one : IsOneLine said =
      All-append (λ b. b ≢ 10) (six_digits m) (32 ∷ (word ++ 32 ∷ path)) (all_from is_no_end refl (six_digits m) (mode-plain m).0)
      (All-cons (λ b. b ≢ 10) 32 (word ++ 32 ∷ path) (λ e. cc)
      (All-append (λ b. b ≢ 10) word (32 ∷ path) refers.0
      (All-cons (λ b. b ≢ 10) 32 path (λ e. cc) (All-from_recursion (λ b. b ≢ 10) path plain.one_line)))) in
      let size = (mode-plain m).1 in let short = refers.1 in let longest = plain.short in let limit = can.path.limits.bytes in
      subst (λ (t : List ℕ). CanWriteItem (Line t)) (sym (file-line m word f.0))
      (line-written (codes "M ") said refl one (omega arith)
      (omega (arith, length-append (codes "M ") said, length-append (six_digits m) (32 ∷ (word ++ 32 ∷ path)), length-append word (32 ∷ path), size, short, longest, limit)) refl refl)

  commit-written : (id : List ℕ) (c : Commit) → CanWriteCommit c → FitsCommit os c
      → AllByRecursion CanWriteFile (listed (stored_map os c.tree)) → CanWrite (commit_items os id c)
  commit-written id c can fit files =
      let head : CanWrite (commit_head os id c) =
      both (fresh_branch c.parents) _ (fresh-written c.parents) (
        commit-line,
        (
          mark-written id,
          (
            line-written (codes "author ") c.author refl (ident_one_line c.author can.author) (omega arith) fit.author refl refl,
            (
              line-written (codes "committer ") c.committer refl (ident_one_line c.committer can.committer) (omega arith) fit.committer refl refl,
              encoding-written c.encoding can.encoding fit.encoding,
            ),
          ),
        ),
      ) in
      let the_files : CanWrite (file_items os c.tree) =
      (deleteall-line, all-map (item_of_file os) CanWriteItem (listed (stored_map os c.tree)) (all-weaker CanWriteFile (λ f. CanWriteItem (item_of_file os f)) file-written (listed (stored_map os c.tree)) files)) in
      both _ (Blank ∷ []) (both _ (file_items os c.tree) (both _ (parent_items os c.parents) (both (commit_head os id c) (Data c.message ∷ []) head (fit.message, tt)) (parents-written c.parents)) the_files) (tt, tt)

  tag-line : (name : List ℕ) → IsRefName (tag_ref name) → length (tag_ref name) ≤ 1024
      → CanWriteItem (Line (codes "tag " ++ name))
  tag-line name is short =
      line-written (codes "tag ") name refl (tag_name_one_line name is) (omega arith)
      (omega (arith, length-append (codes "tag ") name, length-append (codes "refs/tags/") name, short)) refl refl

  named : (id : Option (List ℕ)) → CanWrite (mark_if os id)
  named None = tt
  named (Some id) = (mark-written id, tt)

  tag-written : (id : Option (List ℕ)) (t : Tag) → CanWriteTag t → length (tag_ref t.name) ≤ 1024
      → FitsTag t → CanWrite (tag_items os id t)
  tag-written id t can short fit =
      let first : List Item = Line (codes "tag " ++ t.name) ∷ mark_if os id in
      let target : List Item = marked os (codes "from ") t.target ∷ [] in
      let tagger : List Item = line_if (codes "tagger ") t.tagger in
      both (first ++ target ++ tagger) (Data t.message ∷ [])
      (both (first ++ target) tagger
      (both first target (tag-line t.name can.name short, named id) (from-written t.target, tt))
      (tagger-written t.tagger can.tagger fit.tagger))
      (fit.message, tt)

  set-written : (ref id : List ℕ) → IsShortRefName ref
      → CanWrite (Line (codes "reset " ++ ref) ∷ marked os (codes "from ") id ∷ Blank ∷ [])
  set-written ref id is = (reset-written ref is, (from-written id, (tt, tt)))

removal-written : (ref : List ℕ) → IsShortRefName ref → CanWrite (removal_items ref)
removal-written ref is =
    (reset-written ref is, (word-written (codes "from " ++ replicate 40 48) refl refl refl refl refl, (tt, tt)))

head-written : (head : List ℕ) → IsShortRefName head → CanWrite (head_items head)
unfolding head_items
head-written head is =
    by_cases (bytes_eq head first_head)
    (λ same. rw same tt)
    (λ other. rw other (
      line-written (codes "option gitpool head ") head refl (ref-one_line head is.name) (omega arith)
          (let short = is.short in omega (arith, length-append (codes "option gitpool head ") head, short)) refl refl,
      tt,
    ))

all-items : {X : Type 0} (items : X → List Item) (xs : List X)
    → AllByRecursion (λ x. CanWrite (items x)) xs → CanWrite (flat_map items xs)
all-items items [] h = tt
all-items items (x ∷ xs) h = both (items x) (flat_map items xs) h.0 (all-items items xs h.1)

-- ---- all items of an export

-- What an object of a name has fits, and so does nothing.
content-fits : (os : List Object) → All (λ o. Fits os o.content.kind o.content.bytes) os
    → (id : List ℕ) (o : Option Content) → object_named id os ≡ o
    → Fits os (unwrap_or o no_content).kind (unwrap_or o no_content).bytes
content-fits os fit id None is = omega arith
content-fits os fit id (Some c) is =
    let at = stands_at id os c is in
    subst (λ (x : Object). Fits os x.content.kind x.content.bytes) at.object
    (at_place (λ o. Fits os o.content.kind o.content.bytes) os (place_of id os) fit at.within)

module _ (digest : List ℕ → List ℕ) (os : List Object) (good : AreObjects digest os) where
  kind-written : (k : Kind) (id bytes : List ℕ) → IsValid os k bytes → Fits os k bytes
      → AllByRecursion (λ (x : Reference). kind_named x.id os ≡ Some x.kind) (references_of k bytes)
      → CanWrite (items_of os id k bytes)
  kind-written kind.Blob id bytes valid fit named = (blob-line, (mark-written os good.few id, (fit, tt)))
  kind-written kind.Tree id bytes valid fit named = tt
  kind-written kind.Commit id bytes valid fit named =
      commit-written os good.few id (commit_read bytes) (commit-writable os bytes valid) fit
      (files-writable digest os good (commit_read bytes).tree named.0 fit.paths)
  kind-written kind.Tag id bytes valid fit named =
      let can = tag-writable os bytes valid in tag-written os good.few (Some id) (tag_read bytes) can.0 can.1 fit

  ref-by-kind : (k : Kind) (ref id bytes : List ℕ) → IsShortRefName ref → IsValid os k bytes
      → Fits os k bytes → CanWrite (ref_items os ref id k bytes)
  ref-by-kind kind.Tag ref id bytes name valid fit =
      let can = tag-writable os bytes valid in tag-written os good.few None (tag_read bytes) can.0 can.1 fit
  ref-by-kind kind.Blob ref id bytes name valid fit = set-written os good.few ref id name
  ref-by-kind kind.Tree ref id bytes name valid fit = set-written os good.few ref id name
  ref-by-kind kind.Commit ref id bytes name valid fit = set-written os good.few ref id name

module _ (digest : List ℕ → List ℕ) (repository : Repository)
    (good : AreObjects digest repository.objects) (can : CanExport repository) where
  abbrev os : List Object
  os = repository.objects

  ref-written : (e : List ℕ × List ℕ) → IsShortRefName e.0 → CanWrite (items_of_ref os e)
  ref-written e name =
      ref-by-kind digest os good (content_named e.1 os).kind e.0 e.1 (content_named e.1 os).bytes name
      (content-valid digest os good e.1 (object_named e.1 os) refl)
      (content-fits os can.objects e.1 (object_named e.1 os) refl)

  export-written : CanWrite (export_items repository)
  export-written =
      let objects = all-items (items_of_object os) (reached_objects repository)
      (all-weaker (IsKnown os) (λ o. CanWrite (items_of_object os o)) (λ o known. kind-written digest os good o.content.kind o.id o.content.bytes known.valid known.fits known.named) (reached_objects repository) (reached-known digest repository good can)) in
      let removals = all-items removal_items (extra_tag_refs repository)
      (all-weaker IsShortRefName (λ ref. CanWrite (removal_items ref)) removal-written (extra_tag_refs repository) (extra-names digest repository good can)) in
      let refs = all-items (items_of_ref os) (listed_refs repository.refs)
      (all-weaker (λ e. IsShortRefName e.0) (λ e. CanWrite (items_of_ref os e)) ref-written (listed_refs repository.refs) (ref-names repository.refs can.names)) in
      let opening : CanWrite (opening_items repository.refs) =
      (word-written (codes "feature force") refl refl refl refl refl, head-written repository.refs.head can.head) in
      let saving : CanWrite saving_items =
      (scratch-line, (word-written (codes "checkpoint") refl refl refl refl refl, tt)) in
      let before : List Item = opening_items repository.refs ++ object_items repository in
      let removed : List Item = flat_map removal_items (extra_tag_refs repository) in
      both (before ++ saving_items ++ removed) (flat_map (items_of_ref os) (listed_refs repository.refs))
      (both (before ++ saving_items) removed
      (both before saving_items (both (opening_items repository.refs) (object_items repository) opening objects) saving)
      removals) refs

  pub read-back : reading false (export_text repository)
      ≡ record { items = export_items repository; tail = Rest false [] }
  unfolding export_text
  read-back = reads-back (export_items repository) (All-from_recursion CanWriteItem (export_items repository) export-written)
