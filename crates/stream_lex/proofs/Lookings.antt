-- What stands first where a data's header is known.
use Rattle.std.proofs.Common.{◌≡◌, ◌≢◌, ℕ, ◌+◌, ◌-◌, ◌<◌, ◌≤◌, Bool, true, List, [], ◌∷◌, ◌++◌, length, take, drop, None, Some, arith, refl, sym, ap, ◌∙◌, subst, length-append, length-drop}
use Rattle.std.specs.Prelude.{option_map}
use Rattle.std.proofs.lemmas.List.{take-append-le, drop-append-le, append-nil, drop-drop, length-take-le}
use Rattle.stream_lex.specs.declared.place.Place.{Place}
use Rattle.stream_lex.specs.declared.look.Found.{Found}
use Rattle.stream_lex.specs.declared.look.Found.TheVariants.{Waits, Skips as Passes, Gives as Lends, Fails}
use Rattle.stream_lex.specs.declared.header.LineKind.{LineKind}
use Rattle.stream_lex.specs.declared.header.LineKind.TheVariants.{Counted, Delimited}
use Rattle.stream_lex.specs.Items.{Rest}
use Rattle.stream_lex.specs.Headers.{longest_line, line_length, HasNoLineEnd, kind_of, delimiter_of}
use Rattle.stream_lex.specs.Reading.{First, Skips, Gives, first_of, whole_line, data_before, before_delimiter}
use Rattle.stream_lex.specs.Looking.{delimited_from, IsInCounted, IsInDelimited, IsNext, WaitsWithAll, first_found, item_of, tail_at}
use Rattle.stream_lex.specs.Search.{IsLineEnd}
use Rattle.stream_lex.proofs.LineEnds.{line_length-append_found}
use Rattle.stream_lex.proofs.Delimiters.{none_in_line, none_in-drop, none_in-take, line_split, line_length-known, option_map-same, option_map-twice, before-no_line, before-other_line, before-delimiter_line}
use Rattle.std.proofs.lemmas.Iterator.Adapters.{option_map_id}
use Rattle.stream_lex.proofs.LineKinds.{kind-delimited}
use Rattle.stream_lex.proofs.Firsts.{first-whole_at}
use Rattle.stream_lex.proofs.Settled.{Fits, first-fits, first-append_line}
use Rattle.stream_lex.proofs.Walks.{StandsFirst, takes, passes, fails, waits, waits_for_more}

-- what holds whatever bytes come holds of those that are there
pub at_once : (bytes : List ℕ) (now : List ℕ → First)
    → ((more : List ℕ) → first_of (bytes ++ more) ≡ now (bytes ++ more))
    → first_of bytes ≡ now bytes
at_once bytes now leads = subst (λ (l : List ℕ). first_of l ≡ now l) (append-nil bytes) (leads [])

-- the line after those that are known not to be the delimiter
abbrev pub text_at : List ℕ → ℕ → ℕ → List ℕ
text_at bytes line end = take (end - line) (drop line bytes)

-- where it is not the delimiter, the search goes on after it
step : (header line end : ℕ) (bytes : List ℕ) → header ≤ line → line ≤ end → end < length bytes
    → line_length (drop line bytes) ≡ end - line
    → HasNoLineEnd (delimiter_of (take (header - 1) bytes))
    → text_at bytes line end ≢ delimiter_of (take (header - 1) bytes)
    → delimited_from header line bytes ≡ delimited_from header (end + 1) bytes
step header line end bytes lines onwards inside at none other =
    let delimiter = delimiter_of (take (header - 1) bytes) in
    let rest = drop line bytes in
    let long : length rest ≡ length bytes - line = length-drop line bytes in
    let split : rest ≡ text_at bytes line end ++ 10 ∷ drop (end - line + 1) rest = line_split rest (end - line) at (omega arith) in
    let beyond : drop (end - line + 1) rest ≡ drop (end + 1) bytes = drop-drop (end - line + 1) line bytes ∙ ap (λ n. drop n bytes) (omega arith) in
    let size : length (text_at bytes line end) ≡ end - line = length-take-le (end - line) rest (omega arith) in
    let text_none : HasNoLineEnd (text_at bytes line end) = subst (λ (n : ℕ). HasNoLineEnd (take n rest)) at (none_in_line rest) in
    let later = before_delimiter delimiter true (drop (end + 1) bytes) in
    let passed : before_delimiter delimiter true rest ≡ option_map (λ n. length (text_at bytes line end) + 1 + n) later =
    ap (before_delimiter delimiter true) split
    ∙ before-other_line delimiter (text_at bytes line end) (drop (end - line + 1) rest) text_none none other
    ∙ ap (λ l. option_map (λ n. length (text_at bytes line end) + 1 + n) (before_delimiter delimiter true l)) beyond in
    ap (λ o. data_before o delimiter header bytes)
    (ap (option_map (λ n. line - header + n)) passed
    ∙ option_map-twice (λ n. line - header + n) (λ n. length (text_at bytes line end) + 1 + n) (λ n. end + 1 - header + n) later (λ n. omega arith))

-- the same, whatever bytes come
pub step_more : (header line end : ℕ) (bytes : List ℕ) → header ≤ line → line ≤ end
    → end < length bytes → line_length (drop line bytes) ≡ end - line
    → HasNoLineEnd (take (header - 1) bytes)
    → text_at bytes line end ≢ delimiter_of (take (header - 1) bytes)
    → (more : List ℕ)
    → delimited_from header line (bytes ++ more) ≡ delimited_from header (end + 1) (bytes ++ more)
step_more header line end bytes lines onwards inside at none other more =
    let apart : drop line (bytes ++ more) ≡ drop line bytes ++ more = drop-append-le line bytes more (omega arith) in
    let long : length (drop line bytes) ≡ length bytes - line = length-drop line bytes in
    let text_same : text_at (bytes ++ more) line end ≡ text_at bytes line end = ap (take (end - line)) apart ∙ take-append-le (end - line) (drop line bytes) more (omega arith) in
    let header_same : take (header - 1) (bytes ++ more) ≡ take (header - 1) bytes = take-append-le (header - 1) bytes more (omega arith) in
    let at_more : line_length (drop line (bytes ++ more)) ≡ end - line = ap line_length apart ∙ line_length-append_found (drop line bytes) more (omega arith) ∙ at in
    step header line end (bytes ++ more) lines onwards (omega (arith, length-append bytes more)) at_more
    (none_in-drop 7 (take (header - 1) (bytes ++ more)) (subst (λ (l : List ℕ). HasNoLineEnd l) (sym header_same) none))
    (λ e. other (sym text_same ∙ e ∙ ap delimiter_of header_same))

-- where it is the delimiter, the data is there
pub delimiter_found : (header line end : ℕ) (bytes : List ℕ) → line ≤ end → end < length bytes
    → line_length (drop line bytes) ≡ end - line
    → text_at bytes line end ≡ delimiter_of (take (header - 1) bytes)
    → delimited_from header line bytes ≡ data_before (Some (line - header)) (delimiter_of (take (header - 1) bytes)) header bytes
delimiter_found header line end bytes onwards inside at same =
    let delimiter = delimiter_of (take (header - 1) bytes) in
    let rest = drop line bytes in
    let long : length rest ≡ length bytes - line = length-drop line bytes in
    let split : rest ≡ delimiter ++ 10 ∷ drop (end - line + 1) rest = line_split rest (end - line) at (omega arith) ∙ ap (λ text. text ++ 10 ∷ drop (end - line + 1) rest) same in
    ap (λ o. data_before (option_map (λ n. line - header + n) o) delimiter header bytes) (ap (before_delimiter delimiter true) split ∙ before-delimiter_line delimiter (drop (end - line + 1) rest))
    ∙ ap (λ n. data_before (Some n) delimiter header bytes) (omega arith)

-- where no line end comes, there is no delimiter line yet
pub delimiter_missing : (header line : ℕ) (bytes : List ℕ) → HasNoLineEnd (drop line bytes)
    → delimited_from header line bytes ≡ data_before None (delimiter_of (take (header - 1) bytes)) header bytes
delimiter_missing header line bytes none =
    ap (λ o. data_before (option_map (λ n. line - header + n) o) (delimiter_of (take (header - 1) bytes)) header bytes) (before-no_line (delimiter_of (take (header - 1) bytes)) true (drop line bytes) none)

-- the line that was searched in two parts
pub line_at : (bytes : List ℕ) (seen line end : ℕ) → line ≤ seen → seen ≤ length bytes
    → HasNoLineEnd (take (seen - line) (drop line bytes)) → IsLineEnd bytes seen end
    → line_length (drop line bytes) ≡ end - line
line_at bytes seen line end before within none found =
    let same : drop (seen - line) (drop line bytes) ≡ drop seen bytes = drop-drop (seen - line) line bytes ∙ ap (λ n. drop n bytes) (omega arith) in
    line_length-known (drop line bytes) (seen - line) (omega (arith, length-drop line bytes)) none
    ∙ ap (λ l. seen - line + line_length l) same ∙ omega (arith, found.first, found.beyond)

pub none_at : (bytes : List ℕ) (seen line : ℕ) → line ≤ seen → seen ≤ length bytes
    → HasNoLineEnd (take (seen - line) (drop line bytes)) → HasNoLineEnd (drop seen bytes)
    → HasNoLineEnd (drop line bytes)
none_at bytes seen line before within none later =
    let same : drop (seen - line) (drop line bytes) ≡ drop seen bytes = drop-drop (seen - line) line bytes ∙ ap (λ n. drop n bytes) (omega arith) in
    line_length-known (drop line bytes) (seen - line) (omega (arith, length-drop line bytes)) none
    ∙ ap (λ l. seen - line + line_length l) same ∙ omega (arith, later, length-drop line bytes, length-drop seen bytes)

-- the next line of a delimited data
pub in_next_line : (bytes : List ℕ) (seen header line end : ℕ) → seen ≤ length bytes
    → IsInDelimited bytes seen header line → IsLineEnd bytes seen end
    → text_at bytes line end ≢ delimiter_of (take (header - 1) bytes)
    → IsInDelimited bytes (end + 1) header (end + 1)
in_next_line bytes seen header line end within at found other =
    let line_is = line_at bytes seen line end at.seen_on within at.line_so_far found in
    record {
      delimiter = at.delimiter;
      header_line = at.header_line;
      lines = omega (arith, at.lines, at.seen_on, found.beyond);
      seen_on = omega arith;
      line_so_far = subst (λ (n : ℕ). HasNoLineEnd (take n (drop (end + 1) bytes))) (zero_is end) refl;
      leads = λ more. at.leads more ∙ step_more header line end bytes at.lines (omega (arith, at.seen_on, found.beyond)) found.inside line_is at.header_line other more;
    }
  where
    zero_is : (end : ℕ) → 0 ≡ end + 1 - (end + 1)
    zero_is end = omega arith

-- the delimiter line of a delimited data
pub at_delimiter : (bytes : List ℕ) (seen header line end : ℕ) → seen ≤ length bytes
    → IsInDelimited bytes seen header line → IsLineEnd bytes seen end
    → text_at bytes line end ≡ delimiter_of (take (header - 1) bytes) → first_of bytes ≡ data_before (Some (line - header)) (delimiter_of (take (header - 1) bytes)) header bytes
at_delimiter bytes seen header line end within at found same =
    at_once bytes (delimited_from header line) at.leads
    ∙ delimiter_found header line end bytes (omega (arith, at.seen_on, found.beyond)) found.inside (line_at bytes seen line end at.seen_on within at.line_so_far found) same

pub delimiter_length : (bytes : List ℕ) (line end : ℕ) {delimiter : List ℕ} → end < length bytes
    → text_at bytes line end ≡ delimiter → length delimiter ≡ end - line
delimiter_length bytes line end inside same = sym (ap length same) ∙ length-take-le (end - line) (drop line bytes) (omega (arith, length-drop line bytes))

-- a delimited data with no delimiter line yet
pub before_delimiter_line : (bytes : List ℕ) (seen header line : ℕ) → seen ≤ length bytes
    → IsInDelimited bytes seen header line → HasNoLineEnd (drop seen bytes)
    → first_of bytes ≡ data_before None (delimiter_of (take (header - 1) bytes)) header bytes
before_delimiter_line bytes seen header line within at none =
    at_once bytes (delimited_from header line) at.leads
    ∙ delimiter_missing header line bytes (none_at bytes seen line at.seen_on within at.line_so_far none)

pub all_seen : (bytes : List ℕ) (seen header line : ℕ) → seen ≤ length bytes
    → IsInDelimited bytes seen header line → HasNoLineEnd (drop seen bytes)
    → IsInDelimited bytes (length bytes) header line
all_seen bytes seen header line within at none = record {
  delimiter = at.delimiter;
  header_line = at.header_line;
  lines = at.lines;
  seen_on = omega (arith, at.seen_on);
  line_so_far = none_in-take (length bytes - line) (drop line bytes) (none_at bytes seen line at.seen_on within at.line_so_far none);
  leads = at.leads;
}

-- what is found is what comes next
pub next_found : (bytes : List ℕ) (place : Place) (skips : Bool) (found : Found)
    → tail_at bytes place ≡ Rest skips bytes → StandsFirst skips bytes
    → first_found bytes found ≡ first_of bytes → WaitsWithAll bytes found → IsNext bytes place found
next_found bytes place skips (Waits next) at here e all = (
  rw (at, all) (waits bytes skips here),
  rw all (waits_for_more bytes (sym e)),
)
next_found bytes place skips (Passes n) at here e all =
    let fits : Fits bytes (Skips n) = subst (Fits bytes) (sym e) (first-fits bytes) in
    (fits.0, fits.1, rw at (passes bytes skips n here (sym e)))
next_found bytes place skips (Lends item n) at here e all =
    let fits : Fits bytes (Gives (item_of item) n) = subst (Fits bytes) (sym e) (first-fits bytes) in
    (fits.0, fits.1, rw at (takes bytes skips (item_of item) n here (sym e)))
next_found bytes place skips (Fails fault) at here e all = rw at (fails bytes skips fault here (sym e))

-- where the first line end stands, and none before it
pub line_from_start : (bytes : List ℕ) (seen end : ℕ) → seen ≤ length bytes
    → HasNoLineEnd (take seen bytes) → IsLineEnd bytes seen end → line_length bytes ≡ end
line_from_start bytes seen end within none found = line_length-known bytes seen within none ∙ omega (arith, found.first, found.beyond)

pub none_from_start : (bytes : List ℕ) (seen : ℕ) → seen ≤ length bytes
    → HasNoLineEnd (take seen bytes) → HasNoLineEnd (drop seen bytes) → HasNoLineEnd bytes
none_from_start bytes seen within none later = line_length-known bytes seen within none ∙ omega (arith, later, length-drop seen bytes)

-- a data header that is there
pub in_counted : (bytes : List ℕ) (end size : ℕ) → line_length bytes ≡ end → end ≤ longest_line
    → end < length bytes → Counted size ≡ kind_of (take end bytes)
    → IsInCounted bytes (end + 1) size
in_counted bytes end size at short found kind_is = record {
  inside = omega arith;
  some = omega arith;
  leads = λ more. first-append_line bytes more end at short found ∙ ap (λ kind. whole_line kind (take end bytes) (end + 1) (bytes ++ more)) (sym kind_is);
}

pub in_delimited : (bytes : List ℕ) (end : ℕ) → line_length bytes ≡ end → end ≤ longest_line
    → end < length bytes → Delimited ≡ kind_of (take end bytes)
    → IsInDelimited bytes (end + 1) (end + 1) (end + 1)
in_delimited bytes end at short found kind_is = record {
  delimiter = omega (arith, kind-delimited (take end bytes) (sym kind_is), length-take-le end bytes (omega arith));
  header_line = subst (λ (n : ℕ). HasNoLineEnd (take n bytes)) (at ∙ omega arith) (none_in_line bytes);
  lines = omega arith;
  seen_on = omega arith;
  line_so_far = subst (λ (n : ℕ). HasNoLineEnd (take n (drop (end + 1) bytes))) (zero_is end) refl;
  leads = λ more.
      first-append_line bytes more end at short found
      ∙ ap (λ kind. whole_line kind (take end bytes) (end + 1) (bytes ++ more)) (sym kind_is)
      ∙ ap (λ o. data_before o (delimiter_of (take end bytes)) (end + 1) (bytes ++ more)) (sym (option_map-same (λ n. end + 1 - (end + 1) + n) (λ n. n) _ (λ n. omega arith) ∙ option_map_id _))
      ∙ ap (λ text. data_before (option_map (λ n. end + 1 - (end + 1) + n) (before_delimiter (delimiter_of text) true (drop (end + 1) (bytes ++ more)))) (delimiter_of text) (end + 1) (bytes ++ more)) (header_is more);
}
  where
    zero_is : (end : ℕ) → 0 ≡ end + 1 - (end + 1)
    zero_is end = omega arith

    header_is : (more : List ℕ) → take end bytes ≡ take (end + 1 - 1) (bytes ++ more)
    header_is more = sym (take-append-le end bytes more (omega arith)) ∙ ap (λ n. take n (bytes ++ more)) (omega arith)

-- a whole line
pub by_kind : (bytes : List ℕ) (end : ℕ) (kind : LineKind) → line_length bytes ≡ end
    → end ≤ longest_line → end < length bytes → kind ≡ kind_of (take end bytes)
    → whole_line kind (take end bytes) (end + 1) bytes ≡ first_of bytes
by_kind bytes end kind at short found kind_is =
    ap (λ k. whole_line k (take end bytes) (end + 1) bytes) kind_is ∙ sym (first-whole_at bytes end at short found)
