-- Contents that are no longer than one line fit into a stream.
use Rattle.std.proofs.Common.{ℕ, ◌≤◌, List, [], ◌∷◌, ◌++◌, length, Option, None, Some, sym, ap, subst, ◌∙◌, codes, arith, length-append}
use Rattle.std.specs.Prelude.{IfSome}
use Rattle.std.specs.List.{flat_map}
use Rattle.git_model.specs.declared.kind.Kind.{Kind}
use Rattle.git_model.specs.declared.kind.Kind.TheVariants as kind
use Rattle.git_model.specs.Commit.{Commit, commit_contents, line, name_line, optional_line}
use Rattle.git_model.specs.CommitReading.{commit_read}
use Rattle.git_model.specs.GoodRepository.{IsValid}
use Rattle.git_model.specs.Kind.{kind_word}
use Rattle.git_model.specs.Repository.{Object}
use Rattle.git_model.specs.Tag.{Tag, tag_contents}
use Rattle.git_model.specs.TagReading.{tag_read}
use Rattle.git_model.proofs.CommitReadings.{commit_back}
use Rattle.git_model.proofs.TagReadings.{tag_back}
use Rattle.export_text.specs.Limits.{FitsTag}
use Rattle.export_laws.specs.Copies.{CommitFits, FitsStream}

-- both parts are no longer than the whole
record ArePartsWithin (n : ℕ) (xs ys : List ℕ) : Type 0 where
  front : length xs ≤ n
  back : length ys ≤ n

parts : (n : ℕ) (xs ys : List ℕ) → length (xs ++ ys) ≤ n → ArePartsWithin n xs ys
parts n xs ys whole =
    let sum = length-append xs ys in
    record { front = omega (arith, sum, whole); back = omega (arith, sum, whole) }

in-line : (n : ℕ) (word text : List ℕ) → length (line word text) ≤ n → length (word ++ text) ≤ n
in-line n word text whole = (parts n (word ++ text) (10 ∷ []) whole).front

in-optional : (n : ℕ) (word : List ℕ) (text : Option (List ℕ)) → length (optional_line word text) ≤ n
    → IfSome text (λ t. length (word ++ t) ≤ n)
in-optional n word None whole = tt
in-optional n word (Some text) whole = in-line n word text whole

in-message : (n : ℕ) (message : List ℕ) → length (10 ∷ message) ≤ n → length message ≤ n
in-message n message whole = omega (arith, whole)

commit-fits : (c : Commit) → length (commit_contents c) ≤ 1048575 → CommitFits c
commit-fits c short =
    let names = name_line (codes "tree ") c.tree ++ flat_map (name_line (codes "parent ")) c.parents in
    let author = names ++ line (codes "author ") c.author in
    let committer = author ++ line (codes "committer ") c.committer in
    let encoding = committer ++ optional_line (codes "encoding ") c.encoding in
    let last = parts 1048575 encoding (10 ∷ c.message) short in
    let third = parts 1048575 committer (optional_line (codes "encoding ") c.encoding) last.front in
    let second = parts 1048575 author (line (codes "committer ") c.committer) third.front in
    let first = parts 1048575 names (line (codes "author ") c.author) second.front in
    let message = in-message 1048575 c.message last.back in
    record {
      author = in-line 1048575 (codes "author ") c.author first.back;
      committer = in-line 1048575 (codes "committer ") c.committer second.back;
      encoding = in-optional 1048575 (codes "encoding ") c.encoding third.back;
      message = omega (arith, message);
    }

tag-fits : (t : Tag) → length (tag_contents t) ≤ 1048575 → FitsTag t
tag-fits t short =
    let names = name_line (codes "object ") t.target ++ line (codes "type ") (kind_word t.kind)
    ++ line (codes "tag ") t.name in
    let tagger = names ++ optional_line (codes "tagger ") t.tagger in
    let last = parts 1048575 tagger (10 ∷ t.message) short in
    let first = parts 1048575 names (optional_line (codes "tagger ") t.tagger) last.front in
    let message = in-message 1048575 t.message last.back in
    record {
      tagger = in-optional 1048575 (codes "tagger ") t.tagger first.back;
      message = omega (arith, message);
    }

pub short-fits : (os : List Object) (k : Kind) (bytes : List ℕ) → IsValid os k bytes
    → length bytes ≤ 1048575 → FitsStream k bytes
short-fits os kind.Blob bytes valid short = omega (arith, short)
short-fits os kind.Tree bytes valid short = tt
short-fits os kind.Commit bytes valid short =
    subst CommitFits (sym (ap commit_read valid.1.contents ∙ commit_back valid.0 valid.1.writable))
    (commit-fits valid.0 (subst (λ (b : List ℕ). length b ≤ 1048575) valid.1.contents short))
short-fits os kind.Tag bytes valid short =
    subst FitsTag (sym (ap tag_read valid.1.contents ∙ tag_back valid.0 valid.1.writable))
    (tag-fits valid.0 (subst (λ (b : List ℕ). length b ≤ 1048575) valid.1.contents short))
