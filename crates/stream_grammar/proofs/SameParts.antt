-- Parts are told apart by their places.
use Rattle.std.proofs.Common.{◌≡◌, refl, sym, ◌∙◌, ap, ℕ, true, nat_eq, List, [], ◌∷◌, get_or}
use Rattle.std.proofs.lemmas.Bool.{eqb-true, eq-eqb}
use Rattle.stream_grammar.specs.declared.part.Part.{Part}
use Rattle.stream_grammar.specs.declared.part.Part.TheVariants as part
use Rattle.stream_grammar.specs.declared.part.OpeningLine.TheVariants as opening
use Rattle.stream_grammar.specs.declared.part.ReplyLine.TheVariants as reply
use Rattle.stream_grammar.specs.declared.part.ControlLine.TheVariants as control
use Rattle.stream_grammar.specs.declared.part.HeaderLine.TheVariants as header
use Rattle.stream_grammar.specs.declared.part.CommitIshLine.TheVariants as commit_ish
use Rattle.stream_grammar.specs.declared.part.ChangeLine.TheVariants as change
use Rattle.stream_grammar.specs.Parts.{place_of, same}

-- All parts, each at its place.
abbrev parts : List Part
parts =
    part.Opening opening.Blob ∷ part.Opening opening.Commit ∷ part.Opening opening.Tag ∷ part.Opening opening.Reset ∷ part.Opening opening.Alias
    ∷ part.Reply reply.Progress ∷ part.Reply reply.GetMark ∷ part.Reply reply.CatBlob ∷ part.Reply reply.Ls
    ∷ part.Control control.Checkpoint ∷ part.Control control.Done ∷ part.Control control.Feature ∷ part.Control control.OptionCommand
    ∷ part.Header header.Mark ∷ part.Header header.OriginalOid ∷ part.Header header.Author ∷ part.Header header.Committer ∷ part.Header header.Encoding ∷ part.Header header.Tagger
    ∷ part.CommitIsh commit_ish.From ∷ part.CommitIsh commit_ish.Merge ∷ part.CommitIsh commit_ish.To
    ∷ part.Change change.Modify ∷ part.Change change.ModifyInline ∷ part.Change change.Delete ∷ part.Change change.Copy ∷ part.Change change.Rename ∷ part.Change change.DeleteAll
    ∷ part.Data ∷ part.Blank ∷ part.Unknown ∷ []

part_at-place : (one : Part) → get_or parts (place_of one) part.Unknown ≡ one
part_at-place (part.Opening opening.Blob) = refl
part_at-place (part.Opening opening.Commit) = refl
part_at-place (part.Opening opening.Tag) = refl
part_at-place (part.Opening opening.Reset) = refl
part_at-place (part.Opening opening.Alias) = refl
part_at-place (part.Reply reply.Progress) = refl
part_at-place (part.Reply reply.GetMark) = refl
part_at-place (part.Reply reply.CatBlob) = refl
part_at-place (part.Reply reply.Ls) = refl
part_at-place (part.Control control.Checkpoint) = refl
part_at-place (part.Control control.Done) = refl
part_at-place (part.Control control.Feature) = refl
part_at-place (part.Control control.OptionCommand) = refl
part_at-place (part.Header header.Mark) = refl
part_at-place (part.Header header.OriginalOid) = refl
part_at-place (part.Header header.Author) = refl
part_at-place (part.Header header.Committer) = refl
part_at-place (part.Header header.Encoding) = refl
part_at-place (part.Header header.Tagger) = refl
part_at-place (part.CommitIsh commit_ish.From) = refl
part_at-place (part.CommitIsh commit_ish.Merge) = refl
part_at-place (part.CommitIsh commit_ish.To) = refl
part_at-place (part.Change change.Modify) = refl
part_at-place (part.Change change.ModifyInline) = refl
part_at-place (part.Change change.Delete) = refl
part_at-place (part.Change change.Copy) = refl
part_at-place (part.Change change.Rename) = refl
part_at-place (part.Change change.DeleteAll) = refl
part_at-place part.Data = refl
part_at-place part.Blank = refl
part_at-place part.Unknown = refl

pub same-equal : (one other : Part) → same one other ≡ true → one ≡ other
same-equal one other is =
    sym (part_at-place one)
    ∙ ap (λ (place : ℕ). get_or parts place part.Unknown) (eqb-true (place_of one) (place_of other) is)
    ∙ part_at-place other

same-itself : (one : Part) → same one one ≡ true
same-itself one = eq-eqb (place_of one) (place_of one) refl

pub equal-same : (one other : Part) → one ≡ other → same one other ≡ true
equal-same one other equal = rw equal (same-itself other)
