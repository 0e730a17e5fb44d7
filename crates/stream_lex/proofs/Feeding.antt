-- More bytes after what is held.
use Rattle.std.proofs.Common.{◌≡◌, ℕ, ◌≤◌, List, ◌++◌, length, drop, false, refl, sym, ap, ◌∙◌, append_assoc}
use Rattle.std.proofs.lemmas.List.{drop-append-le}
use Rattle.stream_lex.specs.declared.fault.Fault.{Fault}
use Rattle.stream_lex.specs.declared.place.Place.{Place}
use Rattle.stream_lex.specs.declared.place.Place.TheVariants.{Line, Counted, Delimited, Failed as HasFailed}
use Rattle.stream_lex.specs.declared.cursor.Cursor.{Cursor}
use Rattle.stream_lex.specs.Items.{Item, Tail, Rest, Failed, after_items}
use Rattle.stream_lex.specs.Reading.{reading}
use Rattle.stream_lex.specs.Running.{extended, more_of, Leads}
use Rattle.stream_lex.specs.Looking.{tail_at}
use Rattle.stream_lex.specs.Cursor.{tail_of}

tail_at-append : (bytes piece : List ℕ) (place : Place)
    → tail_at (bytes ++ piece) place ≡ extended (tail_at bytes place) piece
tail_at-append bytes piece (Line after_data) = refl
tail_at-append bytes piece (Counted header size) = refl
tail_at-append bytes piece (Delimited header line) = refl
tail_at-append bytes piece (HasFailed fault) = refl

-- the tail of a buffer that has grown
pub tail_of-append : (old new piece : List ℕ) (cursor : Cursor) (rest : List ℕ)
    → cursor.taken ≤ length old → drop cursor.taken old ≡ rest → new ≡ old ++ piece
    → tail_of new cursor ≡ extended (tail_at rest cursor.place) piece
tail_of-append old new piece cursor rest inside same grown =
    ap (λ l. tail_at (drop cursor.taken l) cursor.place) grown
    ∙ ap (λ l. tail_at l cursor.place) (drop-append-le cursor.taken old piece inside ∙ ap (λ l. l ++ piece) same)
    ∙ tail_at-append rest piece cursor.place

more_of-extended : (tail : Tail) (piece more : List ℕ)
    → more_of tail (piece ++ more) ≡ more_of (extended tail piece) more
more_of-extended (Rest skips bytes) piece more = ap (reading skips) (sym (append_assoc bytes piece more))
more_of-extended (Failed fault) piece more = refl

pub Leads-extended : (bytes piece : List ℕ) (items : List Item) (tail : Tail)
    → Leads bytes items tail → Leads (bytes ++ piece) items (extended tail piece)
Leads-extended bytes piece items tail leads more =
    ap (reading false) (append_assoc bytes piece more) ∙ leads (piece ++ more) ∙ ap (after_items items) (more_of-extended tail piece more)

-- a tail that is a fault is the place's
pub place-failed : (bytes : List ℕ) (place : Place) (fault : Fault)
    → tail_at bytes place ≡ Failed fault → place ≡ HasFailed fault
place-failed bytes (Line after_data) fault e = cc
place-failed bytes (Counted header size) fault e = cc
place-failed bytes (Delimited header line) fault e = cc
place-failed bytes (HasFailed other) fault e = cc
