-- Items taken one after another, and the lines among them.
use Rattle.std.proofs.Common.{◌≡◌, ℕ, ◌<◌, Bool, false, List, [], ◌∷◌, ◌++◌, length, Option, None, Some, Result, Ok, refl, sym, ap, subst, ◌∙◌, arith, append_assoc, append-nil}
use Rattle.stream_lex.specs.declared.fault.Fault.{Fault}
use Rattle.stream_lex.specs.declared.item.Item.{Item as Lent}
use Rattle.stream_lex.specs.declared.item.Item.TheVariants.{Line as LentLine, Data as LentData, Blank as LentBlank}
use Rattle.stream_lex.specs.Items.{Item, Tail, Rest, Failed, Reading, after_items}
use Rattle.stream_lex.specs.Lexer.{GivesFirst, ended}
use Rattle.stream_lex.specs.Looking.{item_of}
use Rattle.stream_lex.specs.Reading.{reading, walk}
use Rattle.stream_lex.specs.Running.{more_of, Takes}
use Rattle.uses.specs.Outlines.{Outlines, line_of, outline_of}

-- one item more was taken
pub took : (old : Tail) (r : Result (Option Lent) Fault) (o : Option Lent) (item : Lent) (new : Tail)
    → r ≡ Ok o → o ≡ Some item → GivesFirst old r new → Takes old (item_of item) new
took old r o item new is some gives =
    let e : r ≡ Ok (Some item) = is ∙ ap (λ x. Ok x) some in
    subst (λ (x : Result (Option Lent) Fault). GivesFirst old x new) e gives

-- none was left
pub took-none : (old : Tail) (r : Result (Option Lent) Fault) (o : Option Lent) (new : Tail)
    → r ≡ Ok o → o ≡ None → GivesFirst old r new → (more : List ℕ) → more_of old more ≡ more_of new more
took-none old r o new is none gives =
    let e : r ≡ Ok None = is ∙ ap (λ x. Ok x) none in
    (subst (λ (x : Result (Option Lent) Fault). GivesFirst old x new) e gives).0

-- an item that is no line has none
pub no-line : (item : Lent) → ((line : _) → item ≡ LentLine line → ⊥) → line_of (item_of item) ≡ []
no-line (LentLine line) other = absurd (other line refl)
no-line (LentData raw) other = refl
no-line LentBlank other = refl

-- fewer are to come
pub fewer : (rest : Tail) (item : Item) (new : Tail) → Takes rest item new
    → length (more_of new []).items < length (more_of rest []).items
fewer rest item new takes =
    let e : length (more_of rest []).items ≡ length (item ∷ (more_of new []).items) = ap
    (λ (r : Reading). length r.items) (takes []) in
    omega (arith, e)

pub none-yet : (tail : Tail) (out : List ℕ) → Outlines tail out tail out
none-yet tail out = record { items = []; taken = λ more. refl; appended = sym (append-nil out) }

-- with the line of one item more
outline-more : (items : List Item) (item : Item) → outline_of (items ++ item ∷ []) ≡ outline_of items ++ line_of item
outline-more [] item = append-nil (line_of item)
outline-more (first ∷ items) item =
    ap (λ (later : List ℕ). line_of first ++ later) (outline-more items item)
    ∙ sym (append_assoc (line_of first) (outline_of items) (line_of item))

pub one-more : (old rest new : Tail) (before out after : List ℕ) (item : Item)
    → Outlines old before rest out → Takes rest item new → after ≡ out ++ line_of item
    → Outlines old before new after
one-more old rest new before out after item so_far takes printed = record {
  items = so_far.items ++ item ∷ [];
  taken = λ more.
      so_far.taken more ∙ ap (after_items so_far.items) (takes more)
      ∙ ap (λ l. record { items = l; tail = (more_of new more).tail })
      (sym (append_assoc so_far.items (item ∷ []) (more_of new more).items));
  appended =
      printed ∙ ap (λ (l : List ℕ). l ++ line_of item) so_far.appended
      ∙ append_assoc before (outline_of so_far.items) (line_of item)
      ∙ ap (λ (l : List ℕ). before ++ l) (sym (outline-more so_far.items item));
}

pub no-more : (old rest new : Tail) (before out : List ℕ)
    → Outlines old before rest out → ((more : List ℕ) → more_of rest more ≡ more_of new more)
    → Outlines old before new out
no-more old rest new before out so_far same = record {
  items = so_far.items;
  taken = λ more. so_far.taken more ∙ ap (after_items so_far.items) (same more);
  appended = so_far.appended;
}

-- a stream of which all items were taken, and nothing is left
left-nothing : (tail : Tail) (u : Unit {0}) → ended tail ≡ Ok u → (skips : Bool) × (tail ≡ Rest skips [])
left-nothing (Rest skips []) u e = (skips, refl)
left-nothing (Rest skips (byte ∷ bytes)) u e = cc e
left-nothing (Failed fault) u e = cc e

all-read : (stream : List ℕ) (new : Tail) (items : List Item) (skips : Bool)
    → ((more : List ℕ) → more_of (Rest false stream) more ≡ after_items items (more_of new more))
    → new ≡ Rest skips [] → reading false stream ≡ record { items = items; tail = Rest skips [] }
unfolding walk
all-read stream new items skips taken nothing =
    ap (reading false) (sym (append-nil stream)) ∙ taken []
    ∙ ap (λ (t : Tail). after_items items (more_of t [])) nothing
    ∙ ap (λ (l : List Item). record { items = l; tail = Rest skips [] }) (append-nil items)

-- so its lines were appended, and it was read whole
pub is-outlined : (stream : List ℕ) (old new : Tail) (before out : List ℕ) (u : Unit {0})
    → Outlines old before new out → old ≡ Rest false stream → before ≡ [] → ended new ≡ Ok u
    → (out ≡ outline_of (reading false stream).items)
    × ((skips : Bool) × ((reading false stream).tail ≡ Rest skips []))
is-outlined stream old new before out u all fresh empty e = (
  all.appended ∙ ap (λ (l : List ℕ). l ++ outline_of all.items) empty
      ∙ ap (λ (r : Reading). outline_of r.items) (sym read),
  (nothing.0, ap (λ (r : Reading). r.tail) read),
)
  where
    nothing : (skips : Bool) × (new ≡ Rest skips [])
    nothing = left-nothing new u e

    read : reading false stream ≡ record { items = all.items; tail = Rest nothing.0 [] }
    read =
        all-read stream new all.items nothing.0
        (λ more. ap (λ (t : Tail). more_of t more) (sym fresh) ∙ all.taken more) nothing.1
