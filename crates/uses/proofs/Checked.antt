-- Items given to a parser one after another.
use Rattle.std.proofs.Common.{◌≡◌, ℕ, ◌+◌, ◌<◌, List, [], ◌∷◌, ◌++◌, length, map, take, get_or, Result, Ok, Err, refl, sym, ap, ◌∙◌, add-one}
use Rattle.std.proofs.lemmas.List.{map-append}
use Rattle.std.proofs.Math.Seq.{take-suc}
use Rattle.stream_grammar.specs.declared.fault.Fault.{Fault}
use Rattle.stream_grammar.specs.Commands.{Commands, Parsing, after, commands, done_of, next_of, step, Step, then_given, top}
use Rattle.stream_grammar.proofs.InTurn.{commands-append}
use Rattle.stream_lex.specs.declared.item.Item.{Item as Lent}
use Rattle.stream_lex.specs.Items.{Item}
use Rattle.stream_lex.specs.Looking.{item_of}

-- no item leaves what was there
pub none : (parsing : Parsing) → (commands parsing []).rest ≡ parsing
unfolding commands
none parsing = refl

-- one item leaves what it leaves
one : (parsing : Parsing) (item : Item) → (commands parsing (item ∷ [])).rest ≡ after parsing item
unfolding commands
one (Ok now) item = by (step now item)
  where
    by : (r : Result Step Fault)
        → (then_given (done_of r) (commands (next_of r) [])).rest ≡ next_of r
    by (Ok s) = refl
    by (Err e) = refl
one (Err e) item = refl

-- and one more leaves what it leaves after those before it
one-more : (parsing : Parsing) (front : List Item) (item : Item)
    → (commands parsing (front ++ item ∷ [])).rest ≡ after (commands parsing front).rest item
one-more parsing front item =
    ap (λ (c : Commands). c.rest) (commands-append parsing front (item ∷ []))
    ∙ one (commands parsing front).rest item

-- a loop over items goes on
pub goes_on : (items : List Lent) (i : ℕ) (d : Lent) (now next : Parsing) → i < length items
    → now ≡ (commands (Ok top) (map item_of (take i items))).rest
    → next ≡ after now (item_of (get_or items i d))
    → next ≡ (commands (Ok top) (map item_of (take (i + 1) items))).rest
goes_on items i d now next within is leaves =
    leaves ∙ ap (λ p. after p (item_of (get_or items i d))) is
    ∙ sym (one-more (Ok top) (map item_of (take i items)) (item_of (get_or items i d)))
    ∙ ap (λ (l : List Item). (commands (Ok top) l).rest) (sym more)
  where
    more : map item_of (take (i + 1) items)
        ≡ map item_of (take i items) ++ item_of (get_or items i d) ∷ []
    more =
        rw add-one (ap (map item_of) (take-suc items i d within)
        ∙ map-append item_of (take i items) (get_or items i d ∷ []))
