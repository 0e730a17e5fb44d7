-- How streams go on, item by item.
use Rattle.std.proofs.Common.{◌≡◌, ◌≢◌, ℕ, ◌⊎◌, inl, inr, Bool, true, false, List, [], ◌∷◌, ◌++◌, length, Option, None, Some, Result, Ok, Err, refl, sym, ap, subst, ◌∙◌, append_assoc, append-nil}
use Rattle.std.proofs.lemmas.Bool.{false≢true}
use Rattle.stream_lex.specs.declared.fault.Fault.{Fault as LexFault}
use Rattle.stream_lex.specs.Faults.{code_of as item_code}
use Rattle.stream_lex.specs.declared.item.Item.{Item as Lent}
use Rattle.stream_lex.specs.Looking.{item_of}
use Rattle.stream_lex.specs.declared.fault.Fault.TheVariants as lex_fault
use Rattle.stream_lex.specs.Lexer.{GivesFirst}
use Rattle.stream_lex.specs.Items.{Item, Tail, Failed, after_items}
use Rattle.stream_lex.specs.Running.{extended, more_of, Takes as TakesItem, ReadsAlike, HasNoItem}
use Rattle.stream_parts.specs.declared.fault.Fault.{Fault}
use Rattle.stream_parts.specs.declared.fault.Fault.TheVariants as fault
use Rattle.stream_parts.specs.Faults.{code_of}
use Rattle.import_session.specs.Session.{Takes}
use Rattle.import_session.specs.Stream.{Running, Step, Outcome, after_reply, carried, going_on, at_tail, refused, step}
use Rattle.tenant_stream.specs.Stopping.{stop_of, unfed}
use Rattle.tenant_stream.specs.Carrying.{Held, with_piece, HasCarriedOut, HasCarriedOutAll, HasStoppedAfter, WasRefused, ReadsOn, IsDrained, Carries, Feeds}

-- an item that was carried out stands first
carried_first : (digest : List ℕ → List ℕ) (now : Running) (item : Item) (s : Step)
    (later : List Item) (tail : Tail)
    → step digest now item ≡ Ok s
    → carried digest now (item ∷ later) tail ≡ after_reply s.reply
    (carried digest s.running later tail)
unfolding carried
carried_first digest now item s later tail was =
    ap (λ r. going_on now r (λ next. carried digest next later tail)) was

carried_refused : (digest : List ℕ → List ℕ) (now : Running) (item : Item) (e : Fault)
    (later : List Item) (tail : Tail)
    → step digest now item ≡ Err e
    → carried digest now (item ∷ later) tail ≡ refused (code_of e) now.workspace
unfolding carried
carried_refused digest now item e later tail was =
    ap (λ r. going_on now r (λ next. carried digest next later tail)) was

carried_failed : (digest : List ℕ → List ℕ) (now : Running) (f : LexFault) → now.is_done ≡ false
    → carried digest now [] (Failed f) ≡ refused (item_code f) now.workspace
unfolding carried at_tail
carried_failed digest now f running = rw running refl

-- replies in turn
after_replies : (a b : List ℕ) (o : Outcome) → after_reply a (after_reply b o) ≡ after_reply
    (a ++ b) o
after_replies a b o = ap (λ r. record { replies = r; status = o.status })
    (sym (append_assoc a b o.replies))

-- nothing was done
pub nothing_carried : (digest : List ℕ → List ℕ) (held : Held) → HasCarriedOut digest held [] held
nothing_carried digest held = record {
  replies = [];
  reads = λ more. refl;
  goes_on = λ later tail. refl;
  printed = sym (append-nil held.out);
}

-- one item more
pub reads_more : (old : Tail) (items : List Item) (rest : Tail) (item : Item) (new : Tail)
    → ReadsOn old items rest → TakesItem rest item new → ReadsOn old (items ++ item ∷ []) new
reads_more old items rest item new reads takes more =
    reads more ∙ ap (after_items items) (takes more)
    ∙ ap (λ l. record { items = l; tail = (more_of new more).tail })
    (sym (append_assoc items (item ∷ []) (more_of new more).items))

-- a refusal is the item's, unless memory ran out
refused_by : (r : Result Step Fault) (next : Running) (out out' : List ℕ) (e : Fault)
    → e ≢ fault.Memory → Takes r next out out' (Err e) → r ≡ Err e
refused_by (Ok s) next out out' e other taken = absurd (other taken)
refused_by (Err refusal) next out out' e other taken = ap (λ x. Err x) (sym (taken other))

drained : (b : Bool) (tail : Tail) → (b ≡ false → HasNoItem tail) → IsDrained b tail
drained true tail none = tt
drained false tail none = none refl

-- ---- a stream that has carried out some items

module _ (digest : List ℕ → List ℕ) (before middle : Held) (items : List Item)
    (so_far : HasCarriedOut digest before items middle) where
  -- all that was complete was carried out
  pub all_carried : (tail : Tail) → ReadsAlike middle.tail tail
      → (middle.running.is_done ≡ false → HasNoItem tail)
      → HasCarriedOutAll digest before (record middle { tail = tail })
  all_carried tail alike none = record {
    items = items;
    carried_out = record {
      replies = so_far.replies;
      reads = λ more. so_far.reads more ∙ ap (after_items items) (alike more);
      goes_on = so_far.goes_on;
      printed = so_far.printed;
    };
    drained = drained middle.running.is_done tail none;
  }

  -- the bytes cannot be read on
  pub tail_stops : (tail : Tail) (f : LexFault) → middle.running.is_done ≡ false
      → ReadsAlike middle.tail (Failed f)
      → WasRefused digest before (item_code f) (record middle { tail = tail })
  tail_stops tail f running alike = record {
    items = items;
    middle = middle;
    stopped = record { carried_out = so_far; running = running; printed = refl; checkpoint = refl };
    refused = λ more. ap (λ r. carried digest middle.running r.items r.tail) (alike more)
        ∙ carried_failed digest middle.running f running;
  }

  -- the next item is this one
  module _ (item : Item) (after : Held) (takes : TakesItem middle.tail item after.tail) where
    -- it was carried out
    one_more : (r : Result Step Fault) → step digest middle.running item ≡ r
        → Takes r after.running middle.out after.out (Ok tt)
        → HasCarriedOut digest before (items ++ item ∷ []) after
    one_more (Ok s) was taken = record {
      replies = so_far.replies ++ s.reply;
      reads = reads_more before.tail items middle.tail item after.tail so_far.reads takes;
      goes_on = λ later t.
          ap (λ l. carried digest before.running l t) (append_assoc items (item ∷ []) later)
          ∙ so_far.goes_on (item ∷ later) t
          ∙ ap (after_reply so_far.replies)
          (carried_first digest middle.running item s later t was
          ∙ ap (λ (r : Running). after_reply s.reply (carried digest r later t)) taken.0)
          ∙ after_replies so_far.replies s.reply (carried digest after.running later t);
      printed = taken.1 ∙ ap (λ l. l ++ s.reply) so_far.printed
          ∙ append_assoc before.out so_far.replies s.reply;
    }
    one_more (Err refusal) was taken = absurd taken

    pub carries_on : Takes (step digest middle.running item) after.running middle.out after.out (Ok tt)
        → HasCarriedOut digest before (items ++ item ∷ []) after
    carries_on = one_more (step digest middle.running item) refl

    -- it was refused
    refuses : (e : Fault) → HasStoppedAfter digest before items middle after → e ≢ fault.Memory
        → Takes (step digest middle.running item) after.running middle.out after.out (Err e)
        → WasRefused digest before (code_of e) after
    refuses e stopped other taken = record {
      items = items;
      middle = middle;
      stopped = stopped;
      refused = λ more. ap (λ r. carried digest middle.running r.items r.tail) (takes more)
          ∙ carried_refused digest middle.running item e (more_of after.tail more).items
          (more_of after.tail more).tail
          (refused_by (step digest middle.running item) after.running middle.out after.out e other
          taken);
    }

    -- or memory ran out at it
    pub item_stops : (count : ℕ) (e : Fault) → HasStoppedAfter digest before items middle after
        → length items ≡ count
        → Takes (step digest middle.running item) after.running middle.out after.out (Err e)
        → Carries digest before (Err (stop_of e count)) after
    item_stops count fault.Memory stopped counted taken =
        record { items = items; middle = middle; stopped = stopped; counted = counted }
    item_stops count e stopped counted taken = refuses e stopped (λ memory. cc) taken

-- what an answer of the lexer says
pub took_item : (old : Tail) (r : Result (Option Lent) LexFault) (o : Option Lent) (item : Lent)
    (new : Tail)
    → r ≡ Ok o → o ≡ Some item → GivesFirst old r new → TakesItem old (item_of item) new
took_item old r o item new is some gives =
    let e : r ≡ Ok (Some item) = is ∙ ap (λ x. Ok x) some in
    subst (λ (x : Result (Option Lent) LexFault). GivesFirst old x new) e gives

pub gave_none : (old : Tail) (r : Result (Option Lent) LexFault) (o : Option Lent) (new : Tail)
    → r ≡ Ok o → o ≡ None → GivesFirst old r new → ReadsAlike old new × HasNoItem new
gave_none old r o new is none gives =
    let e : r ≡ Ok None = is ∙ ap (λ x. Ok x) none in
    subst (λ (x : Result (Option Lent) LexFault). GivesFirst old x new) e gives

pub gave_fault : (old : Tail) (r : Result (Option Lent) LexFault) (f : LexFault) (new : Tail)
    → r ≡ Err f → GivesFirst old r new → ReadsAlike old (Failed f)
gave_fault old r f new is gives more =
    let fault = subst (λ (x : Result (Option Lent) LexFault). GivesFirst old x new) is gives in
    fault.0 more ∙ ap (λ t. more_of t more) fault.1

-- a piece that the lexer did not take
unfed_carries : (digest : List ℕ → List ℕ) (held : Held) (f : LexFault) (piece : List ℕ) (tail : Tail)
    → held.running.is_done ≡ false → (f ≡ lex_fault.Memory) ⊎ (held.tail ≡ Failed f)
    → Carries digest (with_piece held piece) (Err (unfed f)) (record held { tail = tail })
unfed_carries digest held lex_fault.Memory piece tail running why =
    let whole = with_piece held piece in
    record {
      items = [];
      middle = whole;
      stopped = record {
        carried_out = nothing_carried digest whole;
        running = running;
        printed = refl;
        checkpoint = refl;
      };
      counted = refl;
    }
unfed_carries digest held f piece tail running (inl e) = cc
unfed_carries digest held f piece tail running (inr e) =
    tail_stops digest (with_piece held piece) (with_piece held piece) []
    (nothing_carried digest (with_piece held piece)) tail f running
    (λ more. ap (λ t. more_of (extended t piece) more) e)

pub unfed_feeds : (digest : List ℕ → List ℕ) (held : Held) (f : LexFault) (piece : List ℕ)
    (tail : Tail) → held.running.is_done ≡ false → (f ≡ lex_fault.Memory) ⊎ (held.tail ≡ Failed f)
    → Feeds digest held piece (Err (unfed f)) (record held { tail = tail })
unfed_feeds digest held f piece tail running why = record {
  ignored = λ done. absurd (false≢true (sym running ∙ done));
  taken = λ _. unfed_carries digest held f piece tail running why;
}
