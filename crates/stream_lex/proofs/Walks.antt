-- The reading of bytes, step by step.
use Rattle.std.proofs.Common.{◌≡◌, ◌≢◌, ℕ, zero, suc, ◌-◌, ◌<◌, ◌≤◌, Bool, true, false, ◌&&◌, List, [], ◌∷◌, ◌++◌, length, drop, arith, refl, sym, ap, ◌∙◌, subst, eq-eqb, ne_eqb, get_or}
use Rattle.std.proofs.lemmas.List.{drop-append-le, append-nil}
use Rattle.stream_lex.specs.declared.fault.Fault.{Fault}
use Rattle.stream_lex.specs.Items.{Item, Tail, Rest, Failed, before, after_items}
use Rattle.stream_lex.specs.Headers.{is_line_end}
use Rattle.stream_lex.specs.Reading.{First, Stops, Skips, Gives, is_data, first_of, continued, walk, reading}
use Rattle.stream_lex.specs.Running.{more_of, Takes, ReadsAlike, HasNoItem}
use Rattle.stream_lex.proofs.Cases.{by_cases}
use Rattle.stream_lex.proofs.Firsts.{first-unfinished}
use Rattle.stream_lex.proofs.Settled.{IsSettled, Fits, first-settled, first-fits}

-- A line end is not skipped here.
abbrev pub StandsFirst : Bool → List ℕ → Type 0
StandsFirst skips [] = skips ≡ false
StandsFirst skips (byte ∷ bytes) = (skips && is_line_end byte) ≡ false

pub first-here : (byte : ℕ) (bytes : List ℕ) (skips : Bool) → (skips && is_line_end byte) ≡ false → walk (byte ∷ bytes) 0 skips ≡ continued (first_of (byte ∷ bytes)) (λ n data_next. walk bytes n data_next)
unfolding walk
first-here byte bytes skips h = rw h refl

pub walk-skip_one : (byte : ℕ) (bytes : List ℕ) (skips : Bool) → (skips && is_line_end byte) ≡ true
    → walk (byte ∷ bytes) 0 skips ≡ walk bytes 0 false
unfolding walk
walk-skip_one byte bytes skips h = rw h refl

pub walk-nil : (n : ℕ) (skips : Bool)
    → walk [] n skips ≡ record { items = []; tail = Rest skips [] }
unfolding walk
walk-nil n skips = refl

walk-suc : (byte : ℕ) (bytes : List ℕ) (n : ℕ) (skips : Bool)
    → walk (byte ∷ bytes) (suc n) skips ≡ walk bytes n skips
unfolding walk
walk-suc byte bytes n skips = refl

-- bytes that are passed over
pub walk-drop : (bytes : List ℕ) (n : ℕ) (skips : Bool) → n ≤ length bytes
    → walk bytes n skips ≡ reading skips (drop n bytes)
walk-drop bytes zero skips within = refl
walk-drop [] (suc n) skips within = absurd (omega arith)
walk-drop (byte ∷ bytes) (suc n) skips within = walk-suc byte bytes n skips ∙ walk-drop bytes n skips (omega arith)

walk-drop_one : (byte : ℕ) (bytes : List ℕ) (n : ℕ) (skips : Bool) → 0 < n
    → n ≤ length (byte ∷ bytes) → walk bytes (n - 1) skips ≡ reading skips (drop n (byte ∷ bytes))
walk-drop_one byte bytes zero skips some within = absurd (omega arith)
walk-drop_one byte bytes (suc n) skips some within = ap (λ k. walk bytes k skips) (omega arith) ∙ walk-drop bytes n skips (omega arith)

-- the reading by what stands first
pub reading-gives : (bytes : List ℕ) (skips : Bool) (item : Item) (n : ℕ) → StandsFirst skips bytes
    → first_of bytes ≡ Gives item n
    → reading skips bytes ≡ before item (reading (is_data item) (drop n bytes))
reading-gives [] skips item n here e =
    let fits : Fits [] (Gives item n) = subst (Fits []) e (first-fits []) in
    absurd (omega arith)
reading-gives (byte ∷ bytes) skips item n here e =
    let fits : Fits (byte ∷ bytes) (Gives item n) = subst (Fits (byte ∷ bytes)) e (first-fits (byte ∷ bytes)) in
    first-here byte bytes skips here
    ∙ ap (λ first. continued first (λ n data_next. walk bytes n data_next)) e
    ∙ ap (before item) (walk-drop_one byte bytes n (is_data item) fits.0 fits.1)

pub reading-skips : (bytes : List ℕ) (skips : Bool) (n : ℕ) → StandsFirst skips bytes
    → first_of bytes ≡ Skips n → reading skips bytes ≡ reading false (drop n bytes)
reading-skips [] skips n here e =
    let fits : Fits [] (Skips n) = subst (Fits []) e (first-fits []) in
    absurd (omega arith)
reading-skips (byte ∷ bytes) skips n here e =
    let fits : Fits (byte ∷ bytes) (Skips n) = subst (Fits (byte ∷ bytes)) e (first-fits (byte ∷ bytes)) in
    first-here byte bytes skips here
    ∙ ap (λ first. continued first (λ n data_next. walk bytes n data_next)) e
    ∙ walk-drop_one byte bytes n false fits.0 fits.1

pub reading-stops : (bytes : List ℕ) (skips : Bool) (tail : Tail) → StandsFirst skips bytes
    → first_of bytes ≡ Stops tail → reading skips bytes ≡ record { items = []; tail = tail }
reading-stops [] skips tail here e =
    let rest : Stops tail ≡ Stops (Rest false []) = sym e ∙ first-unfinished [] (omega arith) (omega arith) in
    let tail_is : tail ≡ Rest false [] = cc in
    walk-nil 0 skips ∙ ap (λ wish. record { items = []; tail = Rest wish [] }) here ∙ ap (λ t. record { items = []; tail = t }) (sym tail_is)
reading-stops (byte ∷ bytes) skips tail here e =
    first-here byte bytes skips here ∙ ap (λ first. continued first (λ n data_next. walk bytes n data_next)) e

-- a line end is skipped in no other place
pub reading-alike : (bytes : List ℕ) (skips : Bool) → StandsFirst skips bytes
    → reading skips bytes ≡ reading false bytes
reading-alike [] skips here = ap (λ wish. reading wish []) here
reading-alike (byte ∷ bytes) skips here = first-here byte bytes skips here ∙ sym (first-here byte bytes false refl)

pub stands-false : (bytes : List ℕ) → StandsFirst false bytes
stands-false [] = refl
stands-false (byte ∷ bytes) = refl

pub stands-append : (bytes more : List ℕ) (skips : Bool) → StandsFirst skips bytes
    → StandsFirst skips (bytes ++ more)
stands-append [] [] skips here = here
stands-append [] (byte ∷ more) skips here = ap (λ b. b && is_line_end byte) here
stands-append (byte ∷ bytes) more skips here = here

-- the step of that law at a line's beginning
append-first : (byte : ℕ) (bytes more : List ℕ) (skips : Bool) → (skips && is_line_end byte) ≡ false
    → ((m : ℕ) (data_next : Bool) → m ≤ length bytes → walk (bytes ++ more) m data_next ≡ after_items (walk bytes m data_next).items (more_of (walk bytes m data_next).tail more))
    → (first : First) → first_of (byte ∷ bytes) ≡ first
    → walk (byte ∷ bytes ++ more) 0 skips ≡ after_items (walk (byte ∷ bytes) 0 skips).items (more_of (walk (byte ∷ bytes) 0 skips).tail more)
append-first byte bytes more skips here later (Stops (Rest wish rest)) e =
    let fits : Fits (byte ∷ bytes) (Stops (Rest wish rest)) = subst (Fits (byte ∷ bytes)) e (first-fits (byte ∷ bytes)) in
    let now = reading-stops (byte ∷ bytes) skips (Rest wish rest) here e in
    reading-alike (byte ∷ bytes ++ more) skips here
    ∙ ap (λ b. reading b (byte ∷ bytes ++ more)) (sym fits.0)
    ∙ ap (λ l. reading wish (l ++ more)) (sym fits.1)
    ∙ ap (λ r. after_items r.items (more_of r.tail more)) (sym now)
append-first byte bytes more skips here later (Stops (Failed fault)) e =
    let settled : IsSettled (first_of (byte ∷ bytes)) = subst IsSettled (sym e) tt in
    reading-stops (byte ∷ bytes ++ more) skips (Failed fault) here (first-settled (byte ∷ bytes) more settled ∙ e)
    ∙ ap (λ r. after_items r.items (more_of r.tail more)) (sym (reading-stops (byte ∷ bytes) skips (Failed fault) here e))
append-first byte bytes more skips here later (Skips n) e =
    let settled : IsSettled (first_of (byte ∷ bytes)) = subst IsSettled (sym e) tt in
    let fits : Fits (byte ∷ bytes) (Skips n) = subst (Fits (byte ∷ bytes)) e (first-fits (byte ∷ bytes)) in
    let inside : n - 1 ≤ length bytes = omega arith in
    first-here byte (bytes ++ more) skips here
    ∙ ap (λ first. continued first (λ n data_next. walk (bytes ++ more) n data_next)) (first-settled (byte ∷ bytes) more settled ∙ e)
    ∙ later (n - 1) false inside
    ∙ ap (λ r. after_items r.items (more_of r.tail more))
    (sym (first-here byte bytes skips here ∙ ap (λ first. continued first (λ n data_next. walk bytes n data_next)) e))
append-first byte bytes more skips here later (Gives item n) e =
    let settled : IsSettled (first_of (byte ∷ bytes)) = subst IsSettled (sym e) tt in
    let fits : Fits (byte ∷ bytes) (Gives item n) = subst (Fits (byte ∷ bytes)) e (first-fits (byte ∷ bytes)) in
    let inside : n - 1 ≤ length bytes = omega arith in
    first-here byte (bytes ++ more) skips here
    ∙ ap (λ first. continued first (λ n data_next. walk (bytes ++ more) n data_next)) (first-settled (byte ∷ bytes) more settled ∙ e)
    ∙ ap (before item) (later (n - 1) (is_data item) inside)
    ∙ ap (λ r. after_items r.items (more_of r.tail more))
    (sym (first-here byte bytes skips here ∙ ap (λ first. continued first (λ n data_next. walk bytes n data_next)) e))

-- the law of prefixes: with more bytes the same items come first, and it goes on from the tail
pub walk-append : (bytes more : List ℕ) (n : ℕ) (skips : Bool) → n ≤ length bytes
    → walk (bytes ++ more) n skips ≡ after_items (walk bytes n skips).items (more_of (walk bytes n skips).tail more)
walk-append [] more zero skips within = ap (λ r. after_items r.items (more_of r.tail more)) (sym (walk-nil 0 skips))
walk-append [] more (suc n) skips within = absurd (omega arith)
walk-append (byte ∷ bytes) more (suc n) skips within =
    walk-suc byte (bytes ++ more) n skips ∙ walk-append bytes more n skips (omega arith)
    ∙ ap (λ r. after_items r.items (more_of r.tail more)) (sym (walk-suc byte bytes n skips))
walk-append (byte ∷ bytes) more zero skips within = by_cases (skips && is_line_end byte)
    (λ skip.
    walk-skip_one byte (bytes ++ more) skips skip ∙ walk-append bytes more 0 false (omega arith)
    ∙ ap (λ r. after_items r.items (more_of r.tail more)) (sym (walk-skip_one byte bytes skips skip)))
    (λ here. append-first byte bytes more skips here (λ m data_next inside. walk-append bytes more m data_next inside) (first_of (byte ∷ bytes)) refl)

-- the same of a whole reading
pub reading-append : (bytes more : List ℕ) (skips : Bool) → reading skips (bytes ++ more) ≡ after_items (reading skips bytes).items (more_of (reading skips bytes).tail more)
reading-append bytes more skips = walk-append bytes more 0 skips (omega arith)

-- what is settled comes first, whatever bytes come
pub takes : (bytes : List ℕ) (skips : Bool) (item : Item) (n : ℕ) → StandsFirst skips bytes
    → first_of bytes ≡ Gives item n
    → Takes (Rest skips bytes) item (Rest (is_data item) (drop n bytes))
takes bytes skips item n here e more =
    let settled : IsSettled (first_of bytes) = subst IsSettled (sym e) tt in
    let fits : Fits bytes (Gives item n) = subst (Fits bytes) e (first-fits bytes) in
    reading-gives (bytes ++ more) skips item n (stands-append bytes more skips here) (first-settled bytes more settled ∙ e)
    ∙ ap (λ l. before item (reading (is_data item) l)) (drop-append-le n bytes more fits.1)

pub passes : (bytes : List ℕ) (skips : Bool) (n : ℕ) → StandsFirst skips bytes
    → first_of bytes ≡ Skips n → ReadsAlike (Rest skips bytes) (Rest false (drop n bytes))
passes bytes skips n here e more =
    let settled : IsSettled (first_of bytes) = subst IsSettled (sym e) tt in
    let fits : Fits bytes (Skips n) = subst (Fits bytes) e (first-fits bytes) in
    reading-skips (bytes ++ more) skips n (stands-append bytes more skips here) (first-settled bytes more settled ∙ e)
    ∙ ap (reading false) (drop-append-le n bytes more fits.1)

pub fails : (bytes : List ℕ) (skips : Bool) (fault : Fault) → StandsFirst skips bytes
    → first_of bytes ≡ Stops (Failed fault) → ReadsAlike (Rest skips bytes) (Failed fault)
fails bytes skips fault here e more =
    let settled : IsSettled (first_of bytes) = subst IsSettled (sym e) tt in
    reading-stops (bytes ++ more) skips (Failed fault) (stands-append bytes more skips here) (first-settled bytes more settled ∙ e)

pub waits : (bytes : List ℕ) (skips : Bool) → StandsFirst skips bytes
    → ReadsAlike (Rest skips bytes) (Rest false bytes)
waits bytes skips here more = reading-alike (bytes ++ more) skips (stands-append bytes more skips here)

pub waits_for_more : (bytes : List ℕ) → first_of bytes ≡ Stops (Rest false bytes)
    → HasNoItem (Rest false bytes)
waits_for_more bytes e = reading-stops bytes false (Rest false bytes) (stands-false bytes) e

-- the line end after a data
pub passes_line_end : (byte : ℕ) (bytes : List ℕ) → byte ≡ 10
    → ReadsAlike (Rest true (byte ∷ bytes)) (Rest false bytes)
passes_line_end byte bytes e more = walk-skip_one byte (bytes ++ more) true (eq-eqb byte 10 e)

-- no byte yet
pub nothing_yet : (bytes : List ℕ) (skips : Bool) → length bytes ≤ 0 → HasNoItem (Rest skips bytes)
nothing_yet [] skips none = walk-nil 0 skips
nothing_yet (byte ∷ bytes) skips none = absurd (omega arith)

-- the first byte after a data: a line end, or another one
pub passes_first : (bytes : List ℕ) (skips : Bool) → skips ≡ true → 0 < length bytes
    → get_or bytes 0 0 ≡ 10 → ReadsAlike (Rest skips bytes) (Rest false (drop 1 bytes))
passes_first [] skips wish some ends = absurd (omega arith)
passes_first (byte ∷ bytes) skips wish some ends = rw wish (passes_line_end byte bytes ends)

pub stands-other : (bytes : List ℕ) (skips : Bool) → 0 < length bytes → get_or bytes 0 0 ≢ 10
    → StandsFirst skips bytes
stands-other [] skips some other = absurd (omega arith)
stands-other (byte ∷ bytes) true some other = ne_eqb byte 10 other
stands-other (byte ∷ bytes) false some other = refl

-- after a fault no byte changes the reading
pub faults-stay : (bytes more : List ℕ) (fault : Fault) → (reading false bytes).tail ≡ Failed fault
    → reading false (bytes ++ more) ≡ reading false bytes
faults-stay bytes more fault failed =
    reading-append bytes more false
    ∙ ap (λ tail. after_items (reading false bytes).items (more_of tail more)) failed
    ∙ ap (λ items. record { items = items; tail = Failed fault }) (append-nil (reading false bytes).items)
    ∙ ap (λ tail. record { items = (reading false bytes).items; tail = tail }) (sym failed)
