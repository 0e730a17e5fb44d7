-- Words in which `clap` finds no fault name a line: the subcommand is one of the program's own, and each of its arguments has a value.
use Rattle.std.proofs.Common.{◌≡◌, ◌&&◌, ◌||◌, ℕ, Bool, cond, true, false, not, refl, sym, subst, codes, List, [], ◌∷◌, fold, find, Option, Some, None, is_some, option_map, option_and_then, true≢false}
use Rattle.std.specs.List.{list_all, list_any}
use Rattle.std.specs.Option.{option_map_or}
use Rattle.std.specs.Str.{bytes_eq}
use Rattle.std.proofs.lemmas.Slice.Eq.{bytes_eq-Decides}
use Rattle.clap.specs.Lexer.{long_of, short_of}
use Rattle.clap.specs.Words.{fault_of}
use Rattle.clap.specs.Facts.{explicit_source}
use Rattle.clap.specs.Walk.{Held, Names, Outcome, Row, Rule, Step, Text, Waiting, Walk, after_flag, after_step, arg_by_index, arg_by_long, bundle, done, finished, first_of, idle, long_met, long_or_other, next, nothing_held, option, plain, plain_word, positional, refused, rows_after, settled, short_or_plain, stop_after, subcommand, subcommand_met, subcommand_or_other, to_positional, trailing, value, waits, walk, walk_from, walked, walked_from, word_met}
use Rattle.clap.specs.Kinds.{Kinds, check_kinds, or_else}
use Rattle.clap.specs.Faults.{check_fault, defaults_fault, entered_fault, level_fault, other_fault, settle_fault, step_fault, turn_fault, walk_fault, word_fault}
use Rattle.clap.specs.Simple.{Shape, built, built_leaf, entered, help_shape, inherited, label_of, marked_built, names_of, rows_at, with_leaf_noted}
use Rattle.clap.specs.Walk.{answers_to}
use Rattle.clap.specs.Takes.{is_given}
use Rattle.clap.specs.declared.error.kind.ErrorKind.{ErrorKind}
use Rattle.command_lines.specs.Lines.{Said, ask, check, compact, copy, extract, host, import, is_set, merge, pack, remove, said_by, said_in, serve, sizes}
use Rattle.command_lines.specs.Usage.{ask_usage, check_usage, compact_usage, copy_usage, extract_usage, gitpool, host_usage, import_usage, merge_usage, pack_usage, remove_usage, serve_usage, sizes_usage}
use Rattle.command_lines.proofs.FilledRows.{defaults_filled, filled, no_nil, or_else_nil, settled_filled, wants_value}
use Rattle.command_lines.proofs.FilledWalk.{given_value, walk_filled}

-- ---- the subcommand that a walk meets is not `help`

abbrev is_own : Option (Text × List Text) → Bool
is_own stop = option_map_or (λ p. not (bytes_eq p.0 (codes "help"))) stop true

abbrev is_own_step : Step → Bool
is_own_step (subcommand name) = not (bytes_eq name (codes "help"))
is_own_step _ = true

plain_own : (c : List Rule) (waiting : Waiting) (word : Text) (h : Held) → is_own_step (plain_word c waiting word h).1 ≡ true
plain_own c idle word h = refl
plain_own c positional word h = refl
plain_own c (option id) word h = refl

after_own : (c : List Rule) (waiting : Waiting) (word : Text) (h : Held) (o : Outcome) → is_own_step (after_flag c waiting word h o).1 ≡ true
after_own c waiting word h done = refl
after_own c waiting word h (waits id) = refl
after_own c waiting word h plain = plain_own c waiting word h
after_own c waiting word h refused = plain_own c waiting word h

flag_own : (c : List Rule) (waiting : Waiting) (word : Text) (o : Option (Text × Option Text)) (h : Held) → is_own_step (long_or_other c waiting word o h).1 ≡ true
flag_own c waiting word (Some p) h = after_own c waiting word (long_met c (arg_by_long c p.0) p.1 h).0 (long_met c (arg_by_long c p.0) p.1 h).1
flag_own c waiting word None h = go (short_of word)
  where
    go : (o : Option Text) → is_own_step (short_or_plain c waiting word o h).1 ≡ true
    go None = plain_own c waiting word h
    go (Some flags) = after_own c waiting word (bundle c flags h).0 (bundle c flags h).1

is_other : (b d : Bool) (k : ErrorKind) (ks : Kinds) → d ≡ false → cond (b && not d) (k ∷ ks) [] ≡ [] → not b ≡ true
is_other true true k ks off none = absurd (true≢false off)
is_other true false k ks off none = absurd (no_nil k ks none)
is_other false d k ks off none = refl

word_own : (s : Shape) (names : Names) (is_trailing : Bool) (waiting : Waiting) (position : ℕ) (word : Text) (h : Held) → s.disable_help_subcommand ≡ false
    → word_fault s names is_trailing waiting word h ≡ [] → is_own_step (word_met s.rules names is_trailing waiting position word h).1 ≡ true
word_own s names true waiting position word h helps none = refl
word_own s names false waiting position word h helps none = go (subcommand_met names waiting word) none
  where
    other : (b : Bool) → is_own_step (cond b (h, trailing position) (long_or_other s.rules waiting word (long_of word) h)).1 ≡ true
    other true = refl
    other false = flag_own s.rules waiting word (long_of word) h

    go : (o : Option Text) → other_fault s o word h ≡ [] → is_own_step (subcommand_or_other s.rules o waiting position word h).1 ≡ true
    go (Some name) n = is_other (bytes_eq name (codes "help")) s.disable_help_subcommand _ _ helps n
    go None n = other (bytes_eq word (45 ∷ 45 ∷ []))

step_own : (s : Shape) (word : Text) (w : Walk) (h : Held) (step : Step) → is_own w.stopped ≡ true → is_own_step step ≡ true
    → is_own (after_step s.rules word w h step).stopped ≡ true
step_own s word w h (next waiting) e own = e
step_own s word w h (trailing position) e own = e
step_own s word w h (subcommand name) e own = own
step_own s word w h value e own = go (arg_by_index s.rules w.position)
  where
    go : (o : Option Rule) → is_own (to_positional s.rules o word w h).stopped ≡ true
    go None = e
    go (Some a) = refl

turn_own : (s : Shape) (names : Names) (w : Walk) (word : Text) → s.disable_help_subcommand ≡ false → turn_fault s names w word ≡ [] → is_own w.stopped ≡ true
    → is_own (walked s.rules names w word).stopped ≡ true
unfolding walked
turn_own s names w word helps none e = go w.stopped e none
  where
    met : Held × Step
    met = word_met s.rules names w.is_trailing w.waiting w.position word w.held

    go : (o : Option (Text × List Text)) → is_own o ≡ true
        → cond (is_some o) [] (or_else (word_fault s names w.is_trailing w.waiting word w.held) (step_fault s w.position met.0 met.1)) ≡ []
        → is_own (walked_from s.rules names o w word).stopped ≡ true
    go (Some p) own n = own
    go None own n =
        let p = or_else_nil (word_fault s names w.is_trailing w.waiting word w.held) _ n in
        step_own s word w met.0 met.1 e (word_own s names w.is_trailing w.waiting w.position word w.held helps p.0)

walk_own : (s : Shape) (names : Names) (w : Walk) (words : List Text) → s.disable_help_subcommand ≡ false → walk_fault s names w words ≡ [] → is_own w.stopped ≡ true
    → is_own (fold (walked s.rules names) w words).stopped ≡ true
unfolding walk_fault
walk_own s names w [] helps none e = e
walk_own s names w (x ∷ xs) helps none e =
    let p = or_else_nil (turn_fault s names w x) _ none in
    walk_own s names (walked s.rules names w x) xs helps p.1 (turn_own s names w x helps p.0 e)

-- no other name answers to `help`
no_help : (n : Text) → not (bytes_eq n (codes "help")) ≡ true → (bytes_eq (codes "help") n || false) ≡ false
no_help n own = go (bytes_eq (codes "help") n) refl
  where
    go : (b : Bool) → bytes_eq (codes "help") n ≡ b → (b || false) ≡ false
    go false e = refl
    go true e = absurd (true≢false (sym (subst (λ t. not (bytes_eq t (codes "help")) ≡ true) (sym ((bytes_eq-Decides (codes "help") n).0 e)) own)))

-- ---- the arguments of a subcommand

leaf_filled : (s : Shape) (words : List Text) → list_all wants_value s.rules ≡ true → level_fault s [] nothing_held words false [] ≡ []
    → (filled (rows_after s.rules [] words) ≡ true) × (check_fault s (rows_after s.rules [] words) false ≡ [])
leaf_filled s words all none =
    let end = (walk s.rules [] nothing_held words).held in
    let walk = or_else_nil (walk_fault s [] (walk_from nothing_held) words) _ none in
    let settle = or_else_nil (settle_fault s.rules s.args_override_self end) _ walk.1 in
    let default = or_else_nil (defaults_fault (settled s.rules end).rows s.rules) _ settle.1 in
    (defaults_filled s.rules (settled s.rules end).rows (settled_filled s.rules s.args_override_self end all settle.0 (walk_filled s [] (walk_from nothing_held) words all walk.0 refl)), default.1)

asked : (x y z : Bool) → check_kinds x y z ≡ [] → (y ≡ false) × (z ≡ false)
asked true y z e = absurd (no_nil _ _ e)
asked false true z e = absurd (no_nil _ _ e)
asked false false true e = absurd (no_nil _ _ e)
asked false false false e = (refl, refl)

-- what is wanted is there: a subcommand, and each argument
wanted : (s : Shape) (rows : List Row) (has : Bool) → check_fault s rows has ≡ [] → ((not has && s.subcommand_required) ≡ false)
    × ((not (s.subcommand_negates_reqs && has) && list_any (λ a. a.required && not (is_given a.id rows)) s.rules) ≡ false)
wanted s rows has e =
    asked (not has && (s.arg_required_else_help && not (list_any (λ r. explicit_source r.source) rows))) (not has && s.subcommand_required)
    (not (s.subcommand_negates_reqs && has) && list_any (λ a. a.required && not (is_given a.id rows)) s.rules) e

-- A rule that has to be met and that nothing in the rows meets.
abbrev is_missing : List Row → Rule → Bool
is_missing rows a = a.required && not (is_given a.id rows)

-- A rule of this name that has to be met.
abbrev asks_for : Text → Rule → Bool
asks_for id a = a.required && bytes_eq a.id id

none_missing : (rules : List Rule) (rows : List Row) (id : Text) → list_any (is_missing rows) rules ≡ false → list_any (asks_for id) rules ≡ true
    → is_given id rows ≡ true
none_missing [] rows id none asks = absurd (true≢false (sym asks))
none_missing (a ∷ rules) rows id none asks = by a.required (bytes_eq a.id id) refl (is_given a.id rows) refl none asks (none_missing rules rows id)
  where
    by : (required same : Bool) → bytes_eq a.id id ≡ same → (given : Bool) → is_given a.id rows ≡ given
        → ((required && not given) || list_any (is_missing rows) rules) ≡ false → ((required && same) || list_any (asks_for id) rules) ≡ true
        → (list_any (is_missing rows) rules ≡ false → list_any (asks_for id) rules ≡ true → is_given id rows ≡ true) → is_given id rows ≡ true
    by true true is true given none asks later = subst (λ (t : Text). is_given t rows ≡ true) ((bytes_eq-Decides a.id id).0 is) given
    by true true is false given none asks later = absurd (true≢false none)
    by true false is true given none asks later = later none asks
    by true false is false given none asks later = absurd (true≢false none)
    by false same is given e none asks later = later none asks

not_negated : (negates missing : Bool) → (not (negates && false) && missing) ≡ false → missing ≡ false
not_negated true missing e = e
not_negated false missing e = e

abbrev leaf : Shape → Shape
leaf s = built_leaf (inherited (with_leaf_noted (marked_built gitpool.top)) s)

-- The value of an argument of a subcommand.
abbrev value_in : Shape → List Text → Text → Option Text
value_in s words id = first_of id (rows_after (leaf s).rules [] words)

-- An argument that has to be there has a value.
has_value : (s : Shape) → list_all wants_value (leaf s).rules ≡ true → (words : List Text) → level_fault (leaf s) [] nothing_held words false [] ≡ []
    → (id : Text) → list_any (asks_for id) (leaf s).rules ≡ true → is_some (value_in s words id) ≡ true
has_value s all words none id asks =
    let rows = rows_after (leaf s).rules [] words in
    let whole = leaf_filled (leaf s) words all none in
    let wants = not_negated (leaf s).subcommand_negates_reqs (list_any (is_missing rows) (leaf s).rules) (wanted (leaf s) rows false whole.1).1 in
    given_value id rows whole.0 (none_missing (leaf s).rules rows id wants asks)

some_said : (f : Text → Said) (o : Option Text) → is_some o ≡ true → is_some (option_and_then (λ pool. Some (f pool)) o) ≡ true
some_said f None e = absurd (true≢false (sym e))
some_said f (Some pool) e = refl

some_one : (line : Text → Text → Said) (word pool : Option Text) → is_some word ≡ true → is_some pool ≡ true
    → is_some (option_and_then (λ p. option_map (λ w. line w p) word) pool) ≡ true
some_one line None pool e f = absurd (true≢false (sym e))
some_one line (Some w) None e f = absurd (true≢false (sym f))
some_one line (Some w) (Some p) e f = refl

some_two : (line : Text → Text → Text → Said) (first second pool : Option Text) → is_some first ≡ true → is_some second ≡ true → is_some pool ≡ true
    → is_some (option_and_then (λ p. option_and_then (λ f. option_map (λ s. line f s p) second) first) pool) ≡ true
some_two line None second pool e f g = absurd (true≢false (sym e))
some_two line (Some x) None pool e f g = absurd (true≢false (sym f))
some_two line (Some x) (Some y) None e f g = absurd (true≢false (sym g))
some_two line (Some x) (Some y) (Some p) e f g = refl

abbrev Says : Shape → Type 0
Says s = (words : List Text) → level_fault (leaf s) [] nothing_held words false [] ≡ [] → is_some (said_by (rows_at (leaf s) words)) ≡ true

serve_says : Says serve_usage
serve_says words none = some_said serve (value_in serve_usage words (codes "pool")) (has_value serve_usage refl words none (codes "pool") refl)

check_says : Says check_usage
check_says words none = some_said check (value_in check_usage words (codes "pool")) (has_value check_usage refl words none (codes "pool") refl)

sizes_says : Says sizes_usage
sizes_says words none = some_said sizes (value_in sizes_usage words (codes "pool")) (has_value sizes_usage refl words none (codes "pool") refl)

host_says : Says host_usage
host_says words none = some_said host (value_in host_usage words (codes "pool")) (has_value host_usage refl words none (codes "pool") refl)

-- A subcommand with one argument and the pool file.
one_says : (s : Shape) (line : Text → Text → Said) (id : Text) → list_all wants_value (leaf s).rules ≡ true → list_any (asks_for id) (leaf s).rules ≡ true
    → list_any (asks_for (codes "pool")) (leaf s).rules ≡ true → (words : List Text) → level_fault (leaf s) [] nothing_held words false [] ≡ []
    → is_some (option_and_then (λ p. option_map (λ w. line w p) (value_in s words id)) (value_in s words (codes "pool"))) ≡ true
one_says s line id all word pool words none =
    some_one line (value_in s words id) (value_in s words (codes "pool")) (has_value s all words none id word) (has_value s all words none (codes "pool") pool)

import_says : Says import_usage
import_says words none = one_says import_usage import (codes "tenant") refl refl refl words none

remove_says : Says remove_usage
remove_says words none = one_says remove_usage remove (codes "tenant") refl refl refl words none

compact_says : Says compact_usage
compact_says words none = one_says compact_usage compact (codes "tenant") refl refl refl words none

merge_says : Says merge_usage
merge_says words none = one_says merge_usage merge (codes "file") refl refl refl words none

pack_says : Says pack_usage
pack_says words none =
    let all = is_set (rows_after (leaf pack_usage).rules [] words) (codes "all") in
    one_says pack_usage (λ tenant pool. pack tenant all pool) (codes "tenant") refl refl refl words none

-- A subcommand with two arguments and the pool file.
two_says : (s : Shape) (line : Text → Text → Text → Said) (first second : Text) → list_all wants_value (leaf s).rules ≡ true
    → list_any (asks_for first) (leaf s).rules ≡ true → list_any (asks_for second) (leaf s).rules ≡ true
    → list_any (asks_for (codes "pool")) (leaf s).rules ≡ true → (words : List Text) → level_fault (leaf s) [] nothing_held words false [] ≡ []
    → is_some (option_and_then (λ p. option_and_then (λ f. option_map (λ s. line f s p) (value_in s words second)) (value_in s words first))
    (value_in s words (codes "pool"))) ≡ true
two_says s line first second all one two pool words none =
    some_two line (value_in s words first) (value_in s words second) (value_in s words (codes "pool")) (has_value s all words none first one)
    (has_value s all words none second two) (has_value s all words none (codes "pool") pool)

ask_says : Says ask_usage
ask_says words none = two_says ask_usage ask (codes "tenant") (codes "query") refl refl refl refl words none

copy_says : Says copy_usage
copy_says words none = two_says copy_usage copy (codes "from") (codes "to") refl refl refl refl words none

extract_says : Says extract_usage
extract_says words none = two_says extract_usage extract (codes "tenant") (codes "to") refl refl refl refl words none

-- ---- the whole command line

-- If a subcommand was found and its words have no fault, it names a line.
record SaysSome (words : List Text) (found : Option Shape) : Type 0 where
  says : option_map_or (λ s. level_fault s [] nothing_held words false []) found [] ≡ [] → is_some (option_map (λ s. rows_at s words) found) ≡ true
      → is_some (option_and_then said_by (option_map (λ s. rows_at s words) found)) ≡ true

-- the next subcommand, if its test holds
or_says : {words : List Text} {later : Option Shape} (answers : Bool) (s : Shape) → Says s → SaysSome words later → SaysSome words (cond answers (Some (leaf s)) later)
or_says {words} true s says later = record { says = λ none some. says words none }
or_says {words} false s says later = later

none_says : {words : List Text} (answers : Bool) (s : Shape) → answers ≡ false → SaysSome words (cond answers (Some s) None)
none_says true s other = absurd (true≢false other)
none_says false s other = record { says = λ none some. absurd (true≢false (sym some)) }

entered_says : (stop : Option (Text × List Text)) → is_own stop ≡ true → entered_fault (built gitpool) stop ≡ [] → is_some (entered (built gitpool) stop) ≡ true
    → is_some (option_and_then said_by (entered (built gitpool) stop)) ≡ true
entered_says None own none some = absurd (true≢false (sym some))
entered_says (Some p) own none some =
    let found : SaysSome p.1 (find (λ s. answers_to p.0 (label_of s)) (built gitpool).subs) =
    or_says _ serve_usage serve_says (or_says _ import_usage import_says (or_says _ ask_usage ask_says (or_says _ check_usage check_says (
    or_says _ copy_usage copy_says (or_says _ remove_usage remove_says (or_says _ compact_usage compact_says (or_says _ sizes_usage sizes_says (
    or_says _ extract_usage extract_says (or_says _ merge_usage merge_says (or_says _ host_usage host_says (or_says _ pack_usage pack_says (
    none_says _ _ (no_help p.0 own))))))))))))) in
    found.says none some

is_met : (b : Bool) → (not b && true) ≡ false → b ≡ true
is_met true e = refl
is_met false e = absurd (true≢false e)

pub always_said : (words : List Text) → fault_of gitpool words ≡ [] → is_some (said_in words) ≡ true
always_said words none =
    let a = built gitpool in
    let end = (walk a.top.rules (names_of a) nothing_held words).held in
    let stop = stop_after a.top.rules (names_of a) words in
    let walk = or_else_nil (walk_fault a.top (names_of a) (walk_from nothing_held) words) _ none in
    let below = or_else_nil (entered_fault a stop) _ walk.1 in
    let settle = or_else_nil (settle_fault a.top.rules a.top.args_override_self end) _ below.1 in
    let default = or_else_nil (defaults_fault (settled a.top.rules end).rows a.top.rules) _ settle.1 in
    let met = is_met (is_some (entered a stop)) (wanted a.top (finished a.top.rules end) (is_some (entered a stop)) default.1).0 in
    entered_says stop (walk_own a.top (names_of a) (walk_from nothing_held) words refl walk.0 refl) below.0 met
