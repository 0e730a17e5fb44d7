-- A walk over words without a fault keeps rows filled.
use Rattle.std.proofs.Common.{◌≡◌, ◌&&◌, ℕ, Bool, cond, true, false, zero, suc, sym, List, [], ◌∷◌, length, fold, find, drop, encode_utf8, Option, Some, None, is_some, slice_get, option_and_then, true≢false}
use Rattle.std.specs.List.{list_all}
use Rattle.std.specs.Option.{option_map_or}
use Rattle.std.specs.Str.{bytes_eq, chars}
use Rattle.clap.specs.Lexer.{long_of, short_of}
use Rattle.clap.specs.Facts.{explicit_source}
use Rattle.clap.specs.Walk.{Held, Names, Outcome, Row, Rule, Step, Text, Waiting, Walk, after_flag, after_step, arg_by_id, arg_by_index, arg_by_long, arg_by_short, attached_value, bundle, bundle_met, bundle_step, done, first_of, flag_met, idle, is_pending, long_met, long_or_other, next, option, option_met, option_word, plain, plain_word, positional, reacted, refused, settled, short_met, short_or_plain, subcommand, subcommand_met, subcommand_or_other, takes_several, takes_values, to_positional, trailing, value, waits, walked, walked_from, word_met}
use Rattle.clap.specs.Kinds.{Kinds, or_else}
use Rattle.clap.specs.Faults.{bundle_fault, bundle_step_fault, flag_word_fault, flags_fault, long_fault, option_fault, other_fault, positional_fault, react_fault, settle_fault, short_fault, step_fault, stray_fault, turn_fault, walk_fault, word_fault}
use Rattle.clap.specs.Simple.{Shape}
use Rattle.clap.specs.Takes.{is_given}
use Rattle.clap.specs.declared.error.kind.ErrorKind.TheVariants as kind
use Rattle.command_lines.proofs.FilledRows.{filled, found_passes, has_value, or_else_nil, reacted_filled, settled_filled, wants_value}

option_filled : (c : List Rule) (again : Bool) (a : Rule) (v : Option Text) (h : Held) → list_all wants_value c ≡ true → wants_value a ≡ true
    → option_fault c again a v h ≡ [] → filled h.rows ≡ true → filled (option_met c a v h).0.rows ≡ true
option_filled c again a (Some v) h all wants none e = reacted_filled c again a (v ∷ []) h all wants none e
option_filled c again a None h all wants none e = settled_filled c again h all none e

flag_filled : (c : List Rule) (again : Bool) (a : Rule) (v : Option Text) (h : Held) → list_all wants_value c ≡ true → wants_value a ≡ true
    → cond (is_some v) (kind.TooManyValues ∷ []) (react_fault c again a [] h) ≡ [] → filled h.rows ≡ true → filled (flag_met c a v h).0.rows ≡ true
flag_filled c again a (Some v) h all wants none e = e
flag_filled c again a None h all wants none e = reacted_filled c again a [] h all wants none e

long_filled : (c : List Rule) (again : Bool) (found : Option Rule) (v : Option Text) (h : Held) → list_all wants_value c ≡ true
    → option_map_or wants_value found true ≡ true → long_fault c again found v h ≡ [] → filled h.rows ≡ true → filled (long_met c found v h).0.rows ≡ true
long_filled c again None v h all wants none e = e
long_filled c again (Some a) v h all wants none e = go (takes_values a) none
  where
    go : (b : Bool) → cond b (option_fault c again a v h) (cond (is_some v) (kind.TooManyValues ∷ []) (react_fault c again a [] h)) ≡ []
        → filled (cond b (option_met c a v h) (flag_met c a v h)).0.rows ≡ true
    go true n = option_filled c again a v h all wants n e
    go false n = flag_filled c again a v h all wants n e

short_filled : (c : List Rule) (again : Bool) (found : Option Rule) (rest : Text) (h : Held) (fault : Held → Kinds) (met : Held → Held × Outcome)
    → ((g : Held) → fault g ≡ [] → filled g.rows ≡ true → filled (met g).0.rows ≡ true) → list_all wants_value c ≡ true
    → option_map_or wants_value found true ≡ true → short_fault c again found rest h fault ≡ [] → filled h.rows ≡ true
    → filled (short_met c found rest h met).0.rows ≡ true
short_filled c again None rest h fault met keeps all wants none e = e
short_filled c again (Some a) rest h fault met keeps all wants none e = go (takes_values a) none
  where
    go : (b : Bool) → cond b (option_fault c again a (attached_value rest) h) (or_else (react_fault c again a [] h) (fault (reacted c a [] h))) ≡ []
        → filled (cond b (option_met c a (attached_value rest) h) (met (reacted c a [] h))).0.rows ≡ true
    go true n = option_filled c again a (attached_value rest) h all wants n e
    go false n =
        let p = or_else_nil (react_fault c again a [] h) _ n in
        keeps (reacted c a [] h) p.1 (reacted_filled c again a [] h all wants p.0 e)

step_filled : (c : List Rule) (again : Bool) (o : Option ℕ) (flags : Text) (skip : ℕ) (so_far : Outcome) (h : Held) (fault : Text → ℕ → Held → Kinds)
    (met : Text → ℕ → Outcome → Held → Held × Outcome)
    → ((f : Text) (s : ℕ) (x : Outcome) (g : Held) → fault f s g ≡ [] → filled g.rows ≡ true → filled (met f s x g).0.rows ≡ true) → list_all wants_value c ≡ true
    → bundle_step_fault c again o flags skip h fault ≡ [] → filled h.rows ≡ true → filled (bundle_step c o flags skip so_far h met).0.rows ≡ true
step_filled c again None flags skip so_far h fault met keeps all none e = e
step_filled c again (Some x) flags zero so_far h fault met keeps all none e =
    let rest = drop (length (encode_utf8 x)) flags in
    short_filled c again (arg_by_short c x) rest h (fault rest 0) (met rest 0 done) (λ g n f. keeps rest 0 done g n f) all (found_passes wants_value _ c all) none e
step_filled c again (Some x) flags (suc skip) so_far h fault met keeps all none e = keeps (drop (length (encode_utf8 x)) flags) skip so_far h none e

flags_filled : (c : List Rule) (again : Bool) (k : ℕ) (flags : Text) (skip : ℕ) (so_far : Outcome) (h : Held) → list_all wants_value c ≡ true
    → flags_fault c again k flags skip h ≡ [] → filled h.rows ≡ true → filled (bundle_met c k flags skip so_far h).0.rows ≡ true
unfolding bundle_met flags_fault
flags_filled c again zero flags skip so_far h all none e = e
flags_filled c again (suc k) flags skip so_far h all none e =
    step_filled c again (slice_get (chars flags) 0) flags skip so_far h (flags_fault c again k) (bundle_met c k)
    (λ f s x g n i. flags_filled c again k f s x g all n i) all none e

plain_filled : (c : List Rule) (waiting : Waiting) (word : Text) (h : Held) → filled h.rows ≡ true → filled (plain_word c waiting word h).0.rows ≡ true
plain_filled c idle word h e = e
plain_filled c positional word h e = e
plain_filled c (option id) word h e = go (arg_by_id c id)
  where
    go : (o : Option Rule) → filled (option_word o id word h).0.rows ≡ true
    go None = e
    go (Some a) = e

after_filled : (c : List Rule) (waiting : Waiting) (word : Text) (h : Held) (o : Outcome) → filled h.rows ≡ true
    → filled (after_flag c waiting word h o).0.rows ≡ true
after_filled c waiting word h done e = e
after_filled c waiting word h (waits id) e = e
after_filled c waiting word h plain e = plain_filled c waiting word h e
after_filled c waiting word h refused e = plain_filled c waiting word h e

flag_word_filled : (c : List Rule) (again : Bool) (waiting : Waiting) (word : Text) (o : Option (Text × Option Text)) (h : Held) → list_all wants_value c ≡ true
    → flag_word_fault c again o word h ≡ [] → filled h.rows ≡ true → filled (long_or_other c waiting word o h).0.rows ≡ true
flag_word_filled c again waiting word (Some p) h all none e =
    after_filled c waiting word (long_met c (arg_by_long c p.0) p.1 h).0 (long_met c (arg_by_long c p.0) p.1 h).1
    (long_filled c again (arg_by_long c p.0) p.1 h all (found_passes wants_value _ c all) none e)
flag_word_filled c again waiting word None h all none e = go (short_of word) none
  where
    go : (o : Option Text) → option_map_or (λ flags. bundle_fault c again flags h) o [] ≡ [] → filled (short_or_plain c waiting word o h).0.rows ≡ true
    go None n = plain_filled c waiting word h e
    go (Some flags) n =
        after_filled c waiting word (bundle c flags h).0 (bundle c flags h).1 (flags_filled c again (length flags) flags h.skip plain (record h { skip = 0 }) all n e)

word_filled : (s : Shape) (names : Names) (is_trailing : Bool) (waiting : Waiting) (position : ℕ) (word : Text) (h : Held) → list_all wants_value s.rules ≡ true
    → word_fault s names is_trailing waiting word h ≡ [] → filled h.rows ≡ true
    → filled (word_met s.rules names is_trailing waiting position word h).0.rows ≡ true
word_filled s names true waiting position word h all none e = e
word_filled s names false waiting position word h all none e = go (subcommand_met names waiting word) none
  where
    other : (b : Bool) → cond b [] (flag_word_fault s.rules s.args_override_self (long_of word) word h) ≡ []
        → filled (cond b (h, trailing position) (long_or_other s.rules waiting word (long_of word) h)).0.rows ≡ true
    other true n = e
    other false n = flag_word_filled s.rules s.args_override_self waiting word (long_of word) h all n e

    go : (o : Option Text) → other_fault s o word h ≡ [] → filled (subcommand_or_other s.rules o waiting position word h).0.rows ≡ true
    go (Some name) n = e
    go None n = other (bytes_eq word (45 ∷ 45 ∷ [])) n

positional_filled : (s : Shape) (o : Option Rule) (word : Text) (w : Walk) (h : Held) → list_all wants_value s.rules ≡ true
    → option_map_or (λ a. positional_fault s.rules s.args_override_self a h) o (stray_fault s) ≡ [] → filled h.rows ≡ true
    → filled (to_positional s.rules o word w h).held.rows ≡ true
positional_filled s None word w h all none e = e
positional_filled s (Some a) word w h all none e = go (is_pending a h.pending && takes_several a) none
  where
    go : (b : Bool) → cond b [] (settle_fault s.rules s.args_override_self h) ≡ [] → filled (cond b h (settled s.rules h)).rows ≡ true
    go true n = e
    go false n = settled_filled s.rules s.args_override_self h all n e

after_step_filled : (s : Shape) (word : Text) (w : Walk) (h : Held) (step : Step) → list_all wants_value s.rules ≡ true
    → step_fault s w.position h step ≡ [] → filled h.rows ≡ true → filled (after_step s.rules word w h step).held.rows ≡ true
after_step_filled s word w h (next waiting) all none e = e
after_step_filled s word w h (trailing position) all none e = e
after_step_filled s word w h (subcommand name) all none e = e
after_step_filled s word w h value all none e = positional_filled s (arg_by_index s.rules w.position) word w h all none e

turn_filled : (s : Shape) (names : Names) (w : Walk) (word : Text) → list_all wants_value s.rules ≡ true → turn_fault s names w word ≡ []
    → filled w.held.rows ≡ true → filled (walked s.rules names w word).held.rows ≡ true
unfolding walked
turn_filled s names w word all none e = go w.stopped none
  where
    met : Held × Step
    met = word_met s.rules names w.is_trailing w.waiting w.position word w.held

    go : (o : Option (Text × List Text))
        → cond (is_some o) [] (or_else (word_fault s names w.is_trailing w.waiting word w.held) (step_fault s w.position met.0 met.1)) ≡ []
        → filled (walked_from s.rules names o w word).held.rows ≡ true
    go (Some p) n = e
    go None n =
        let p = or_else_nil (word_fault s names w.is_trailing w.waiting word w.held) _ n in
        after_step_filled s word w met.0 met.1 all p.1 (word_filled s names w.is_trailing w.waiting w.position word w.held all p.0 e)

pub walk_filled : (s : Shape) (names : Names) (w : Walk) (words : List Text) → list_all wants_value s.rules ≡ true → walk_fault s names w words ≡ []
    → filled w.held.rows ≡ true → filled (fold (walked s.rules names) w words).held.rows ≡ true
unfolding walk_fault
walk_filled s names w [] all none e = e
walk_filled s names w (x ∷ xs) all none e =
    let p = or_else_nil (turn_fault s names w x) _ none in
    walk_filled s names (walked s.rules names w x) xs all p.1 (turn_filled s names w x all p.0 e)

-- an argument that is given has a value
pub given_value : (id : Text) (rows : List Row) → filled rows ≡ true → is_given id rows ≡ true → is_some (first_of id rows) ≡ true
given_value id rows e given = go (find (λ r. bytes_eq r.id id) rows) (found_passes has_value (λ (r : Row). bytes_eq r.id id) rows e) given
  where
    go : (o : Option Row) → option_map_or has_value o true ≡ true → option_map_or (λ r. explicit_source r.source) o false ≡ true
        → is_some (option_and_then (λ r. slice_get r.values 0) o) ≡ true
    go None has given = absurd (true≢false (sym given))
    go (Some r) has given = has
