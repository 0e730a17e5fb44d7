-- Rows of matches that have a value each, and that a use of an argument keeps them so.
use Rattle.std.proofs.Common.{◌≡◌, ◌∙◌, ◌&&◌, ◌||◌, ◌==◌, ℕ, Bool, cond, true, false, suc, refl, sym, ap, ap₂, arith, List, [], ◌∷◌, ◌++◌, length, fold, find, nat_lt, Option, Some, None, is_some, slice_get, true≢false}
use Rattle.std.specs.List.{list_all}
use Rattle.std.specs.Option.{option_map_or}
use Rattle.std.specs.Str.{bytes_eq}
use Rattle.std.proofs.lemmas.List.Folds.{list_all-append}
use Rattle.clap.specs.Values.{is_request}
use Rattle.clap.specs.Facts.{unwrap_or_range}
use Rattle.clap.specs.Walk.{Held, Row, Rule, Text, action_of, arg_by_id, at_row, default_rows, has_row, more_values, most_values, reacted, reading_by, settled, settled_rows, used, used_as, used_by_id, values_or_missing, with_default, with_values, without}
use Rattle.clap.specs.Kinds.{Kinds, or_else, range_kinds}
use Rattle.clap.specs.Faults.{action_fault, react_fault, settle_fault, use_fault}
use Rattle.clap.specs.declared.builder.value_parser.Reading.{Reading}
use Rattle.clap.specs.declared.builder.action.ArgAction.{ArgAction}
use Rattle.clap.specs.declared.builder.action.ArgAction.TheVariants as action
use Rattle.clap.specs.declared.error.kind.ErrorKind.{ErrorKind}
use Rattle.clap.specs.declared.parser.matches.ValueSource.{ValueSource}
use Rattle.clap.specs.declared.parser.matches.ValueSource.TheVariants.{DefaultValue, CommandLine}
use Rattle.clap.proofs.WalkLemmas.{both}

-- ---- lists and options

pub no_nil : {X : Type 0} (x : X) (xs : List X) → x ∷ xs ≡ [] → ⊥
no_nil x xs e = let n : suc (length xs) ≡ 0 = ap length e in omega (arith, n)

pub or_else_nil : (a b : Kinds) → or_else a b ≡ [] → (a ≡ []) × (b ≡ [])
or_else_nil [] b e = (refl, e)
or_else_nil (k ∷ ks) b e = absurd (no_nil k ks e)

pub cond_nil : (b : Bool) (k : ErrorKind) (ks rest : Kinds) → b ≡ true → cond b (k ∷ ks) rest ≡ [] → ⊥
cond_nil true k ks rest is e = no_nil k ks e
cond_nil false k ks rest is e = true≢false (sym is)

-- what is found among elements that all pass passes
pub found_passes : {X : Type 0} (p q : X → Bool) (xs : List X) → list_all p xs ≡ true → option_map_or p (find q xs) true ≡ true
found_passes p q [] all = refl
found_passes p q (x ∷ xs) all = go (q x) (found_passes p q xs (both (p x) (list_all p xs) all).1)
  where
    go : (b : Bool) → option_map_or p (find q xs) true ≡ true → option_map_or p (cond b (Some x) (find q xs)) true ≡ true
    go true rest = (both (p x) (list_all p xs) all).0
    go false rest = rest

-- ---- rows

abbrev pub has_value : Row → Bool
has_value r = is_some (slice_get r.values 0)

abbrev pub filled : List Row → Bool
filled = list_all has_value

grown : (xs ys : List Text) → is_some (slice_get ys 0) ≡ true → is_some (slice_get (xs ++ ys) 0) ≡ true
grown [] ys e = e
grown (x ∷ xs) ys e = refl

filled_append : (xs ys : List Row) → filled xs ≡ true → filled ys ≡ true → filled (xs ++ ys) ≡ true
filled_append xs ys a b = list_all-append has_value xs ys ∙ ap₂ (λ x y. x && y) a b

at_row_filled : (id : Text) (change : Row → List Row) (missing rows : List Row) → ((r : Row) → has_value r ≡ true → filled (change r) ≡ true) → filled missing ≡ true
    → filled rows ≡ true → filled (at_row id change missing rows) ≡ true
at_row_filled id change missing [] c m e = m
at_row_filled id change missing (r ∷ rs) c m e =
    let p = both (has_value r) (filled rs) e in
    go (bytes_eq r.id id) (filled_append (change r) rs (c r p.0) p.1) (ap₂ (λ x y. x && y) p.0 (at_row_filled id change missing rs c m p.1))
  where
    go : (b : Bool) → filled (change r ++ rs) ≡ true → filled (r ∷ at_row id change missing rs) ≡ true
        → filled (cond b (change r ++ rs) (r ∷ at_row id change missing rs)) ≡ true
    go true here later = here
    go false here later = later

values_filled : (id : Text) (how : Reading) (s : ValueSource) (values : List Text) (rows : List Row) → is_some (slice_get values 0) ≡ true → filled rows ≡ true
    → filled (with_values id how s values rows) ≡ true
values_filled id how s values rows v e = at_row_filled id (more_values s values) _ rows (λ r _. ap (λ b. b && true) (grown r.values values v)) (ap (λ b. b && true) v) e

without_filled : (id : Text) (rows : List Row) → filled rows ≡ true → filled (without id rows) ≡ true
without_filled id rows e = at_row_filled id (λ _. []) [] rows (λ r _. refl) refl e

used_filled : (x : ArgAction) (id : Text) (how : Reading) (values : List Text) (rows : List Row) → is_some (slice_get values 0) ≡ true → filled rows ≡ true
    → filled (used_as x id how values rows) ≡ true
used_filled action.Set id how values rows v e = values_filled id how CommandLine values (without id rows) v (without_filled id rows e)
used_filled action.SetTrue id how values rows v e = values_filled id how CommandLine values (without id rows) v (without_filled id rows e)
used_filled action.SetFalse id how values rows v e = values_filled id how CommandLine values (without id rows) v (without_filled id rows e)
used_filled action.Append id how values rows v e = values_filled id how CommandLine values rows v e
used_filled action.Count id how [] rows v e = absurd (true≢false (sym v))
used_filled action.Count id how (x ∷ xs) rows v e = values_filled id how CommandLine (x ∷ xs) (without id rows) v (without_filled id rows e)
used_filled action.Help id how values rows v e = e
used_filled action.HelpShort id how values rows v e = e
used_filled action.HelpLong id how values rows v e = e
used_filled action.Version id how values rows v e = e

-- ---- a use of an argument

-- a use of the argument has a value, or gets one, or asks for help
abbrev pub wants_value : Rule → Bool
wants_value a = is_request (action_of a) || (nat_lt 0 (unwrap_or_range a.range).start_inclusive || is_some (slice_get a.missing 0))

-- a use without a value gets the one that stands for it
gets_value : (b c : Bool) (k : ErrorKind) (ks rest : Kinds) → (b || c) ≡ true → cond (b && (0 == 0)) (k ∷ ks) rest ≡ [] → c ≡ true
gets_value true c k ks rest is none = absurd (no_nil k ks none)
gets_value false c k ks rest is none = is

some_values : (a : Rule) (least most : ℕ) (values : List Text) → (nat_lt 0 least || is_some (slice_get a.missing 0)) ≡ true
    → range_kinds least most (length values) ≡ [] → is_some (slice_get (values_or_missing a values) 0) ≡ true
some_values a least most [] lt none = gets_value (nat_lt 0 least) _ _ _ _ lt none
some_values a least most (v ∷ vs) lt none = refl

action_filled : (x : ArgAction) (again : Bool) (a : Rule) (least most : ℕ) (values : List Text) (rows : List Row)
    → (is_request x || (nat_lt 0 least || is_some (slice_get a.missing 0))) ≡ true
    → range_kinds least most (length values) ≡ [] → action_fault x again a (values_or_missing a values) rows ≡ [] → filled rows ≡ true
    → filled (used_as x a.id (reading_by a) (values_or_missing a values) rows) ≡ true
action_filled action.Set again a least most values rows wants range none e = used_filled action.Set a.id (reading_by a) (values_or_missing a values) rows (some_values a least most values wants range) e
action_filled action.SetTrue again a least most values rows wants range none e = used_filled action.SetTrue a.id (reading_by a) (values_or_missing a values) rows (some_values a least most values wants range) e
action_filled action.SetFalse again a least most values rows wants range none e = used_filled action.SetFalse a.id (reading_by a) (values_or_missing a values) rows (some_values a least most values wants range) e
action_filled action.Append again a least most values rows wants range none e = used_filled action.Append a.id (reading_by a) (values_or_missing a values) rows (some_values a least most values wants range) e
action_filled action.Count again a least most values rows wants range none e = used_filled action.Count a.id (reading_by a) (values_or_missing a values) rows (some_values a least most values wants range) e
action_filled action.Help again a least most values rows wants range none e = e
action_filled action.HelpShort again a least most values rows wants range none e = e
action_filled action.HelpLong again a least most values rows wants range none e = e
action_filled action.Version again a least most values rows wants range none e = e

pub use_filled : (again : Bool) (a : Rule) (values : List Text) (rows : List Row) → wants_value a ≡ true → use_fault again a values rows ≡ [] → filled rows ≡ true
    → filled (used a values rows) ≡ true
use_filled again a values rows wants none e =
    let p = or_else_nil (range_kinds (unwrap_or_range a.range).start_inclusive (most_values a) (length values)) _ none in
    action_filled (action_of a) again a (unwrap_or_range a.range).start_inclusive (most_values a) values rows wants p.0 p.1 e

by_id_filled : (again : Bool) (found : Option Rule) (values : List Text) (rows : List Row) → option_map_or wants_value found true ≡ true
    → option_map_or (λ a. use_fault again a values rows) found [] ≡ [] → filled rows ≡ true → filled (used_by_id found values rows) ≡ true
by_id_filled again None values rows wants none e = e
by_id_filled again (Some a) values rows wants none e = use_filled again a values rows wants none e

pub settled_filled : (c : List Rule) (again : Bool) (h : Held) → list_all wants_value c ≡ true → settle_fault c again h ≡ [] → filled h.rows ≡ true
    → filled (settled c h).rows ≡ true
settled_filled c again h all none e = go h.pending none
  where
    go : (p : Option (Text × List Text)) → option_map_or (λ p. option_map_or (λ a. use_fault again a p.1 h.rows) (arg_by_id c p.0) []) p [] ≡ []
        → filled (settled_rows c p h.rows) ≡ true
    go None n = e
    go (Some q) n = by_id_filled again (arg_by_id c q.0) q.1 h.rows (found_passes wants_value _ c all) n e

pub reacted_filled : (c : List Rule) (again : Bool) (a : Rule) (values : List Text) (h : Held) → list_all wants_value c ≡ true → wants_value a ≡ true
    → react_fault c again a values h ≡ [] → filled h.rows ≡ true → filled (reacted c a values h).rows ≡ true
reacted_filled c again a values h all wants none e =
    let p = or_else_nil (settle_fault c again h) _ none in
    use_filled again a values (settled c h).rows wants p.1 (settled_filled c again h all p.0 e)

-- ---- defaults

default_filled : (rows : List Row) (a : Rule) → filled rows ≡ true → filled (with_default rows a) ≡ true
default_filled rows a e = go (has_row a.id rows)
  where
    texts : (values : List Text) → filled (default_rows a.id (reading_by a) values rows) ≡ true
    texts [] = e
    texts (v ∷ vs) = values_filled a.id (reading_by a) DefaultValue (v ∷ vs) rows refl e

    go : (b : Bool) → filled (cond b rows (default_rows a.id (reading_by a) a.defaults rows)) ≡ true
    go true = e
    go false = texts a.defaults

pub defaults_filled : (c : List Rule) (rows : List Row) → filled rows ≡ true → filled (fold with_default rows c) ≡ true
defaults_filled [] rows e = e
defaults_filled (a ∷ c) rows e = defaults_filled c (with_default rows a) (default_filled rows a e)
