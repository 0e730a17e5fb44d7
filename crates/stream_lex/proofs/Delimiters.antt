-- Where a delimiter line stands.
use Rattle.std.proofs.Common.{◌≡◌, ◌≢◌, ℕ, suc, ◌+◌, ◌<◌, ◌≤◌, Bool, true, false, not, cond, ◌&&◌, List, [], ◌∷◌, ◌++◌, length, take, drop, get_or, Option, None, Some, arith, refl, sym, ap, ◌∙◌, subst, length-append, append_assoc, eqb-true}
use Rattle.std.specs.Prelude.{option_map, nat_eq}
use Rattle.std.specs.List.{starts_with}
use Rattle.std.specs.Cmp.Lexicographic.{pointwise}
use Rattle.std.proofs.lemmas.Bool.{false≢true}
use Rattle.std.proofs.lemmas.Bool.{cases_lt}
use Rattle.std.proofs.lemmas.Bool.Decides.{Decides-eqb}
use Rattle.std.proofs.lemmas.Option.{none-some}
use Rattle.std.proofs.lemmas.Slice.Eq.{starts_is}
use Rattle.std.proofs.lemmas.List.{take-append-drop, take-append-le, take_at, drop_more, length-take-le}
use Rattle.std.proofs.lemmas.List.Sums.{prefix_len_stops}
use mathlib.Core.Logic.{⊎_elim}
use Rattle.stream_lex.specs.Headers.{is_line_end, line_length, HasNoLineEnd}
use Rattle.stream_lex.specs.Reading.{before_delimiter}
use Rattle.stream_lex.proofs.Cases.{by_cases}
use Rattle.stream_lex.proofs.LineEnds.{line_length-append_found, line_length-append_none, line_length-le}

-- parts of a text without line ends have none
pub none_before : (xs ys : List ℕ) → HasNoLineEnd (xs ++ ys) → HasNoLineEnd xs
none_before xs ys none = ⊎_elim
    (λ found. absurd (omega (arith, line_length-append_found xs ys found, length-append xs ys)))
    (λ all. omega (arith, line_length-le xs))
    (cases_lt (line_length xs) (length xs))

pub none_after : (xs ys : List ℕ) → HasNoLineEnd (xs ++ ys) → HasNoLineEnd ys
none_after xs ys none = omega (arith, line_length-append_none xs ys (none_before xs ys none), length-append xs ys)

pub none_joined : (xs ys : List ℕ) → HasNoLineEnd xs → HasNoLineEnd ys → HasNoLineEnd (xs ++ ys)
none_joined xs ys none later = omega (arith, line_length-append_none xs ys none, length-append xs ys)

pub none_in-take : (n : ℕ) (xs : List ℕ) → HasNoLineEnd xs → HasNoLineEnd (take n xs)
none_in-take n xs none = none_before (take n xs) (drop n xs) (rw take-append-drop none)

pub none_in-drop : (n : ℕ) (xs : List ℕ) → HasNoLineEnd xs → HasNoLineEnd (drop n xs)
none_in-drop n xs none = none_after (take n xs) (drop n xs) (rw take-append-drop none)

-- the line before the first line end has none
pub none_in_line : (xs : List ℕ) → HasNoLineEnd (take (line_length xs) xs)
none_in_line xs =
    let long : length (take (line_length xs) xs) ≡ line_length xs = length-take-le (line_length xs) xs (line_length-le xs) in
    let split : take (line_length xs) xs ++ drop (line_length xs) xs ≡ xs = take-append-drop (line_length xs) xs in
    ⊎_elim
    (λ found. let same : line_length (take (line_length xs) xs) ≡ line_length xs = sym (line_length-append_found (take (line_length xs) xs) (drop (line_length xs) xs) found) ∙ ap line_length split in omega arith)
    (λ all. omega (arith, line_length-le (take (line_length xs) xs)))
    (cases_lt (line_length (take (line_length xs) xs)) (length (take (line_length xs) xs)))

-- a line, its line end, and the rest
pub line_split : (xs : List ℕ) (end : ℕ) → line_length xs ≡ end → end < length xs
    → xs ≡ take end xs ++ 10 ∷ drop (end + 1) xs
line_split xs end at found =
    let stop : not (is_line_end (get_or xs (line_length xs) 0)) ≡ false = prefix_len_stops (λ b. not (is_line_end b)) xs 0 (omega arith) in
    let is : get_or xs end 0 ≡ 10 = eqb-true (get_or xs end 0) 10 (rw (← at) (is_true (is_line_end (get_or xs (line_length xs) 0)) stop)) in
    sym (take-append-drop end xs) ∙ ap (λ l. take end xs ++ l) (drop_more xs end 0 found ∙ ap (λ b. b ∷ drop (end + 1) xs) is)
  where
    is_true : (b : Bool) → not b ≡ false → b ≡ true
    is_true true h = refl
    is_true false h = cc

-- a text whose beginning has no line end
pub line_length-known : (xs : List ℕ) (n : ℕ) → n ≤ length xs → HasNoLineEnd (take n xs)
    → line_length xs ≡ n + line_length (drop n xs)
line_length-known xs n within none =
    let split : take n xs ++ drop n xs ≡ xs = take-append-drop n xs in
    sym (ap line_length split) ∙ line_length-append_none (take n xs) (drop n xs) none ∙ ap (λ k. k + line_length (drop n xs)) (length-take-le n xs within)

-- the text begins with the delimiter and a line end
abbrev pub begins : List ℕ → List ℕ → Bool
begins xs delimiter = starts_with nat_eq xs (delimiter ++ 10 ∷ [])

begins-true : (xs delimiter : List ℕ) → begins xs delimiter ≡ true
    → (rest : List ℕ) × (xs ≡ delimiter ++ 10 ∷ rest)
begins-true xs delimiter h =
    let rest = drop (length (delimiter ++ 10 ∷ [])) xs in
    (rest, (starts_is Decides-eqb xs (delimiter ++ 10 ∷ []) (begins xs delimiter) refl).0 h ∙ append_assoc delimiter (10 ∷ []) rest)

begins-of : (xs delimiter rest : List ℕ) → xs ≡ delimiter ++ 10 ∷ rest → begins xs delimiter ≡ true
begins-of xs delimiter rest e =
    (starts_is Decides-eqb xs (delimiter ++ 10 ∷ []) (begins xs delimiter) refl).1 rest (e ∙ sym (append_assoc delimiter (10 ∷ []) rest))

begins-append : (xs ys delimiter : List ℕ) → begins xs delimiter ≡ true
    → begins (xs ++ ys) delimiter ≡ true
begins-append xs ys delimiter h =
    let p = begins-true xs delimiter h in
    begins-of (xs ++ ys) delimiter (p.0 ++ ys) (ap (λ l. l ++ ys) p.1 ∙ append_assoc delimiter (10 ∷ p.0) ys)

begins-length : (xs delimiter : List ℕ) → begins xs delimiter ≡ true
    → length delimiter + 1 ≤ length xs
begins-length xs delimiter h =
    let p = begins-true xs delimiter h in
    omega (arith, ap length p.1, length-append delimiter (10 ∷ p.0))

begins-append_long : (xs ys delimiter : List ℕ) → length delimiter + 1 ≤ length xs
    → begins (xs ++ ys) delimiter ≡ begins xs delimiter
begins-append_long xs ys delimiter long =
    ap (λ l. pointwise nat_eq (delimiter ++ 10 ∷ []) l) (take-append-le (length (delimiter ++ 10 ∷ [])) xs ys (omega (arith, length-append delimiter (10 ∷ []))))

-- a map of suc, taken apart
some_suc : (o : Option ℕ) (k : ℕ) → option_map suc o ≡ Some k → (j : ℕ) × (o ≡ Some j) × (k ≡ suc j)
some_suc None k h = absurd (none-some k h)
some_suc (Some j) k h = (j, refl, cc)

none_suc : (o : Option ℕ) → option_map suc o ≡ None → o ≡ None
none_suc None h = refl
none_suc (Some j) h = absurd (none-some (suc j) (sym h))

-- one step of the search for a delimiter line
pub before-here : (delimiter : List ℕ) (at_start : Bool) (byte : ℕ) (bytes : List ℕ)
    → (at_start && begins (byte ∷ bytes) delimiter) ≡ true
    → before_delimiter delimiter at_start (byte ∷ bytes) ≡ Some 0
unfolding before_delimiter
before-here delimiter at_start byte bytes h = rw h refl

pub before-next : (delimiter : List ℕ) (at_start : Bool) (byte : ℕ) (bytes : List ℕ) → (at_start && begins (byte ∷ bytes) delimiter) ≡ false → before_delimiter delimiter at_start (byte ∷ bytes) ≡ option_map suc (before_delimiter delimiter (is_line_end byte) bytes)
unfolding before_delimiter
before-next delimiter at_start byte bytes h = rw h refl

pub before-nil : (delimiter : List ℕ) (at_start : Bool)
    → before_delimiter delimiter at_start [] ≡ None
unfolding before_delimiter
before-nil delimiter at_start = refl

both_true : (a b : Bool) → (a && b) ≡ true → (a ≡ true) × (b ≡ true)
both_true true b h = (refl, h)
both_true false b h = cc

-- a delimiter line that is found lies within the bytes
pub before-fits : (delimiter : List ℕ) (at_start : Bool) (bytes : List ℕ) (k : ℕ)
    → before_delimiter delimiter at_start bytes ≡ Some k → k + length delimiter + 1 ≤ length bytes
before-fits delimiter at_start [] k h = absurd (none-some k (sym (before-nil delimiter at_start) ∙ h))
before-fits delimiter at_start (byte ∷ bytes) k h = by_cases (at_start && begins (byte ∷ bytes) delimiter)
    (λ here.
    let zero_k : Some 0 ≡ Some k = sym (before-here delimiter at_start byte bytes here) ∙ h in
    let k_is : 0 ≡ k = cc in
    omega (arith, begins-length (byte ∷ bytes) delimiter (both_true at_start (begins (byte ∷ bytes) delimiter) here).1))
    (λ later.
    let p = some_suc (before_delimiter delimiter (is_line_end byte) bytes) k (sym (before-next delimiter at_start byte bytes later) ∙ h) in
    omega (arith, before-fits delimiter (is_line_end byte) bytes p.0 p.1, p.2))

-- it stays where it is, whatever comes after it
pub before-append_some : (delimiter : List ℕ) (at_start : Bool) (bytes more : List ℕ) (k : ℕ)
    → before_delimiter delimiter at_start bytes ≡ Some k
    → before_delimiter delimiter at_start (bytes ++ more) ≡ Some k
before-append_some delimiter at_start [] more k h = absurd (none-some k (sym (before-nil delimiter at_start) ∙ h))
before-append_some delimiter at_start (byte ∷ bytes) more k h = by_cases (at_start && begins (byte ∷ bytes) delimiter)
    (λ here.
    let two = both_true at_start (begins (byte ∷ bytes) delimiter) here in
    let still : (at_start && begins (byte ∷ bytes ++ more) delimiter) ≡ true = rw two.0 (begins-append (byte ∷ bytes) more delimiter two.1) in
    before-here delimiter at_start byte (bytes ++ more) still ∙ sym (before-here delimiter at_start byte bytes here) ∙ h)
    (λ later.
    let p = some_suc (before_delimiter delimiter (is_line_end byte) bytes) k (sym (before-next delimiter at_start byte bytes later) ∙ h) in
    let remaining = before-append_some delimiter (is_line_end byte) bytes more p.0 p.1 in
    by_cases (at_start && begins (byte ∷ bytes ++ more) delimiter)
    (λ here.
    let fits = before-fits delimiter (is_line_end byte) bytes p.0 p.1 in
    let same : (at_start && begins (byte ∷ bytes ++ more) delimiter) ≡ (at_start && begins (byte ∷ bytes) delimiter) = ap (λ b. at_start && b) (begins-append_long (byte ∷ bytes) more delimiter (omega arith)) in
    absurd (false≢true (sym later ∙ sym same ∙ here)))
    (λ not_here. before-next delimiter at_start byte (bytes ++ more) not_here ∙ ap (option_map suc) remaining ∙ ap Some (sym p.2)))

-- one that is found only with more bytes ends among these
pub before-append_none : (delimiter : List ℕ) (at_start : Bool) (bytes more : List ℕ) (k : ℕ)
    → before_delimiter delimiter at_start bytes ≡ None
    → before_delimiter delimiter at_start (bytes ++ more) ≡ Some k
    → length bytes < k + length delimiter + 1
before-append_none delimiter at_start [] more k none h = omega arith
before-append_none delimiter at_start (byte ∷ bytes) more k none h = by_cases (at_start && begins (byte ∷ bytes) delimiter)
    (λ here. absurd (none-some 0 (sym none ∙ before-here delimiter at_start byte bytes here)))
    (λ later. by_cases (at_start && begins (byte ∷ bytes ++ more) delimiter)
    (λ here.
    let zero_k : Some 0 ≡ Some k = sym (before-here delimiter at_start byte (bytes ++ more) here) ∙ h in
    let k_is : 0 ≡ k = cc in
    ⊎_elim (λ short. omega arith)
    (λ long.
    let same : (at_start && begins (byte ∷ bytes ++ more) delimiter) ≡ (at_start && begins (byte ∷ bytes) delimiter) = ap (λ b. at_start && b) (begins-append_long (byte ∷ bytes) more delimiter (omega arith)) in
    absurd (false≢true (sym later ∙ sym same ∙ here)))
    (cases_lt (length (byte ∷ bytes)) (length delimiter + 1)))
    (λ not_here.
    let p = some_suc (before_delimiter delimiter (is_line_end byte) (bytes ++ more)) k (sym (before-next delimiter at_start byte (bytes ++ more) not_here) ∙ h) in
    let tail_none = none_suc (before_delimiter delimiter (is_line_end byte) bytes) (sym (before-next delimiter at_start byte bytes later) ∙ none) in
    omega (arith, before-append_none delimiter (is_line_end byte) bytes more p.0 tail_none p.1, p.2)))

-- what is mapped twice
pub option_map-same : (f g : ℕ → ℕ) (o : Option ℕ) → ((n : ℕ) → f n ≡ g n)
    → option_map f o ≡ option_map g o
option_map-same f g None same = refl
option_map-same f g (Some n) same = ap Some (same n)

pub option_map-twice : (f g h : ℕ → ℕ) (o : Option ℕ) → ((n : ℕ) → f (g n) ≡ h n)
    → option_map f (option_map g o) ≡ option_map h o
option_map-twice f g h None same = refl
option_map-twice f g h (Some n) same = ap Some (same n)

-- the first byte of a text without line ends is none, and the others have none
none_cons : (byte : ℕ) (text : List ℕ) → HasNoLineEnd (byte ∷ text)
    → (is_line_end byte ≡ false) × HasNoLineEnd text
none_cons byte text none = by_cases (is_line_end byte)
    (λ ends. let zero_is : line_length (byte ∷ text) ≡ 0 = ap (λ b. cond (not b) (1 + line_length text) 0) ends in absurd (omega arith))
    (λ other. let more_is : line_length (byte ∷ text) ≡ 1 + line_length text = ap (λ b. cond (not b) (1 + line_length text) 0) other in (other, omega arith))

-- a text that has no line end does not begin with a delimiter line
pub begins-none : (text delimiter : List ℕ) → HasNoLineEnd text → begins text delimiter ≡ false
begins-none text delimiter none = by_cases (begins text delimiter)
    (λ here.
    let p = begins-true text delimiter here in
    let ended : HasNoLineEnd (delimiter ++ 10 ∷ p.0) = subst (λ (l : List ℕ). HasNoLineEnd l) p.1 none in
    let lf : HasNoLineEnd (10 ∷ p.0) = none_after delimiter (10 ∷ p.0) ended in
    absurd (omega (arith, lf)))
    (λ no_begin. no_begin)

-- nor does a line that is not the delimiter
pub begins-other : (text rest delimiter : List ℕ) → HasNoLineEnd text → HasNoLineEnd delimiter
    → text ≢ delimiter → begins (text ++ 10 ∷ rest) delimiter ≡ false
begins-other text rest delimiter none delimiter_none other = by_cases (begins (text ++ 10 ∷ rest) delimiter)
    (λ here.
    let p = begins-true (text ++ 10 ∷ rest) delimiter here in
    let left = line_length-append_none text (10 ∷ rest) none in
    let right = line_length-append_none delimiter (10 ∷ p.0) delimiter_none in
    let long : length delimiter ≡ length text = omega (arith, ap line_length p.1) in
    absurd (other (sym (take_at text (10 ∷ rest) (length text) refl) ∙ ap (take (length text)) p.1 ∙ take_at delimiter (10 ∷ p.0) (length text) long)))
    (λ no_begin. no_begin)

-- a text without line ends holds no delimiter line
pub before-no_line : (delimiter : List ℕ) (at_start : Bool) (text : List ℕ) → HasNoLineEnd text
    → before_delimiter delimiter at_start text ≡ None
before-no_line delimiter at_start [] none = before-nil delimiter at_start
before-no_line delimiter at_start (byte ∷ text) none =
    let two = none_cons byte text none in
    before-next delimiter at_start byte text (rw (begins-none (byte ∷ text) delimiter none) (and_false at_start))
    ∙ ap (option_map suc) (before-no_line delimiter (is_line_end byte) text two.1)
  where
    and_false : (b : Bool) → (b && false) ≡ false
    and_false true = refl
    and_false false = refl

-- from within a line it goes on after the line's end
before-line_within : (delimiter text rest : List ℕ) → HasNoLineEnd text
    → before_delimiter delimiter false (text ++ 10 ∷ rest) ≡ option_map (λ n. length text + 1 + n) (before_delimiter delimiter true rest)
before-line_within delimiter [] rest none =
    before-next delimiter false 10 rest refl ∙ option_map-same suc (λ n. 0 + 1 + n) (before_delimiter delimiter true rest) (λ n. omega arith)
before-line_within delimiter (byte ∷ text) rest none =
    let two = none_cons byte text none in
    before-next delimiter false byte (text ++ 10 ∷ rest) refl
    ∙ ap (λ b. option_map suc (before_delimiter delimiter b (text ++ 10 ∷ rest))) two.0
    ∙ ap (option_map suc) (before-line_within delimiter text rest two.1)
    ∙ option_map-twice suc (λ n. length text + 1 + n) (λ n. length (byte ∷ text) + 1 + n) (before_delimiter delimiter true rest) (λ n. omega arith)

-- a line that is not the delimiter is passed over
pub before-other_line : (delimiter text rest : List ℕ) → HasNoLineEnd text → HasNoLineEnd delimiter
    → text ≢ delimiter
    → before_delimiter delimiter true (text ++ 10 ∷ rest) ≡ option_map (λ n. length text + 1 + n) (before_delimiter delimiter true rest)
before-other_line delimiter [] rest none delimiter_none other =
    before-next delimiter true 10 rest (begins-other [] rest delimiter none delimiter_none other)
    ∙ option_map-same suc (λ n. 0 + 1 + n) (before_delimiter delimiter true rest) (λ n. omega arith)
before-other_line delimiter (byte ∷ text) rest none delimiter_none other =
    let two = none_cons byte text none in
    before-next delimiter true byte (text ++ 10 ∷ rest) (begins-other (byte ∷ text) rest delimiter none delimiter_none other)
    ∙ ap (λ b. option_map suc (before_delimiter delimiter b (text ++ 10 ∷ rest))) two.0
    ∙ ap (option_map suc) (before-line_within delimiter text rest two.1)
    ∙ option_map-twice suc (λ n. length text + 1 + n) (λ n. length (byte ∷ text) + 1 + n) (before_delimiter delimiter true rest) (λ n. omega arith)

-- the delimiter line itself
pub before-delimiter_line : (delimiter rest : List ℕ)
    → before_delimiter delimiter true (delimiter ++ 10 ∷ rest) ≡ Some 0
before-delimiter_line [] rest = before-here [] true 10 rest (begins-of (10 ∷ rest) [] rest refl)
before-delimiter_line (byte ∷ delimiter) rest = before-here (byte ∷ delimiter) true byte (delimiter ++ 10 ∷ rest) (begins-of (byte ∷ delimiter ++ 10 ∷ rest) (byte ∷ delimiter) rest refl)
