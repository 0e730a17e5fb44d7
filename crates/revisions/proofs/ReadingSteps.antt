-- What an expression is read as, step by step.
use Rattle.std.proofs.Common.{◌≡◌, ℕ, true, false, List, [], ◌++◌, Option, Some, None, Result, Ok, Err, refl, ap, ◌∙◌}
use Rattle.std.specs.List.{list_any, before_first}
use Rattle.std.specs.Option.{option_map, option_and_then}
use Rattle.revisions.specs.declared.fault.Fault.{Fault}
use Rattle.revisions.specs.declared.fault.Fault.TheVariants as fault
use Rattle.revisions.specs.declared.suffix.Suffix.{Suffix}
use Rattle.revisions.specs.Expressions.{Expression}
use Rattle.git_model.specs.Results.{and_then, or_fault}
use Rattle.revisions.specs.ExpressionReading.{cut, is_mark, is_colon, is_base, suffixes_of, path_suffix, after_colon, expression_of}
use Rattle.revisions.proofs.Suffixes.{expression_is}
use Rattle.revisions.proofs.Steps.{or_fault-map}

pub record AreParts (text base marked : List ℕ) (path : Option (List ℕ)) : Type 0 where
  pub both : base ++ marked ≡ before_first is_colon text
  pub plain : list_any is_mark base ≡ false
  pub begins : (cut marked).front ≡ []
  pub last : path ≡ after_colon text

-- the suffixes with the path after them
abbrev pub last_read : List Suffix → Option (List ℕ) → Result (List Suffix) Fault
last_read suffixes path = or_fault fault.Malformed (option_map (λ last. suffixes ++ last)
    (path_suffix path))

abbrev pub with_base : List ℕ → List Suffix → Expression
with_base base suffixes = record { base = base; suffixes = suffixes }

pub no_base : (text base marked : List ℕ) (path : Option (List ℕ)) → AreParts text base marked path
    → is_base base ≡ false → or_fault fault.Malformed (expression_of text) ≡ Err fault.Malformed
no_base text base marked path parts none =
    let same = expression_is text base marked path parts.both parts.plain parts.begins parts.last in
    ap (or_fault fault.Malformed) (rw none at same)

pub read_as : (text base marked : List ℕ) (path : Option (List ℕ)) → AreParts text base marked path
    → is_base base ≡ true
    → or_fault fault.Malformed (expression_of text)
    ≡ and_then (or_fault fault.Malformed (suffixes_of (cut marked).pieces))
    (λ suffixes. and_then (last_read suffixes path) (λ all. Ok (with_base base all)))
read_as text base marked path parts base_is =
    let same = expression_is text base marked path parts.both parts.plain parts.begins parts.last in
    ap (or_fault fault.Malformed) (rw base_is at same) ∙ in_steps (suffixes_of (cut marked).pieces)
  where
    in_steps : (o : Option (List Suffix))
        → or_fault fault.Malformed (option_map (with_base base) (option_and_then
        (λ suffixes. option_map (λ last. suffixes ++ last) (path_suffix path)) o))
        ≡ and_then (or_fault fault.Malformed o)
        (λ suffixes. and_then (last_read suffixes path) (λ all. Ok (with_base base all)))
    in_steps None = refl
    in_steps (Some suffixes) = or_fault-map fault.Malformed (with_base base)
        (option_map (λ last. suffixes ++ last) (path_suffix path))
