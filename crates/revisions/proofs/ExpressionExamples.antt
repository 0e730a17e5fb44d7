-- Expressions and ranges that can be read, and those beside them that cannot.
use Rattle.std.specs.Prelude.{◌≡◌, [], ◌∷◌, None, Some, map, refl, codes}
use Rattle.git_model.specs.declared.kind.Kind.TheVariants as kind
use Rattle.numerals.specs.Numbers.{number_of}
use Rattle.git_paths.specs.Paths.{is_part}
use Rattle.git_paths.specs.Reading.{canonical_path}
use Rattle.revisions.specs.declared.suffix.Suffix.TheVariants.{Parent, Ancestor, PeelTo, PeelTags, Itself, AtPath}
use Rattle.revisions.specs.declared.commit_range.Range.TheVariants.{Between, Either}
use Rattle.revisions.specs.Expressions.{head}
use Rattle.revisions.specs.ExpressionReading.{count_of, braced, after_caret, suffix_of, with_byte, expression_of, parted, dotted, range_of}

-- every suffix, from left to right
all_suffixes : expression_of (codes "v1~^0^2~3^{commit}^{}^{object}:a/b")
    ≡ Some (record {
      base = codes "v1";
      suffixes = Ancestor 1 ∷ Parent 0 ∷ Parent 2 ∷ Ancestor 3
          ∷ PeelTo kind.Commit ∷ PeelTags ∷ Itself ∷ AtPath (codes "a" ∷ codes "b" ∷ []) ∷ [];
    })
unfolding expression_of suffix_of after_caret braced count_of number_of with_byte canonical_path is_part
all_suffixes = refl

-- the empty path is the root; what stands after the colon is no suffix, and is never quoted
the_root : expression_of (codes "@:") ≡ Some
    (record { base = codes "@"; suffixes = AtPath [] ∷ [] })
unfolding expression_of suffix_of after_caret braced count_of number_of with_byte canonical_path is_part
the_root = refl

a_quote : expression_of (codes "x:\"a^1\"")
    ≡ Some (record { base = codes "x"; suffixes = AtPath (codes "\"a^1\"" ∷ []) ∷ [] })
unfolding expression_of suffix_of after_caret braced count_of number_of with_byte canonical_path is_part
a_quote = refl

-- no base; a reflog; a path that is not canonical; a text in braces; a number of eleven digits
no_expressions : map expression_of (codes "^1" ∷ codes "m@{1}" ∷ codes "m:a//b" ∷ codes "m^{/a}" ∷ codes "m~00000000001" ∷ [])
    ≡ None ∷ None ∷ None ∷ None ∷ None ∷ []
unfolding expression_of suffix_of after_caret braced count_of number_of with_byte canonical_path is_part
no_expressions = refl

-- a range is parted at its first two dots; one side may be empty
parted_in_a_path : range_of (codes "m:a..b")
    ≡ Some (Between (record { base = codes "m"; suffixes = AtPath (codes "a" ∷ []) ∷ [] })
    (record { base = codes "b"; suffixes = [] }))
unfolding parted dotted expression_of suffix_of after_caret braced count_of number_of with_byte canonical_path is_part
parted_in_a_path = refl

an_empty_side : range_of (codes "m...") ≡ Some (Either
    (record { base = codes "m"; suffixes = [] }) head)
unfolding parted dotted expression_of suffix_of after_caret braced count_of number_of with_byte canonical_path is_part
an_empty_side = refl

four_dots : range_of (codes "....") ≡ Some (Either head
    (record { base = codes "."; suffixes = [] }))
unfolding parted dotted expression_of suffix_of after_caret braced count_of number_of with_byte canonical_path is_part
four_dots = refl

-- both sides are empty
no_ranges : map range_of (codes ".." ∷ codes "..." ∷ []) ≡ None ∷ None ∷ []
unfolding parted dotted expression_of suffix_of after_caret braced count_of number_of with_byte canonical_path is_part
no_ranges = refl
