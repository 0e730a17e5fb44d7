-- Queries, and texts that are none.
use Rattle.std.specs.Prelude.{◌≡◌, [], ◌∷◌, Ok, Err, map, refl, codes}
use Rattle.revisions.specs.ExpressionReading.{count_of, braced, after_caret, suffix_of, with_byte, expression_of}
use Rattle.answers.specs.declared.query.Query.TheVariants.{Object, Repository}
use Rattle.answers.specs.declared.query.ObjectQuery.TheVariants.{RevParse}
use Rattle.answers.specs.declared.query.RepositoryQuery.TheVariants.{Refs}
use Rattle.answers.specs.declared.fault.Fault.TheVariants as fault
use Rattle.answers.specs.Queries.{word_of, query_of}

of_a_revision : query_of (codes "rev-parse @") ≡ Ok (Object RevParse (record { base = codes "@"; suffixes = [] }))
unfolding query_of word_of expression_of suffix_of after_caret braced count_of with_byte
of_a_revision = refl

alone : query_of (codes "refs") ≡ Ok (Repository Refs)
unfolding query_of word_of
alone = refl

no_word : map query_of ([] ∷ codes "refs\n" ∷ []) ≡ Err fault.UnknownQuery ∷ Err fault.UnknownQuery ∷ []
unfolding query_of word_of
no_word = refl

-- a space after a word that stands alone; no space; no expression
malformed : map query_of (codes "refs " ∷ codes "rev-parse" ∷ codes "rev-parse " ∷ [])
    ≡ Err fault.MalformedQuery ∷ Err fault.MalformedQuery ∷ Err fault.MalformedQuery ∷ []
unfolding query_of word_of expression_of suffix_of after_caret braced count_of with_byte
malformed = refl
