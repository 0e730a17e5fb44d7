-- Searches that go on.
use Rattle.std.proofs.Common.{ℕ, ◌≤◌, List, length, Option, None, Some, arith}
use Rattle.stream_lex.specs.declared.search.Search.{Search}
use Rattle.stream_lex.specs.Search.{GoesOver, SearchesOn, FindsLineEnd}

pub stays : (bytes : List ℕ) (search : Search) → search.seen ≤ length bytes
    → SearchesOn bytes search search
stays bytes search within = record { within = within; onwards = omega arith; counted = omega arith; once = omega arith }

pub goes_on : (bytes : List ℕ) (first old new : Search) (found : Option ℕ)
    → SearchesOn bytes first old → FindsLineEnd bytes old.seen found → GoesOver bytes old found new
    → SearchesOn bytes first new
goes_on bytes first old new None so_far finds over = record {
  within = omega (arith, over.seen);
  onwards = omega (arith, over.seen, so_far.onwards, so_far.within);
  counted = omega (arith, over.onwards, so_far.counted);
  once = omega (arith, over.seen, over.searched, so_far.once, so_far.onwards, so_far.within);
}
goes_on bytes first old new (Some end) so_far finds over = record {
  within = omega (arith, over.seen, finds.inside);
  onwards = omega (arith, over.seen, so_far.onwards, finds.beyond);
  counted = omega (arith, over.onwards, so_far.counted);
  once = omega (arith, over.seen, over.searched, so_far.once, so_far.onwards, finds.beyond);
}
