-- What the object of a mark is among good marks.
use Rattle.std.proofs.Common.{◌≡◌, ℕ, Bool, true, false, List, Option, None, Some, Result, Ok, nat_eq, refl, sym, ap, ◌∙◌, subst}
use Rattle.std.specs.Prelude.{IfOk, IfSome}
use Rattle.std.specs.Map.{lookup}
use Rattle.std.specs.Str.{bytes_eq}
use Rattle.std.proofs.lemmas.Map.Entries.{All-lookup}
use Rattle.std.proofs.lemmas.Slice.Eq.{bytes_eq-Decides}
use Rattle.git_model.specs.declared.kind.Kind.{Kind}
use Rattle.git_model.specs.Kind.{kind_word}
use Rattle.git_model.specs.References.{kind_named}
use Rattle.git_model.specs.Repository.{Object}
use Rattle.git_model.specs.TagReading.{kind_named_by}
use Rattle.git_model.proofs.TagReadings.{kind_back}
use Rattle.stream_grammar.specs.declared.marked_object.MarkedObject.{MarkedObject}
use Rattle.open_commits.specs.declared.fault.Fault.{Fault}
use Rattle.open_commits.specs.declared.fault.Fault.TheVariants as fault
use Rattle.git_model.specs.Results.{and_then, or_fault}
use Rattle.open_commits.specs.Changes.{Marks, marked_as, name_as}
use Rattle.open_commits.specs.GoodCommits.{AreMarks, IsMarked}

kind_is : (a b : Kind) → bytes_eq (kind_word a) (kind_word b) ≡ true → a ≡ b
kind_is a b e =
    sym (kind_back a) ∙ ap kind_named_by ((bytes_eq-Decides (kind_word a) (kind_word b)).0 e)
    ∙ kind_back b

by_test : {P : Type 0} (test : Bool) → (test ≡ true → P) → (test ≡ false → P) → P
by_test true holds fails = holds refl
by_test false holds fails = fails refl

pub from_ok : (P : List ℕ → Type 0) (r : Result (List ℕ) Fault) (n : List ℕ) → r ≡ Ok n
    → IfOk r P → P n
from_ok P r n e has = subst (λ (r : Result (List ℕ) Fault). IfOk r P) e has

-- a mark's object is there, and of the kind that was wanted
pub marked_has : (os : List Object) (marks : Marks) → AreMarks os marks
    → (wanted : Kind) (mark : ℕ)
    → IfOk (marked_as marks wanted mark) (λ n. kind_named n os ≡ Some wanted)
marked_has os marks are wanted mark =
    found_has (lookup (nat_eq mark) marks) (All-lookup (IsMarked os) (nat_eq mark) marks are)
  where
    found_has : (found : Option MarkedObject) → IfSome found (IsMarked os)
        → IfOk (and_then (or_fault fault.MarkUnknown found) (name_as wanted))
        (λ n. kind_named n os ≡ Some wanted)
    found_has None is = tt
    found_has (Some object) is =
        by_test (bytes_eq (kind_word object.kind) (kind_word wanted))
        (λ same. rw same (is ∙ ap (λ (k : Kind). Some k) (kind_is object.kind wanted same)))
        (λ other. rw other tt)
