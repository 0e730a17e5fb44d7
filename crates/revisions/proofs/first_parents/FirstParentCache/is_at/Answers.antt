use Rattle.std.proofs.Common.{◌≡◌, ℕ, ◌≤◌, List, Some, length, slice_get, refl, ap, sym, subst, ◌∙◌, arith}
use Rattle.std.specs.Cmp.Lexicographic.{bytes_decides}
use Rattle.std.proofs.lemmas.Option.{slice_get_read, slice_get_within}
use Rattle.revisions.proofs.first_parents.FirstParentCache.is_at.Goals as goal

pub returns-in-Some : goal.returns-in-Some
returns-in-Some c =
    let all = c.deref.result.now in
    let found = c.in-Some.found.now in
    let own : c.self.inside.commits.items ≡ c.args.self.now = c.self.view_is in
    let read : slice_get all c.args.at ≡ Some found =
    slice_get_read all (length all) c.args.at found refl c.in-Some.ensures.lookup.3.0 c.in-Some.ensures.lookup.1 in
    let got : slice_get c.args.self.now c.args.at ≡ Some found =
    subst (λ (l : List (List ℕ)). slice_get l c.args.at ≡ Some found) (c.deref.ensures.value ∙ own) read in
    let same = bytes_decides found c.args.commit.now in (
      λ yes. got ∙ ap Some (same.0 (sym c.eq.ensures ∙ yes)),
      λ is. let one : found ≡ c.args.commit.now = cc (sym got ∙ is) in c.eq.ensures ∙ same.1 one,
    )

pub returns-in-None : goal.returns-in-None
returns-in-None c =
    let own : c.self.inside.commits.items ≡ c.args.self.now = c.self.view_is in
    let size : length c.deref.result.now ≡ length c.args.self.now = ap length (c.deref.ensures.value ∙ own) in
    let past : length c.deref.result.now ≤ c.args.at = c.in-None.ensures.lookup.3 in (
      λ no. cc no,
      λ is. let within = slice_get_within c.args.self.now c.args.at c.args.commit.now is in absurd (omega (arith, within, past, size)),
    )
