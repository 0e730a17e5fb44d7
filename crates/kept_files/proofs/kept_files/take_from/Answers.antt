use Rattle.std.proofs.Common.{◌≡◌, List, ℕ, ◌+◌, ◌++◌, ◌∷◌, drop, take, ap, sym, ◌∙◌}
use Rattle.std.proofs.lemmas.List.{drop_more, take-append-drop}
use Rattle.kept_files.specs.declared.kept_files.KeptCommit.{KeptCommit}
use Rattle.kept_files.proofs.kept_files.take_from.Goals as goal

pub returns-in-Some-clause-taken : goal.returns-in-Some-clause-taken
returns-in-Some-clause-taken c =
    let old = c.args.kept.now.items in
    let place = c.in-Some.place in
    let taken = c.remove.result in
    let found = rw c.deref.ensures.value at c.in-Some.ensures.found in
    let named : taken.commit ≡ c.args.commit.now =
    ap (λ (kept : KeptCommit). kept.commit) c.remove.ensures.value ∙ found.1 taken in
    record {
      older = take place old;
      younger = drop (place + 1) old;
      was = sym (take-append-drop place old)
          ∙ ap (λ (kept : List KeptCommit). take place old ++ kept)
          (drop_more old place taken found.0
          ∙ ap (λ (kept : KeptCommit). kept ∷ drop (place + 1) old)
          (sym c.remove.ensures.value
          ∙ ap (λ (id : List ℕ). record { commit = id; files = taken.files }) named));
      stay = c.remove.ensures.by_index.2;
    }
