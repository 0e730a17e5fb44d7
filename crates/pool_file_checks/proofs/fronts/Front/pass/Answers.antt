use Rattle.std.proofs.Common.{◌≡◌, ℕ, ◌≤◌, ◌++◌, List, length, take, ap, subst, ◌∙◌}
use Rattle.std.proofs.lemmas.Bool.{OnTrue_at}
use Rattle.pool_file_format.specs.Shown.{objects_of}
use Rattle.pool_file_checks.proofs.FrontLemmas.{cut_indexed, cut_good, numbers_again, is_front}
use Rattle.pool_file_checks.proofs.WholeLemmas.{within_names}
use Rattle.pool_file_checks.proofs.fronts.Front.pass.Goals as goal

pub returns : goal.returns
returns c = λ digest same range old.
    let os = objects_of c.args.objects.now in let names = c.args.names.now in let numbers = c.args.numbers.now in let front = c.args.self.now in
    let k = c.common_count-common in
    let first = subst (λ (l : List ℕ). k.result ≤ length l) c.deref.ensures.value k.ensures.first in
    let alike = subst (λ (l : List ℕ). take k.result l ≡ take k.result numbers) c.deref.ensures.value k.ensures.same in
    let index = c.in_ok-index_rest.ensures
    (cut_indexed digest os names numbers front k.result same old first k.ensures.second alike _ c.cut.ensures.rows c.cut.ensures.distinct)
    (within_names digest c.args.objects.now names numbers same range) in
    let cut = cut_good digest os names numbers front k.result same old first k.ensures.second alike _ index.0 _ c.cut.ensures.sums in
    let good = OnTrue_at c.if-not-branch.false (c.in_ok-add_sums.ensures cut.0 cut.1) in
    let all = c.in_ok-extend_from_slice.ensures.items ∙ ap (λ (l : List ℕ). l ++ c.split_at.result.1.now) c.cut.ensures.numbers
    ∙ ap (λ (l : List ℕ). take k.result front.numbers.items ++ l) c.split_at.ensures.back
    ∙ numbers_again digest os names numbers front k.result same old first k.ensures.second alike in
    (is_front digest os names numbers front k.result same old first k.ensures.second alike _ all index.0 index.1 good, all)
