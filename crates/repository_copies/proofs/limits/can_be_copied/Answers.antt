use Rattle.std.proofs.Common.{◌≡◌, ◌≤◌, length, true, sym, ◌∙◌, arith}
use Rattle.std.specs.Prelude.{IsTrue, ◌↔◌, All}
use Rattle.std.proofs.lemmas.Bool.{false≢true}
use Rattle.std.proofs.lemmas.Result.{IfOk-weaker}
use Rattle.git_model.specs.Repository.{Repository}
use Rattle.export_text.specs.Reached.{is_exportable, reached_tags}
use Rattle.export_laws.specs.Copies.{CanBeCopied}
use Rattle.repository_copies.proofs.Fitting.{Fits, limits-tell}
use Rattle.repository_copies.proofs.limits.can_be_copied.Goals as goal

pub returns-then-tags-gt-TAGS_LIMIT : goal.returns-then-tags-gt-TAGS_LIMIT
returns-then-tags-gt-TAGS_LIMIT g c good flags =
    let n = c.count_tags-tags.ensures c.args.refs.now flags in
    let many = c.if-tags-gt-TAGS_LIMIT.true in (
      λ no. absurd (false≢true no),
      λ can. let few = can.few_tags in absurd (omega (arith, n, many, few)),
    )

pub returns-then-not-branch : goal.returns-then-not-branch
returns-then-not-branch g c good flags = (
  λ no. absurd (false≢true no),
  λ can. sym c.if-not-branch.true ∙ c.in_ok-is_exportable.ensures good flags ∙ can.few_refs,
)

pub returns : goal.returns
returns g c good flags =
    let r : Repository = record { objects = c.args.objects.now; refs = c.args.refs.now } in
    let n = c.count_tags-tags.ensures c.args.refs.now flags in
    let few = c.if-tags-gt-TAGS_LIMIT.false in
    let tags : length (reached_tags r) ≤ 65536 = omega (arith, n, few) in
    let refs : is_exportable r ≡ true = sym (c.in_ok-is_exportable.ensures good flags) ∙ c.if-not-branch.false in
    IfOk-weaker c.all_fit.result (λ fit. IsTrue fit ↔ All Fits r.objects) (λ can. IsTrue can ↔ CanBeCopied r)
    (limits-tell r refs tags) (c.all_fit.ensures good)
