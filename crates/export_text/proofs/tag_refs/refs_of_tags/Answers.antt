use Rattle.std.proofs.Common.{List, [], ◌∷◌, length, map, sym, ap, ◌∙◌, ◌++◌, arith}
use Rattle.std.specs.List.{filter}
use Rattle.std.proofs.lemmas.List.{take_all, length-map}
use Rattle.git_model.specs.Repository.{Object}
use Rattle.git_model.specs.References.{object_at}
use Rattle.git_model.specs.Reach.{is_referred_to}
use Rattle.export_text.specs.Reached.{is_tag, ref_of_tag}
use Rattle.export_text.proofs.Flagged.{within, kept-one, kept-none, tags-more}
use Rattle.export_text.proofs.tag_refs.refs_of_tags.Goals as goal
use Rattle.export_text.proofs.tag_refs.refs_of_tags.Goals.{then-is_reached+in_ok-push_if_tag, else-is_reached}

pub loop-place-init : goal.loop-place-init
loop-place-init g c refs good are = c.new-names.ensures.items

pub loop-place-preserved : goal.loop-place-preserved
loop-place-preserved g c refs good are =
    let os = c.args.objects.now in
    let i = c.loop-place.place in
    let lt = c.loop-place-test.true in
    let set = λ (o : Object). is_referred_to (record { objects = os; refs = refs }) o.id in
    elim c.if-is_reached.branch [
      | then-is_reached+in_ok-push_if_tag w ↦
          rw w.names-is (w.in_ok-push_if_tag.ensures good (within os set c.args.reached.now i are lt)
          ∙ ap (λ names. names ++ map ref_of_tag (filter is_tag (object_at i os ∷ []))) (c.loop-place.invariant refs good are)
          ∙ tags-more ref_of_tag is_tag _ _ (object_at i os) (kept-one os set c.args.reached.now i are lt w.if-is_reached.true))
      | else-is_reached w ↦
          rw w.names-is (c.loop-place.invariant refs good are
          ∙ ap (λ xs. map ref_of_tag (filter is_tag xs)) (sym (kept-none os set c.args.reached.now i are lt w.if-is_reached.false)))
    ]

pub returns : goal.returns
returns g c refs good are =
    let n = ap length are in
    let m = length-map c.args.objects.now (λ (o : Object). is_referred_to (record { objects = c.args.objects.now; refs = refs }) o.id) in
    c.loop-place.invariant refs good are
    ∙ ap (λ (xs : List Object). map ref_of_tag (filter is_tag (filter (λ (o : Object). is_referred_to (record { objects = c.args.objects.now; refs = refs }) o.id) xs)))
    (take_all c.loop-place.place c.args.objects.now (omega arith))
