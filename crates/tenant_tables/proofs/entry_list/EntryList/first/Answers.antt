use Rattle.std.proofs.Common.{◌≡◌, ℕ, ◌≤◌, [], ◌∷◌, ◌++◌, length, take, slice_get, Some, None, sym, ap, subst, ◌∙◌, arith}
use Rattle.std.proofs.lemmas.List.{length-append, take_all}
use Rattle.tenant_tables.specs.View.{View, Entries, entry_named}
use Rattle.tenant_tables.proofs.Joined.{grown_front, new_at, take-none}
use Rattle.tenant_tables.proofs.Shared.{same_view}
use Rattle.tenant_tables.proofs.entry_list.EntryList.first.Goals as goal
use Rattle.tenant_tables.proofs.entry_list.EntryList.first.Goals.{else-loop-list-test, then-loop-list-test+in_default}

pub push-requires : goal.push-requires
push-requires c =
    let es = c.args.self.now.entries in
    let n = length c.loop-list.list.entries in
    let at : slice_get es n ≡ Some c.in-Some.found =
    ap (λ (k : ℕ). slice_get es k) (sym c.len-in-loop-list.ensures.value)
    ∙ sym c.at.ensures.entry ∙ c.in-Some.is in
    subst (λ (list : Entries). entry_named c.in-Some.found.0 list ≡ None) (sym c.loop-list.invariant.are)
    (new_at es n c.in-Some.found.0 c.in-Some.found.1 c.at.ensures.distinct at)

pub loop-list-preserved : goal.loop-list-preserved
loop-list-preserved c =
    let es = c.args.self.now.entries in
    let list = c.loop-list.list.entries in
    let n = length list in
    let at : slice_get es n ≡ Some c.in-Some.found =
    ap (λ (k : ℕ). slice_get es k) (sym c.len-in-loop-list.ensures.value)
    ∙ sym c.at.ensures.entry ∙ c.in-Some.is in
    let ok : c.push.new.self.entries ≡ list ++ c.in-Some.found ∷ [] =
    ap (λ (v : View). v.entries) c.in_ok-push.ensures.ok in
    let size : length c.push.new.self.entries ≡ length (list ++ c.in-Some.found ∷ []) =
    ap (λ (zs : Entries). length zs) ok in
    let more = length-append list (c.in-Some.found ∷ []) in
    let before = c.len.ensures.value in
    let below = c.loop-list-test.true in record {
      are = grown_front es list c.push.new.self.entries c.in-Some.found c.loop-list.invariant.are at ok;
      within = omega (arith, size, more, before, below);
    }

pub returns : goal.returns
returns c =
    let es = c.args.self.now.entries in
    let n = length c.loop-list.list.entries in
    let within = c.loop-list.invariant.within in
    let size = c.len.ensures.value in
    let are : c.loop-list.list.entries ≡ take c.args.count es =
    elim c.loop-list-test.branch [
      | else-loop-list-test w ↦
          let past = w.loop-list-test.false in
          let all : n ≡ c.args.count = omega (arith, within, size, past) in
          c.loop-list.invariant.are ∙ ap (λ (k : ℕ). take k es) all
      | then-loop-list-test+in_default w ↦
          let gone : length es ≤ n =
          take-none n es
          (sym w.in_default.is ∙ w.at.ensures.entry
          ∙ ap (λ (k : ℕ). slice_get es k) w.len-in-loop-list.ensures.value) in
          c.loop-list.invariant.are ∙ take_all n es gone
          ∙ sym (take_all c.args.count es (omega (arith, within, gone)))
    ] in
    c.commit.ensures ∙ same_view _ _ _ _ are (ap (λ (zs : Entries). length zs) are)
