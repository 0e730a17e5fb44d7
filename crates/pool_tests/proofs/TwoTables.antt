-- That the conditions of callers can be met: two tables that share a pool, which nobody else holds
-- anything in, and a tree of one entry.
use Rattle.std.proofs.Common.{◌≡◌, ℕ, true, cond, List, [], ◌∷◌, Option, Some, Result, Ok, Err}
use Rattle.std.proofs.Common.{OnOk, IfOk, ap, ◌∙◌, arith}
use Rattle.std.proofs.lemmas.List.Elements.{All-nil, All-cons}
use Rattle.git_model.specs.ObjectName.{IsObjectName}
use Rattle.git_model.specs.Tree.{TreeEntry, IsEntryName, CanWriteEntry, CanWriteTree}
use Rattle.std.specs.Str.{bytes_eq}
use Rattle.std.proofs.lemmas.Slice.Eq.{bytes_eq-Decides}
use Rattle.git_model.specs.Content.{Content, name_by}
use Rattle.tenant_tables.specs.Adding.{Answers, Adds}
use Rattle.tenant_tables.specs.declared.fault.Fault.{Fault}
use Rattle.tenant_tables.specs.declared.summary.Summary.{Summary}
use Rattle.content_pool.specs.Pool.{Cells, HasHoldsLeft, IsVacant}
use Rattle.tenant_tables.specs.IsBackedBy.{IsBackedBy, PreservesOthers, Share}
use Rattle.tenant_tables.specs.Room.{HasHoldsLeftBeside}
use Rattle.tenant_tables.specs.View.{View, Entries, summary_of}
use Rattle.tenant_tables.proofs.HoldLemmas.{held-nil}
use Rattle.tenant_tables.proofs.TableLemmas.{IsBackedBy-nil, other_stands}

pub Share-nil : (digest : List ℕ → List ℕ) (p : Cells) (es fs : Entries) → IsVacant p → es ≡ []
    → fs ≡ [] → Share digest p es fs
Share-nil digest p es fs vacant a b =
    rw (a, b) (record {
      first = IsBackedBy-nil digest p;
      second = IsBackedBy-nil digest p;
      counts = λ s. let n = vacant s in let m = held-nil s in omega arith;
    })

-- each holds a slot at most once, so there is room for more holds
pub Share-room : (digest : List ℕ → List ℕ) (p : Cells) (es fs : Entries) → Share digest p es fs
    → HasHoldsLeft p
Share-room digest p es fs h s =
    let a = h.first.once s in let b = h.second.once s in let c = h.counts s in omega arith

pub Share-room_for_all : (digest : List ℕ → List ℕ) (p : Cells) (es fs : Entries)
    → Share digest p es fs → HasHoldsLeftBeside p []
Share-room_for_all digest p es fs h s =
    let a = h.first.once s in
    let b = h.second.once s in let c = h.counts s in let n = held-nil s in omega arith

-- a call of the first table keeps the second
pub Share-first : (digest : List ℕ → List ℕ) (p q : Cells) (es gs fs : Entries)
    → Share digest p es fs → IsBackedBy digest q gs
    → PreservesOthers p es q gs → Share digest q gs fs
Share-first digest p q es gs fs h stands others = record {
  first = stands;
  second =
      other_stands digest p q es gs fs h.second
      (record { sum = λ s. let c = h.counts s in omega arith }) others;
  counts = λ s. let c = h.counts s in let r = others.rest s in omega arith;
}

-- and the other way round
pub Share-second : (digest : List ℕ → List ℕ) (p q : Cells) (es fs gs : Entries)
    → Share digest p es fs → IsBackedBy digest q gs
    → PreservesOthers p fs q gs → Share digest q es gs
Share-second digest p q es fs gs h stands others = record {
  first =
      other_stands digest p q fs gs es h.first
      (record { sum = λ s. let c = h.counts s in omega arith }) others;
  second = stands;
  counts = λ s. let c = h.counts s in let r = others.rest s in omega arith;
}

-- the second table, which had nothing, has what it shares with the first
pub Share-shared : (digest : List ℕ → List ℕ) (p q : Cells) (es fs gs : Entries)
    → Share digest p es fs → fs ≡ [] → IsBackedBy digest q gs
    → PreservesOthers p [] q gs → Share digest q es gs
Share-shared digest p q es fs gs h none stands others =
    Share-second digest p q es fs gs h stands (rw none others)

-- one entry makes a tree
pub one_entry : (e : TreeEntry) → IsEntryName e.name → IsObjectName e.id → CanWriteTree (e ∷ [])
one_entry e name id = record {
  entries = All-cons CanWriteEntry e [] (record { name = name; id = id }) (All-nil CanWriteEntry);
  names_are_distinct = λ i j d before within. absurd (omega arith);
  in_order = λ k d low within. absurd (omega arith);
}

-- the tree that was added has its summary
pub added_summary : (r : Result (List ℕ) Fault) (digest : List ℕ → List ℕ) (c : Content) (s : Summary) (refusal : Option Fault) (p : Cells) (old : View) (q : Cells) (new : View)
    → Answers r (name_by digest c) refusal → OnOk r (Adds digest c (Some s) p old q new)
    → IfOk r (λ id. summary_of id new.entries ≡ Some s)
added_summary (Err e) digest c s refusal p old q new answers adds = tt
added_summary (Ok id) digest c s refusal p old q new answers adds =
    let same : bytes_eq id (name_by digest c) ≡ true = (bytes_eq-Decides id (name_by digest c)).1 answers.0 in
    adds.summaries id ∙ ap (λ b. cond b (Some s) (summary_of id old.entries)) same
