-- In a list of contents in the order of their keys each has the number of its place.
use Rattle.std.proofs.Common.{◌≡◌, ℕ, ◌<◌, Bool, true, false, List, length, get_or, refl, sym, ap, subst, ◌∙◌, arith}
use Rattle.std.specs.List.{position_or_len}
use Rattle.std.specs.declared.cmp.Ordering.TheVariants.{Less}
use Rattle.std.proofs.lemmas.Bool.{lt-ltb}
use Rattle.std.proofs.lemmas.Cmp.{nat_list_cmp_total, tied_itself}
use Rattle.std.proofs.lemmas.List.{get_or-map, length-map}
use Rattle.std.proofs.lemmas.List.Sums.{position_or_len_is}
use Rattle.git_model.specs.Content.{Content, same_content}
use Rattle.content_pool.proofs.StoredLemmas.{same_content-decides}
use Rattle.pool_file_checks.specs.Repositories.{content_key, number_in}
use Rattle.pool_file_checks.proofs.Members.{Has, place_of_has}
use Rattle.pool_file_checks.proofs.Keys.{key_cmp, keyed, AreSorted}
use Rattle.pool_file_checks.proofs.Rising.{rising_at}

apart : (b : Bool) → (b ≡ true → ⊥) → b ≡ false
apart true never = absurd (never refl)
apart false never = refl

key_at : (cs : List Content) (n : ℕ) (d : Content) → n < length cs
    → get_or (keyed cs) n (content_key d, d) ≡ (content_key (get_or cs n d), get_or cs n d)
key_at cs n d l = get_or-map (λ c. (content_key c, c)) cs n d (content_key d, d) l

rises : (cs : List Content) (k n : ℕ) (d : Content) → AreSorted cs → k < n → n < length cs
    → key_cmp (content_key (get_or cs k d)) (content_key (get_or cs n d)) ≡ Less
rises cs k n d s l m =
    let size : length (keyed cs) ≡ length cs = length-map cs (λ c. (content_key c, c)) in
    let e = rising_at (keyed cs) k n (content_key d, d) s l (omega (arith, m, size)) in
    let a = ap (λ (p : List ℕ × Content). p.0) (key_at cs k d (omega (arith, l, m))) in
    let b = ap (λ (p : List ℕ × Content). p.0) (key_at cs n d m) in
    subst (λ (x : List ℕ). key_cmp (content_key (get_or cs k d)) x ≡ Less) b
    (subst (λ (x : List ℕ). key_cmp x (get_or (keyed cs) n (content_key d, d)).0 ≡ Less) a e)

differs : (cs : List Content) (k n : ℕ) (d : Content) → AreSorted cs → k < n → n < length cs
    → same_content (get_or cs n d) (get_or cs k d) ≡ false
differs cs k n d s l m = apart (same_content (get_or cs n d) (get_or cs k d)) (λ e.
    let same = (same_content-decides (get_or cs n d) (get_or cs k d)).0 e in
    let up = rises cs k n d s l m in
    let key : List ℕ = content_key (get_or cs k d) in
    let tie = tied_itself nat_list_cmp_total key in
    let up_itself : key_cmp key key ≡ Less =
    subst (λ (c : Content). key_cmp key (content_key c) ≡ Less) same up in
    let w = sym tie ∙ up_itself in cc)

place_is : (cs : List Content) (n : ℕ) (d : Content) → AreSorted cs → n < length cs
    → position_or_len (same_content (get_or cs n d)) cs ≡ n
place_is cs n d s l =
    position_or_len_is (same_content (get_or cs n d)) cs n d (omega (arith, l))
    (λ k less. differs cs k n d s less l)
    (λ _. (same_content-decides (get_or cs n d) (get_or cs n d)).1 refl)

pub number_is : (cs : List Content) (n : ℕ) (d : Content) → AreSorted cs → n < length cs
    → number_in cs (get_or cs n d) ≡ n
number_is cs n d s l = rw (place_is cs n d s l, lt-ltb n (length cs) l) refl

-- A content of the list has a number, and that is the place where it stands.
pub record IsNumbered (cs : List Content) (c : Content) : Type 0 where
  pub within : number_in cs c < length cs
  pub is : (d : Content) → get_or cs (number_in cs c) d ≡ c

pub numbered : (cs : List Content) (c : Content) → AreSorted cs → Has cs c → IsNumbered cs c
numbered cs c s h =
    let a = place_of_has cs c h in
    let number : number_in cs c ≡ a.place =
    ap (number_in cs) (sym (a.is c)) ∙ number_is cs a.place c s a.within in
    record {
      within = let w = a.within in omega (arith, number, w);
      is = λ d. ap (λ (n : ℕ). get_or cs n d) number ∙ a.is d;
    }
