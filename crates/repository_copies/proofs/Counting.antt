-- Tags that have a flag, one object more at a time.
use Rattle.std.proofs.Common.{◌≡◌, ℕ, ◌+◌, ◌<◌, Bool, true, false, ◌&&◌, List, [], ◌∷◌, ◌++◌, length, get_or, map, take, refl, sym, ap, ◌∙◌, append-nil}
use Rattle.std.specs.Prelude.{cond}
use Rattle.std.specs.List.{filter}
use Rattle.std.proofs.lemmas.List.{length_push}
use Rattle.std.proofs.lemmas.List.Elements.{filter-append}
use Rattle.git_model.specs.References.{object_at}
use Rattle.git_model.specs.Repository.{Object}
use Rattle.export_text.specs.Reached.{is_tag}
use Rattle.export_text.proofs.Flagged.{kept-none, kept-one}

module _ (os : List Object) (set : Object → Bool) (flags : List Bool) (i : ℕ)
    (are : flags ≡ map set os) (lt : i < length flags) where
  abbrev tags : ℕ → List Object
  tags n = filter is_tag (filter set (take n os))

  next : (b : Bool) → get_or flags i false ≡ b
      → tags (i + 1) ≡ tags i ++ cond (b && is_tag (object_at i os)) (object_at i os ∷ []) []
  next true on =
      ap (filter is_tag) (kept-one os set flags i are lt on)
      ∙ filter-append is_tag (filter set (take i os)) (object_at i os ∷ [])
  next false off = ap (filter is_tag) (kept-none os set flags i are lt off) ∙ sym (append-nil (tags i))

  module _ (n : ℕ) (before : n ≡ length (tags i)) (here : Bool)
      (told : here ≡ (get_or flags i false && is_tag (object_at i os))) where
    pub counted-one : here ≡ true → n + 1 ≡ length (tags (i + 1))
    counted-one yea =
        ap (λ (k : ℕ). k + 1) before
        ∙ sym (ap length (next (get_or flags i false) refl
        ∙ ap (λ b. tags i ++ cond b (object_at i os ∷ []) []) (sym told ∙ yea))
        ∙ length_push (tags i) (object_at i os))

    pub counted-none : here ≡ false → n ≡ length (tags (i + 1))
    counted-none nay =
        before
        ∙ sym (ap length (next (get_or flags i false) refl
        ∙ ap (λ b. tags i ++ cond b (object_at i os ∷ []) []) (sym told ∙ nay) ∙ append-nil (tags i)))
