-- Unknown axes, one setting after another.
use Rattle.std.proofs.Common.{◌≡◌, ◌<◌, ◌≤◌, ◌+◌, ℕ, Bool, true, false, cond, List, [], ◌∷◌, ◌++◌, length, get_or, drop, take, ℤ, refl, sym, ap, ◌∙◌, append_assoc}
use Rattle.std.proofs.lemmas.List.{append-nil, drop_all, drop_more, take_more}
use Rattle.subsetter_base.specs.declared.tag.Tag.{Tag}
use Rattle.subsetter_variation.specs.declared.locations.axes.Axis.{Axis}
use Rattle.pdf_source.specs.UnknownAxes.{is_listed, unknown_after}

module _ (axes : List Axis) (settings : List (Tag × ℤ)) (k : ℕ) (d : Tag × ℤ) (lt : k < length settings) (seen total : List Tag) (h : seen ++ unknown_after axes (take k settings) (drop k settings) ≡ total) where
  abbrev following : List Tag
  following = unknown_after axes (take (k + 1) settings) (drop (k + 1) settings)

  abbrev here : Tag
  here = (get_or settings k d).0

  abbrev first : Bool → List Tag
  first b = cond b (here ∷ []) []

  next : (b : Bool) → is_listed axes (take k settings) here ≡ b → unknown_after axes (take k settings) (drop k settings) ≡ first b ++ following
  next b listed =
      ap (unknown_after axes (take k settings)) (drop_more settings k d lt)
      ∙ ap (λ (l : List (Tag × ℤ)). first (is_listed axes (take k settings) here) ++ unknown_after axes l (drop (k + 1) settings)) (sym (take_more settings k d lt))
      ∙ ap (λ (q : Bool). first q ++ following) listed

  pub listed_next : is_listed axes (take k settings) here ≡ true → (seen ++ here ∷ []) ++ following ≡ total
  listed_next listed = append_assoc seen (here ∷ []) following ∙ ap (λ (l : List Tag). seen ++ l) (sym (next true listed)) ∙ h

  pub passed_next : is_listed axes (take k settings) here ≡ false → seen ++ following ≡ total
  passed_next passed = ap (λ (l : List Tag). seen ++ l) (sym (next false passed)) ∙ h

-- none is left
pub unknown_done : (axes : List Axis) (settings : List (Tag × ℤ)) (k : ℕ) (seen total : List Tag) → length settings ≤ k → seen ++ unknown_after axes (take k settings) (drop k settings) ≡ total → seen ≡ total
unknown_done axes settings k seen total past h = sym (append-nil seen) ∙ ap (λ (l : List Tag). seen ++ l) (sym (ap (unknown_after axes (take k settings)) (drop_all k settings past))) ∙ h
