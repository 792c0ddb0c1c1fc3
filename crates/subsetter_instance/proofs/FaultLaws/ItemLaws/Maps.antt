-- A map of indexes is refused exactly where it has a fault.
use Rattle.std.proofs.Common.{◌≡◌, ◌≢◌, ℕ, ◌+◌, ◌*◌, ◌≤◌, Bool, true, false, cond, List, length, Option, Some, None, refl, sym, ap, ◌∙◌, ◌⊎◌, inl, inr, arith}
use Rattle.std.specs.Prelude.{◌/◌, ◌%◌, ◌==◌, if◌then◌else◌}
use Rattle.std.specs.Option.{option_map}
use Rattle.std.proofs.lemmas.Bool.{eqb-false, eqb-true}
use Rattle.subsetter_base.specs.Bytes.{number}
use Rattle.subsetter_base.proofs.ByteLemmas.{number-fits, number-short}
use Rattle.subsetter_base.proofs.Options.{bind_some, just_is, map_none, map_some}
use Rattle.subsetter_base.specs.Options.{◌>>=◌}
use Rattle.subsetter_variation.specs.Items.Advances.{entry_index, map_head, mapped_index, split_index}
use Rattle.subsetter_instance.specs.Faults.ItemFault.{HasMapFault, cut_map_head, other_map_format, cut_map_count, cut_long_map_count, no_entries, cut_entry}
use Rattle.subsetter_instance.proofs.FaultLaws.Parts.{bind_none, not_long, unless_none, unless_some}

-- ---- maps of indexes

module _ (map : List ℕ) where
  abbrev head_of : ℕ → Option (ℕ × ℕ)
  head_of format = if format == 0 then option_map (λ n. (n, 4)) (number map 2 2) else if format == 1 then option_map (λ n. (n, 6)) (number map 2 4) else None

  abbrev short_head : Option (ℕ × ℕ)
  short_head = option_map (λ n. (n, 4)) (number map 2 2)

  abbrev long_head : Option (ℕ × ℕ)
  long_head = option_map (λ n. (n, 6)) (number map 2 4)

  head_refused : (g : ℕ) → map_head map ≡ None → HasMapFault map g
  head_refused g h =
      elim (bind_none (number map 0 1) head_of h) [
        | inl k ↦ cut_map_head (let less = number-short map 0 1 k in omega arith)
        | inr a ↦ by a.0 a.1 (a.0 == 0) (a.0 == 1) refl refl a.2
      ]
    where
      by : (format : ℕ) → number map 0 1 ≡ Some format → (x y : Bool) → (format == 0) ≡ x → (format == 1) ≡ y → cond x short_head (cond y long_head None) ≡ None → HasMapFault map g
      by format is true y s t k = cut_map_count (is ∙ ap (λ (n : ℕ). Some n) (eqb-true format 0 s)) (number-short map 2 2 (map_none (λ n. (n, 4)) (number map 2 2) k))
      by format is false true s t k = cut_long_map_count (is ∙ ap (λ (n : ℕ). Some n) (eqb-true format 1 t)) (number-short map 2 4 (map_none (λ n. (n, 6)) (number map 2 4) k))
      by format is false false s t k = other_map_format format is (let a = eqb-false format 0 s in let b = eqb-false format 1 t in omega arith)

  record HeadSteps (head : ℕ × ℕ) : Type 0 where
    format : ℕ
    format_is : number map 0 1 ≡ Some format
    one_of_two : ((format ≡ 0) × (4 ≤ length map)) ⊎ ((format ≡ 1) × (6 ≤ length map))

  head_steps : (head : ℕ × ℕ) → map_head map ≡ Some head → HeadSteps head
  head_steps head h =
      let a = bind_some (number map 0 1) head_of head h in
      record { format = a.0; format_is = a.1; one_of_two = by a.0 (a.0 == 0) (a.0 == 1) refl refl a.2 }
    where
      by : (format : ℕ) → (x y : Bool) → (format == 0) ≡ x → (format == 1) ≡ y → cond x short_head (cond y long_head None) ≡ Some head → ((format ≡ 0) × (4 ≤ length map)) ⊎ ((format ≡ 1) × (6 ≤ length map))
      by format true y s t k = let m = map_some (λ n. (n, 4)) (number map 2 2) head k in inl (eqb-true format 0 s, number-fits map 2 2 m.0 m.1)
      by format false true s t k = let m = map_some (λ n. (n, 6)) (number map 2 4) head k in inr (eqb-true format 1 t, number-fits map 2 4 m.0 m.1)
      by format false false s t k = absurd cc

  module _ (g : ℕ) where
    abbrev size_by : ℕ → ℕ
    size_by form = form / 16 % 4 + 1

    abbrev entry_in : ℕ × ℕ → ℕ → Option ℕ
    entry_in head form = if head.0 == 0 then None else number map (head.1 + entry_index head.0 g * size_by form) (size_by form)

    abbrev last_index : ℕ → ℕ → Option (ℕ × ℕ)
    last_index form entry = Some (split_index (form % 16 + 1) entry)

    abbrev after_form : ℕ × ℕ → ℕ → Option (ℕ × ℕ)
    after_form head form = entry_in head form >>= last_index form

    abbrev after_head : ℕ × ℕ → Option (ℕ × ℕ)
    after_head head = number map 1 1 >>= after_form head

    map_in_turn : mapped_index map g ≡ (map_head map >>= after_head)
    unfolding mapped_index
    map_in_turn = refl

    pub map_refused : mapped_index map g ≡ None → HasMapFault map g
    map_refused h =
        elim (bind_none (map_head map) after_head (sym map_in_turn ∙ h)) [
          | inl k ↦ head_refused g k
          | inr a ↦ elim (bind_none (number map 1 1) (after_form a.0) a.2) [
            | inl k ↦ cut_map_head (number-short map 1 1 k)
            | inr b ↦ elim (bind_none (entry_in a.0 b.0) (last_index b.0) b.2) [
              | inl k ↦ elim (unless_none (a.0.0 == 0) (number map (a.0.1 + entry_index a.0.0 g * size_by b.0) (size_by b.0)) k) [
                | inl l ↦ no_entries a.0.1 (a.1 ∙ ap (λ (n : ℕ). Some (n, a.0.1)) (eqb-true a.0.0 0 l))
                | inr l ↦ cut_entry a.0.0 a.0.1 b.0 a.1 b.1 (number-short map (a.0.1 + entry_index a.0.0 g * size_by b.0) (size_by b.0) l.1)
              ]
              | inr k ↦ absurd cc
            ]
          ]
        ]

    pub map_clean : (index : ℕ × ℕ) → mapped_index map g ≡ Some index → HasMapFault map g → ⊥
    map_clean index h f =
        let a = bind_some (map_head map) after_head index (sym map_in_turn ∙ h) in
        let b = bind_some (number map 1 1) (after_form a.0) index a.2 in
        let c = bind_some (entry_in a.0 b.0) (last_index b.0) index b.2 in
        let d = unless_some (a.0.0 == 0) (number map (a.0.1 + entry_index a.0.0 g * size_by b.0) (size_by b.0)) c.0 c.1 in
        by a.0 a.1 (head_steps a.0 a.1) b.0 b.1 (eqb-false a.0.0 0 d.0) c.0 d.1 f
      where
        by : (head : ℕ × ℕ) → map_head map ≡ Some head → HeadSteps head → (form : ℕ) → number map 1 1 ≡ Some form → head.0 ≢ 0 → (entry : ℕ) → number map (head.1 + entry_index head.0 g * size_by form) (size_by form) ≡ Some entry → HasMapFault map g → ⊥
        by head is t form form_is some entry entry_is (cut_map_head less) = not_long map 1 1 form less form_is
        by head is t form form_is some entry entry_is (other_map_format format format_is more) =
            let x : format ≡ t.format = just_is format t.format (sym format_is ∙ t.format_is) in
            elim t.one_of_two [ inl k ↦ let z = k.0 in omega arith | inr k ↦ let z = k.0 in omega arith ]
        by head is t form form_is some entry entry_is (cut_map_count format_is less) =
            let x : t.format ≡ 0 = just_is t.format 0 (sym t.format_is ∙ format_is) in
            elim t.one_of_two [ inl k ↦ let z = k.1 in omega arith | inr k ↦ let z = k.0 in omega arith ]
        by head is t form form_is some entry entry_is (cut_long_map_count format_is less) =
            let x : t.format ≡ 1 = just_is t.format 1 (sym t.format_is ∙ format_is) in
            elim t.one_of_two [ inl k ↦ let z = k.0 in omega arith | inr k ↦ let z = k.1 in omega arith ]
        by head is t form form_is some entry entry_is (no_entries at none) = some (ap (λ (p : ℕ × ℕ). p.0) (just_is head (0, at) (sym is ∙ none)))
        by head is t form form_is some entry entry_is (cut_entry count at other there other_is less) =
            let x : head ≡ (count, at) = just_is head (count, at) (sym is ∙ there) in
            let y : form ≡ other = just_is form other (sym form_is ∙ other_is) in
            let at_place : number map (at + entry_index count g * size_by other) (size_by other) ≡ Some entry =
            ap (λ (p : ℕ × ℕ). number map (p.1 + entry_index p.0 g * size_by other) (size_by other)) (sym x) ∙ ap (λ (n : ℕ). number map (head.1 + entry_index head.0 g * size_by n) (size_by n)) (sym y) ∙ entry_is in
            not_long map (at + entry_index count g * size_by other) (size_by other) entry less at_place
