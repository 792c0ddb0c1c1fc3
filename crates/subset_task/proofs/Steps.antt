-- One more step of a list that is made.
use Rattle.std.proofs.Common.{◌≡◌, ℕ, ℤ, suc, ◌+◌, ◌<◌, List, [], ◌∷◌, ◌++◌, Bool, cond, Option, Some, refl, length, map, take, drop, ◌-◌, get_or, drop-cons, append_assoc, sym, ap, ◌∙◌, arith}
use Rattle.std.specs.Prelude.{is_some, codes}
use Rattle.std.proofs.lemmas.List.{length-map, take-map}
use Rattle.std.specs.Borrow.{Bor}
use Rattle.std.specs.Str.{bytes_eq}
use Rattle.subsetter_base.specs.Bytes.{number}
use Rattle.subset_lines.specs.Faces.Names.{name_of}
use Rattle.subset_task.specs.Faces.Named.{name_after, before_next, names_after, line_of_names, with_more, few_names}
use Rattle.subsetter_base.specs.declared.tag.Tag.{Tag}
use Rattle.subsetter_variation.specs.Locations.Axes.{find_axis as first_axis}
use Rattle.subsetter_variation.specs.declared.locations.axes.Axis.{Axis}
use Rattle.subset_task.specs.Faces.Axes.{find_axis}
use Rattle.subset_lines.specs.declared.notes.Note.{Note}
use Rattle.subset_task.specs.Notes.{note_of, if_noted, notes_of}

pub note_later : (axes : List Axis) (at : List (Tag × ℤ)) (i : ℕ) (d : Tag × ℤ) (old new total : List Note) → i < length at → new ≡ old ++ if_noted (note_of axes (get_or at i d)) → old ++ notes_of axes (drop i at) ≡ total → new ++ notes_of axes (drop (i + 1) at) ≡ total
note_later axes at i d old new total lt n t =
    let next : suc i ≡ i + 1 = omega arith in
    let cut : drop i at ≡ get_or at i d ∷ drop (i + 1) at = drop-cons at i d lt ∙ ap (λ (k : ℕ). get_or at i d ∷ drop k at) next in
    let rest = notes_of axes (drop (i + 1) at) in
    ap (λ (v : List Note). v ++ rest) n ∙ (append_assoc old (if_noted (note_of axes (get_or at i d))) rest ∙ (ap (λ (l : List (Tag × ℤ)). old ++ notes_of axes l) (sym cut) ∙ t))

-- one more name after a text
pub name_later : (names before after : List ℕ) (records : List (Bor (List ℕ))) (i : ℕ) (d : Bor (List ℕ)) (found : Bool) (old new total : List ℕ) → i < length records → new ≡ old ++ name_after before (name_of names (number (get_or records i d).now 0 2)) → found ≡ is_some (name_of names (number (get_or records i d).now 0 2)) → after ≡ before_next before found → old ++ names_after before names (map (λ b. b.now) (drop i records)) ≡ total → new ++ names_after after names (map (λ b. b.now) (drop (i + 1) records)) ≡ total
name_later names before after records i d found old new total lt n f a t =
    let next : suc i ≡ i + 1 = omega arith in
    let cut : drop i records ≡ get_or records i d ∷ drop (i + 1) records = drop-cons records i d lt ∙ ap (λ (k : ℕ). get_or records i d ∷ drop k records) next in
    let name = name_of names (number (get_or records i d).now 0 2) in
    let rest = map (λ (b : Bor (List ℕ)). b.now) (drop (i + 1) records) in
    let before_is : after ≡ before_next before (is_some name) = a ∙ ap (λ (f : Bool). before_next before f) f in
    ap (λ (v : List ℕ). v ++ names_after after names rest) n ∙ (append_assoc old (name_after before name) (names_after after names rest) ∙ (ap (λ (b : List ℕ). old ++ (name_after before name ++ names_after b names rest)) before_is ∙ (ap (λ (l : List (Bor (List ℕ))). old ++ names_after before names (map (λ (b : Bor (List ℕ)). b.now) l)) (sym cut) ∙ t)))

-- the first names, and how many more there are
pub few_named : (names : List ℕ) (records few : List (Bor (List ℕ))) (text : List ℕ) (more : ℕ) → few ≡ take 20 records → text ≡ names_after (codes "named instances: ") names (map (λ b. b.now) few) → more ≡ length records - 20 → line_of_names (with_more text more) ≡ few_names names (map (λ b. b.now) records)
few_named names records few text more f t m =
    let listed : map (λ (b : Bor (List ℕ)). b.now) few ≡ take 20 (map (λ (b : Bor (List ℕ)). b.now) records) = ap (map (λ (b : Bor (List ℕ)). b.now)) f ∙ sym (take-map (λ (b : Bor (List ℕ)). b.now) 20 records) in
    let text_is : text ≡ names_after (codes "named instances: ") names (take 20 (map (λ (b : Bor (List ℕ)). b.now) records)) = t ∙ ap (names_after (codes "named instances: ") names) listed in
    let more_is : more ≡ length (map (λ (b : Bor (List ℕ)). b.now) records) - 20 = m ∙ ap (λ (n : ℕ). n - 20) (sym (length-map records (λ (b : Bor (List ℕ)). b.now))) in
    ap (λ (n : ℕ). line_of_names (with_more text n)) more_is ∙ ap (λ (v : List ℕ). line_of_names (with_more v (length (map (λ (b : Bor (List ℕ)). b.now) records) - 20))) text_is

-- the first axis of a tag, as both say it
pub axis_is : (axes : List Axis) (tag : Tag) → first_axis tag.0 axes ≡ find_axis axes tag
axis_is [] tag = refl
axis_is (a ∷ axes) tag = ap (λ (o : Option Axis). cond (bytes_eq a.tag.0 tag.0) (Some a) o) (axis_is axes tag)
