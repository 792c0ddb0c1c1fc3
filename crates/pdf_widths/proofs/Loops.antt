-- The glyphs of a table, one after another.
use Rattle.std.proofs.Common.{◌≡◌, ℕ, ◌+◌, ◌<◌, ◌≤◌, Bool, true, false, List, [], ◌∷◌, ◌++◌, length, drop, get_or, Option, Some, None, option_map, refl, sym, ap, ◌∙◌, append_assoc, append-nil}
use Rattle.std.specs.Prelude.{◌||◌, is_some}
use Rattle.std.specs.Option.{option_and_then}
use Rattle.std.proofs.lemmas.List.{drop_all, drop_more}
use Rattle.subsetter_cff.specs.Read.Cff.{Cff}
use Rattle.pdf_widths.specs.Tables.{change_in, charstring_in, charstrings_from, differs_from}

-- ---- whether one becomes another one
pub differs_here : (cff : Cff) (advances : List ℕ) (i d : ℕ) → i < length advances → is_some (change_in cff i (get_or advances i d)) ≡ true → differs_from cff i (drop i advances) ≡ true
differs_here cff advances i d lt e = ap (differs_from cff i) (drop_more advances i d lt) ∙ ap (λ (b : Bool). b || differs_from cff (i + 1) (drop (i + 1) advances)) e

pub differs_later : (cff : Cff) (advances : List ℕ) (i d : ℕ) → i < length advances → is_some (change_in cff i (get_or advances i d)) ≡ false → differs_from cff i (drop i advances) ≡ differs_from cff (i + 1) (drop (i + 1) advances)
differs_later cff advances i d lt e = ap (differs_from cff i) (drop_more advances i d lt) ∙ ap (λ (b : Bool). b || differs_from cff (i + 1) (drop (i + 1) advances)) e

pub differs_never : (cff : Cff) (advances : List ℕ) (i : ℕ) → length advances ≤ i → differs_from cff i (drop i advances) ≡ false
differs_never cff advances i le = ap (differs_from cff i) (drop_all i advances le)

-- ---- what they become
abbrev pub following : List (List ℕ) → Option (List (List ℕ)) → Option (List (List ℕ))
following so_far more = option_map (λ l. so_far ++ l) more

joined : (so_far : List (List ℕ)) (text : List ℕ) (more : Option (List (List ℕ))) → following so_far (option_and_then (λ l. Some (text ∷ l)) more) ≡ following (so_far ++ text ∷ []) more
joined so_far text None = refl
joined so_far text (Some l) = ap (λ (x : List (List ℕ)). Some x) (sym (append_assoc so_far (text ∷ []) l))

abbrev further : (cff : Cff) (advances : List ℕ) (i : ℕ) → Option (List ℕ) → Option (List (List ℕ))
further cff advances i first = option_and_then (λ text. option_and_then (λ l. Some (text ∷ l)) (charstrings_from cff (i + 1) (drop (i + 1) advances))) first

pub charstrings_more : (cff : Cff) (advances : List ℕ) (i d : ℕ) (so_far : List (List ℕ)) (text : List ℕ) → i < length advances → charstring_in cff i (get_or advances i d) ≡ Some text
    → following so_far (charstrings_from cff i (drop i advances)) ≡ following (so_far ++ text ∷ []) (charstrings_from cff (i + 1) (drop (i + 1) advances))
charstrings_more cff advances i d so_far text lt e =
    ap (λ (l : List ℕ). following so_far (charstrings_from cff i l)) (drop_more advances i d lt)
    ∙ ap (λ (o : Option (List ℕ)). following so_far (further cff advances i o)) e
    ∙ joined so_far text (charstrings_from cff (i + 1) (drop (i + 1) advances))

pub charstrings_stop : (cff : Cff) (advances : List ℕ) (i d : ℕ) (so_far : List (List ℕ)) → i < length advances → charstring_in cff i (get_or advances i d) ≡ None → following so_far (charstrings_from cff i (drop i advances)) ≡ None
charstrings_stop cff advances i d so_far lt e =
    ap (λ (l : List ℕ). following so_far (charstrings_from cff i l)) (drop_more advances i d lt) ∙ ap (λ (o : Option (List ℕ)). following so_far (further cff advances i o)) e

pub charstrings_done : (cff : Cff) (advances : List ℕ) (i : ℕ) (so_far : List (List ℕ)) → length advances ≤ i → following so_far (charstrings_from cff i (drop i advances)) ≡ Some so_far
charstrings_done cff advances i so_far le =
    ap (λ (l : List ℕ). following so_far (charstrings_from cff i l)) (drop_all i advances le) ∙ ap (λ (x : List (List ℕ)). Some x) (append-nil so_far)
