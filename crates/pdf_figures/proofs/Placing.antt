-- Figures of a cluster, of which one is cut.
use Rattle.std.proofs.Common.{◌≡◌, ℕ, zero, suc, ◌+◌, ◌-◌, ◌<◌, ◌≤◌, Bool, true, false, ◌&&◌, List, [], ◌∷◌, ◌++◌, append-nil, length, get_or, map, take, drop, refl, sym, ap, ◌∙◌, append_assoc, arith, add-one, ℤ, pos, negsuc}
use Rattle.std.specs.Prelude.{unsigned_abs}
use Rattle.std.proofs.lemmas.List.{take_all}
use Rattle.pdf_runs.specs.declared.items.Item.{Item}
use Rattle.pdf_runs.specs.declared.items.Direction.{Direction}
use Rattle.pdf_runs.specs.declared.items.Direction.TheVariants.{LeftToRight, RightToLeft, TopToBottom}
use Rattle.pdf_runs.specs.Items.{in_reading, text_in, text_of, visual}
use Rattle.pdf_figures.specs.declared.choice.Choice.{Choice}
use Rattle.pdf_figures.specs.declared.ink.OwnInk.{OwnInk}
use Rattle.pdf_figures.specs.Figures.{Figured, Ink, at_place, cut_one, divided, first_share, glyph, is_advance, is_whole, own, parts_of, title_of, whole, x_total}
use Rattle.pdf_figures.specs.View.{own_seen}

at_suc : (g : Figured → List Figured) (f : Item → Figured) (is : List Item) (k : ℕ) (e : Item) → k < length is → at_place k g (map f is) ≡ map f (take k is) ++ (g (f (get_or is k e)) ++ map f (drop (suc k) is))
at_suc g f [] k e l = absurd (omega arith)
at_suc g f (i ∷ is) zero e l = refl
at_suc g f (i ∷ is) (suc k) e l = ap (λ (fs : List Figured). f i ∷ fs) (at_suc g f is k e (omega arith))

pub at_split : (g : Figured → List Figured) (f : Item → Figured) (is : List Item) (k : ℕ) (e : Item) → k < length is → at_place k g (map f is) ≡ map f (take k is) ++ (g (f (get_or is k e)) ++ map f (drop (k + 1) is))
at_split g f is k e l = rw add-one (at_suc g f is k e l)

pub at_cut : (c : Choice) (xs ys : List ℕ) (f : Item → Figured) (is : List Item) (j k : ℕ) (e : Item) (w : Figured) → k < length is → k ≡ j → xs ≡ ys → w ≡ f (get_or is k e)
    → at_place j (cut_one c ys) (map f is) ≡ map f (take k is) ++ (cut_one c xs w ++ map f (drop (k + 1) is))
at_cut c xs ys f is j k e w l place text same =
    ap (λ (n : ℕ). at_place n (cut_one c ys) (map f is)) (sym place)
    ∙ at_split (cut_one c ys) f is k e l
    ∙ ap (λ (t : List ℕ). map f (take k is) ++ (cut_one c t (f (get_or is k e)) ++ map f (drop (k + 1) is))) (sym text)
    ∙ ap (λ (g : Figured). map f (take k is) ++ (cut_one c xs g ++ map f (drop (k + 1) is))) (sym same)

pub three_put : {A : Type 0} (old a b c xs ys zs all : List A) → a ≡ old ++ xs → b ≡ a ++ ys → c ≡ b ++ zs → all ≡ xs ++ (ys ++ zs) → c ≡ old ++ all
three_put old a b c xs ys zs all ea eb ec e =
    ec
    ∙ ap (λ l. l ++ zs) eb
    ∙ ap (λ l. (l ++ ys) ++ zs) ea
    ∙ append_assoc (old ++ xs) ys zs
    ∙ append_assoc old xs (ys ++ zs)
    ∙ sym (ap (λ l. old ++ l) e)

pub advance_is : (z : ℤ) → is_advance z ≡ true → pos (unsigned_abs z) ≡ z
advance_is (pos n) h = refl
advance_is (negsuc n) h = absurd cc

-- ---- a cluster in one

both_true : (a b : Bool) → (a && b) ≡ true → (a ≡ true) × (b ≡ true)
both_true true true e = (refl, refl)
both_true true false e = absurd cc
both_true false b e = absurd cc

abbrev advance_in : Ink → ℕ
advance_in (glyph g) = 0
advance_in (own ps a) = a

pub whole_is : (c : Choice) (is : List Item) (o : OwnInk) → is_whole c is ≡ true → own_seen o ≡ own (parts_of c is) (unsigned_abs (x_total is))
    → record { ink = own_seen o; text = title_of is; x_advance = pos o.advance; y_advance = pos 0; x_offset = pos 0; y_offset = pos 0 } ≡ whole c is
whole_is c is o h same =
    let fits : is_advance (x_total is) ≡ true = (both_true _ _ (both_true _ _ h).0).1 in
    let on : pos o.advance ≡ x_total is = ap (λ (i : Ink). pos (advance_in i)) same ∙ advance_is (x_total is) fits in
    ap (λ (i : Ink). record { ink = i; text = title_of is; x_advance = pos o.advance; y_advance = pos 0; x_offset = pos 0; y_offset = pos 0 }) same
    ∙ ap (λ (z : ℤ). record { ink = own (parts_of c is) (unsigned_abs (x_total is)); text = title_of is; x_advance = z; y_advance = pos 0; x_offset = pos 0; y_offset = pos 0 }) on

pub one_divided : (d : Direction) (c : Choice) (is : List Item) (w : Figured) → divided d c is (w ∷ []) ≡ cut_one c (first_share d 1 is) w
one_divided LeftToRight c is w = append-nil (cut_one c (first_share LeftToRight 1 is) w)
one_divided RightToLeft c is w = append-nil (cut_one c (first_share RightToLeft 1 is) w)
one_divided TopToBottom c is w = append-nil (cut_one c (first_share TopToBottom 1 is) w)

-- the figure of a cluster of one glyph has all its characters
pub alone_put : (d : Direction) (c : Choice) (is : List Item) (e : Item) (f : Item → Figured) (old new : List Figured) → length is ≡ 1 → new ≡ old ++ cut_one c (visual d (text_of is)) (f (get_or is 0 e))
    → new ≡ old ++ at_place (in_reading d (length is) 0) (cut_one c (first_share d (length is) is)) (map f is)
alone_put d c [] e f old new l h = absurd (omega arith)
alone_put d c (i ∷ []) e f old new l h =
    let t : List ℕ = text_in i.text in
    h
    ∙ ap (λ (s : List ℕ). old ++ cut_one c (visual d s) (f i)) (sym (take_all (1 + (length t - 1)) t (omega arith)))
    ∙ ap (λ (fs : List Figured). old ++ fs) (sym (one_divided d c (i ∷ []) (f i)))
alone_put d c (i ∷ j ∷ is) e f old new l h = absurd (omega arith)
