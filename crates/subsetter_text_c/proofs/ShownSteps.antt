-- A run that is shown, for C.
use Rattle.std.proofs.Common.{◌≡◌, ℕ, ◌<◌, Bool, ◌&&◌, List, ◌++◌, length, map, drop, true, false, refl, sym, ap, ◌∙◌, subst, inl, inr, Result, Ok, Err}
use Rattle.std.specs.Prelude.{◌⊎◌, IfOk, IfErr}
use Rattle.std.proofs.lemmas.List.{map-append}
use Rattle.pdf_runs.specs.declared.codes.Pair.{Pair}
use Rattle.pdf_runs.specs.declared.error.RunError.{RunError}
use Rattle.pdf_runs.specs.declared.error.RunError.TheVariants.{InvalidText, Overfull, OutOfMemory}
use Rattle.pdf_runs.specs.declared.items.Direction.{Direction}
use Rattle.pdf_runs.specs.declared.items.Item.{Item}
use Rattle.pdf_runs.specs.declared.pieces.Piece.{Piece}
use Rattle.pdf_runs.specs.Codes.{KeepsCodes, with_pairs}
use Rattle.pdf_runs.specs.Pieces.{pieces_of_run}
use Rattle.pdf_runs.specs.declared.shaped.Shaped.{Shaped}
use Rattle.pdf_runs.specs.declared.shaped.Unit.{Unit as Counted}
use Rattle.pdf_runs.specs.Shaped.{Labelled, is_shaped, items_of, seen}
use Rattle.pdf_operators.specs.declared.order.Order.{Order}
use Rattle.pdf_operators.specs.declared.places.Font.{Font}
use Rattle.pdf_figures.specs.declared.choice.Choice.{Choice}
use Rattle.pdf_figures.specs.declared.ink.OwnInk.{OwnInk}
use Rattle.pdf_figures.specs.Figures.{Ink}
use Rattle.pdf_figures.specs.View.{Extends, inks_of, own_seen}
use Rattle.pdf_own_runs.specs.Shown.{IsShownWithOwn, IsUnshownWithOwn}
use Rattle.subsetter_text_c.specs.Own.{are_own, inks_in, owns_of, parts_of}
use Rattle.subsetter_text_c.specs.Pairs.{pairs_in, piece_in, piece_of}
use Rattle.subsetter_text_c.specs.declared.own.TextOwn.{TextOwn}
use Rattle.subsetter_text_c.specs.declared.shown.ShownRun.{ShownRun}
use Rattle.subsetter_pdf_c.specs.Entries.{are_scalars}
use Rattle.subsetter_text_c.specs.declared.items.TextItem.{TextItem}
use Rattle.subsetter_text_c.specs.declared.units.Units.{Units}
use Rattle.subsetter_text_c.specs.Items.{are_items}
use Rattle.subsetter_text_c.specs.Units.{AreCharactersOf, unit_of}
use Rattle.subsetter_text_c.specs.Shown.{AreUnshown, IsOneShown, IsRunRefused, IsRunShown, IsTextUnshown, KeepsOwn, Lists, are_one, full, lists_shown, memory, no_own, none, none_shown, refused, unshown, without_memory}
use Rattle.subsetter_text_c.proofs.OwnLaws.{own_read_back}
use Rattle.subsetter_text_c.proofs.PairLaws.{read_back}

own_kept : (old : Lists) (was own : List OwnInk) → inks_of was ≡ inks_in old.own old.parts → Extends was own → KeepsOwn (inks_in old.own old.parts) (inks_of own)
own_kept old was own was_own extends = record {
  further = inks_of extends.further;
  are = ap inks_of extends.are ∙ map-append own_seen was extends.further ∙ ap (λ (l : List Ink). l ++ inks_of extends.further) was_own;
}

pub run_shown : (f : Font) (c : Choice) (d : Direction) (o : Order) (size : ℕ) (old after : Lists) (pairs new : List Pair) (was own : List OwnInk) (run : List Item) (bytes : List ℕ) → pairs ≡ pairs_in old.pairs → inks_of was ≡ inks_in old.own old.parts → IsShownWithOwn f c d o size pairs new own run bytes
    → KeepsCodes pairs new → Extends was own → map piece_in after.pairs ≡ map piece_of (drop 1 new) → after.parts ≡ parts_of own → after.own ≡ owns_of 0 own → IsRunShown f c d o size old after run bytes
run_shown f c d o size old after pairs new was own run bytes was_pairs was_own is stay extends e parts_are own_are =
    let pieces : List Piece = pieces_of_run d is.shown.font.inked.now is.items in
    let back : pairs_in after.pairs ≡ new = read_back old.pairs after.pairs pieces new (is.shown.pairs ∙ ap (λ (l : List Pair). with_pairs l pieces) was_pairs) e in
    let again : inks_of own ≡ inks_in after.own after.parts = sym (ap (λ (l : List TextOwn). inks_in l after.parts) own_are ∙ ap (inks_in (owns_of 0 own)) parts_are ∙ own_read_back own) in
    record {
      own = own;
      own_are = again;
      is = subst (λ (l : List Pair). IsShownWithOwn f c d o size (pairs_in old.pairs) l own run bytes) (sym back) (subst (λ (l : List Pair). IsShownWithOwn f c d o size l new own run bytes) was_pairs is);
      stay = subst (λ (l : List Pair). KeepsCodes (pairs_in old.pairs) l) (sym back) (subst (λ (l : List Pair). KeepsCodes l new) was_pairs stay);
      own_stay = subst (λ (l : List Ink). KeepsOwn (inks_in old.own old.parts) l) again (own_kept old was own was_own extends);
    }

pub run_refused : (f : Font) (c : Choice) (d : Direction) (o : Order) (old : Lists) (pairs new : List Pair) (was own : List OwnInk) (run : List Item) (e : RunError) → pairs ≡ pairs_in old.pairs → inks_of was ≡ inks_in old.own old.parts → Extends was own → IsUnshownWithOwn f c d o pairs new own run e → IsRunRefused f c d o old run e
run_refused f c d o old pairs new was own run e was_pairs was_own extends why = none_shown (record {
  pairs = new;
  own = own;
  own_stay = own_kept old was own was_own extends;
  why = subst (λ (l : List Pair). IsUnshownWithOwn f c d o l new own run e) was_pairs why;
})

pub too_many : (f : Font) (c : Choice) (d : Direction) (o : Order) (old : Lists) (run : List Item) (e : RunError) → (e ≡ OutOfMemory) ⊎ ((e ≡ Overfull) × (65535 < length (pairs_in old.pairs))) → IsRunRefused f c d o old run e
too_many f c d o old run e (inl p) = without_memory p
too_many f c d o old run e (inr why) = full why.0 why.1

pub not_own : (f : Font) (c : Choice) (d : Direction) (o : Order) (old : Lists) (run : List Item) (e : RunError) → (e ≡ OutOfMemory) ⊎ ((e ≡ InvalidText) × (are_own old.own old.parts ≡ false)) → IsRunRefused f c d o old run e
not_own f c d o old run e (inl p) = without_memory p
not_own f c d o old run e (inr why) = no_own why.0 why.1

pub no_memory : (f : Font) (c : Choice) (d : Direction) (o : Order) (old : Lists) (run : List Item) (e : RunError) → e ≡ OutOfMemory → IsRunRefused f c d o old run e
no_memory f c d o old run e p = without_memory p

-- ---- items

pub both : (a b : Bool) → a ≡ true → b ≡ true → (a && b) ≡ true
both a b p q = rw (p, q) refl

module _ (f : Font) (c : Choice) (d : Direction) (o : Order) (ps : Lists) (is_one : Bool) (labels : List Labelled) (run given : List Item) (items : map seen given ≡ labels) (same : run ≡ given) where
  pub one_shown : (size : ℕ) (r : Result ShownRun RunError) → is_one ≡ true → IfOk r (λ s. IsRunShown f c d o size ps (lists_shown s) run s.operators.items) → IfOk r (λ s. IsOneShown f c d o size ps (lists_shown s) is_one labels s.operators.items)
  one_shown size (Ok s) one h = record { one = one; run = run; items = ap (map seen) same ∙ items; is = h }
  one_shown size (Err e) one h = tt

  pub one_unshown : (r : Result ShownRun RunError) → IfErr r (IsRunRefused f c d o ps run) → IfErr r (AreUnshown f c d o ps is_one labels)
  one_unshown (Ok s) h = tt
  one_unshown (Err e) h = refused run (ap (map seen) same ∙ items) h

either : (f : Font) (c : Choice) (d : Direction) (o : Order) (ps : Lists) (is_one b : Bool) (labels : List Labelled) (e : RunError) → (b ≡ false → is_one ≡ false) → (e ≡ OutOfMemory) ⊎ ((e ≡ InvalidText) × (b ≡ false)) → AreUnshown f c d o ps is_one labels e
either f c d o ps is_one b labels e follows (inl out) = memory out
either f c d o ps is_one b labels e follows (inr why) = none why.0 (follows why.1)

not_first : (a b : Bool) → a ≡ false → (a && b) ≡ false
not_first a b p = rw p refl

not_second : (a b : Bool) → b ≡ false → (a && b) ≡ false
not_second true b p = p
not_second false b p = refl

pub no_scalars : (f : Font) (c : Choice) (d : Direction) (o : Order) (ps : Lists) (text : List ℕ) (items : List TextItem) (labels : List Labelled) (e : RunError) → (e ≡ OutOfMemory) ⊎ ((e ≡ InvalidText) × (are_scalars text ≡ false)) → AreUnshown f c d o ps (are_one text items) labels e
no_scalars f c d o ps text items labels e why = either f c d o ps (are_one text items) (are_scalars text) labels e (not_first (are_scalars text) (are_items (length text) items)) why

pub no_items : (f : Font) (c : Choice) (d : Direction) (o : Order) (ps : Lists) (text cs : List ℕ) (items : List TextItem) (labels : List Labelled) (e : RunError) → cs ≡ text → (e ≡ OutOfMemory) ⊎ ((e ≡ InvalidText) × (are_items (length cs) items ≡ false)) → AreUnshown f c d o ps (are_one text items) labels e
no_items f c d o ps text cs items labels e same why =
    either f c d o ps (are_one text items) (are_items (length cs) items) labels e
    (λ p. not_second (are_scalars text) (are_items (length text) items) (sym (ap (λ (l : List ℕ). are_items (length l) items) same) ∙ p)) why

pub not_one : (f : Font) (c : Choice) (d : Direction) (o : Order) (ps : Lists) (is_one : Bool) (labels : List Labelled) (e : RunError) → (e ≡ OutOfMemory) ⊎ ((e ≡ InvalidText) × (is_one ≡ false)) → AreUnshown f c d o ps is_one labels e
not_one f c d o ps is_one labels e why = either f c d o ps is_one is_one labels e (λ p. p) why

-- ---- glyphs with cluster numbers

pub text_unshown : (f : Font) (c : Choice) (d : Direction) (o : Order) (ps : Lists) (units : Units) (glyphs : List Shaped) (cs given : List ℕ) (u : Counted) (r : Result ShownRun RunError) → AreCharactersOf units given → cs ≡ given → u ≡ unit_of units → IfErr r (AreUnshown f c d o ps (is_shaped d u cs glyphs) (items_of d u cs glyphs)) → IfErr r (IsTextUnshown f c d o ps units glyphs)
text_unshown f c d o ps units glyphs cs given u (Ok s) text same is h = tt
text_unshown f c d o ps units glyphs cs given u (Err e) text same is h =
    unshown given text
    (subst (λ (v : Counted). AreUnshown f c d o ps (is_shaped d v given glyphs) (items_of d v given glyphs) e) is
    (subst (λ (l : List ℕ). AreUnshown f c d o ps (is_shaped d u l glyphs) (items_of d u l glyphs) e) same h))
