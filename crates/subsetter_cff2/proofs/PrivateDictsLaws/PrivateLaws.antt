-- The laws of private dicts at a place.
use Rattle.std.proofs.Common.{◌≡◌, ℕ, zero, suc, Bool, true, false, cond, List, [], ◌∷◌, ◌++◌, take, Option, Some, None, Ok, Err, Result, refl, ap, sym, ◌∙◌, arith, ℤ, pos, ◌+ℤ◌, ◌-ℤ◌}
use Rattle.std.specs.Option.{ok_or, option_map, option_and_then}
use Rattle.std.specs.List.{list_any, AllByRecursion}
use Rattle.std.proofs.lemmas.Int.{ints}
use Rattle.subsetter_base.specs.declared.error.Error.{Error}
use Rattle.subsetter_base.specs.declared.error.Error.TheVariants.{MalformedFont, OverflowError}
use Rattle.subsetter_cffdata.specs.Dicts.Dict.{Entry, dict, entry_bytes}
use Rattle.subsetter_cffdata.specs.Numerals.Numbers.{Number, is_too_long}
use Rattle.subsetter_cff.specs.Write.Laying.Layout.{rewritten_entries}
use Rattle.subsetter_cffdata.specs.Dicts.Plain.{plain_entry}
use Rattle.subsetter_cff.specs.Write.NewDicts.Rewritten.{written_entry}
use Rattle.subsetter_cff.proofs.ReadLaws.Results.{bind_ok, same_Ok, some_of}
use Rattle.subsetter_variation.specs.Nearest.{nearest}
use Rattle.subsetter_blend.specs.Runs.Number.{whole}
use Rattle.subsetter_cff2.specs.PrivateDicts.Blend.{edges_from}
use Rattle.subsetter_cff2.specs.PrivateDicts.EntryLists.{entry_lists}
use Rattle.subsetter_cff2.specs.PrivateDicts.PrivateAt.{Registers, Step, Placed, pushed, step_by, step, placed, at_start, with_entry, private_at_location}
use Rattle.subsetter_cff2.specs.PrivateDicts.PrivateKinds.{kind_by}
use Rattle.subsetter_cff2.specs.PrivateDicts.PrivateText.{TextStep, PlacedText, entry_text, step_text_of, operator_text, step_text, following, placed_text, private_text, placed_as, TextIsPlaced, EdgesAreRounded}
use Rattle.subsetter_blend.specs.Writing.Split.{sum_of}
use Rattle.subsetter_cff2.specs.Variation.{Variation}

-- ---- edges
whole_of_none : whole (pos 0) ≡ pos 0
unfolding whole nearest
whole_of_none = refl

one_on : (a b c d : ℤ) → c ≡ d -ℤ b → (b -ℤ a) +ℤ c ≡ d -ℤ a
one_on a b c d e = omega (arith, ints)

regrouped : (a b c : ℤ) → (a +ℤ b) +ℤ c ≡ a +ℤ (b +ℤ c)
regrouped a b c = omega (arith, ints)

nothing_more : (a b : ℤ) → a ≡ b → pos 0 ≡ b -ℤ a
nothing_more a b e = omega (arith, ints)

sum_none : (a : ℤ) → a +ℤ pos 0 ≡ a
sum_none a = omega (arith, ints)

-- from an edge on
edges_on : (from : ℤ) (vs : List ℤ) (k : ℕ) → sum_of (take k (edges_from from vs)) ≡ whole (from +ℤ sum_of (take k vs)) -ℤ whole from
edges_on from vs zero = nothing_more (whole from) (whole (from +ℤ pos 0)) (ap whole (sym (sum_none from)))
edges_on from [] (suc k) = nothing_more (whole from) (whole (from +ℤ pos 0)) (ap whole (sym (sum_none from)))
edges_on from (v ∷ vs) (suc k) =
    one_on (whole from) (whole (from +ℤ v)) _ (whole (from +ℤ (v +ℤ sum_of (take k vs))))
    (edges_on (from +ℤ v) vs k ∙ ap (λ z. whole z -ℤ whole (from +ℤ v)) (regrouped from v (sum_of (take k vs))))

from_none : (a b c : ℤ) → a ≡ b -ℤ c → c ≡ pos 0 → a ≡ b
from_none a b c e h = omega (arith, ints)

none_first : (a : ℤ) → pos 0 +ℤ a ≡ a
none_first a = omega (arith, ints)

pub edges_are_rounded : EdgesAreRounded
edges_are_rounded vs k = from_none _ (whole (pos 0 +ℤ sum_of (take k vs))) (whole (pos 0)) (edges_on (pos 0) vs k) whole_of_none ∙ ap whole (none_first (sum_of (take k vs)))

-- ---- texts
pub record StepFound (v : Option Variation) (r : Registers) (operator : List ℕ) (xs : List Number) (s : TextStep) : Type 0 where
  pub made : Step
  pub is : step v r operator xs ≡ Some made
  pub next : made.next ≡ s.next
  pub text : entry_text made.said ≡ Ok s.text

same_made : (made : Step) (s : TextStep) (text : List ℕ) → ◌≡◌ {A = Result TextStep Error} (Ok (record { text = text; next = made.next })) (Ok s) → made.next ≡ s.next
same_made made s text e = ap (λ (x : TextStep). x.next) (same_Ok _ _ e)

same_text : (made : Step) (s : TextStep) (text : List ℕ) → ◌≡◌ {A = Result TextStep Error} (Ok (record { text = text; next = made.next })) (Ok s) → text ≡ s.text
same_text made s text e = ap (λ (x : TextStep). x.text) (same_Ok _ _ e)

step_found : (v : Option Variation) (r : Registers) (operator : List ℕ) (xs : List Number) (s : TextStep) → step_text v r operator xs ≡ Ok s → StepFound v r operator xs s
unfolding step_text step
step_found v r operator xs s h =
    let here = bind_ok (ok_or (pushed r xs) MalformedFont) (λ x. operator_text v x operator) s h in
    let acted = bind_ok (ok_or (step_by (kind_by operator) v operator here.0) MalformedFont) step_text_of s here.1.1 in
    let said = bind_ok (entry_text acted.0.said) (λ text. Ok (record { text = text; next = acted.0.next })) s acted.1.1 in
    record {
      made = acted.0;
      is = ap (option_and_then (step_by (kind_by operator) v operator)) (some_of (pushed r xs) MalformedFont here.0 here.1.0) ∙ some_of (step_by (kind_by operator) v operator here.0) MalformedFont acted.0 acted.1.0;
      next = same_made acted.0 s said.0 said.1.1;
      text = said.1.0 ∙ ap (λ (l : List ℕ). Ok l) (same_text acted.0 s said.0 said.1.1);
    }

refused_or : (b : Bool) (all text : List ℕ) → cond b (Err OverflowError) (Ok all) ≡ Ok text → text ≡ all
refused_or true all text e = absurd cc
refused_or false all text e = sym (same_Ok all text e)

said_in_front : (said : Option Entry) (text : List ℕ) (p : Placed) → entry_text said ≡ Ok text → text ++ dict (rewritten_entries p.entries) ≡ dict (rewritten_entries (with_entry said p).entries)
unfolding written_entry
said_in_front None text p h = ap (λ (l : List ℕ). l ++ dict (rewritten_entries p.entries)) (sym (same_Ok [] text h))
said_in_front (Some e) text p h = ap (λ (l : List ℕ). l ++ dict (rewritten_entries p.entries)) (refused_or (list_any is_too_long e.operands) (entry_bytes (plain_entry e.operator e.operands)) text h)

same_data : (said : Option Entry) (p : Placed) → (with_entry said p).data_index ≡ p.data_index
same_data None p = refl
same_data (Some e) p = refl

-- no real of an entry is too long
abbrev pub IsShort : Entry → Type 0
IsShort e = list_any is_too_long e.operands ≡ false

not_refused : (b : Bool) (all text : List ℕ) → cond b (Err OverflowError) (Ok all) ≡ Ok text → b ≡ false
not_refused true all text e = absurd cc
not_refused false all text e = refl

said_short : (said : Option Entry) (text : List ℕ) (p : Placed) → entry_text said ≡ Ok text → AllByRecursion IsShort p.entries → AllByRecursion IsShort (with_entry said p).entries
unfolding written_entry
said_short None text p h all = all
said_short (Some e) text p h all = (not_refused (list_any is_too_long e.operands) (entry_bytes (plain_entry e.operator e.operands)) text h, all)

pub record TextFound (v : Option Variation) (r : Registers) (es : List Entry) (t : PlacedText) : Type 0 where
  pub made : Placed
  pub is : placed v r es ≡ Some made
  pub text : t ≡ placed_as made
  pub short : AllByRecursion IsShort made.entries

both_same : (said : Option Entry) (p : Placed) (front : List ℕ) (t rest : PlacedText) → entry_text said ≡ Ok front → rest ≡ placed_as p
    → ◌≡◌ {A = Result PlacedText Error} (Ok (record { text = front ++ rest.text; data_index = rest.data_index })) (Ok t) → t ≡ placed_as (with_entry said p)
both_same said p front t rest h same e =
    sym (same_Ok _ _ e)
    ∙ ap (λ (x : PlacedText). record { text = front ++ x.text; data_index = x.data_index }) same
    ∙ ap (λ (l : List ℕ). record { text = l; data_index = p.data_index }) (said_in_front said front p h)
    ∙ ap (λ (n : ℕ). record { text = dict (rewritten_entries (with_entry said p).entries); data_index = n }) (sym (same_data said p))

text_found : (v : Option Variation) (r : Registers) (es : List Entry) (t : PlacedText) → placed_text v r es ≡ Ok t → TextFound v r es t
text_found v r [] t h = record { made = record { entries = []; data_index = r.data_index }; is = refl; text = sym (same_Ok _ _ h); short = tt }
text_found v r (e ∷ es) t h =
    let here = bind_ok (step_text v r e.operator e.operands) (λ s. following s.text (placed_text v s.next es)) t h in
    let s = step_found v r e.operator e.operands here.0 here.1.0 in
    let rest = bind_ok (placed_text v here.0.next es) (λ p. Ok (record { text = here.0.text ++ p.text; data_index = p.data_index })) t here.1.1 in
    let more = text_found v here.0.next es rest.0 rest.1.0 in
    record {
      made = with_entry s.made.said more.made;
      is = rw s.is (ap (λ (n : Registers). option_map (with_entry s.made.said) (placed v n es)) s.next ∙ ap (λ (o : Option Placed). option_map (with_entry s.made.said) o) more.is);
      text = both_same s.made.said more.made here.0.text t rest.0 s.text more.text rest.1.1;
      short = said_short s.made.said here.0.text more.made s.text more.short;
    }

pub whole_found : (v : Option Variation) (bytes : List ℕ) (t : PlacedText) → private_text v bytes ≡ Ok t → TextFound v at_start (entry_lists bytes) t
unfolding private_text
whole_found v bytes t h = text_found v at_start (entry_lists bytes) t h

pub text_is_placed : TextIsPlaced
unfolding private_text private_at_location
text_is_placed v bytes t h = let f = text_found v at_start (entry_lists bytes) t h in (f.made, (f.is, f.text))
