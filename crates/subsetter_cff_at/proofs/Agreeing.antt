-- Limits never change a table.
use Rattle.std.proofs.Common.{◌≡◌, ℕ, zero, suc, ◌+◌, ℤ, pos, List, [], ◌∷◌, length, map, Option, Some, None, refl, ap, ◌∙◌, sym}
use Rattle.std.specs.Prelude.{nat_le, nat_lt, slice_get, Result, Ok, Err}
use Rattle.std.specs.Option.{ok_or}
use Rattle.subsetter_base.specs.Bytes.{◌>>=◌}
use Rattle.subsetter_base.specs.declared.error.Error.{Error}
use Rattle.subsetter_base.specs.declared.error.Error.TheVariants.{MalformedFont, OverflowError, CFFError}
use Rattle.subsetter_type2.specs.Runs.Machine.{rests_after, unended}
use Rattle.subsetter_cff.proofs.ReadLaws.Results.{bind_ok, same_Ok, passed}
use Rattle.subsetter_blend.specs.Runs.Machine.{Setting, State, Done, act_at, done, follow, ended_or, ended, run, run_all, start}
use Rattle.subsetter_blend.specs.Resolved.{all_finished, resolved}
use Rattle.subsetter_blend.specs.Writing.Taking.{Event}
use Rattle.subsetter_blend.specs.Writing.Written.{Fitted, fitted, fitted_start, finished}
use Rattle.subsetter_cff2.specs.Cff2.{Cff2}
use Rattle.subsetter_cff2.specs.Made2.{NewDict, new_dicts}
use Rattle.subsetter_cff2.specs.PrivateDicts.Private2.{char_string}
use Rattle.subsetter_cff2.specs.Selection.UsedDicts.{counted_dicts, index_in}
use Rattle.subsetter_cff2.specs.Variation.{Variation}
use Rattle.subsetter_cff_at.specs.Plain.{dict_bound, numbers_from, present, setting, glyph_text, placed_text, text_if, texts_from, Drawn, drawn, Opened, opened, parts_of, some_requested, made_table}
use Rattle.subsetter_cff_at.specs.Promise.{LimitsAgree}
use Rattle.subsetter_cff_at.proofs.DrawnGlyphs.{drawn_steps}

-- one answer is one
one_answer : {A : Type 0} (r : Result A Error) (a b : A) → r ≡ Ok a → r ≡ Ok b → a ≡ b
one_answer r a b h k = same_Ok _ _ (sym h ∙ k)

-- ---- a run
follow_agree : {S : Type 0} (depth other : ℕ) (callers : List (List ℕ)) (r : Result (Done S) Error) (go more : S → State → Result S Error) (a b : S)
    → ((s : S) (state : State) → go s state ≡ Ok a → more s state ≡ Ok b → a ≡ b) → follow depth callers r go ≡ Ok a → follow other callers r more ≡ Ok b → a ≡ b
follow_agree depth other callers (Err e) go more a b same h k = absurd cc
follow_agree depth other callers (Ok d) go more a b same h k =
    let state : State = record { rests = rests_after d.lead callers; registers = d.registers } in
    same d.taken state (passed (nat_le (length (rests_after d.lead callers)) depth) CFFError (go d.taken state) a h).1 (passed (nat_le (length (rests_after d.lead callers)) other) CFFError (more d.taken state) b k).1

want_agree : {S : Type 0} (rests : List (List ℕ)) (over : Result S Error) (go more : List ℕ → List (List ℕ) → Result S Error) (a b : S)
    → ((bytes : List ℕ) (callers : List (List ℕ)) → go bytes callers ≡ Ok a → more bytes callers ≡ Ok b → a ≡ b) → ended_or rests over go ≡ Ok a → ended_or rests over more ≡ Ok b → a ≡ b
want_agree [] over go more a b same h k = one_answer over a b h k
want_agree (bytes ∷ callers) over go more a b same h k = same bytes callers h k

module _ {S : Type 0} (take : Event → S → Result S Error) (setting : Setting) where
  run_agrees : (depth other tokens more : ℕ) (s : S) (state : State) (a b : S) → run take setting depth tokens s state ≡ Ok a → run take setting other more s state ≡ Ok b → a ≡ b
  unfolding run
  run_agrees depth other zero zero s state a b h k = want_agree (unended state.rests) (ended s state.registers.operands) _ _ a b (λ bytes callers bad. absurd cc) h k
  run_agrees depth other zero (suc more) s state a b h k = want_agree (unended state.rests) (ended s state.registers.operands) _ _ a b (λ bytes callers bad. absurd cc) h k
  run_agrees depth other (suc tokens) zero s state a b h k = want_agree (unended state.rests) (ended s state.registers.operands) _ _ a b (λ bytes callers good bad. absurd cc) h k
  run_agrees depth other (suc tokens) (suc more) s state a b h k =
      want_agree (unended state.rests) (ended s state.registers.operands) _ _ a b
      (λ bytes callers. follow_agree depth other callers (done take (act_at setting bytes state.registers) s) (run take setting depth tokens) (run take setting other more) a b
      (λ t next. run_agrees depth other tokens more t next a b))
      h k

finished_of : (r : Result Fitted Error) (bytes : List ℕ) → all_finished r ≡ Ok bytes → (f : Fitted) × ((r ≡ Ok f) × (finished f ≡ bytes))
finished_of (Ok f) bytes e = (f, (refl, same_Ok _ _ e))
finished_of (Err e) bytes h = absurd cc

resolved_agrees : (setting : Setting) (tokens depth more other data_index : ℕ) (advance : ℤ) (charstring a b : List ℕ) → resolved setting tokens depth data_index advance charstring ≡ Ok a → resolved setting more other data_index advance charstring ≡ Ok b → a ≡ b
unfolding resolved run_all
resolved_agrees setting tokens depth more other data_index advance charstring a b h k =
    let x = finished_of (run fitted setting depth tokens (fitted_start advance) (start data_index charstring)) a h in
    let y = finished_of (run fitted setting other more (fitted_start advance) (start data_index charstring)) b k in
    sym x.1.1 ∙ ap finished (run_agrees fitted setting depth other tokens more (fitted_start advance) (start data_index charstring) x.0 y.0 x.1.0 y.1.0) ∙ y.1.1

-- ---- glyphs
same_drawn : (a b : Drawn) → a.dicts ≡ b.dicts → a.places ≡ b.places → a.texts ≡ b.texts → a ≡ b
same_drawn a b dicts places texts =
    ap (λ (l : List NewDict). record { dicts = l; places = a.places; texts = a.texts }) dicts
    ∙ ap (λ (l : List ℕ). record { dicts = b.dicts; places = l; texts = a.texts }) places
    ∙ ap (λ (l : List (Option (List ℕ))). record { dicts = b.dicts; places = b.places; texts = l }) texts

module _ (cff : Cff2) (v : Option Variation) (tokens depth more other : ℕ) where
  text_agrees : (dict : NewDict) (glyph advance : ℕ) (a b : List ℕ) → glyph_text cff v tokens depth dict glyph advance ≡ Ok a → glyph_text cff v more other dict glyph advance ≡ Ok b → a ≡ b
  unfolding glyph_text
  text_agrees dict glyph advance a b h k =
      let x = passed (nat_lt advance 32768) OverflowError _ a h in
      let y = passed (nat_lt advance 32768) OverflowError _ b k in
      let p = bind_ok (ok_or (char_string cff glyph) MalformedFont) (resolved (setting cff v dict.subroutines) tokens depth dict.data_index (pos advance)) a x.1 in
      let q = bind_ok (ok_or (char_string cff glyph) MalformedFont) (resolved (setting cff v dict.subroutines) more other dict.data_index (pos advance)) b y.1 in
      let same : p.0 ≡ q.0 = one_answer (ok_or (char_string cff glyph) MalformedFont) p.0 q.0 p.1.0 q.1.0 in
      resolved_agrees (setting cff v dict.subroutines) tokens depth more other dict.data_index (pos advance) q.0 a b (ap (resolved (setting cff v dict.subroutines) tokens depth dict.data_index (pos advance)) (sym same) ∙ p.1.1) q.1.1

  placed_agrees : (dicts : List NewDict) (place glyph advance : ℕ) (a b : List ℕ) → placed_text cff v tokens depth dicts place glyph advance ≡ Ok a → placed_text cff v more other dicts place glyph advance ≡ Ok b → a ≡ b
  unfolding placed_text
  placed_agrees dicts place glyph advance a b h k =
      let p = bind_ok (ok_or (slice_get dicts place) MalformedFont) (λ dict. glyph_text cff v tokens depth dict glyph advance) a h in
      let q = bind_ok (ok_or (slice_get dicts place) MalformedFont) (λ dict. glyph_text cff v more other dict glyph advance) b k in
      let same : p.0 ≡ q.0 = one_answer (ok_or (slice_get dicts place) MalformedFont) p.0 q.0 p.1.0 q.1.0 in
      text_agrees q.0 glyph advance a b (ap (λ (d : NewDict). glyph_text cff v tokens depth d glyph advance) (sym same) ∙ p.1.1) q.1.1

  one_agrees : (dicts : List NewDict) (place glyph : ℕ) (one : Option ℕ) (a b : Option (List ℕ)) → text_if cff v tokens depth dicts place glyph one ≡ Ok a → text_if cff v more other dicts place glyph one ≡ Ok b → a ≡ b
  one_agrees dicts place glyph None a b h k = sym (same_Ok _ _ h) ∙ same_Ok _ _ k
  one_agrees dicts place glyph (Some advance) a b h k =
      let p = bind_ok (placed_text cff v tokens depth dicts place glyph advance) (λ text. Ok (Some text)) a h in
      let q = bind_ok (placed_text cff v more other dicts place glyph advance) (λ text. Ok (Some text)) b k in
      sym (same_Ok _ _ p.1.1) ∙ ap Some (placed_agrees dicts place glyph advance p.0 q.0 p.1.0 q.1.0) ∙ same_Ok _ _ q.1.1

  texts_agree : (dicts : List NewDict) (places : List ℕ) (glyph : ℕ) (glyphs : List (Option ℕ)) (a b : List (Option (List ℕ))) → texts_from cff v tokens depth dicts places glyph glyphs ≡ Ok a → texts_from cff v more other dicts places glyph glyphs ≡ Ok b → a ≡ b
  texts_agree dicts places glyph [] a b h k = sym (same_Ok _ _ h) ∙ same_Ok _ _ k
  texts_agree dicts [] glyph (one ∷ glyphs) a b h k = sym (same_Ok _ _ h) ∙ same_Ok _ _ k
  texts_agree dicts (place ∷ places) glyph (one ∷ glyphs) a b h k =
      let p = bind_ok (text_if cff v tokens depth dicts place glyph one) (λ first. texts_from cff v tokens depth dicts places (glyph + 1) glyphs >>= λ rest. Ok (first ∷ rest)) a h in
      let q = bind_ok (text_if cff v more other dicts place glyph one) (λ first. texts_from cff v more other dicts places (glyph + 1) glyphs >>= λ rest. Ok (first ∷ rest)) b k in
      let x = bind_ok (texts_from cff v tokens depth dicts places (glyph + 1) glyphs) (λ rest. Ok (p.0 ∷ rest)) a p.1.1 in
      let y = bind_ok (texts_from cff v more other dicts places (glyph + 1) glyphs) (λ rest. Ok (q.0 ∷ rest)) b q.1.1 in
      let first : p.0 ≡ q.0 = one_agrees dicts place glyph one p.0 q.0 p.1.0 q.1.0 in
      let rest : x.0 ≡ y.0 = texts_agree dicts places (glyph + 1) glyphs x.0 y.0 x.1.0 y.1.0 in
      sym (same_Ok _ _ x.1.1) ∙ ap (λ (t : Option (List ℕ)). t ∷ x.0) first ∙ ap (λ (l : List (Option (List ℕ))). q.0 ∷ l) rest ∙ same_Ok _ _ y.1.1

  drawn_agrees : (glyphs : List (Option ℕ)) (a b : Drawn) → drawn cff v tokens depth glyphs ≡ Ok a → drawn cff v more other glyphs ≡ Ok b → a ≡ b
  drawn_agrees glyphs a b h k =
      let p = drawn_steps cff v tokens depth glyphs a h in
      let q = drawn_steps cff v more other glyphs b k in
      let numbers : p.numbers ≡ q.numbers = one_answer (numbers_from cff 0 glyphs) p.numbers q.numbers p.numbers_are q.numbers_are in
      let used : p.used ≡ q.used = one_answer (counted_dicts (dict_bound cff) (present q.numbers)) p.used q.used (ap (λ (l : List (Option ℕ)). counted_dicts (dict_bound cff) (present l)) (sym numbers) ∙ p.used_are) q.used_are in
      let dicts : a.dicts ≡ b.dicts = one_answer (new_dicts cff v q.used) a.dicts b.dicts (ap (new_dicts cff v) (sym used) ∙ p.dicts_are) q.dicts_are in
      let places : a.places ≡ b.places = p.places_are ∙ ap (λ (l : List ℕ). map (index_in l) p.numbers) used ∙ ap (map (index_in q.used)) numbers ∙ sym q.places_are in
      let here : texts_from cff v tokens depth b.dicts b.places 0 glyphs ≡ Ok a.texts
      = ap (λ (l : List NewDict). texts_from cff v tokens depth l b.places 0 glyphs) (sym dicts) ∙ ap (λ (l : List ℕ). texts_from cff v tokens depth a.dicts l 0 glyphs) (sym places) ∙ p.texts_are in
      let texts : a.texts ≡ b.texts = texts_agree b.dicts b.places 0 glyphs a.texts b.texts here q.texts_are in
      same_drawn a b dicts places texts

-- ---- the whole
pub limits_agree : LimitsAgree
unfolding made_table
limits_agree bytes r tokens depth more other out copy h k =
    let a = passed (some_requested r.glyphs) MalformedFont _ out h in
    let b = passed (some_requested r.glyphs) MalformedFont _ copy k in
    let p = bind_ok (opened bytes r) (λ o. drawn o.cff o.variation tokens depth r.glyphs >>= parts_of o) out a.1 in
    let q = bind_ok (opened bytes r) (λ o. drawn o.cff o.variation more other r.glyphs >>= parts_of o) copy b.1 in
    let same : p.0 ≡ q.0 = one_answer (opened bytes r) p.0 q.0 p.1.0 q.1.0 in
    let here : (drawn q.0.cff q.0.variation tokens depth r.glyphs >>= parts_of q.0) ≡ Ok out = ap (λ (o : Opened). drawn o.cff o.variation tokens depth r.glyphs >>= parts_of o) (sym same) ∙ p.1.1 in
    let x = bind_ok (drawn q.0.cff q.0.variation tokens depth r.glyphs) (parts_of q.0) out here in
    let y = bind_ok (drawn q.0.cff q.0.variation more other r.glyphs) (parts_of q.0) copy q.1.1 in
    let glyphs : x.0 ≡ y.0 = drawn_agrees q.0.cff q.0.variation tokens depth more other r.glyphs x.0 y.0 x.1.0 y.1.0 in
    one_answer (parts_of q.0 y.0) out copy (ap (parts_of q.0) (sym glyphs) ∙ x.1.1) y.1.1
