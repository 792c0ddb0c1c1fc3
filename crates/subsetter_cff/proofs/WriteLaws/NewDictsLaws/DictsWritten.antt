-- Font dicts and private dicts of a new table, as they are written.
use Rattle.std.proofs.Common.{◌≡◌, ℕ, ◌+◌, ◌-◌, ◌<◌, [], ◌∷◌, ◌∙◌, append_assoc, map, drop, get_or, Bool, true, false, cond, List, ◌++◌, length, ap, arith, sym, length-append}
use Rattle.std.specs.Prelude.{Result, Ok, Err, OnOk, IfErr}
use Rattle.std.specs.List.{list_any}
use Rattle.std.proofs.lemmas.List.{at_drop_more}
use Rattle.subsetter_base.specs.Bytes.{◌>>=◌}
use Rattle.subsetter_base.specs.Gives.{Fails, Gives, following}
use Rattle.subsetter_base.specs.declared.error.Error.{Error}
use Rattle.subsetter_base.specs.declared.error.Error.TheVariants.{OverflowError}
use Rattle.subsetter_cffdata.specs.Dicts.Dict.{entries, dict}
use Rattle.subsetter_cff.specs.declared.write.laying.table.FontDictParts.{FontDictParts}
use Rattle.subsetter_cff.specs.Write.Laying.Layout.{entries_of_font_dict, font_dicts_from, private_bytes, rewritten_entries, privates}
use Rattle.subsetter_cff.specs.Read.Entries.Lookup.{without}
use Rattle.subsetter_cff.specs.Write.Laying.PartsView.{font_dict_view}
use Rattle.subsetter_cff.specs.Read.Entries.Operators.{subroutines_operator}
use Rattle.subsetter_cff.specs.Write.NewDicts.WrittenNumbers.{entry_numbers}
use Rattle.subsetter_cff.specs.Write.NewDicts.Rewritten.{is_refused, written_entries, rewritten_private}
use Rattle.subsetter_cff.specs.Write.Laying.TableLimits.{limit, short, dict_limits, dicts_limits}
use Rattle.subsetter_cff.proofs.WriteLaws.LayingLaws.Checked.{entries_checked}
use Rattle.subsetter_cff.proofs.ReadLaws.Failing.{fails_on, goes_on}

written_by : (b : Bool) (front text out : List ℕ) → following front (cond b (Err OverflowError) (Ok text)) ≡ Ok out → out ≡ front ++ text
written_by true front text out e = absurd cc
written_by false front text out e = cc

pub private_written : (front out bytes : List ℕ) (f : FontDictParts) → f.private.now ≡ bytes → following front (rewritten_private bytes) ≡ Ok out → out ≡ front ++ private_bytes (font_dict_view f)
unfolding rewritten_private written_entries private_bytes
private_written front out bytes f is e =
    rw is (written_by (list_any is_refused (without subroutines_operator (entries bytes))) front (dict (rewritten_entries (without subroutines_operator (entries bytes)))) out e)

pub private_checked : {X : Type 0} (r : Result X Error) (front out bytes : List ℕ) (f : FontDictParts) → f.private.now ≡ bytes → OnOk r (following front (rewritten_private bytes) ≡ Ok out) → IfErr r (λ e. Fails e (following front (rewritten_private bytes)))
    → Gives (λ (x : X). tt) r (limit (short (entry_numbers (font_dict_view f).private)))
unfolding rewritten_private
private_checked (Ok x) front out bytes f is ok err =
    rw is (sym (goes_on (following front (written_entries (without subroutines_operator (entries bytes)))) (λ text. Ok tt) _ out (entries_checked front (without subroutines_operator (entries bytes))) ok))
private_checked (Err e) front out bytes f is ok err =
    rw is (fails_on (following front (written_entries (without subroutines_operator (entries bytes)))) (λ text. Ok tt) _ e (entries_checked front (without subroutines_operator (entries bytes))) err)

-- ---- font dicts one after the other
pub dict_fails : (dicts : List FontDictParts) (i : ℕ) (f : FontDictParts) (place : ℕ) (whole : Result (Unit {0}) Error) (e : Error) → i < length dicts → f ≡ get_or dicts i f
    → dicts_limits place (map font_dict_view (drop i dicts)) ≡ whole → Fails e (dict_limits place (font_dict_view f)) → Fails e whole
dict_fails dicts i f place whole e lt is same h =
    let front : dicts_limits place (map font_dict_view (drop i dicts)) ≡ dicts_limits place (font_dict_view f ∷ map font_dict_view (drop (i + 1) dicts)) =
    at_drop_more (λ (l : List FontDictParts). dicts_limits place (map font_dict_view l)) dicts i f lt ∙ ap (λ (g : FontDictParts). dicts_limits place (font_dict_view g ∷ map font_dict_view (drop (i + 1) dicts))) (sym is) in
    fails_on (dict_limits place (font_dict_view f)) (λ first. dicts_limits (place + length (private_bytes (font_dict_view f))) (map font_dict_view (drop (i + 1) dicts))) whole e (sym front ∙ same) h

pub privates_next : (dicts : List FontDictParts) (i : ℕ) (f : FontDictParts) (old new whole : List ℕ) → i < length dicts → f ≡ get_or dicts i f → new ≡ old ++ private_bytes (font_dict_view f)
    → old ++ privates (map font_dict_view (drop i dicts)) ≡ whole → new ++ privates (map font_dict_view (drop (i + 1) dicts)) ≡ whole
privates_next dicts i f old new whole lt is h same =
    let rest = privates (map font_dict_view (drop (i + 1) dicts)) in
    let front : privates (map font_dict_view (drop i dicts)) ≡ private_bytes (font_dict_view f) ++ rest =
    at_drop_more (λ (l : List FontDictParts). privates (map font_dict_view l)) dicts i f lt ∙ ap (λ (g : FontDictParts). private_bytes (font_dict_view g) ++ rest) (sym is) in
    ap (λ (l : List ℕ). l ++ rest) h ∙ append_assoc old (private_bytes (font_dict_view f)) rest ∙ ap (λ (l : List ℕ). old ++ l) (sym front) ∙ same

pub dicts_next : (dicts : List FontDictParts) (i : ℕ) (f : FontDictParts) (texts : List (List ℕ)) (place next : ℕ) (old new whole : List (List ℕ)) → i < length dicts → f ≡ get_or dicts i f
    → new ≡ old ++ dict (entries_of_font_dict texts place (font_dict_view f)) ∷ [] → next ≡ place + length (private_bytes (font_dict_view f))
    → old ++ font_dicts_from texts place (map font_dict_view (drop i dicts)) ≡ whole → new ++ font_dicts_from texts next (map font_dict_view (drop (i + 1) dicts)) ≡ whole
dicts_next dicts i f texts place next old new whole lt is h at same =
    let one : FontDictParts → List ℕ = λ g. dict (entries_of_font_dict texts place (font_dict_view g)) in
    let rest : FontDictParts → List (List ℕ) = λ g. font_dicts_from texts (place + length (private_bytes (font_dict_view g))) (map font_dict_view (drop (i + 1) dicts)) in
    let front : font_dicts_from texts place (map font_dict_view (drop i dicts)) ≡ one f ∷ rest f =
    at_drop_more (λ (l : List FontDictParts). font_dicts_from texts place (map font_dict_view l)) dicts i f lt ∙ ap (λ (g : FontDictParts). one g ∷ rest g) (sym is) in
    ap (λ (n : ℕ). new ++ font_dicts_from texts n (map font_dict_view (drop (i + 1) dicts))) at
    ∙ ap (λ (l : List (List ℕ)). l ++ rest f) h ∙ append_assoc old (one f ∷ []) (rest f) ∙ ap (λ (l : List (List ℕ)). old ++ l) (sym front) ∙ same

pub dict_kept : (dicts : List FontDictParts) (i : ℕ) (f : FontDictParts) (place next : ℕ) (whole : Result (Unit {0}) Error) → i < length dicts → f ≡ get_or dicts i f → next ≡ place + length (private_bytes (font_dict_view f))
    → dicts_limits place (map font_dict_view (drop i dicts)) ≡ whole → dict_limits place (font_dict_view f) ≡ Ok tt → dicts_limits next (map font_dict_view (drop (i + 1) dicts)) ≡ whole
dict_kept dicts i f place next whole lt is at same h =
    let rest : FontDictParts → Result (Unit {0}) Error = λ g. dicts_limits (place + length (private_bytes (font_dict_view g))) (map font_dict_view (drop (i + 1) dicts)) in
    let front : dicts_limits place (map font_dict_view (drop i dicts)) ≡ (dict_limits place (font_dict_view f) >>= λ first. rest f) =
    at_drop_more (λ (l : List FontDictParts). dicts_limits place (map font_dict_view l)) dicts i f lt ∙ ap (λ (g : FontDictParts). dict_limits place (font_dict_view g) >>= λ first. rest g) (sym is) in
    ap (λ (n : ℕ). dicts_limits n (map font_dict_view (drop (i + 1) dicts))) at ∙ sym (ap (λ (r : Result (Unit {0}) Error). r >>= λ first. rest f) h) ∙ sym front ∙ same

pub next_place : (place : ℕ) (old text new : List ℕ) → new ≡ old ++ text → place + length new ≡ place + length old + length text
next_place place old text new e = omega (arith, ap length e, length-append old text)

pub size_is : (old text new : List ℕ) → new ≡ old ++ text → length new - length old ≡ length text
size_is old text new e = omega (arith, ap length e, length-append old text)
