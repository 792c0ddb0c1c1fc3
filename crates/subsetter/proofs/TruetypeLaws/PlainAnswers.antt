-- What an answer that gives a plain function's value says.
use Rattle.std.proofs.Common.{◌≡◌, ℕ, ◌^◌, ◌<◌, Bool, List, [], length, Option, Some, None, Result, Ok, Err, refl, sym, ap, subst, ◌∙◌, ◌⊎◌, inl, inr, arith}
use Rattle.std.specs.Prelude.{IfOk, IfErr}
use Rattle.std.specs.Option.{unwrap_or}
use Rattle.std.specs.List.{AllByRecursion}
use Rattle.std.proofs.lemmas.List.{length-map}
use Rattle.subsetter_base.specs.Bytes.{◌>>=◌}
use Rattle.subsetter_base.specs.Gives.{Fails, Gives}
use Rattle.subsetter_base.specs.Within.{GivesWithin, IsTooLong}
use Rattle.subsetter_base.specs.declared.error.Error.{Error}
use Rattle.subsetter_base.specs.declared.error.Error.TheVariants as errors
use Rattle.subsetter_sfnt.specs.declared.laying.tables.NewTable.{NewTable}
use Rattle.subsetter.specs.declared.tables.TableData.{TableData}
use Rattle.subsetter_sfnt.specs.declared.flavor.FontFlavor.TheVariants.{TrueType}
use Rattle.subsetter_sfnt.specs.Laying.Rows.{rows, present}
use Rattle.subsetter.specs.Truetype.Answered.{IsAnswered, IsRefused, no_memory, unclosed, unmade, unlaid, past}
use Rattle.subsetter.specs.Glyf.Read.{Outlines, outline_in}
use Rattle.subsetter_sfnt.specs.Laying.Written.{Table, IsTable, kind_word}
use Rattle.subsetter.specs.Truetype.Plain.{Made, made_of, font_of, laid, truetype_tables}
use Rattle.subsetter_sfnt.specs.Plain.{file_of}
use Rattle.subsetter.specs.Glyf.Plain.{outlines_read}
use Rattle.subsetter.specs.Glyf.Reaching.Closure as stops
use Rattle.subsetter.specs.Glyf.Reaching.Closure.{Finds, StopsClosure}
use Rattle.subsetter.specs.Glyf.Reaching.Reach.{IsGlyphOrderBy}
use Rattle.subsetter.specs.TableView.{view, views}
use Rattle.subsetter.proofs.TruetypeLaws.Bound.{closure_beyond, file_beyond}
use Rattle.subsetter.proofs.TruetypeLaws.Steps.{made_steps}
use Rattle.subsetter.proofs.TruetypeLaws.Subset.{laid_is, laid_few, laid_all}

-- a failure is want of memory, or the plain function's
failing : {Y : Type 0} (e : Error) (read : Result Y Error) → Fails e read → (e ≡ errors.OutOfMemory) ⊎ (read ≡ Err e)
failing errors.OutOfMemory read h = inl refl
failing errors.UnknownKind read h = inr h
failing errors.MalformedFont read h = inr h
failing errors.Unimplemented read h = inr h
failing errors.SubsetError read h = inr h
failing errors.OverflowError read h = inr h
failing errors.CFFError read h = inr h

pub gave_ok : {X Y : Type 0} (view : X → Y) (r : Result X Error) (read : Result Y Error) (P : Y → Type 0) → Gives view r read → ((y : Y) → read ≡ Ok y → P y) → IfOk r (λ x. P (view x))
gave_ok view (Ok x) read P h f = f (view x) h
gave_ok view (Err e) read P h f = tt

pub gave_err : {X Y : Type 0} (view : X → Y) (r : Result X Error) (read : Result Y Error) (P : Error → Type 0) → Gives view r read → P errors.OutOfMemory → ((e : Error) → read ≡ Err e → P e) → IfErr r P
gave_err view (Ok x) read P h m f = tt
gave_err view (Err e) read P h m f =
    elim (failing e read h) [
      | inl memory ↦ subst P (sym memory) m
      | inr k ↦ f e k
    ]

-- the same within a bound
pub gave_ok_within : {X Y : Type 0} (view : X → Y) (bound : Option ℕ) (size : Y → ℕ) (r : Result X Error) (read : Result Y Error) (P : Y → Type 0) → GivesWithin view bound size r read → ((y : Y) → read ≡ Ok y → P y) → IfOk r (λ x. P (view x))
gave_ok_within view bound size (Ok x) read P h f = f (view x) h
gave_ok_within view bound size (Err e) read P h f = tt

pub gave_err_within : {X Y : Type 0} (view : X → Y) (bound : Option ℕ) (size : Y → ℕ) (r : Result X Error) (read : Result Y Error) (P : Error → Type 0) → GivesWithin view bound size r read → P errors.OutOfMemory → ((e : Error) → read ≡ Err e → P e) → (IsTooLong bound size read → P errors.OverflowError) → IfErr r P
gave_err_within view bound size (Ok x) read P h m f l = tt
gave_err_within view bound size (Err e) read P h m f l = elim h [
  | inl k ↦ gave_err view (Err e) read P k m f
  | inr p ↦ subst P (sym p.0) (l p.1)
]

-- the closure was stopped
pub refused_closure : (hinting : Bool) (find : List ℕ → Option (List ℕ)) (bound : Option ℕ) (glyphs : List ℕ) (t : Outlines) (e : Error) → outlines_read hinting find ≡ Ok t → StopsClosure t glyphs (unwrap_or bound 4294967295) e → IsRefused hinting find bound glyphs e
refused_closure hinting find None glyphs t e read stops = unclosed t read stops
refused_closure hinting find (Some most) glyphs t e read stops.no_memory = no_memory
refused_closure hinting find (Some most) glyphs t e read (stops.faulty_glyph g r is) = unclosed t read (stops.faulty_glyph g r is)
refused_closure hinting find (Some most) glyphs t e read (stops.all_reached r) = unclosed t read (stops.all_reached r)
refused_closure hinting find (Some most) glyphs t e read (stops.too_long l) = past most refl (closure_beyond hinting find glyphs t most read l)

module _ (hinting : Bool) (find : List ℕ → Option (List ℕ)) (glyphs order : List ℕ) (t : Outlines) (read : outlines_read hinting find ≡ Ok t) (closed : IsGlyphOrderBy (outline_in t) glyphs order) where
  -- what was made is laid out
  made_tables : (m : Made) → made_of find t order ≡ Ok m → truetype_tables find t order ≡ Ok (laid find m)
  unfolding truetype_tables
  made_tables m h = ap (λ (r : Result Made Error). r >>= λ x. Ok (laid find x)) h

  unmade_tables : (e : Error) → made_of find t order ≡ Err e → truetype_tables find t order ≡ Err e
  unfolding truetype_tables
  unmade_tables e h = ap (λ (r : Result Made Error). r >>= λ x. Ok (laid find x)) h

  pub refused_made : (bound : Option ℕ) (e : Error) → Finds t order glyphs [] glyphs → Fails e (made_of find t order) → IsRefused hinting find bound glyphs e
  refused_made bound e found h =
      elim (failing e (made_of find t order) h) [
        | inl memory ↦ subst (IsRefused hinting find bound glyphs) (sym memory) no_memory
        | inr k ↦ unmade t order read closed found (unmade_tables e k)
      ]

  module _ (m : Made) (made : made_of find t order ≡ Ok m) (ts : List (NewTable TableData)) (there : views ts ≡ present (rows (font_of find m))) where
    are : views ts ≡ laid find m
    are = there ∙ sym (laid_is find m)

    pub few_tables : length ts < 16
    few_tables = omega (arith, length-map ts view, ap length are, laid_few find m)

    pub all_tables : AllByRecursion IsTable (views ts)
    all_tables = subst (λ (l : List Table). AllByRecursion IsTable l) (sym are) (laid_all find t order m (made_steps find t order m made))

    pub answered : (out : List ℕ) → Finds t order glyphs [] glyphs → length order < 2 ^ 16 → file_of (kind_word TrueType) (views ts) ≡ Ok out → IsAnswered hinting find glyphs out
    answered out found few h = record {
      source = t;
      read = read;
      order = order;
      is_order = closed;
      found = found;
      few = few;
      tables = laid find m;
      tables_are = made_tables m made;
      laid_out = ap (file_of (kind_word TrueType)) (sym are) ∙ h;
    }

    pub refused_file : (bound : Option ℕ) → Finds t order glyphs [] glyphs → (e : Error) → file_of (kind_word TrueType) (views ts) ≡ Err e → IsRefused hinting find bound glyphs e
    refused_file bound found e h = unlaid t order (laid find m) read closed found (made_tables m made) (ap (file_of (kind_word TrueType)) (sym are) ∙ h)

    pub refused_long : (bound : Option ℕ) → Finds t order glyphs [] glyphs → IsTooLong bound length (file_of (kind_word TrueType) (views ts)) → IsRefused hinting find bound glyphs errors.OverflowError
    refused_long bound found p = past p.most p.is_set (file_beyond hinting find glyphs t order (laid find m) p.most read found (made_tables m made) (λ f h. p.longer f (ap (file_of (kind_word TrueType)) are ∙ h)))
