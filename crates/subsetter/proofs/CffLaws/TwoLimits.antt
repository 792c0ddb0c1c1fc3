-- What is made of a CFF table at two limits on the run of a charstring is the same.
use Rattle.std.proofs.Common.{◌≡◌, ℕ, false, List, [], ◌∷◌, Option, Result, Ok, Err, refl, sym, ap, ◌∙◌}
use Rattle.std.specs.Option.{ok_or}
use Rattle.subsetter_base.specs.Bytes.{◌>>=◌}
use Rattle.subsetter_base.specs.declared.error.Error.{Error}
use Rattle.subsetter_base.specs.declared.error.Error.TheVariants.{MalformedFont}
use Rattle.subsetter_base.proofs.Results.{done_is}
use Rattle.subsetter_type2.specs.Runs.Machine.{Library, Trace, Outcome, Finishes, Stops, outcome}
use Rattle.subsetter_type2.specs.Flat.{bytes_of, flat_form}
use Rattle.subsetter_type2.proofs.TraceLimits.{same_trace}
use Rattle.subsetter_cff.specs.Read.Cff.{Cff, char_string}
use Rattle.subsetter_cff.specs.Read.FdArray.Private.{Private, private_of}
use Rattle.subsetter_cff.specs.Read.GlyphTrace.{library}
use Rattle.subsetter_cff.specs.Write.Laying.Layout.{Parts, cff_table}
use Rattle.subsetter_cff.specs.Read.Opened.{opened}
use Rattle.subsetter_cff.specs.Write.Plain.{KeptGlyph, source_number, kept_glyph, kept_glyphs, counted_parts, limited, parts_of, cff_subset}
use Rattle.subsetter_sfnt.specs.declared.flavor.FontFlavor.TheVariants.{Cff as CffKind}
use Rattle.subsetter_sfnt.specs.Laying.Written.{Table}
use Rattle.subsetter.specs.Common.Shared.Plain.{shared_of}
use Rattle.subsetter.specs.Cff.Plain.{Made, made_of, laid, cff_tables}

-- steps that go on from one answer
both : {A B : Type 0} (r : Result A Error) (f g : A → Result B Error) (x y : B) → ((a : A) → f a ≡ Ok x → g a ≡ Ok y → x ≡ y) → (r >>= f) ≡ Ok x → (r >>= g) ≡ Ok y → x ≡ y
both (Ok a) f g x y h e k = h a e k
both (Err d) f g x y h e k = absurd cc

-- steps that go on alike from two answers, which are the same
meet : {A B : Type 0} (r s : Result A Error) (f : A → Result B Error) (x y : B) → ((a b : A) → r ≡ Ok a → s ≡ Ok b → a ≡ b) → (r >>= f) ≡ Ok x → (s >>= f) ≡ Ok y → x ≡ y
meet (Ok a) (Ok b) f x y h e k = done_is x y (sym e ∙ ap f (h a b refl refl) ∙ k)
meet (Ok a) (Err d) f x y h e k = absurd cc
meet (Err d) s f x y h e k = absurd cc

flat_by : (o p : Outcome) (x y : List ℕ) → ((u v : Trace) → o ≡ Finishes u → p ≡ Finishes v → u ≡ v) → bytes_of o ≡ Ok x → bytes_of p ≡ Ok y → x ≡ y
flat_by (Finishes u) (Finishes v) x y h e k = done_is x y (sym e ∙ ap (λ (t : Trace). bytes_of (Finishes t)) (h u v refl refl) ∙ k)
flat_by (Finishes u) (Stops d) x y h e k = absurd cc
flat_by (Stops d) p x y h e k = absurd cc

module _ (tokens depth more deeper : ℕ) where
  -- one flat form
  same_flat : (l : Library) (charstring x y : List ℕ) → flat_form l tokens depth charstring ≡ Ok x → flat_form l more deeper charstring ≡ Ok y → x ≡ y
  same_flat l charstring x y e k = flat_by (outcome l tokens depth charstring) (outcome l more deeper charstring) x y (same_trace l tokens more depth deeper charstring) e k

  module _ (cff : Cff) where
    abbrev with_bytes : ℕ → List ℕ → Result KeptGlyph Error
    with_bytes number bytes = Ok (record { number = number; bytes = bytes })

    abbrev with_charstring : ℕ → ℕ → ℕ → Private → List ℕ → Result KeptGlyph Error
    with_charstring t d number private charstring = flat_form (library cff private) t d charstring >>= with_bytes number

    abbrev with_private : ℕ → ℕ → ℕ → ℕ → Private → Result KeptGlyph Error
    with_private t d glyph number private = ok_or (char_string cff glyph) MalformedFont >>= with_charstring t d number private

    abbrev with_number : ℕ → ℕ → ℕ → ℕ → Result KeptGlyph Error
    with_number t d glyph number = ok_or (private_of cff glyph) MalformedFont >>= with_private t d glyph number

    same_glyph : (glyph : ℕ) (x y : KeptGlyph) → kept_glyph cff tokens depth glyph ≡ Ok x → kept_glyph cff more deeper glyph ≡ Ok y → x ≡ y
    unfolding kept_glyph
    same_glyph glyph x y e k =
        both (ok_or (source_number cff glyph) MalformedFont) (with_number tokens depth glyph) (with_number more deeper glyph) x y
        (λ n e k. both (ok_or (private_of cff glyph) MalformedFont) (with_private tokens depth glyph n) (with_private more deeper glyph n) x y
        (λ p e k. both (ok_or (char_string cff glyph) MalformedFont) (with_charstring tokens depth n p) (with_charstring more deeper n p) x y
        (λ c e k. meet (flat_form (library cff p) tokens depth c) (flat_form (library cff p) more deeper c) (with_bytes n) x y (same_flat (library cff p) c) e k) e k) e k) e k

    abbrev with_rest : ℕ → ℕ → List ℕ → KeptGlyph → Result (List KeptGlyph) Error
    with_rest t d gs first = kept_glyphs cff t d gs >>= λ rest. Ok (first ∷ rest)

    -- two answers for a glyph and for the others
    joined : (gs : List ℕ) (r s : Result KeptGlyph Error) (xs ys : List KeptGlyph) → ((a b : KeptGlyph) → r ≡ Ok a → s ≡ Ok b → a ≡ b) → ((ks ls : List KeptGlyph) → kept_glyphs cff tokens depth gs ≡ Ok ks → kept_glyphs cff more deeper gs ≡ Ok ls → ks ≡ ls) → (r >>= with_rest tokens depth gs) ≡ Ok xs → (s >>= with_rest more deeper gs) ≡ Ok ys → xs ≡ ys
    joined gs (Ok a) (Ok b) xs ys h others e k = meet (kept_glyphs cff tokens depth gs) (kept_glyphs cff more deeper gs) (λ rest. Ok (a ∷ rest)) xs ys others e (ap (with_rest more deeper gs) (h a b refl refl) ∙ k)
    joined gs (Ok a) (Err d) xs ys h others e k = absurd cc
    joined gs (Err d) s xs ys h others e k = absurd cc

    same_glyphs : (glyphs : List ℕ) (xs ys : List KeptGlyph) → kept_glyphs cff tokens depth glyphs ≡ Ok xs → kept_glyphs cff more deeper glyphs ≡ Ok ys → xs ≡ ys
    same_glyphs [] xs ys e k = done_is xs ys (sym e ∙ k)
    same_glyphs (g ∷ gs) xs ys e k = joined gs (kept_glyph cff tokens depth g) (kept_glyph cff more deeper g) xs ys (same_glyph g) (λ ks ls a b. same_glyphs gs ks ls a b) e k

    same_parts : (glyphs : List ℕ) (p q : Parts) → parts_of cff tokens depth glyphs ≡ Ok p → parts_of cff more deeper glyphs ≡ Ok q → p ≡ q
    unfolding parts_of
    same_parts glyphs p q e k = meet (kept_glyphs cff tokens depth glyphs) (kept_glyphs cff more deeper glyphs) (λ kept. counted_parts cff kept >>= limited) p q (same_glyphs glyphs) e k

  same_table : (source glyphs x y : List ℕ) → cff_subset source tokens depth glyphs ≡ Ok x → cff_subset source more deeper glyphs ≡ Ok y → x ≡ y
  unfolding cff_subset
  same_table source glyphs x y e k =
      let laid_out : Parts → Result (List ℕ) Error = λ p. Ok (cff_table p) in
      both (opened source) (λ cff. parts_of cff tokens depth glyphs >>= laid_out) (λ cff. parts_of cff more deeper glyphs >>= laid_out) x y
      (λ cff e k. meet (parts_of cff tokens depth glyphs) (parts_of cff more deeper glyphs) laid_out x y (same_parts cff glyphs) e k) e k

  same_made : (find : List ℕ → Option (List ℕ)) (source glyphs : List ℕ) (m n : Made) → made_of find source tokens depth glyphs ≡ Ok m → made_of find source more deeper glyphs ≡ Ok n → m ≡ n
  unfolding made_of
  same_made find source glyphs m n e k =
      meet (cff_subset source tokens depth glyphs) (cff_subset source more deeper glyphs) (λ cff. shared_of find CffKind false glyphs >>= λ shared. Ok (record { cff = cff; shared = shared })) m n (same_table source glyphs) e k

  -- the same tables
  pub same_tables : (find : List ℕ → Option (List ℕ)) (source glyphs : List ℕ) (ts us : List Table) → cff_tables find source tokens depth glyphs ≡ Ok ts → cff_tables find source more deeper glyphs ≡ Ok us → ts ≡ us
  unfolding cff_tables
  same_tables find source glyphs ts us e k = meet (made_of find source tokens depth glyphs) (made_of find source more deeper glyphs) (λ m. Ok (laid m)) ts us (same_made find source glyphs) e k
