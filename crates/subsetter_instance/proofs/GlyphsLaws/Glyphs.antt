-- What is drawn of glyphs, one after another.
use Rattle.std.proofs.Common.{◌≡◌, ℕ, List, [], ◌∷◌, ◌++◌, Result, Ok, Err, ℤ, refl, sym, ap, ◌∙◌, append_assoc}
use Rattle.std.proofs.lemmas.List.{append-nil}
use Rattle.subsetter_base.specs.Bytes.{◌>>=◌}
use Rattle.subsetter_base.specs.Gives.{Fails}
use Rattle.subsetter_base.specs.declared.error.Error.{Error}
use Rattle.subsetter_base.specs.declared.error.Error.TheVariants.{UnknownKind, MalformedFont, Unimplemented, SubsetError, OverflowError, CFFError, OutOfMemory}
use Rattle.subsetter_base.proofs.Results.{with_front}
use Rattle.subsetter_instance.specs.Source.{Source}
use Rattle.subsetter_instance.specs.Glyphs.Drawn.{Drawn}
use Rattle.subsetter_instance.specs.Plain.{drawn_if, drawn_all}

-- where a part fails, so does what goes on from it
pub fails_in : {X Y : Type 0} (f : Result X Error → Result Y Error) (part : Result X Error) (whole : Result Y Error) (e : Error) → ((d : Error) → f (Err d) ≡ Err d) → f part ≡ whole → Fails e part → Fails e whole
fails_in f part whole OutOfMemory k same h = tt
fails_in f part whole UnknownKind k same h = sym same ∙ ap f h ∙ k UnknownKind
fails_in f part whole MalformedFont k same h = sym same ∙ ap f h ∙ k MalformedFont
fails_in f part whole Unimplemented k same h = sym same ∙ ap f h ∙ k Unimplemented
fails_in f part whole SubsetError k same h = sym same ∙ ap f h ∙ k SubsetError
fails_in f part whole OverflowError k same h = sym same ∙ ap f h ∙ k OverflowError
fails_in f part whole CFFError k same h = sym same ∙ ap f h ∙ k CFFError

abbrev onto : Drawn → Result (List Drawn) Error → Result (List Drawn) Error
onto d r = r >>= λ rest. Ok (d ∷ rest)

push_front : (front : List Drawn) (d : Drawn) (r : Result (List Drawn) Error) → with_front front (onto d r) ≡ with_front (front ++ d ∷ []) r
push_front front d (Ok rest) = ap (λ l. Ok l) (sym (append_assoc front (d ∷ []) rest))
push_front front d (Err e) = refl

pub glyphs_start : (r : Result (List Drawn) Error) → with_front [] r ≡ r
glyphs_start (Ok rest) = refl
glyphs_start (Err e) = refl

-- the others follow the first one
abbrev after_first : List Drawn → Result (List Drawn) Error → Result Drawn Error → Result (List Drawn) Error
after_first front others first = with_front front (first >>= λ d. onto d others)

pub glyphs_step : (s : Source) (at : List ℤ) (steps : ℕ) (front : List Drawn) (g : ℕ) (all rest : List ℕ) (d : Drawn) → all ≡ g ∷ rest → drawn_if s at steps g ≡ Ok d
    → with_front front (drawn_all s at steps all) ≡ with_front (front ++ d ∷ []) (drawn_all s at steps rest)
glyphs_step s at steps front g all rest d e h = ap (λ l. with_front front (drawn_all s at steps l)) e ∙ ap (after_first front (drawn_all s at steps rest)) h ∙ push_front front d (drawn_all s at steps rest)

pub glyphs_fail : (s : Source) (at : List ℤ) (steps : ℕ) (front : List Drawn) (g : ℕ) (all rest : List ℕ) (whole : Result (List Drawn) Error) (e : Error) → all ≡ g ∷ rest → with_front front (drawn_all s at steps all) ≡ whole → Fails e (drawn_if s at steps g) → Fails e whole
glyphs_fail s at steps front g all rest whole e h same f =
    fails_in (after_first front (drawn_all s at steps rest)) (drawn_if s at steps g) whole e (λ d. refl) (sym (ap (λ l. with_front front (drawn_all s at steps l)) h) ∙ same) f

pub glyphs_end : (s : Source) (at : List ℤ) (steps : ℕ) (front : List Drawn) (all : List ℕ) → all ≡ [] → with_front front (drawn_all s at steps all) ≡ Ok front
glyphs_end s at steps front all e = ap (λ l. with_front front (drawn_all s at steps l)) e ∙ ap (λ l. Ok l) (append-nil front)
