-- Exact widths that are read one after another.
use Rattle.std.proofs.Common.{◌≡◌, ℕ, suc, ◌+◌, List, [], ◌∷◌, ◌++◌, Result, Ok, Err, refl, sym, ap, subst, ◌∙◌, append_assoc}
use Rattle.std.specs.Option.{ok_or}
use Rattle.subsetter_base.specs.Bytes.{◌>>=◌}
use Rattle.subsetter_base.specs.Gives.{Gives}
use Rattle.subsetter_base.specs.declared.error.Error.{Error}
use Rattle.subsetter_base.specs.declared.error.Error.TheVariants.{MalformedFont}
use Rattle.subsetter_base.proofs.Results.{with_front, named_err}
use Rattle.subsetter_sfnt.specs.Fields.Hmtx.{advance_in}
use Rattle.cid_embed.specs.Afresh.{Measures}
use Rattle.pdf_source.specs.Exact.{advances_from}

moved : (a : ℕ) (front : List ℕ) (rest : Result (List ℕ) Error) → with_front (front ++ a ∷ []) rest ≡ with_front front (rest >>= λ others. Ok (a ∷ others))
moved a front (Ok others) = ap Ok (append_assoc front (a ∷ []) others)
moved a front (Err e) = refl

abbrev then_others : Measures → List ℕ → ℕ → ℕ → Result ℕ Error → Result (List ℕ) Error
then_others m front g k first = with_front front (first >>= λ advance. advances_from m (g + 1) k >>= λ others. Ok (advance ∷ others))

-- one advance more
pub advance_read : (m : Measures) (front : List ℕ) (g n k a : ℕ) (total : Result (List ℕ) Error) → n ≡ suc k → ok_or (advance_in m.hmtx m.number_of_h_metrics g) MalformedFont ≡ Ok a → with_front front (advances_from m g n) ≡ total → with_front (front ++ a ∷ []) (advances_from m (g + 1) k) ≡ total
advance_read m front g n k a total e h t = moved a front (advances_from m (g + 1) k) ∙ sym (ap (then_others m front g k) h) ∙ ap (λ j. with_front front (advances_from m g j)) (sym e) ∙ t

missing : {X : Type 0} (view : X → List ℕ) (e : Error) (total : Result (List ℕ) Error) → MalformedFont ≡ e → total ≡ Err e → Gives view (Err e) total
missing {X} view e total m h = subst (λ (d : Error). total ≡ Err d → Gives {X = X} view (Err d) total) m (λ k. k) h

-- one that isn't there
pub advance_missing : {X : Type 0} (view : X → List ℕ) (m : Measures) (front : List ℕ) (g n k : ℕ) (e : Error) (total : Result (List ℕ) Error) → n ≡ suc k → ok_or (advance_in m.hmtx m.number_of_h_metrics g) MalformedFont ≡ Err e → with_front front (advances_from m g n) ≡ total → Gives view (Err e) total
advance_missing view m front g n k e total s h t =
    missing view e total (named_err (advance_in m.hmtx m.number_of_h_metrics g) MalformedFont e h).1 (sym t ∙ ap (λ j. with_front front (advances_from m g j)) s ∙ ap (then_others m front g k) h)
