-- Widths and CIDs that are written one after another.
use Rattle.std.proofs.Common.{◌≡◌, ℕ, suc, ◌+◌, List, [], ◌∷◌, ◌++◌, Result, Ok, Err, refl, sym, ap, subst, ◌∙◌, append_assoc}
use Rattle.std.specs.Option.{ok_or}
use Rattle.subsetter_base.specs.Bytes.{◌>>=◌}
use Rattle.subsetter_base.specs.Gives.{Gives}
use Rattle.subsetter_base.specs.declared.error.Error.{Error}
use Rattle.subsetter_base.specs.declared.error.Error.TheVariants.{MalformedFont}
use Rattle.subsetter_base.proofs.Results.{with_front, named_err}
use Rattle.cid_embed.specs.Afresh.{Measures, widths_from}
use Rattle.subsetter_sfnt.specs.Fields.Hmtx.{advance_in}
use Rattle.cid_embed.specs.Width.{thousandths}

-- ---- widths that are read one after another

moved : (a : ℕ) (front : List ℕ) (rest : Result (List ℕ) Error) → with_front (front ++ a ∷ []) rest ≡ with_front front (rest >>= λ widths. Ok (a ∷ widths))
moved a front (Ok ws) = ap Ok (append_assoc front (a ∷ []) ws)
moved a front (Err e) = refl

-- one width more
pub width_read : (m : Measures) (front : List ℕ) (g n k a : ℕ) (total : Result (List ℕ) Error) → n ≡ suc k → ok_or (advance_in m.hmtx m.number_of_h_metrics g) MalformedFont ≡ Ok a → with_front front (widths_from m g n) ≡ total → with_front (front ++ thousandths a m.units ∷ []) (widths_from m (g + 1) k) ≡ total
width_read m front g n k a total e h t =
    moved (thousandths a m.units) front (widths_from m (g + 1) k)
    ∙ sym (ap (λ (o : Result ℕ Error). with_front front (o >>= λ advance. widths_from m (g + 1) k >>= λ widths. Ok (thousandths advance m.units ∷ widths))) h)
    ∙ ap (λ j. with_front front (widths_from m g j)) (sym e) ∙ t

missing : {X : Type 0} (view : X → List ℕ) (e : Error) (total : Result (List ℕ) Error) → MalformedFont ≡ e → total ≡ Err e → Gives view (Err e) total
missing {X} view e total m h = subst (λ (d : Error). total ≡ Err d → Gives {X = X} view (Err d) total) m (λ k. k) h

-- an advance that isn't there
pub width_missing : {X : Type 0} (view : X → List ℕ) (m : Measures) (front : List ℕ) (g n k : ℕ) (e : Error) (total : Result (List ℕ) Error) → n ≡ suc k → ok_or (advance_in m.hmtx m.number_of_h_metrics g) MalformedFont ≡ Err e → with_front front (widths_from m g n) ≡ total → Gives view (Err e) total
width_missing view m front g n k e total s h t =
    missing view e total (named_err (advance_in m.hmtx m.number_of_h_metrics g) MalformedFont e h).1
    (sym t ∙ ap (λ j. with_front front (widths_from m g j)) s ∙ ap (λ (o : Result ℕ Error). with_front front (o >>= λ advance. widths_from m (g + 1) k >>= λ widths. Ok (thousandths advance m.units ∷ widths))) h)
