-- What a reader of the CMaps finds.
use Rattle.std.proofs.Common.{◌≡◌, ℕ, Bool, List, Some, Result, sym, ap, subst, ◌∙◌}
use Rattle.std.specs.Option.{option_map, option_and_then}
use Rattle.std.specs.Prelude.{All, IfOk}
use Rattle.std.proofs.lemmas.Result.{IfOk-weaker}
use Rattle.subsetter_base.specs.declared.error.Error.{Error}
use Rattle.pdf_text.specs.Cmaps.Cmap.{Line, mapping_in}
use Rattle.pdf_text.specs.Cmaps.CmapName.{name_of_codes, named_text}
use Rattle.pdf_text.specs.Cmaps.Encoding.{IsPair, Pair, codes_in}
use Rattle.pdf_text.specs.View.{pairs_view}
use Rattle.pdf_text.specs.declared.cmaps.encoding.CidOfCode.{CidOfCode}
use Rattle.pdf_text.specs.declared.cmaps.named.NamedCmap.{NamedCmap}
use Rattle.pdf_codes.specs.Cmaps.Leading.{cid_of, cid_in, pairs_of_codes}
use Rattle.pdf_codes.specs.Cmaps.Texts.{first_text, lines_of_codes, said_by, text_in}
use Rattle.pdf_codes.proofs.CmapsLaws.JoinerSteps.{same_said}
use Rattle.pdf_codes.proofs.CmapsLaws.LeadingSteps.{same_cid}

pub text_back : (ls lines : List Line) (cmap : List ℕ) (k : ℕ) → lines ≡ lines_of_codes ls → mapping_in cmap ≡ Some lines → text_in cmap k ≡ Some (said_by ls k)
text_back ls lines cmap k e h = ap (option_map (λ (m : List Line). first_text m k)) h ∙ ap (λ (m : List Line). Some (first_text m k)) e ∙ ap Some (same_said ls k)

pub cid_back : (ps pairs : List Pair) (cmap : List ℕ) (k : ℕ) → pairs ≡ pairs_of_codes ps → codes_in cmap ≡ Some pairs → cid_in cmap k ≡ cid_of ps k
cid_back ps pairs cmap k e h = ap (option_and_then (λ (m : List Pair). cid_of m k)) h ∙ ap (λ (m : List Pair). cid_of m k) e ∙ same_cid ps k

-- ---- of the pairs that were written

pub name_led : (r : Result NamedCmap Error) (vertical : Bool) (ps written : List Pair) → written ≡ pairs_of_codes ps → IfOk r (λ c. c.name.items ≡ name_of_codes vertical written) → IfOk r (λ c. c.name.items ≡ name_of_codes vertical (pairs_of_codes ps))
name_led r vertical ps written is h = IfOk-weaker r _ _ (λ c n. n ∙ ap (name_of_codes vertical) is) h

pub text_led : (r : Result NamedCmap Error) (vertical : Bool) (ps written : List Pair) → written ≡ pairs_of_codes ps → IfOk r (λ c. c.text.items ≡ named_text vertical written) → IfOk r (λ c. c.text.items ≡ named_text vertical (pairs_of_codes ps))
text_led r vertical ps written is h = IfOk-weaker r _ _ (λ c n. n ∙ ap (named_text vertical) is) h

pub read_led : (r : Result NamedCmap Error) (ps : List Pair) (made seen : List CidOfCode) → seen ≡ made → pairs_view made ≡ pairs_of_codes ps → All IsPair (pairs_view made)
    → IfOk r (λ c. All IsPair (pairs_view seen) → codes_in c.text.items ≡ Some (pairs_view seen)) → IfOk r (λ c. (k : ℕ) → cid_in c.text.items k ≡ cid_of ps k)
read_led r ps made seen same is are h =
    let P : List CidOfCode → Type 0 = λ v. All IsPair (pairs_view v) in
    IfOk-weaker r _ _ (λ c n k. cid_back ps (pairs_view seen) c.text.items k (ap pairs_view same ∙ is) (n (subst P (sym same) are))) h
