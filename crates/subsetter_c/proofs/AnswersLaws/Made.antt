-- What is said of lists that the library keeps for the caller, in other words.
use Rattle.std.proofs.Common.{◌≡◌, ℕ, List, ap, subst, ◌∙◌, Vec, Global, Result, Ok, Err}
use Rattle.std.specs.Prelude.{IfOk, IfErr}
use Rattle.subsetter_base.specs.declared.error.Error.{Error}
use Rattle.cid_embed.specs.declared.embedding.Embedded.{Embedded}
use Rattle.subsetter_c.specs.Answers.Embedding.{Buffers, lists_of}
use Rattle.subsetter_c.specs.Answers.Handed.{IsAnswered}
use Rattle.subsetter_c.specs.Answers.Made.{IsMade, whole, refused, only_font, IsFontMade}

abbrev make_buffers : List ℕ → List ℕ → List ℕ → Buffers
make_buffers font cids widths = record { font = font; cids = cids; widths = widths }

-- the same three lists
pub alike : (font cids widths f c w : List ℕ) → font ≡ f → cids ≡ c → widths ≡ w → make_buffers font cids widths ≡ make_buffers f c w
alike font cids widths f c w pf pc pw = ap (λ x. make_buffers x cids widths) pf ∙ ap (λ x. make_buffers f x widths) pc ∙ ap (make_buffers f c) pw

-- a font is made: then what is known of it
pub font_made : (Said : List ℕ → Type 0) (Named : Error → Type 0) (answer : Result (Vec ℕ Global) Error) (made : Buffers) (status : ℕ) → IfOk answer (λ v. Said v.items) → IfErr answer Named → IsMade (λ lists. (bytes : List ℕ) × IsAnswered answer bytes × (lists ≡ only_font bytes)) (λ e. answer ≡ Err e) made status → IsFontMade Said Named made status
font_made Said Named answer made status ok err (whole is s) =
    whole (is.0, subst Said is.1.2 (subst (λ (r : Result (Vec ℕ Global) Error). IfOk r (λ v. Said v.items)) is.1.1 ok), is.2) s
font_made Said Named answer made status ok err (refused e w m s) = refused e (subst (λ (r : Result (Vec ℕ Global) Error). IfErr r Named) w err) m s

-- and so with CIDs and widths
pub embedding_made : (Said : Embedded → Type 0) (Named : Error → Type 0) (answer : Result Embedded Error) (made : Buffers) (status : ℕ) → IfOk answer Said → IfErr answer Named → IsMade (λ lists. (e : Embedded) × (answer ≡ Ok e) × (lists ≡ lists_of e)) (λ e. answer ≡ Err e) made status → IsMade (λ lists. (e : Embedded) × Said e × (lists ≡ lists_of e)) Named made status
embedding_made Said Named answer made status ok err (whole is s) = whole (is.0, subst (λ (r : Result Embedded Error). IfOk r Said) is.1 ok, is.2) s
embedding_made Said Named answer made status ok err (refused e w m s) = refused e (subst (λ (r : Result Embedded Error). IfErr r Named) w err) m s
