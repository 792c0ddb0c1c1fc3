-- Instances that are made in two numbers of steps are the same file.
use Rattle.std.proofs.Common.{◌≡◌, ℕ, List, [], ◌∷◌, length, Option, Ok, ℤ, refl, sym, ap, ◌∙◌}
use Rattle.std.specs.Option.{ok_or}
use Rattle.subsetter_base.specs.Bytes.{◌>>=◌}
use Rattle.subsetter_base.specs.declared.tag.Tag.{Tag}
use Rattle.subsetter_base.specs.declared.error.Error.TheVariants.{MalformedFont}
use Rattle.subsetter_base.proofs.Options.{just_is}
use Rattle.subsetter_base.proofs.Results.{done_is, bind_ok}
use Rattle.subsetter_sfnt.specs.declared.flavor.FontFlavor.TheVariants.{TrueType}
use Rattle.subsetter_sfnt.specs.Read.{Font, stored}
use Rattle.subsetter_sfnt.specs.Laying.Written.{file, kind_word}
use Rattle.subsetter_sfnt.specs.declared.fields.hmtx.LongHorMetric.{LongHorMetric}
use Rattle.subsetter_instance.specs.Source.{Source, metric, source_in}
use Rattle.subsetter_instance.specs.Glyphs.Unfolded.{Unfolded, unfolded}
use Rattle.subsetter_instance.specs.Glyphs.Drawn.{Drawn, rounded, levels, drawn}
use Rattle.subsetter_instance.specs.Tables.Lines.{Lines, lines_of}
use Rattle.subsetter_instance.specs.Plain.{drawn_if, drawn_all, instance_of}
use Rattle.subsetter_instance.specs.Promise.{AnswersAreOne}
use Rattle.subsetter_instance.proofs.FileLaws.Among.{drawn_one}
use Rattle.subsetter_instance.proofs.FileLaws.Steps.{laid_tables, InstanceSteps, font_steps}
use Rattle.subsetter_instance.proofs.SameLaws.Simple.{one_answer}
use Rattle.subsetter_instance.proofs.SameLaws.Simple.{moved_alike}
use Rattle.subsetter_instance.proofs.SameLaws.Unfolded.{unfolded_alike}

-- a glyph
drawn_alike : (s : Source) (at : List ℤ) (m n g : ℕ) (a b : Drawn) → drawn s at m g ≡ Ok a → drawn s at n g ≡ Ok b → a ≡ b
unfolding drawn
drawn_alike s at m n g a b e f =
    let p = bind_ok (ok_or (metric s g) MalformedFont) (λ k. unfolded levels s at m g >>= λ u. rounded s at g k u.0) a e in
    let q = bind_ok (ok_or (metric s g) MalformedFont) (λ k. unfolded levels s at n g >>= λ u. rounded s at g k u.0) b f in
    let p2 = bind_ok (unfolded levels s at m g) (λ u. rounded s at g p.0 u.0) a p.2 in
    let q2 = bind_ok (unfolded levels s at n g) (λ u. rounded s at g q.0 u.0) b q.2 in
    let metrics : q.0 ≡ p.0 = one_answer (ok_or (metric s g) MalformedFont) q.0 p.0 q.1 p.1 in
    let glyphs = unfolded_alike levels s s at (λ h. (refl, refl)) (λ h o i j a b x y. moved_alike s.gvar h o at i j a b x y) m n g p2.0 q2.0 p2.1 q2.1 in
    done_is a b (sym p2.2 ∙ ap (λ (u : Unfolded). rounded s at g p.0 u) glyphs ∙ ap (λ (k : LongHorMetric). rounded s at g k q2.0.0) (sym metrics) ∙ q2.2)

-- all glyphs
all_alike : (s : Source) (at : List ℤ) (m n : ℕ) (glyphs : List ℕ) (xs ys : List Drawn) → drawn_all s at m glyphs ≡ Ok xs → drawn_all s at n glyphs ≡ Ok ys → xs ≡ ys
all_alike s at m n [] xs ys e f = done_is xs ys (sym e ∙ f)
all_alike s at m n (g ∷ gs) xs ys e f =
    let p = bind_ok (drawn_if s at m g) (λ d. drawn_all s at m gs >>= λ rest. Ok (d ∷ rest)) xs e in
    let q = bind_ok (drawn_if s at n g) (λ d. drawn_all s at n gs >>= λ rest. Ok (d ∷ rest)) ys f in
    let p2 = bind_ok (drawn_all s at m gs) (λ rest. Ok (p.0 ∷ rest)) xs p.2 in
    let q2 = bind_ok (drawn_all s at n gs) (λ rest. Ok (q.0 ∷ rest)) ys q.2 in
    let first = drawn_alike s at m n g p.0 q.0 (drawn_one s at m g p.0 p.1).1 (drawn_one s at n g q.0 q.1).1 in
    let rest = all_alike s at m n gs p2.0 q2.0 p2.1 q2.1 in
    sym (done_is (p.0 ∷ p2.0) xs p2.2) ∙ ap (λ d. d ∷ p2.0) first ∙ ap (λ ds. q.0 ∷ ds) rest ∙ done_is (q.0 ∷ q2.0) ys q2.2

-- the file
by_steps : (find : List ℕ → Option (List ℕ)) (settings : List (Tag × ℤ)) (glyphs : List ℕ) (m n : ℕ) (x y : List ℕ) → InstanceSteps find settings glyphs m x → InstanceSteps find settings glyphs n y → x ≡ y
by_steps find settings glyphs m n x y i j =
    let at : j.at ≡ i.at = done_is j.at i.at (sym j.coordinates_are ∙ i.coordinates_are) in
    let source : j.source ≡ i.source = just_is j.source i.source (sym j.source_is ∙ ap (λ (l : List ℤ). source_in find (length l)) at ∙ i.source_is) in
    let ds : i.ds ≡ j.ds = all_alike i.source i.at m n glyphs i.ds j.ds i.drawn_is (ap (λ (l : List ℤ). drawn_all i.source l n glyphs) (sym at) ∙ ap (λ (s : Source). drawn_all s j.at n glyphs) (sym source) ∙ j.drawn_is) in
    let head : i.head ≡ j.head = just_is i.head j.head (sym i.head_is ∙ j.head_is) in
    let lines : i.lines ≡ j.lines = done_is i.lines j.lines (sym i.lines_are ∙ ap (lines_of find settings) (sym at) ∙ j.lines_are) in
    sym i.file_is
    ∙ ap (λ (s : Source). file (kind_word TrueType) (laid_tables find i.lines s glyphs i.ds i.head)) (sym source) ∙ ap (λ (l : List Drawn). file (kind_word TrueType) (laid_tables find i.lines j.source glyphs l i.head)) ds
    ∙ ap (λ (l : List ℕ). file (kind_word TrueType) (laid_tables find i.lines j.source glyphs j.ds l)) head ∙ ap (λ (l : Lines). file (kind_word TrueType) (laid_tables find l j.source glyphs j.ds j.head)) lines
    ∙ j.file_is

pub one_file : (font : Font) (settings : List (Tag × ℤ)) (glyphs : List ℕ) (m n : ℕ) (x y : List ℕ) → instance_of font settings glyphs m ≡ Ok x → instance_of font settings glyphs n ≡ Ok y → x ≡ y
one_file font settings glyphs m n x y e f = by_steps (stored font) settings glyphs m n x y (font_steps font settings glyphs m x e) (font_steps font settings glyphs n y f)

pub answers_are_one : AnswersAreOne
answers_are_one font settings glyphs steps out a more other b = one_file font settings glyphs a.instance.steps b.instance.steps out other a.instance.layout b.instance.layout
