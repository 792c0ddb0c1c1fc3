-- The run of a charstring whose events are followed.
use Rattle.std.proofs.Common.{◌≡◌, ℕ, List, [], ◌∷◌, ◌++◌, Option, Some, None, Ok, Err, refl, sym, ap, ◌∙◌}
use Rattle.std.specs.Prelude.{Result, option_map}
use Rattle.std.specs.Option.{option_and_then}
use Rattle.std.specs.Result.{result_ok}
use Rattle.subsetter_base.specs.declared.error.Error.{Error}
use Rattle.subsetter_blend.specs.Drawing.{IsAccepted, events_drawn}
use Rattle.subsetter_blend.specs.Runs.Machine.{Setting, start, also, run_all, events}
use Rattle.subsetter_blend.specs.Writing.Placed.{origin}
use Rattle.subsetter_blend.specs.Writing.Taking.{Event, all_taken}
use Rattle.subsetter_blend.proofs.WritingLaws.FittingLaws.Simulated.{Too, run_too}
use Rattle.subsetter_blend.proofs.WritingLaws.FittingLaws.Wholes.{AreTaken, also_too}
use Rattle.subsetter_points.specs.declared.bounds.Bounds.{Bounds}
use Rattle.subsetter_boxes.specs.declared.pen.Pen.{Pen}
use Rattle.subsetter_boxes.specs.CharstringBox.{alone, points, least, outline_box}
use Rattle.subsetter_boxes.specs.Traced.{event_traced, pen_start, taken}
use Rattle.subsetter_boxes.proofs.Followed.{all_traced, traced_box}

-- the pen after events, if there was one
abbrev pens : List Event → Option Pen → Option Pen
pens es pen = option_and_then (all_traced es) pen

none_more : (pen : Option Pen) → pens [] pen ≡ pen
none_more None = refl
none_more (Some p) = refl

one_first : (e : Event) (es : List Event) (pen : Option Pen) → pens es (option_and_then (event_traced e) pen) ≡ pens (e ∷ es) pen
one_first e es None = refl
one_first e es (Some p) = refl

taken_all : (es : List Event) (pen : Option Pen) → all_taken taken es pen ≡ Ok (pens es pen)
taken_all [] pen = ap (λ (p : Option Pen). Ok p) (sym (none_more pen))
taken_all (e ∷ es) pen = taken_all es (option_and_then (event_traced e) pen) ∙ ap (λ (p : Option Pen). Ok p) (one_first e es pen)

-- one event more
then_last : (e : Event) (es : List Event) (o : Option Pen) → ((p : Pen) → all_traced (es ++ e ∷ []) p ≡ option_and_then (event_traced e) (all_traced es p))
    → option_and_then (all_traced (es ++ e ∷ [])) o ≡ option_and_then (event_traced e) (option_and_then (all_traced es) o)
then_last e es None ih = refl
then_last e es (Some p) ih = ih p

single : (o : Option Pen) → option_and_then (all_traced []) o ≡ o
single None = refl
single (Some p) = refl

all_last : (e : Event) (es : List Event) (p : Pen) → all_traced (es ++ e ∷ []) p ≡ option_and_then (event_traced e) (all_traced es p)
all_last e [] p = single (event_traced e p)
all_last e (d ∷ es) p = then_last e es (event_traced d p) (λ q. all_last e es q)

pens_last : (e : Event) (es : List Event) (pen : Option Pen) → pens (es ++ e ∷ []) pen ≡ option_and_then (event_traced e) (pens es pen)
pens_last e es pen = then_last e es pen (λ p. all_last e es p)

-- what is followed is followed of the listed events
follows : (e : Event) (es now : List Event) (pen : Option Pen) → IsAccepted e → pens es (Some pen_start) ≡ pen → also e es ≡ Ok now → Too (taken e pen) (λ p. pens now (Some pen_start) ≡ p)
follows e es now pen a r h =
    let listed : es ++ e ∷ [] ≡ now = cc in
    record {
      now = option_and_then (event_traced e) pen;
      is = refl;
      holds = ap (λ (l : List Event). pens l (Some pen_start)) (sym listed) ∙ pens_last e es (Some pen_start) ∙ ap (λ (p : Option Pen). option_and_then (event_traced e) p) r;
    }

-- the box around the outline, of the run's events
abbrev pub box_by : Option (List Event) → Option Bounds
box_by es = option_and_then (λ segments. option_and_then (λ box. box) (least (points segments))) (option_map (events_drawn origin) es)

pub run_gives : (setting : Setting) (tokens depth data_index : ℕ) (charstring : List ℕ) (now : Option Pen)
    → run_all taken setting tokens depth data_index charstring (Some pen_start) ≡ Ok now → option_and_then (λ p. p.bounds) now ≡ box_by (result_ok (events setting tokens depth data_index charstring))
unfolding run_all events
run_gives setting tokens depth data_index charstring now h =
    let first : Option Pen = Some pen_start in
    let es = run_too taken also (AreTaken taken first) (also_too taken first) setting depth tokens first now [] (start data_index charstring) (record { taken = refl; accepted = tt }) h in
    let same : Ok (pens es.now first) ≡ Ok now = sym (taken_all es.now first) ∙ es.holds.taken in
    let pen : pens es.now first ≡ now = cc in
    ap (λ (p : Option Pen). option_and_then (λ q. q.bounds) p) (sym pen) ∙ traced_box es.now
    ∙ ap (λ (o : Result (List Event) Error). box_by (result_ok o)) (sym es.is)

failed : (setting : Setting) (tokens depth data_index : ℕ) (charstring : List ℕ) (e : Error) (o : Result (List Event) Error) → events setting tokens depth data_index charstring ≡ o
    → run_all taken setting tokens depth data_index charstring (Some pen_start) ≡ Err e → box_by (result_ok o) ≡ None
unfolding run_all events
failed setting tokens depth data_index charstring e (Err x) is h = refl
failed setting tokens depth data_index charstring e (Ok es) is h =
    let y = run_too also taken (λ l p. pens l (Some pen_start) ≡ p) (λ d l now p a r k. follows d l now p a r k) setting depth tokens [] es (Some pen_start) (start data_index charstring) refl is in
    let no : Err e ≡ Ok y.now = sym h ∙ y.is in
    absurd (cc)

pub run_fails : (setting : Setting) (tokens depth data_index : ℕ) (charstring : List ℕ) (e : Error)
    → run_all taken setting tokens depth data_index charstring (Some pen_start) ≡ Err e → box_by (result_ok (events setting tokens depth data_index charstring)) ≡ None
run_fails setting tokens depth data_index charstring e h = failed setting tokens depth data_index charstring e (events setting tokens depth data_index charstring) refl h

-- ---- the box of an outline, by a run under these settings
abbrev pub setting_with : (global local : List (Option (List ℕ))) → Setting
setting_with global local = record { library = record { global = global; local = local }; scalars = λ data_index. None }

alone_is : (global local : List (Option (List ℕ))) → global ≡ [] → local ≡ [] → setting_with global local ≡ alone
alone_is global local g l = ap (λ (x : List (Option (List ℕ))). setting_with x local) g ∙ ap (λ (x : List (Option (List ℕ))). setting_with [] x) l

same_run : (global local : List (Option (List ℕ))) (tokens depth : ℕ) (charstring : List ℕ) (first : Option Pen) → global ≡ [] → local ≡ [] → tokens ≡ 4294967295 → depth ≡ 1 → first ≡ Some pen_start
    → run_all taken alone 4294967295 1 0 charstring (Some pen_start) ≡ run_all taken (setting_with global local) tokens depth 0 charstring first
same_run global local tokens depth charstring first g l t d f =
    sym (ap (λ (x : Setting). run_all taken x tokens depth 0 charstring first) (alone_is global local g l) ∙ ap (λ (n : ℕ). run_all taken alone n depth 0 charstring first) t
    ∙ ap (λ (n : ℕ). run_all taken alone 4294967295 n 0 charstring first) d ∙ ap (λ (p : Option Pen). run_all taken alone 4294967295 1 0 charstring p) f)

pub outline_found : (global local : List (Option (List ℕ))) (tokens depth : ℕ) (charstring : List ℕ) (first now : Option Pen) → global ≡ [] → local ≡ [] → tokens ≡ 4294967295 → depth ≡ 1 → first ≡ Some pen_start
    → run_all taken (setting_with global local) tokens depth 0 charstring first ≡ Ok now → option_and_then (λ p. p.bounds) now ≡ outline_box charstring
unfolding outline_box
outline_found global local tokens depth charstring first now g l t d f h = run_gives alone 4294967295 1 0 charstring now (same_run global local tokens depth charstring first g l t d f ∙ h)

pub outline_lost : (global local : List (Option (List ℕ))) (tokens depth : ℕ) (charstring : List ℕ) (first : Option Pen) (e : Error) → global ≡ [] → local ≡ [] → tokens ≡ 4294967295 → depth ≡ 1 → first ≡ Some pen_start
    → run_all taken (setting_with global local) tokens depth 0 charstring first ≡ Err e → outline_box charstring ≡ None
unfolding outline_box
outline_lost global local tokens depth charstring first e g l t d f h = run_fails alone 4294967295 1 0 charstring e (same_run global local tokens depth charstring first g l t d f ∙ h)
