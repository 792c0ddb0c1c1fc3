use Rattle.std.proofs.Common.{◌≡◌, ◌∙◌, ap, sym, subst, List, ℕ, length, map, Some}
use Rattle.std.proofs.lemmas.List.{length-map}
use Rattle.pdf_text.specs.Cmaps.Cmap.{Line, cmap_text}
use Rattle.pdf_text.specs.View.{lines_view}
use Rattle.pdf_codes.specs.Codes.{IsOverfull, Used, coded, used_of}
use Rattle.pdf_codes.specs.declared.codes.Entry.{Entry}
use Rattle.pdf_codes.specs.Cmaps.Texts.{is_line_found, lines_of_codes, said_by}
use Rattle.pdf_codes.specs.Shown.{use_of, uses_of}
use Rattle.pdf_codes.proofs.CodeLaws.{as_many_codes}
use Rattle.pdf_codes.proofs.calls.codes_and_texts.Goals as goal

pub returns-clause-len : goal.returns-clause-len
returns-clause-len c =
    let us : map used_of c.deref-2.result.now ≡ uses_of c.args.shown.now = ap (map used_of) c.deref-2.ensures.value ∙ c.in_ok-entries.ensures.ok in
    as_many_codes c.args.choice (map used_of c.deref-2.result.now) c.in_ok-codes.codes.items c.in_ok-codes.ensures.ok
    ∙ ap (λ (l : List Used). length l) us ∙ length-map c.args.shown.now use_of

pub returns-clause-cmap : goal.returns-clause-cmap
returns-clause-cmap c =
    let codes : List ℕ = c.in_ok-codes.codes.items in
    let lines : lines_view c.deref-5.result.now ≡ coded (uses_of c.args.shown.now) codes =
    ap lines_view c.deref-5.ensures.value ∙ c.in_ok-lines.ensures.ok ∙ ap (λ (k : List ℕ). coded (map used_of c.deref-3.result.now) k) c.deref-4.ensures.value ∙ ap (λ (e : List Entry). coded (map used_of e) codes) c.deref-3.ensures.value ∙ ap (λ (u : List Used). coded u codes) c.in_ok-entries.ensures.ok
    in
    c.in_ok-made.ensures.cmap ∙ ap (λ (l : List Line). cmap_text (lines_of_codes l)) lines

pub returns-clause-said : goal.returns-clause-said
returns-clause-said c =
    let codes : List ℕ = c.in_ok-codes.codes.items in
    let lines : lines_view c.deref-5.result.now ≡ coded (uses_of c.args.shown.now) codes =
    ap lines_view c.deref-5.ensures.value ∙ c.in_ok-lines.ensures.ok ∙ ap (λ (k : List ℕ). coded (map used_of c.deref-3.result.now) k) c.deref-4.ensures.value ∙ ap (λ (e : List Entry). coded (map used_of e) codes) c.deref-3.ensures.value ∙ ap (λ (u : List Used). coded u codes) c.in_ok-entries.ensures.ok
    in
    c.in_ok-made.ensures.said ∙ ap (λ (l : List Line). map (is_line_found l) l) lines

pub returns-clause-texts : goal.returns-clause-texts
returns-clause-texts c = λ k.
    let codes : List ℕ = c.in_ok-codes.codes.items in
    let lines : lines_view c.deref-5.result.now ≡ coded (uses_of c.args.shown.now) codes =
    ap lines_view c.deref-5.ensures.value ∙ c.in_ok-lines.ensures.ok ∙ ap (λ (k : List ℕ). coded (map used_of c.deref-3.result.now) k) c.deref-4.ensures.value ∙ ap (λ (e : List Entry). coded (map used_of e) codes) c.deref-3.ensures.value ∙ ap (λ (u : List Used). coded u codes) c.in_ok-entries.ensures.ok
    in
    c.in_ok-made.ensures.read k ∙ ap (λ (l : List Line). Some (said_by l k)) lines

pub returns-clause-room : goal.returns-clause-room
returns-clause-room c = λ o. c.in_ok-codes.ensures.room (subst (λ (u : List Used). IsOverfull c.args.choice u) (sym (ap (map used_of) c.deref-2.ensures.value ∙ c.in_ok-entries.ensures.ok)) o)
