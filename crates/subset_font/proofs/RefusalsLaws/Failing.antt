-- Which failures there are where nothing is made.
use Rattle.std.proofs.Common.{◌≡◌, ◌≢◌, ◌⊎◌, inl, inr, ℕ, Bool, true, false, List, [], ◌∷◌, length, Option, Some, None, Result, Ok, Err, sym, subst}
use Rattle.std.specs.Prelude.{◌&&◌, nat_lt, if◌then◌else◌, IfErr, IfSome, OnOk}
use Rattle.subsetter_sfnt.specs.Read.{Font, kind_at}
use Rattle.subsetter_sfnt.specs.declared.face.FontKind.{FontKind}
use Rattle.subset_task.specs.Making.Picked.{Picked}
use Rattle.subset_task.specs.Making.Requested.{unless_no_kind, unless_no_font, or_failure, picked_of, with_rest, picked_each, unless_any_missing, IsUnasked}
use Rattle.subsetter_base.specs.declared.error.Error.TheVariants.{UnknownKind, MalformedFont}
use Rattle.subset_font.specs.Making.Made.{face_of, IsUnmade}
use Rattle.subset_font.specs.Making.Outcome.{IsOutcome, IsNoOutcome}
use Rattle.subset_font.specs.Making.Carried.{IsOfMaking, IsFailureOf, IsBeforeWriting}
use Rattle.subset_task.specs.declared.task.Task.{Task}
use Rattle.subset_task.specs.declared.task.Requests.{Requests}
use Rattle.subset_task.specs.declared.task.RequestedGlyphs.{RequestedGlyphs}
use Rattle.subset_task.specs.declared.task.RequestedGlyphs.TheVariants.{These, Every, ByText, ByCharacters}
use Rattle.subset_args.specs.declared.options.chosen.PdfChoice.{PdfChoice}
use Rattle.subset_pdf.specs.declared.sheet.SheetError.{SheetError}
use Rattle.subset_pdf.specs.declared.sheet.SheetError.TheVariants.{Font as RefusedFont, NotPermitted as Forbidden, TextTooLong}
use Rattle.subset_font.specs.Making.Sheet.{failure_of, IsUnshownIf}
use Rattle.subset_font.specs.declared.making.subset.Made.{Made}
use Rattle.subset_font.specs.declared.making.outcome.Outcome.{Outcome}
use Rattle.subset_task.specs.declared.task.Plan.{Plan}
use Rattle.subset_task.specs.declared.refusals.failure.Failure.{Failure}
use Rattle.subset_task.specs.declared.refusals.failure.Failure.TheVariants.{Error, NoMapping, MissingCharacters, BlankGlyphs, TextTooLong as LongText, NoInstance, NotPermitted, Usage, List as WrongList, Read, ReadList, Write, WritePdf, Output, LongAnswer}

no_kind : (kind : Option FontKind) (failure : Failure) → IsOfMaking failure → IsOfMaking (unless_no_kind kind failure)
no_kind (Some kind) failure h = h
no_kind None failure h = tt

none_kind : (failure why : Failure) (found : Option Picked) → IsOfMaking failure → or_failure failure found ≡ Err why → IsOfMaking why
none_kind failure why None h u = let same : failure ≡ why = cc in subst IsOfMaking same h
none_kind failure why (Some picked) h u = absurd cc

unpicked_kind : (font : Font) (one : RequestedGlyphs) (why : Failure) → picked_of font one ≡ Err why → IsOfMaking why
unpicked_kind font (These given) why u = absurd cc
unpicked_kind font Every why u = none_kind (unless_no_font font.bytes (Error MalformedFont)) why _ (no_kind (kind_at font.bytes 0) (Error MalformedFont) tt) u
unpicked_kind font (ByText text) why u = none_kind (unless_no_font font.bytes NoMapping) why _ (no_kind (kind_at font.bytes 0) NoMapping tt) u
unpicked_kind font (ByCharacters given) why u = none_kind (unless_no_font font.bytes NoMapping) why _ (no_kind (kind_at font.bytes 0) NoMapping tt) u

rest_kind : (first rest : Result Picked Failure) (why : Failure) → (first ≡ Err why → IsOfMaking why) → (rest ≡ Err why → IsOfMaking why) → with_rest first rest ≡ Err why → IsOfMaking why
rest_kind (Ok picked) (Ok more) why a b u = absurd cc
rest_kind (Ok picked) (Err e) why a b u = b u
rest_kind (Err e) rest why a b u = a u

each_kind : (font : Font) (asked : List RequestedGlyphs) (why : Failure) → picked_each font asked ≡ Err why → IsOfMaking why
each_kind font [] why u = absurd cc
each_kind font (one ∷ more) why u = rest_kind (picked_of font one) (picked_each font more) why (unpicked_kind font one why) (each_kind font more why) u

missing_kind : (b : Bool) (picked : Picked) (why : Failure) → (if b then Err MissingCharacters else Ok picked) ≡ Err why → IsOfMaking why
missing_kind true picked why u = let same : MissingCharacters ≡ why = cc in subst IsOfMaking same tt
missing_kind false picked why u = absurd cc

strict_kind : (is_strict : Bool) (r : Result Picked Failure) (why : Failure) → (r ≡ Err why → IsOfMaking why) → unless_any_missing is_strict r ≡ Err why → IsOfMaking why
strict_kind is_strict (Ok picked) why h u = missing_kind (is_strict && nat_lt 0 (length picked.missing)) picked why u
strict_kind is_strict (Err e) why h u = h u

unasked_kind : (font : Font) (asked : Requests) (failure : Failure) → IsUnasked font asked failure → IsOfMaking failure
unasked_kind font asked failure u = strict_kind asked.is_strict (picked_each font asked.pieces.now) failure (each_kind font asked.pieces.now failure) u

unmade_kind : (task : Task) (bytes : List ℕ) (failure : Failure) → IsUnmade task bytes failure → IsOfMaking failure
unmade_kind task bytes failure (inl memory) = subst IsOfMaking (sym memory) tt
unmade_kind task bytes failure (inr (inl unasked)) = unasked_kind (face_of task bytes) task.requested failure unasked
unmade_kind task bytes failure (inr (inr refused)) = subst IsOfMaking (sym refused.failure_is) tt

unplaced_kind : (failure : Failure) → (failure ≡ Error UnknownKind) ⊎ ((failure ≡ Error MalformedFont) ⊎ (failure ≡ NoInstance)) → IsOfMaking failure
unplaced_kind failure (inl e) = subst IsOfMaking (sym e) tt
unplaced_kind failure (inr (inl e)) = subst IsOfMaking (sym e) tt
unplaced_kind failure (inr (inr e)) = subst IsOfMaking (sym e) tt

sheet_error_kind : (why : SheetError) → IsOfMaking (failure_of why)
sheet_error_kind (RefusedFont e) = tt
sheet_error_kind (Forbidden permission) = tt
sheet_error_kind TextTooLong = tt

unshown_if_kind : (choice : Option PdfChoice) (task : Task) (bytes : List ℕ) (made : Made) (failure : Failure) → IsUnshownIf choice task bytes made failure → IsOfMaking failure
unshown_if_kind None task bytes made failure u = elim u [ ]
unshown_if_kind (Some choice) task bytes made failure (inl u) = subst IsOfMaking (sym u.failure_is) (sheet_error_kind u.why)
unshown_if_kind (Some choice) task bytes made failure (inr u) = subst IsOfMaking (sym u.0) tt

no_outcome_kind : (plan : Plan) (bytes : List ℕ) (failure : Failure) → IsNoOutcome plan bytes failure → IsOfMaking failure
no_outcome_kind plan bytes failure (inl memory) = subst IsOfMaking (sym memory) tt
no_outcome_kind plan bytes failure (inr (inl unplaced)) = unplaced_kind failure unplaced.failure_is
no_outcome_kind plan bytes failure (inr (inr (inl unmade))) = unmade_kind unmade.task bytes failure unmade.is_unmade
no_outcome_kind plan bytes failure (inr (inr (inr unshown))) = unshown_if_kind plan.pdf unshown.task bytes unshown.made failure unshown.is_unshown

known_of : (known : Option (List ℕ)) (items bytes : List ℕ) (P : List ℕ → Type 0) → IfSome known (λ all. items ≡ all) → bytes ≡ items → P bytes → IfSome known P
known_of None items bytes P h b p = tt
known_of (Some all) items bytes P h b p = subst P h (subst P b p)

-- what is made of the bytes that were read is made of those that the reader had, where these are known
pub made_by_known : (plan : Plan) (known : Option (List ℕ)) (items bytes : List ℕ) (outcome : Outcome) → IfSome known (λ all. items ≡ all) → bytes ≡ items → IsOutcome plan bytes outcome → IfSome known (λ all. IsOutcome plan all outcome)
made_by_known plan known items bytes outcome h b m = known_of known items bytes (λ all. IsOutcome plan all outcome) h b m

pub unmade_by_known : (plan : Plan) (known : Option (List ℕ)) (items bytes : List ℕ) (failure : Failure) → IfSome known (λ all. items ≡ all) → bytes ≡ items → IsNoOutcome plan bytes failure → IsFailureOf plan known failure
unmade_by_known plan known items bytes failure h b m = inr (no_outcome_kind plan bytes failure m, known_of known items bytes (λ all. IsNoOutcome plan all failure) h b m)

-- nothing is made of known bytes
pub unmade : (plan : Plan) (bytes : List ℕ) (failure : Failure) → IsNoOutcome plan bytes failure → IsFailureOf plan (Some bytes) failure
unmade plan bytes failure h = inr (no_outcome_kind plan bytes failure h, h)

making_before : (failure : Failure) → IsOfMaking failure → IsBeforeWriting failure
making_before (Error e) h = tt
making_before NoMapping h = tt
making_before NoInstance h = tt
making_before MissingCharacters h = tt
making_before BlankGlyphs h = tt
making_before LongText h = tt
making_before (NotPermitted permission) h = tt
making_before Usage h = elim h [ ]
making_before (WrongList place) h = elim h [ ]
making_before Read h = elim h [ ]
making_before (ReadList place) h = elim h [ ]
making_before Write h = elim h [ ]
making_before WritePdf h = elim h [ ]
making_before Output h = elim h [ ]
making_before LongAnswer h = tt

before : (plan : Plan) (known : Option (List ℕ)) (failure : Failure) → IsFailureOf plan known failure → IsBeforeWriting failure
before plan known failure (inl read) = subst IsBeforeWriting (sym read) tt
before plan known failure (inr making) = making_before failure making.0

-- a run that ended so
abbrev pub ended_by : Failure → Result (Unit {0}) Failure
ended_by failure = Err failure

-- nothing is made, and so the lines aren't what failed
pub not_output : (plan : Plan) (known : Option (List ℕ)) (failure : Failure) → IsFailureOf plan known failure → ended_by failure ≡ ended_by Output → ⊥
not_output plan known failure f e = subst (λ (r : Result (Unit {0}) Failure). IfErr r IsBeforeWriting) e (before plan known failure f)

-- a writer that failed did so after all that is made
pub kept_before : (result : Result (Unit {0}) Failure) (A : Type 0) → IfErr result (λ e. (e ≡ WritePdf) ⊎ ((e ≡ Write) ⊎ (e ≡ Output))) → IfErr result (λ e. IsBeforeWriting e → A)
kept_before (Ok done) A h = tt
kept_before (Err e) A (inl page) = λ b. absurd (subst IsBeforeWriting page b)
kept_before (Err e) A (inr (inl write)) = λ b. absurd (subst IsBeforeWriting write b)
kept_before (Err e) A (inr (inr output)) = λ b. absurd (subst IsBeforeWriting output b)

pub why_written : (plan : Plan) (known : Option (List ℕ)) (result : Result (Unit {0}) Failure) → IfErr result (λ e. (e ≡ WritePdf) ⊎ ((e ≡ Write) ⊎ (e ≡ Output))) → IfErr result (λ e. IsFailureOf plan known e ⊎ ((e ≡ WritePdf) ⊎ ((e ≡ Write) ⊎ (e ≡ Output))))
why_written plan known (Ok done) h = tt
why_written plan known (Err e) h = inr h

-- every failure but that of wrong words
abbrev IsElse : Failure → Type 0
IsElse (Error e) = Unit {0}
IsElse NoMapping = Unit {0}
IsElse NoInstance = Unit {0}
IsElse MissingCharacters = Unit {0}
IsElse BlankGlyphs = Unit {0}
IsElse LongText = Unit {0}
IsElse (NotPermitted permission) = Unit {0}
IsElse Usage = ⊥
IsElse (WrongList place) = Unit {0}
IsElse Read = Unit {0}
IsElse (ReadList place) = Unit {0}
IsElse Write = Unit {0}
IsElse WritePdf = Unit {0}
IsElse Output = Unit {0}
IsElse LongAnswer = Unit {0}

making_else : (failure : Failure) → IsOfMaking failure → IsElse failure
making_else (Error e) h = tt
making_else NoMapping h = tt
making_else NoInstance h = tt
making_else MissingCharacters h = tt
making_else BlankGlyphs h = tt
making_else LongText h = tt
making_else (NotPermitted permission) h = tt
making_else Usage h = elim h [ ]
making_else (WrongList place) h = tt
making_else Read h = tt
making_else (ReadList place) h = tt
making_else Write h = tt
making_else WritePdf h = tt
making_else Output h = tt
making_else LongAnswer h = tt

carried_else : (plan : Plan) (known : Option (List ℕ)) (failure : Failure) → IsFailureOf plan known failure ⊎ ((failure ≡ WritePdf) ⊎ ((failure ≡ Write) ⊎ (failure ≡ Output))) → IsElse failure
carried_else plan known failure (inl (inl read)) = subst IsElse (sym read) tt
carried_else plan known failure (inl (inr making)) = making_else failure making.0
carried_else plan known failure (inr (inl page)) = subst IsElse (sym page) tt
carried_else plan known failure (inr (inr (inl write))) = subst IsElse (sym write) tt
carried_else plan known failure (inr (inr (inr output))) = subst IsElse (sym output) tt

pub no_usage : (plan : Plan) (known : Option (List ℕ)) (result : Result (Unit {0}) Failure) → IfErr result (λ e. IsFailureOf plan known e ⊎ ((e ≡ WritePdf) ⊎ ((e ≡ Write) ⊎ (e ≡ Output)))) → IfErr result (λ e. e ≢ Usage)
no_usage plan known (Ok done) h = tt
no_usage plan known (Err e) h = λ u. subst IsElse u (carried_else plan known e h)

-- what follows from three facts on success
pub all_ok : (result : Result (Unit {0}) Failure) (A B C D : Type 0) → (A → B → C → D) → OnOk result A → OnOk result B → OnOk result C → OnOk result D
all_ok (Ok done) A B C D f a b c = f a b c
all_ok (Err e) A B C D f a b c = tt
