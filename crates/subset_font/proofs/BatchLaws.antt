-- The answers of a batch.
use Rattle.std.proofs.Common.{◌≡◌, ◌⊎◌, inl, inr, ℕ, List, [], Option, Some, Result, Ok, Err, refl, sym, subst}
use Rattle.std.specs.Prelude.{IfOk, IfErr, Vec}
use Rattle.std.specs.Global.{Global}
use Rattle.subset_args.specs.declared.jobs.command.Glyphs.{Glyphs}
use Rattle.subset_args.specs.declared.jobs.command.Job.{Job}
use Rattle.subset_args.specs.declared.listing.lists.GlyphList.{GlyphList}
use Rattle.subsetter_base.specs.declared.error.Error.TheVariants.{OutOfMemory}
use Rattle.subset_task.specs.Batch.Answers.{IsFailedBy, IsFailedWith, IsWithinMost}
use Rattle.subset_font.specs.Batch.Making.{IsDone, IsUndone, named_text, message_of, IsAnswer, IsAnswerTo}
use Rattle.subset_task.specs.Chosen.{KeptGlyphs, kept_by_each, IsPlanOf, IsUnlisted}
use Rattle.subset_task.specs.Files.{name_by}
use Rattle.subset_font.specs.Making.Carried.{IsBeforeWriting, IsFailureOf, WritesAll}
use Rattle.subset_task.specs.Refusals.Failure.{status_of}
use Rattle.subset_task.specs.Refusals.Texts.{failure_text}
use Rattle.subset_task.specs.declared.batch.answers.Answer.{Answer}
use Rattle.subset_task.specs.declared.batch.answers.Answer.TheVariants.{Done, Failed, NoMemory}
use Rattle.subset_task.specs.declared.refusals.failure.Failure.{Failure}
use Rattle.subset_task.specs.declared.refusals.failure.Failure.TheVariants.{Error, NoMapping, MissingCharacters, BlankGlyphs, TextTooLong, NoInstance, NotPermitted, Usage, List as WrongList, Read, ReadList, Write, WritePdf, Output, LongAnswer}
use Rattle.subset_task.specs.declared.task.Plan.{Plan}
use Rattle.subset_font.proofs.RefusalsLaws.Failing.{unmade}

-- ---- answers

pub done_of : (bytes : List ℕ) (job : Job) (lists : List (Option GlyphList)) (kept : List KeptGlyphs) (plan : Plan) (result : Result (Vec ℕ Global) Failure) (page_old page_new old new : Option (List ℕ)) → kept ≡ kept_by_each job.glyphs.items lists → IsPlanOf job kept plan → IfOk result (λ object. WritesAll plan (Some bytes) page_old page_new old new (Some []) (Some object.items)) → IfOk result (λ object. IsDone bytes job object.items)
done_of bytes job lists kept plan (Ok object) page_old page_new old new k p w = record { lists = lists; plan = plan; is_plan = subst (λ (ks : List KeptGlyphs). IsPlanOf job ks plan) k p; outcome = w.outcome; is_made = w.is_made; is_printed = w.is_reported }
done_of bytes job lists kept plan (Err failure) page_old page_new old new k p w = tt

undone : (bytes : List ℕ) (job : Job) (lists : List (Option GlyphList)) (plan : Plan) (failure : Failure) → IsPlanOf job (kept_by_each job.glyphs.items lists) plan → IsFailureOf plan (Some bytes) failure ⊎ ((failure ≡ LongAnswer) ⊎ ((failure ≡ WritePdf) ⊎ (failure ≡ Write))) → IsUndone bytes job failure
undone bytes job lists plan failure p (inl why) = inr (inl (record { lists = lists; plan = plan; is_plan = p; why = why }))
undone bytes job lists plan failure p (inr unwritten) = inr (inr unwritten)

pub undone_of : (bytes : List ℕ) (job : Job) (lists : List (Option GlyphList)) (kept : List KeptGlyphs) (plan : Plan) (result : Result (Vec ℕ Global) Failure) → kept ≡ kept_by_each job.glyphs.items lists → IsPlanOf job kept plan → IfErr result (λ e. IsFailureOf plan (Some bytes) e ⊎ ((e ≡ LongAnswer) ⊎ ((e ≡ WritePdf) ⊎ (e ≡ Write)))) → IfErr result (IsUndone bytes job)
undone_of bytes job lists kept plan (Ok object) k p why = tt
undone_of bytes job lists kept plan (Err failure) k p why = undone bytes job lists plan failure (subst (λ (ks : List KeptGlyphs). IsPlanOf job ks plan) k p) why

-- a file has no list
pub unlisted_of : (bytes : List ℕ) (job : Job) (glyphs : List Glyphs) (failure : Failure) → glyphs ≡ job.glyphs.items → IsUnlisted glyphs failure → IsUndone bytes job failure
unlisted_of bytes job glyphs failure is why = inl (subst (λ (them : List Glyphs). IsUnlisted them failure) is why)

-- memory ran out
pub no_memory : (plan : Plan) (bytes : List ℕ) (failure : Failure) → failure ≡ Error OutOfMemory → IsFailureOf plan (Some bytes) failure
no_memory plan bytes failure h = unmade plan bytes failure (inl h)

-- what holds of the answer to all that was made
pub all_made : (result : Result (Vec ℕ Global) Failure) (A B : Type 0) (C D : Vec ℕ Global → Type 0) → ((object : Vec ℕ Global) → A → B → C object → D object) → IfOk result (λ object. A) → IfOk result (λ object. B) → IfOk result C → IfOk result D
all_made (Ok object) A B C D f a b c = f object a b c
all_made (Err e) A B C D f a b c = tt

pub why_made : (plan : Plan) (bytes : List ℕ) (result : Result (Vec ℕ Global) Failure) → IfErr result (λ e. (e ≡ Error OutOfMemory) ⊎ ((e ≡ LongAnswer) ⊎ ((e ≡ WritePdf) ⊎ (e ≡ Write)))) → IfErr result (λ e. IsFailureOf plan (Some bytes) e ⊎ ((e ≡ LongAnswer) ⊎ ((e ≡ WritePdf) ⊎ (e ≡ Write))))
why_made plan bytes (Ok object) h = tt
why_made plan bytes (Err e) (inl memory) = inl (no_memory plan bytes e memory)
why_made plan bytes (Err e) (inr unwritten) = inr unwritten

-- a writer that failed did so after all that is made
pub late : (failure : Failure) → (failure ≡ WritePdf) ⊎ (failure ≡ Write) → IsBeforeWriting failure → ⊥
late failure (inl e) before = subst IsBeforeWriting e before
late failure (inr e) before = subst IsBeforeWriting e before

-- the words for a failure, but for those of a list
pub message_is : (failure : Failure) (job : Job) → ((place : ℕ) → failure ≡ WrongList place → ⊥) → named_text (failure_text failure) (name_by failure job) ≡ message_of failure job
message_is (Error e) job h = refl
message_is NoMapping job h = refl
message_is NoInstance job h = refl
message_is MissingCharacters job h = refl
message_is BlankGlyphs job h = refl
message_is TextTooLong job h = refl
message_is (NotPermitted permission) job h = refl
message_is Usage job h = refl
message_is (WrongList place) job h = absurd (h place refl)
message_is Read job h = refl
message_is (ReadList place) job h = refl
message_is Write job h = refl
message_is WritePdf job h = refl
message_is Output job h = refl
message_is LongAnswer job h = refl

failed_answer : (bytes : List ℕ) (job : Job) (failure : Failure) (answer : Answer) → IsUndone bytes job failure → IsFailedWith (status_of failure) (message_of failure job) answer → IsAnswer bytes job answer
failed_answer bytes job failure (Done object) why h = elim h [ ]
failed_answer bytes job failure (Failed status text) why h = record { failure = failure; why = why; status_is = h.0; text_is = h.1 }
failed_answer bytes job failure NoMemory why h = tt

pub failed_answer_to : (source : Result (Vec ℕ Global) Failure) (font : Vec ℕ Global) (bytes : List ℕ) (job : Job) (failure : Failure) (answer : Answer) → source ≡ Ok font → bytes ≡ font.items → IsUndone bytes job failure → IsFailedWith (status_of failure) (message_of failure job) answer → IsAnswerTo source job answer
failed_answer_to source font bytes job failure answer is value why h = subst (λ (source : Result (Vec ℕ Global) Failure). IsAnswerTo source job answer) (sym is) (failed_answer font.items job failure answer (subst (λ (bytes : List ℕ). IsUndone bytes job failure) value why) h)

-- a request that failed is answered by no object
pub failed_within : (status : ℕ) (why : List ℕ) (answer : Answer) → IsFailedWith status why answer → IsWithinMost answer
failed_within status why (Done object) h = elim h [ ]
failed_within status why (Failed given text) h = tt
failed_within status why NoMemory h = tt

pub refused_within : (status : ℕ) (answer : Answer) → IsFailedBy status answer → IsWithinMost answer
refused_within status (Done object) h = elim h [ ]
refused_within status (Failed given text) h = tt
refused_within status NoMemory h = tt
