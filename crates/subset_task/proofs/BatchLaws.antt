-- What a line of a batch requests, and the requests of the lines so far.
use Rattle.std.proofs.Common.{◌≡◌, inl, inr, Bool, true, false, ◌||◌, cond, ℕ, ◌+◌, ◌-◌, ◌≤◌, ◌<◌, List, [], ◌∷◌, ◌++◌, Option, Some, None, Result, Ok, refl, sym, ap, subst, ◌∙◌, append_assoc, append-nil, length, get_or, take, drop, arith}
use Rattle.std.proofs.lemmas.List.{take_rest}
use Rattle.std.specs.Prelude.{IfOk, IfErr, String, is_some, map, string_bytes}
use Rattle.std.specs.Global.{Global}
use Rattle.std.specs.Option.{option_map, option_and_then}
use Rattle.std.specs.Result.{result_ok}
use Rattle.subset_args.specs.Request.{Request as Requested, is_in_stream, PdfRequest}
use Rattle.subset_args.specs.View.{job_view, requested_view, pdf_view}
use Rattle.subset_args.specs.declared.jobs.command.Glyphs.{Glyphs}
use Rattle.subset_args.specs.declared.jobs.command.Glyphs.TheVariants.{Listed, Characters, InFile, ByText, Every}
use Rattle.subset_args.specs.declared.jobs.command.Job.{Job}
use Rattle.subset_args.specs.declared.jobs.command.PdfJob.{PdfJob}
use Rattle.subset_batch.specs.Reading.{Fault, request_of}
use Rattle.subset_batch.specs.View.{line_view, lines_view}
use Rattle.subset_batch.specs.declared.lines.Line.{Line}
use Rattle.subset_task.specs.Batch.Answers.{IsFailedBy}
use Rattle.subset_task.specs.Batch.Orders.{is_given_stream, order_by, order_of, IsNoOrder}
use Rattle.std.specs.HashMap.{HashMap, get_by_text}
use Rattle.std.specs.Map.{update}
use Rattle.std.specs.Str.{bytes_eq}
use Rattle.subset_task.specs.Batch.Requests.{writes_if, is_written, is_named_before, numbers_by, numbers_if, numbers_in, left_after, AreNames, IsFirst, IsBegun, AddsLine, AreBegun, none, one_more}
use Rattle.subset_task.specs.Files.{list_name}
use Rattle.subset_task.specs.declared.batch.answers.Answer.{Answer}
use Rattle.subset_task.specs.declared.batch.requests.Batch.{Batch}
use Rattle.subset_task.specs.declared.batch.requests.Request.{Request}
use Rattle.subset_task.specs.declared.batch.requests.State.{State}
use Rattle.subset_task.specs.declared.batch.requests.State.TheVariants.{Answered}

-- ---- what a line requests

pub list_stream : (glyphs : Glyphs) → is_in_stream (requested_view glyphs) ≡ is_given_stream (list_name glyphs)
list_stream (Listed glyphs) = refl
list_stream Every = refl
list_stream (Characters found) = refl
list_stream (InFile kind name) = refl
list_stream (ByText text) = refl

pub pdf_stream : (pdf : Option PdfJob) → is_given_stream (option_map (λ (p : PdfRequest). p.file) (option_map pdf_view pdf)) ≡ is_given_stream (option_map (λ (p : PdfJob). string_bytes p.file) pdf)
pdf_stream (Some pdf) = refl
pdf_stream None = refl

-- what a line requests is what its words do
order_is : (line : List ℕ) (words : List (List ℕ)) → request_of line ≡ Ok words → order_by words ≡ order_of line
unfolding order_of
order_is line words h = ap (λ (read : Result (List (List ℕ)) Fault). option_and_then order_by (result_ok read)) (sym h)

order_as : (line : List ℕ) (words seen : List (String Global)) → request_of line ≡ Ok (map (λ word. string_bytes word) words) → seen ≡ words → order_by (map (λ word. string_bytes word) seen) ≡ order_of line
order_as line words seen h s = order_is line (map (λ word. string_bytes word) seen) (h ∙ ap (λ (seen : List (String Global)). Ok (map (λ word. string_bytes word) seen)) (sym s))

pub ordered : (line : List ℕ) (words seen : List (String Global)) (result : Result Job Answer) → request_of line ≡ Ok (map (λ word. string_bytes word) words) → seen ≡ words → IfOk result (λ job. order_by (map (λ word. string_bytes word) seen) ≡ Some (job_view job)) → IfOk result (λ job. order_of line ≡ Some (job_view job))
ordered line words seen result h s o = subst (λ (order : Option Requested). IfOk result (λ job. order ≡ Some (job_view job))) (order_as line words seen h s) o

pub unordered : (line : List ℕ) (words seen : List (String Global)) (result : Result Job Answer) → request_of line ≡ Ok (map (λ word. string_bytes word) words) → seen ≡ words → IfErr result (IsNoOrder (order_by (map (λ word. string_bytes word) seen))) → IfErr result (IsNoOrder (order_of line))
unordered line words seen result h s o = subst (λ (order : Option Requested). IfErr result (IsNoOrder order)) (order_as line words seen h s) o

-- ---- requests

either_first : (a b c : Bool) → (b || (a || c)) ≡ (a || (b || c))
either_first true true c = refl
either_first true false c = refl
either_first false true c = refl
either_first false false c = refl

-- whether the last of them writes a file, or one before
written_last : (requests : List Request) (r : Request) (name : List ℕ) → is_written (requests ++ r ∷ []) name ≡ (writes_if r.job name || is_written requests name)
written_last [] r name = refl
written_last (first ∷ requests) r name = ap (λ (b : Bool). writes_if first.job name || b) (written_last requests r name) ∙ either_first (writes_if r.job name) (writes_if first.job name) (is_written requests name)

some_or : (b : Bool) (o : Option (Unit {0})) → is_some (cond b (Some tt) o) ≡ (b || is_some o)
some_or true o = refl
some_or false o = refl

-- a map to which a name was added
pub one_more_name : {S : Type 0} (old new : HashMap (String Global) (Unit {0}) S) (key name : List ℕ) → key ≡ name → ((q : List ℕ) → get_by_text new q ≡ update bytes_eq (get_by_text old) key (Some tt) q) → (q : List ℕ) → is_some (get_by_text new q) ≡ (bytes_eq name q || is_some (get_by_text old q))
one_more_name old new key name same sets q = ap is_some (sets q) ∙ (some_or (bytes_eq key q) (get_by_text old q) ∙ ap (λ (k : List ℕ). bytes_eq k q || is_some (get_by_text old q)) same)

-- the names of all are those of the last one and those before
pub named_last : {S : Type 0} (requests : List Request) (r : Request) (old new : HashMap (String Global) (Unit {0}) S) → AreNames requests old → ((name : List ℕ) → is_some (get_by_text new name) ≡ (writes_if r.job name || is_some (get_by_text old name))) → AreNames (requests ++ r ∷ []) new
named_last requests r old new before added = λ (name : List ℕ). added name ∙ (ap (λ (b : Bool). writes_if r.job name || b) (before name) ∙ sym (written_last requests r name))

-- how many more numbers lists may have after the last request
numbers_last : (requests : List Request) (r : Request) → numbers_in (requests ++ r ∷ []) ≡ numbers_in requests + numbers_if r.job
numbers_last [] r = omega arith
numbers_last (first ∷ requests) r =
    let more = numbers_last requests r in
    omega (arith, more)

pub left_last : (requests : List Request) (r : Request) (left after : ℕ) → left ≡ left_after requests → after ≡ left - numbers_if r.job → after ≡ left_after (requests ++ r ∷ [])
left_last requests r left after before is =
    let all = numbers_last requests r in
    omega (arith, all, before, is)

-- a line after others: nothing is requested, too many numbers, or few enough
pub begun_by_nothing : (before : List Request) (line : List ℕ) (answer : Answer) → IsNoOrder (order_of line) answer → IsBegun before line None (Answered answer)
begun_by_nothing before line answer h = inl h

pub begun_too_long : (before : List Request) (line : List ℕ) (job : Job) (left numbers : ℕ) (answer : Answer) → order_of line ≡ Some (job_view job) → left ≡ left_after before → numbers ≡ numbers_by job.glyphs.items → left < numbers → IsFailedBy 2 answer → IsBegun before line None (Answered answer)
begun_too_long before line job left numbers answer is l n more refused =
    let long : left_after before < numbers_by job.glyphs.items = subst (λ (k : ℕ). left_after before < k) n (subst (λ (k : ℕ). k < numbers) l more) in
    inr (record { job = job; is_requested = is; is_too_long = long; is_refused = refused })

pub begun_few : (before : List Request) (line : List ℕ) (job : Job) (left numbers : ℕ) (state : State) → order_of line ≡ Some (job_view job) → left ≡ left_after before → numbers ≡ numbers_by job.glyphs.items → numbers ≤ left → IsFirst (is_named_before before job) state → IsBegun before line (Some job) state
begun_few before line job left numbers state is l n few first =
    (is, (subst (λ (k : ℕ). k ≤ left_after before) n (subst (λ (k : ℕ). numbers ≤ k) l few), first))

pub adds_line : (line : ℕ × List ℕ) (old new : Batch) (job : Option Job) (state : State) → IsBegun old.requests.items line.1 job state → new.requests.items ≡ old.requests.items ++ (record { line = line.0; job = job }) ∷ [] → new.states.items ≡ old.states.items ++ state ∷ [] → AddsLine line old new
adds_line line old new job state begun requests states = record { job = job; state = state; is_begun = begun; requests = requests; states = states }

-- these are left of all lines
pub record AreSoFar (left all : List (ℕ × List ℕ)) (requests : List Request) (states : List State) : Type 0 where
  pub lines : List (ℕ × List ℕ)
  pub are_begun : AreBegun lines requests states
  pub whole : lines ++ left ≡ all

pub so_far_first : (left all : List (ℕ × List ℕ)) → left ≡ all → AreSoFar left all [] []
so_far_first left all h = record { lines = []; are_begun = none; whole = h }

so_far_next : (line : ℕ × List ℕ) (left all : List (ℕ × List ℕ)) (old new : Batch) → AreSoFar (line ∷ left) all old.requests.items old.states.items → AddsLine line old new → AreSoFar left all new.requests.items new.states.items
so_far_next line left all old new h a =
    let next = one_more h.lines old.requests.items old.states.items line a.job a.state h.are_begun a.is_begun in
    record {
      lines = h.lines ++ line ∷ [];
      are_begun = subst (λ (states : List State). AreBegun (h.lines ++ line ∷ []) new.requests.items states) (sym a.states) (subst (λ (requests : List Request). AreBegun (h.lines ++ line ∷ []) requests (old.states.items ++ a.state ∷ [])) (sym a.requests) next);
      whole = append_assoc h.lines (line ∷ []) left ∙ h.whole;
    }

-- as a loop goes on after the first of its lines
pub so_far_step : (rest : List Line) (other : Line) (all : List (ℕ × List ℕ)) (old new : Batch) → 1 ≤ length rest → AreSoFar (lines_view rest) all old.requests.items old.states.items → AddsLine (line_view (get_or rest 0 other)) old new → AreSoFar (lines_view (take (length rest - 1) (drop 1 rest))) all new.requests.items new.states.items
so_far_step [] other all old new some h a = absurd (omega arith)
so_far_step (line ∷ rest) other all old new some h a = subst (λ (left : List Line). AreSoFar (lines_view left) all new.requests.items new.states.items) (sym (take_rest (line ∷ rest) 1)) (so_far_next (line_view line) (lines_view rest) all old new h a)

pub so_far_last : (all : List (ℕ × List ℕ)) (requests : List Request) (states : List State) → AreSoFar [] all requests states → AreBegun all requests states
so_far_last all requests states h = subst (λ (lines : List (ℕ × List ℕ)). AreBegun lines requests states) (sym (append-nil h.lines) ∙ h.whole) h.are_begun
