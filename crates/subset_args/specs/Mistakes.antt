-- What is wrong with the arguments, first.
use Rattle.std.specs.Prelude.{◌≡◌, ℕ, List, Option, Some, None, Result, Ok, Err, unwrap_or}
use Rattle.subset_args.specs.declared.mistakes.Wrong.{Wrong}
use Rattle.subset_args.specs.declared.mistakes.Mistake.{Mistake}
use Rattle.subset_args.specs.declared.mistakes.Unread.{Unread}
use Rattle.subset_args.specs.declared.mistakes.Unread.TheVariants as unread

-- what is wrong, and with which argument or part of a list; no bytes where one is missing
pub record Fault : Type 0 where
  pub wrong : Wrong
  pub word : List ℕ

abbrev pub refused : {A : Type 0} → Wrong → List ℕ → Result A Fault
refused wrong word = Err (record { wrong = wrong; word = word })

infixl 10 ◌>>=◌
abbrev pub ◌>>=◌ : {A B : Type 0} → Result A Fault → (A → Result B Fault) → Result B Fault
(Ok x) >>= f = f x
(Err e) >>= f = Err e

-- a value that is there, or what is wrong
abbrev pub or_fault : {A : Type 0} → Fault → Option A → Result A Fault
or_fault fault None = Err fault
or_fault fault (Some x) = Ok x

abbrev pub or_refused : {A : Type 0} → Wrong → List ℕ → Option A → Result A Fault
or_refused wrong word None = refused wrong word
or_refused wrong word (Some x) = Ok x

-- the value, unless something is wrong
abbrev pub unless : {A : Type 0} → Option Fault → Result A Fault → Result A Fault
unless None more = more
unless (Some fault) more = Err fault

-- what is wrong is this, if it is there
abbrev pub or_instead : {A : Type 0} → Option Fault → Result A Fault → Result A Fault
or_instead other (Ok x) = Ok x
or_instead other (Err fault) = Err (unwrap_or other fault)

-- ---- what the code returns

abbrev pub fault_view : Mistake → Fault
fault_view m = record { wrong = m.wrong; word = m.word.now }

abbrev pub read_view : {X Y : Type 0} → (X → Y) → Result X Mistake → Result Y Fault
read_view view (Ok x) = Ok (view x)
read_view view (Err m) = Err (fault_view m)

-- the reading fails so, unless memory ran out
abbrev pub Fails : {Y : Type 0} → Unread → Result Y Fault → Type 0
Fails unread.OutOfMemory read = Unit {0}
Fails (unread.Mistake m) read = read ≡ Err (fault_view m)

-- the result, seen by view, is what the reading gives, unless memory ran out
abbrev pub Gives : {X Y : Type 0} → (X → Y) → Result X Unread → Result Y Fault → Type 0
Gives view (Ok x) read = read ≡ Ok (view x)
Gives view (Err e) read = Fails e read
