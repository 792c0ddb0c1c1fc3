-- What a run reads from and writes to, by the names that it is given.
use Rattle.std.specs.Prelude.{◌≡◌, ℕ, ◌+◌, true, false, Option, Some, None, List}
use Rattle.std.specs.Borrow.{Bor}
use Rattle.std.specs.Option.{option_map}
use Rattle.subset_args.specs.Request.{is_stream}
use Rattle.subset_task.specs.declared.streams.Source.{Source}
use Rattle.subset_task.specs.declared.streams.Source.TheVariants.{File as FromFile, Standard as FromStream}
use Rattle.subset_task.specs.declared.streams.Target.{Target}
use Rattle.subset_task.specs.declared.streams.Target.TheVariants.{File as ToFile, Standard as ToStream, Nowhere}

-- standard input by the one name that means it, else a file; at most `most` + 1 bytes of it are read
abbrev pub IsSource : {F S : Type 0} → List ℕ → ℕ → Source F S → Type 0
IsSource name most (FromFile file left) = (is_stream name ≡ false) × (left ≡ most + 1)
IsSource name most (FromStream stream left) = (is_stream name ≡ true) × (left ≡ most + 1)

-- the bytes that it has left, where those of the file or of the stream are known
abbrev pub source_left : {F S : Type 0} → (F → Option (List ℕ)) → (S → Option (List ℕ)) → Source F S → Option (List ℕ)
source_left in_file in_stream (FromFile file left) = in_file file
source_left in_file in_stream (FromStream stream left) = in_stream stream

-- nothing without a name, standard output by the one name that means it, else a file of the name that isn't made yet
abbrev pub IsTarget : {R F D : Type 0} → Bor R → Option (List ℕ) → Target R F D → Type 0
IsTarget rt name (ToFile file) = (name ≡ Some file.name.now) × ((is_stream file.name.now ≡ false) × (file.file ≡ None))
IsTarget rt name (ToStream stream) = (option_map is_stream name ≡ Some true) × (stream ≡ rt)
IsTarget rt name Nowhere = name ≡ None
