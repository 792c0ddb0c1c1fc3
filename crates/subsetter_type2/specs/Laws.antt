-- Laws of the run of a charstring.
use Rattle.std.specs.Prelude.{◌≡◌, ◌≤◌, ℕ, List, Some, Ok}
use Rattle.subsetter_type2.specs.Runs.Machine.{Library, Trace, trace}
use Rattle.subsetter_type2.specs.Flat.{flat, flat_form}

-- the flat form of a trace has that trace, whatever the subroutines, and takes no more tokens
abbrev pub PlaysBack : Type 0
PlaysBack = (library other : Library) (tokens depth other_depth : ℕ) (charstring : List ℕ) (u : Trace)
    → 1 ≤ other_depth → trace library tokens depth charstring ≡ Some u
    → trace other tokens other_depth (flat u) ≡ Some u

-- bytes that flatten a charstring are those of its trace, and have the same trace, whatever the subroutines
abbrev pub KeepsTrace : Type 0
KeepsTrace = (library other : Library) (tokens depth other_depth : ℕ) (charstring bytes : List ℕ)
    → 1 ≤ other_depth → flat_form library tokens depth charstring ≡ Ok bytes
    → (u : Trace) × (trace library tokens depth charstring ≡ Some u) × (trace other tokens other_depth bytes ≡ Some u)
    × (bytes ≡ flat u)

-- a flat form is its own flat form
abbrev pub IsFlatAlready : Type 0
IsFlatAlready = (library other : Library) (tokens depth other_depth : ℕ) (charstring bytes : List ℕ)
    → 1 ≤ other_depth → flat_form library tokens depth charstring ≡ Ok bytes
    → flat_form other tokens other_depth bytes ≡ Ok bytes

-- a trace that is there at two limits is the same at both
abbrev pub HasOneTrace : Type 0
HasOneTrace = (library : Library) (tokens more depth deeper : ℕ) (charstring : List ℕ) (u v : Trace)
    → trace library tokens depth charstring ≡ Some u → trace library more deeper charstring ≡ Some v → u ≡ v
